-- Proofs: a bitmap keeps the laws of plates. Nothing here needs to be believed.
use Rattle.std.specs.Prelude.{◌≡◌, ℕ, ◌+◌, ◌-◌, ◌*◌, ◌/◌, ◌%◌, ◌^◌, ◌<◌, ◌≤◌, Bool, true, false, cond, ◌&&◌, ◌≢◌, List, [], ◌∷◌, ◌++◌, length, ℤ, pos, negsuc, ◌≤ℤ◌, ◌==◌, nat_eq, nat_le, slice_index, unsigned_abs, refl}
use Rattle.std.proofs.Common.{sym, ap, subst, ◌∙◌, inl, inr, arith, length-set, length-append, get_or-set_same, get_or-set_other}
use Rattle.std.proofs.Math.Nat.{add-mul-mod_self_right}
use Rattle.std.proofs.lemmas.Int.{ints}
use Rattle.std.proofs.lemmas.Nat.{pow_pos, pow-add, shr-shr, shr_split, shr_high, mod_below, field_of, mul-add-lt, div-mul-add}
use Rattle.std.proofs.lemmas.Bool.{eqb-true, eqb-false, leb-true, and_parts, and_from, cases_Bool, cases_lt, cases_eq, cond-true, cond-false, true≢false}
use Rattle.plate.specs.declared.Ink.{Ink}
use Rattle.plate.specs.declared.Window.{Window}
use Rattle.plate.specs.World.{Dot, inside, empty, canonical, inked}
use Rattle.plate.specs.Plates.{Strike, Laws, After, Framed, AllIn, same, struck, lit_after}
use Rattle.plate.specs.Windows.{le_true, orders_world, inside_orders, inside-empty, same_orders, orders_same, Framed-empty}
use Rattle.plate.specs.Bare.{lit_after_at, AllIn-append, bare_laws}
use Rattle.bitmap.specs.declared.Bitmap.{Bitmap}
use Rattle.bitmap.specs.Bits.{row_bytes, byte_of, bit_of, bit, worth, inked_byte}
use Rattle.bitmap.specs.Bitmaps.{side, sized, bitmap_window, bitmap_lit, bitmap_meaning, burn, burnt, BitmapStrikes, SparesStay}

-- a bit as a number
abbrev digit : Bool → ℕ
digit one = cond one 1 0

digit_back : (b : Bool) → (digit b == 1) ≡ b
digit_back true = refl
digit_back false = refl

digit_lt : (b : Bool) → digit b < 2
digit_lt true = omega arith
digit_lt false = omega arith

digit-bit : (byte k : ℕ) → byte / 2 ^ k % 2 ≡ digit (bit byte k)
unfolding bit
digit-bit byte k = elim (cases_Bool (byte / 2 ^ k % 2 == 1)) [
  | inl t ↦ eqb-true (byte / 2 ^ k % 2) 1 t ∙ ap digit (sym t)
  | inr f ↦ (let ne = eqb-false (byte / 2 ^ k % 2) 1 f in let z : byte / 2 ^ k % 2 ≡ 0 = omega arith in z ∙ ap digit (sym f))
]

worth_is : (k : ℕ) (b : Bool) → worth k b ≡ digit b * 2 ^ k
worth_is k true = omega arith
worth_is k false = omega arith

-- a byte as what stands above bit k, bit k, and what stands below it
byte_split : (byte k : ℕ) → (byte / 2 ^ k / 2 * 2 + digit (bit byte k)) * 2 ^ k + byte % 2 ^ k ≡ byte
byte_split byte k =
    let q : byte / 2 ^ k / 2 * 2 + digit (bit byte k) ≡ byte / 2 ^ k = (let d = digit-bit byte k in omega arith) in
    ap (λ n. n * 2 ^ k + byte % 2 ^ k) q ∙ shr_split byte k

swapped : (a b c m r : ℕ) → (a + b) * m + r - b * m + c * m ≡ (a + c) * m + r
swapped a b c m r = omega arith

inked_split : (ink : Ink) (byte k : ℕ) → inked_byte ink byte k ≡ (byte / 2 ^ k / 2 * 2 + digit (inked ink (bit byte k))) * 2 ^ k + byte % 2 ^ k
unfolding inked_byte
inked_split ink byte k =
    let old : Bool = bit byte k in
    let new : Bool = inked ink (bit byte k) in
    ap (λ n. n - worth k old + worth k new) (sym (byte_split byte k))
    ∙ ap (λ n. (byte / 2 ^ k / 2 * 2 + digit old) * 2 ^ k + byte % 2 ^ k - n + worth k new) (worth_is k old)
    ∙ ap (λ n. (byte / 2 ^ k / 2 * 2 + digit old) * 2 ^ k + byte % 2 ^ k - digit old * 2 ^ k + n) (worth_is k new)
    ∙ swapped (byte / 2 ^ k / 2 * 2) (digit old) (digit new) (2 ^ k) (byte % 2 ^ k)

-- bit k of a byte so split is its digit
bit_at : (high k low : ℕ) (b : Bool) → low < 2 ^ k → bit ((high * 2 + digit b) * 2 ^ k + low) k ≡ b
unfolding bit
bit_at high k low b h =
    let d = digit_lt b in
    let e : (high * 2 + digit b) % 2 ≡ digit b = omega arith in
    ap (λ n. nat_eq (n % 2) 1) (shr_high (high * 2 + digit b) k low h) ∙ ap (λ n. nat_eq n 1) e ∙ digit_back b

-- a bit below k does not depend on what stands from k on
below_mod : (m k low j d : ℕ) → k ≡ d + (1 + j) → (m * 2 ^ k + low) / 2 ^ j % 2 ≡ low / 2 ^ j % 2
below_mod m k low j d e =
    let shape : m * 2 ^ k + low ≡ low + m * 2 ^ d * 2 ^ (1 + j) = ap (λ n. m * 2 ^ n + low) e ∙ ap (λ n. m * n + low) (pow-add 2 d (1 + j)) ∙ omega arith in
    sym (field_of (m * 2 ^ k + low) 1 j) ∙ ap (λ n. n / 2 ^ j) (ap (λ n. n % 2 ^ (1 + j)) shape ∙ add-mul-mod_self_right low (m * 2 ^ d) (2 ^ (1 + j))) ∙ field_of low 1 j

-- a bit above k does not depend on what stands up to k
above_div : (m k low j d : ℕ) → low < 2 ^ k → j ≡ k + (1 + d) → (m * 2 ^ k + low) / 2 ^ j ≡ m / 2 / 2 ^ d
above_div m k low j d h e =
    ap (λ n. (m * 2 ^ k + low) / 2 ^ n) e
    ∙ sym (shr-shr (m * 2 ^ k + low) k (1 + d))
    ∙ ap (λ n. n / 2 ^ (1 + d)) (shr_high m k low h)
    ∙ sym (shr-shr m 1 d)

bit_other : (m n k low j : ℕ) → low < 2 ^ k → m / 2 ≡ n / 2 → j ≢ k → bit (m * 2 ^ k + low) j ≡ bit (n * 2 ^ k + low) j
unfolding bit
bit_other m n k low j h e ne = elim (cases_lt j k) [
  | inl l ↦ (let d : ℕ = k - (1 + j) in let s : k ≡ d + (1 + j) = omega arith in ap (λ x. nat_eq x 1) (below_mod m k low j d s ∙ sym (below_mod n k low j d s)))
  | inr l ↦ (let d : ℕ = j - (1 + k) in let s : j ≡ k + (1 + d) = omega arith in ap (λ x. nat_eq (x % 2) 1) (above_div m k low j d h s ∙ ap (λ x. x / 2 ^ d) e ∙ sym (above_div n k low j d h s)))
]

pub ink_hits : (ink : Ink) (byte k : ℕ) → bit (inked_byte ink byte k) k ≡ inked ink (bit byte k)
ink_hits ink byte k = ap (λ n. bit n k) (inked_split ink byte k) ∙ bit_at (byte / 2 ^ k / 2) k (byte % 2 ^ k) (inked ink (bit byte k)) (mod_below byte (2 ^ k) (pow_pos k))

pub ink_misses : (ink : Ink) (byte k j : ℕ) → j ≢ k → bit (inked_byte ink byte k) j ≡ bit byte j
ink_misses ink byte k j ne =
    let high : ℕ = byte / 2 ^ k / 2 in
    let new : Bool = inked ink (bit byte k) in
    let x = digit_lt new in
    let y = digit_lt (bit byte k) in
    let e : (high * 2 + digit new) / 2 ≡ (high * 2 + digit (bit byte k)) / 2 = omega arith in
    ap (λ n. bit n j) (inked_split ink byte k)
    ∙ bit_other (high * 2 + digit new) (high * 2 + digit (bit byte k)) k (byte % 2 ^ k) j (mod_below byte (2 ^ k) (pow_pos k)) e ne
    ∙ ap (λ n. bit n j) (byte_split byte k)

-- a size within limits, as orders of numbers
pub record Limits (width height bytes : ℕ) : Type 0 where
  pub wide : 1 ≤ width
  pub narrow : width ≤ 8192
  pub high : 1 ≤ height
  pub low : height ≤ 8192
  pub room : height * row_bytes width ≤ bytes

pub sized-Limits : (width height bytes : ℕ) → sized width height bytes ≡ true → Limits width height bytes
unfolding sized
sized-Limits width height bytes t =
    let a = and_parts (side width && side height) (nat_le (height * row_bytes width) bytes) t in
    let b = and_parts (side width) (side height) a.0 in
    let c = and_parts (nat_le 1 width) (nat_le width 8192) b.0 in
    let d = and_parts (nat_le 1 height) (nat_le height 8192) b.1 in
    record {
      wide = leb-true 1 width c.0;
      narrow = leb-true width 8192 c.1;
      high = leb-true 1 height d.0;
      low = leb-true height 8192 d.1;
      room = leb-true (height * row_bytes width) bytes a.1;
    }

abbrev pub frame : ℕ → ℕ → Window
frame width height = record { left = pos 0; top = pos 0; right = pos (width - 1); bottom = pos (height - 1) }

-- what is known of a dot that a bitmap shows
pub record Shown (width height bytes : ℕ) (p : Dot) : Type 0 where
  pub fits : Limits width height bytes
  pub x : p.0 ≡ pos (unsigned_abs p.0)
  pub y : p.1 ≡ pos (unsigned_abs p.1)
  pub across : unsigned_abs p.0 < width
  pub down : unsigned_abs p.1 < height

from_zero : (z : ℤ) → pos 0 ≤ℤ z → z ≡ pos (unsigned_abs z)
from_zero (pos n) h = refl
from_zero (negsuc n) h = absurd h.le

pub shown : (width height bytes : ℕ) (p : Dot) → inside (bitmap_window width height bytes) p ≡ true → Shown width height bytes p
shown width height bytes p t = elim (cases_Bool (sized width height bytes)) [
  | inl s ↦ (
      let i = inside_orders (frame width height) p (ap (λ w. inside w p) (sym (cond-true (sized width height bytes) (frame width height) empty s)) ∙ t) in
      let l = sized-Limits width height bytes s in
      let x = from_zero p.0 i.0 in
      let y = from_zero p.1 i.2 in
      record { fits = l; x = x; y = y; across = omega (arith, ints); down = omega (arith, ints) })
  | inr s ↦ absurd (true≢false (sym t ∙ ap (λ w. inside w p) (cond-false (sized width height bytes) (frame width height) empty s) ∙ inside-empty p))
]

-- the byte of a dot within its row
column : (width height bytes : ℕ) (p : Dot) → Shown width height bytes p → unsigned_abs p.0 / 8 < row_bytes width
column width height bytes p s = let a = s.across in omega arith

-- the byte of a dot that a bitmap shows is one of its rows
row_lt : (width height bytes : ℕ) (p : Dot) → Shown width height bytes p → byte_of width p < height * row_bytes width
unfolding byte_of
row_lt width height bytes p s = omega (arith, mul-add-lt (unsigned_abs p.1) (row_bytes width) (unsigned_abs p.0 / 8) height s.down (column width height bytes p s))

pub byte_lt : (width height bytes : ℕ) (p : Dot) → Shown width height bytes p → byte_of width p < bytes
byte_lt width height bytes p s = let r = s.fits.room in omega (arith, row_lt width height bytes p s)

-- dots with one bit are one dot
one_dot : (width height bytes : ℕ) (p q : Dot) → Shown width height bytes p → Shown width height bytes q → byte_of width p ≡ byte_of width q → bit_of p ≡ bit_of q → same p q ≡ true
unfolding byte_of bit_of
one_dot width height bytes p q s t e b =
    let row : ℕ = row_bytes width in
    let yp = div-mul-add (unsigned_abs p.1) row (unsigned_abs p.0 / 8) (column width height bytes p s) in
    let yq = div-mul-add (unsigned_abs q.1) row (unsigned_abs q.0 / 8) (column width height bytes q t) in
    let ey : unsigned_abs p.1 ≡ unsigned_abs q.1 = sym yp ∙ ap (λ n. n / row) e ∙ yq in
    let ec : unsigned_abs p.0 / 8 ≡ unsigned_abs q.0 / 8 = omega (arith, ap (λ n. n * row) ey) in
    let ex : unsigned_abs p.0 ≡ unsigned_abs q.0 = omega arith in
    orders_same p q (s.x ∙ ap pos ex ∙ sym t.x) (s.y ∙ ap pos ey ∙ sym t.y)

burnt-length : (width : ℕ) (ks : List Strike) (bytes : List ℕ) → length (burnt width ks bytes) ≡ length bytes
burnt-length width [] bytes = refl
burnt-length width (k ∷ ks) bytes = burnt-length width ks (burn width k bytes) ∙ simp length-set

burnt-append : (width : ℕ) (xs ys : List Strike) (bytes : List ℕ) → burnt width ys (burnt width xs bytes) ≡ burnt width (xs ++ ys) bytes
burnt-append width [] ys bytes = refl
burnt-append width (k ∷ xs) ys bytes = burnt-append width xs ys (burn width k bytes)

-- one strike inks one bit of the bytes, and leaves every other
bit_hit : (width : ℕ) (k : Strike) (bytes : List ℕ) → byte_of width k.0 < length bytes → bit (slice_index (burn width k bytes) (byte_of width k.0)) (bit_of k.0) ≡ inked k.1 (bit (slice_index bytes (byte_of width k.0)) (bit_of k.0))
bit_hit width k bytes h =
    let i : ℕ = byte_of width k.0 in
    let j : ℕ = bit_of k.0 in
    ap (λ n. bit n j) (get_or-set_same bytes i (inked_byte k.1 (slice_index bytes i) j) 0 h) ∙ ink_hits k.1 (slice_index bytes i) j

bit_missed : (width : ℕ) (k : Strike) (bytes : List ℕ) (i j : ℕ) → byte_of width k.0 < length bytes → (i ≡ byte_of width k.0 → j ≢ bit_of k.0) → bit (slice_index (burn width k bytes) i) j ≡ bit (slice_index bytes i) j
bit_missed width k bytes i j h apart =
    let at : ℕ = byte_of width k.0 in
    let new : ℕ = inked_byte k.1 (slice_index bytes at) (bit_of k.0) in
    elim (cases_eq i at) [
      | inl e ↦
          ap (λ n. bit (slice_index (burn width k bytes) n) j) e
          ∙ ap (λ n. bit n j) (get_or-set_same bytes at new 0 h)
          ∙ ink_misses k.1 (slice_index bytes at) (bit_of k.0) j (apart e)
          ∙ ap (λ n. bit (slice_index bytes n) j) (sym e)
      | inr ne ↦ ap (λ n. bit n j) (get_or-set_other bytes at i new 0 ne)
    ]

burn_lit : (width height : ℕ) (k : Strike) (bytes : List ℕ) → inside (bitmap_window width height (length bytes)) k.0 ≡ true → (p : Dot) → inside (bitmap_window width height (length bytes)) p ≡ true → bitmap_lit width (burn width k bytes) p ≡ struck k (bitmap_lit width bytes) p
burn_lit width height k bytes h p t =
    let ks = shown width height (length bytes) k.0 h in
    let ps = shown width height (length bytes) p t in
    let lt = byte_lt width height (length bytes) k.0 ks in
    let lit : Bool = bitmap_lit width bytes p in
    elim (cases_Bool (same p k.0)) [
      | inl s ↦ (
          let e = same_orders p k.0 s in
          ap (λ x. bitmap_lit width (burn width k bytes) (x, p.1)) e.0
          ∙ ap (λ y. bitmap_lit width (burn width k bytes) (k.0.0, y)) e.1
          ∙ bit_hit width k bytes lt
          ∙ ap (λ y. inked k.1 (bitmap_lit width bytes (k.0.0, y))) (sym e.1)
          ∙ ap (λ x. inked k.1 (bitmap_lit width bytes (x, p.1))) (sym e.0)
          ∙ sym (cond-true (same p k.0) (inked k.1 lit) lit s))
      | inr s ↦
          bit_missed width k bytes (byte_of width p) (bit_of p) lt (λ e d. true≢false (sym (one_dot width height (length bytes) p k.0 ps ks e d) ∙ s))
          ∙ sym (cond-false (same p k.0) (inked k.1 lit) lit s)
    ]

burnt_lit : (width height : ℕ) (ks : List Strike) (bytes : List ℕ) → AllIn (inside (bitmap_window width height (length bytes))) ks → (p : Dot) → inside (bitmap_window width height (length bytes)) p ≡ true → bitmap_lit width (burnt width ks bytes) p ≡ lit_after ks (bitmap_lit width bytes) p
burnt_lit width height [] bytes h p t = refl
burnt_lit width height (k ∷ ks) bytes h p t =
    let next : List ℕ = burn width k bytes in
    let e : length bytes ≡ length next = sym (simp length-set) in
    burnt_lit width height ks next (subst (λ n. AllIn (inside (bitmap_window width height n)) ks) e h.1) p (ap (λ n. inside (bitmap_window width height n) p) (sym e) ∙ t)
    ∙ lit_after_at ks (bitmap_lit width next) (struck k (bitmap_lit width bytes)) p (burn_lit width height k bytes h.0 p t)

bitmap_none : (s : Bitmap) → BitmapStrikes s [] s
bitmap_none s = record { lent = refl; width = refl; height = refl; bytes = refl; shots = omega arith; visible = tt }

bitmap_length : (s t : Bitmap) (ks : List Strike) → BitmapStrikes s ks t → length t.bytes.now ≡ length s.bytes.now
bitmap_length s t ks a = ap length a.bytes ∙ burnt-length s.width ks s.bytes.now

bitmap_window_kept : (s t : Bitmap) (ks : List Strike) → BitmapStrikes s ks t → (bitmap_meaning t).window ≡ (bitmap_meaning s).window
bitmap_window_kept s t ks a =
    ap (λ n. bitmap_window t.width t.height n) (bitmap_length s t ks a)
    ∙ ap (λ n. bitmap_window n t.height (length s.bytes.now)) a.width
    ∙ ap (λ n. bitmap_window s.width n (length s.bytes.now)) a.height

bitmap_join : (s t u : Bitmap) (xs ys : List Strike) → BitmapStrikes s xs t → BitmapStrikes t ys u → BitmapStrikes s (xs ++ ys) u
bitmap_join s t u xs ys a b =
    let n = length-append xs ys in
    let at = a.shots in
    let bt = b.shots in record {
      lent = b.lent ∙ a.lent;
      width = b.width ∙ a.width;
      height = b.height ∙ a.height;
      bytes = b.bytes ∙ ap (λ w. burnt w ys t.bytes.now) a.width ∙ ap (burnt s.width ys) a.bytes ∙ burnt-append s.width xs ys s.bytes.now;
      shots = omega arith;
      visible = AllIn-append (inside (bitmap_meaning s).window) xs ys a.visible (subst (λ w. AllIn (inside w) ys) (bitmap_window_kept s t xs a) b.visible);
    }

bitmap_after : (s t : Bitmap) (xs : List Strike) → BitmapStrikes s xs t → After xs (bitmap_meaning s) (bitmap_meaning t)
bitmap_after s t xs a = record {
  window = bitmap_window_kept s t xs a;
  lit = λ p h. ap (λ w. bitmap_lit w t.bytes.now p) a.width ∙ ap (λ bytes. bitmap_lit s.width bytes p) a.bytes ∙ burnt_lit s.width s.height xs s.bytes.now a.visible p h;
  shots = a.shots;
}

Framed-frame : (width height bytes : ℕ) → Limits width height bytes → Framed (frame width height)
unfolding canonical
Framed-frame width height bytes l = record {
  told = cond-true _ (frame width height) empty (and_from _ _ (le_true (pos 0) (pos (width - 1)) (omega (arith, ints))) (le_true (pos 0) (pos (height - 1)) (omega (arith, ints))));
  worldly = λ p h. let i = inside_orders (frame width height) p h in orders_world p (omega (arith, ints)) (omega (arith, ints));
}

Framed_bitmap : (width height bytes : ℕ) → Framed (bitmap_window width height bytes)
Framed_bitmap width height bytes = elim (cases_Bool (sized width height bytes)) as (λ _. Framed (bitmap_window width height bytes)) [
  | inl t ↦ rw (cond-true (sized width height bytes) (frame width height) empty t) (Framed-frame width height bytes (sized-Limits width height bytes t))
  | inr f ↦ rw (cond-false (sized width height bytes) (frame width height) empty f) Framed-empty
]

pub bitmap_laws : Laws (λ s. (bitmap_meaning s).window) (λ s. (bitmap_meaning s).lit) (λ s. (bitmap_meaning s).shots) BitmapStrikes (λ s. []) bitmap_meaning
bitmap_laws =
    bare_laws (λ s. (bitmap_meaning s).window) (λ s. (bitmap_meaning s).lit) (λ s. (bitmap_meaning s).shots) BitmapStrikes bitmap_none bitmap_join bitmap_after
    (λ s. Framed_bitmap s.width s.height (length s.bytes.now))

past_kept : (width height : ℕ) (ks : List Strike) (bytes : List ℕ) → AllIn (inside (bitmap_window width height (length bytes))) ks → (i : ℕ) → height * row_bytes width ≤ i → slice_index (burnt width ks bytes) i ≡ slice_index bytes i
past_kept width height [] bytes h i far = refl
past_kept width height (k ∷ ks) bytes h i far =
    let next : List ℕ = burn width k bytes in
    let e : length bytes ≡ length next = sym (simp length-set) in
    let lt = row_lt width height (length bytes) k.0 (shown width height (length bytes) k.0 h.0) in
    let ne : i ≢ byte_of width k.0 = omega arith in
    past_kept width height ks next (subst (λ n. AllIn (inside (bitmap_window width height n)) ks) e h.1) i far
    ∙ get_or-set_other bytes (byte_of width k.0) i (inked_byte k.1 (slice_index bytes (byte_of width k.0)) (bit_of k.0)) 0 ne

-- a bit right of the last dot is no dot's
not_spare : (width height bytes x y : ℕ) (p : Dot) → Shown width height bytes p → width ≤ x → x < 8 * row_bytes width → byte_of width (pos x, pos y) ≡ byte_of width p → bit_of (pos x, pos y) ≢ bit_of p
unfolding byte_of bit_of
not_spare width height bytes x y p s far near e b =
    let row : ℕ = row_bytes width in
    let in_row : x / 8 < row = omega arith in
    let ey : y ≡ unsigned_abs p.1 = sym (div-mul-add y row (x / 8) in_row) ∙ ap (λ n. n / row) e ∙ div-mul-add (unsigned_abs p.1) row (unsigned_abs p.0 / 8) (column width height bytes p s) in
    let ec : x / 8 ≡ unsigned_abs p.0 / 8 = omega (arith, ap (λ n. n * row) ey) in
    let under = s.across in
    omega arith

spare_kept : (width height : ℕ) (ks : List Strike) (bytes : List ℕ) → AllIn (inside (bitmap_window width height (length bytes))) ks → (x y : ℕ) → width ≤ x → x < 8 * row_bytes width → bitmap_lit width (burnt width ks bytes) (pos x, pos y) ≡ bitmap_lit width bytes (pos x, pos y)
spare_kept width height [] bytes h x y far near = refl
spare_kept width height (k ∷ ks) bytes h x y far near =
    let next : List ℕ = burn width k bytes in
    let e : length bytes ≡ length next = sym (simp length-set) in
    let s = shown width height (length bytes) k.0 h.0 in
    spare_kept width height ks next (subst (λ n. AllIn (inside (bitmap_window width height n)) ks) e h.1) x y far near
    ∙ bit_missed width k bytes (byte_of width (pos x, pos y)) (bit_of (pos x, pos y)) (byte_lt width height (length bytes) k.0 s) (not_spare width height (length bytes) x y k.0 s far near)

pub spares_stay : (s : Bitmap) → SparesStay s
spares_stay s ks t a = record {
  past = λ i far. ap (λ bytes. slice_index bytes i) a.bytes ∙ past_kept s.width s.height ks s.bytes.now a.visible i far;
  spare = λ x y far near. ap (λ bytes. bitmap_lit s.width bytes (pos x, pos y)) a.bytes ∙ spare_kept s.width s.height ks s.bytes.now a.visible x y far near;
}
