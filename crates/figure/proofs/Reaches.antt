-- The reach of a row: how it is found, and that it says which dots of the row are filled.
use Rattle.std.proofs.Common.{◌≡◌, ℕ, zero, suc, ◌+◌, ◌-◌, ◌*◌, ◌<◌, ◌≤◌, Bool, Some, None, Option, true, false, not, ◌&&◌, List, [], ◌∷◌, ◌++◌, ℤ, pos, negsuc, ◌+ℤ◌, ◌-ℤ◌, neg_ℤ, nat_abs, ◌≤ℤ◌, sym, refl, ap, ◌∙◌, subst, inl, inr, append-nil, arith}
use Rattle.std.specs.Option.{MatchOption}
use Rattle.std.proofs.lemmas.Int.{ints}
use Rattle.std.proofs.lemmas.Bool.{cases_Bool, cases_eq, cases_lt, both_ways, and_parts, and_from, not-true, not_from_false, or_left, or_right, or_from, cond-true, cond-false}
use Rattle.plate.specs.World.{Dot}
use Rattle.ellipse.specs.Ellipses.{lighted}
use Rattle.ellipse.proofs.Laws.{turn, joined, width}
use Rattle.ellipse.proofs.Rows.{row_reach, row_falls}
use Rattle.figure.specs.Lines.{dots_from}
use Rattle.figure.specs.Fills.{covered, filled_pair, fill_row, fill_rows, filled_dots}
use Rattle.figure.specs.Reaches.{IsReach, SeeksFrom, row_dot}
use Rattle.figure.specs.Visits.{VisitLaws}
use Rattle.figure.proofs.Crossings.{abs_few}
use Rattle.figure.proofs.Walks.{Walked, turn as hand}

-- the last lighted pair of a row
abbrev pub is_last : ℕ → ℕ → ℕ → ℕ → Bool
is_last a b y x = lighted a b x y && not (lighted a b (x + 1) y)

last_here : {a b y k : ℕ} → IsReach a b y k → is_last a b y k ≡ true
last_here {a} {b} {y} {k} i = and_from _ _ i.lit (not_from_false (lighted a b (k + 1) y) (elim (cases_Bool (lighted a b (k + 1) y)) [
  | inl t ↦ absurd (omega (arith, i.last (k + 1) t))
  | inr f ↦ f
]))

last_is : {a b y k x : ℕ} → IsReach a b y k → x ≤ k → is_last a b y x ≡ true → x ≡ k
last_is {a} {b} {y} {k} {x} i h e =
    let p = and_parts (lighted a b x y) (not (lighted a b (x + 1) y)) e in
    let dark = not-true (lighted a b (x + 1) y) p.1 in
    elim (cases_eq x k) [
      | inl q ↦ q
      | inr n ↦ absurd (elim (cases_eq (x + 1) k) [
        | inl q ↦ both_ways _ dark (subst (λ z. lighted a b z y ≡ true) (sym q) i.lit)
        | inr m ↦ both_ways _ dark (turn b a y (x + 1) (joined b a y x (x + 1) k (omega arith) (omega arith) (turn a b x y p.0) (turn a b k y i.lit)))
      ])
    ]

-- sought to the right, the first that is last is the reach
pub found : (a b y from k : ℕ) → IsReach a b y k → from ≤ k → (r : Option ℕ)
    → MatchOption r ((j : ℕ) → from ≤ j → j < a + 1 → is_last a b y j ≡ false) (λ x. (from ≤ x) × (x < a + 1) × (is_last a b y x ≡ true) × ((j : ℕ) → from ≤ j → j < x → is_last a b y j ≡ false))
    → (u : ℕ) × (r ≡ Some u) × IsReach a b y u
found a b y from k i h None m = absurd (both_ways _ (m k h (omega (arith, width a b k y i.lit))) (last_here i))
found a b y from k i h (Some x) m =
    let near : x ≤ k = elim (cases_lt k x) [ inl l ↦ absurd (both_ways _ (m.3 k h l) (last_here i)) | inr g ↦ omega arith ] in
    (x, refl, subst (IsReach a b y) (sym (last_is i near m.2)) i)

-- sought to the left, the first that is lighted is the reach
pub found_back : (a b y from k : ℕ) → IsReach a b y k → k ≤ from → (r : Option ℕ)
    → MatchOption r ((j : ℕ) → 0 ≤ j → j < from + 1 → lighted a b j y ≡ false) (λ x. (0 ≤ x) × (x < from + 1) × (lighted a b x y ≡ true) × ((j : ℕ) → x < j → j < from + 1 → lighted a b j y ≡ false))
    → (u : ℕ) × (r ≡ Some u) × IsReach a b y u
found_back a b y from k i h None m = absurd (both_ways _ (m k (omega arith) (omega arith)) i.lit)
found_back a b y from k i h (Some x) m =
    let below : x ≤ k = i.last x m.2 in
    let same : k ≡ x = elim (cases_lt x k) [ inl l ↦ absurd (both_ways _ (m.3 k l (omega arith)) i.lit) | inr g ↦ omega arith ] in
    (x, refl, subst (IsReach a b y) same i)

-- from row to row
abs_neg : (n : ℕ) → nat_abs (neg_ℤ (pos n)) ≡ n
abs_neg zero = refl
abs_neg (suc n) = refl

-- a row nearer to the centre is less high
abs_nearer : (z : ℤ) → (z +ℤ pos 1) ≤ℤ pos 0 → nat_abs (z +ℤ pos 1) < nat_abs z
abs_nearer (pos n) h = absurd (omega (arith, ints))
abs_nearer (negsuc zero) h = omega (arith, ints)
abs_nearer (negsuc (suc n)) h = omega (arith, ints)

abs_farther : (z : ℤ) → pos 1 ≤ℤ (z +ℤ pos 1) → nat_abs z < nat_abs (z +ℤ pos 1)
abs_farther (pos n) h = omega (arith, ints)
abs_farther (negsuc n) h = absurd (omega (arith, ints))

seeks_next : (a b : ℕ) (dy : ℤ) (r : ℕ) → IsReach a b (nat_abs dy) r → SeeksFrom a b (dy +ℤ pos 1) r
seeks_next a b dy r i = record {
  narrow = width a b r (nat_abs dy) i.lit;
  outward = λ h u j. row_falls a b u r (nat_abs (dy +ℤ pos 1)) (nat_abs dy) (abs_nearer dy h) j.lit i.lit;
  inward = λ h u j. row_falls a b r u (nat_abs dy) (nat_abs (dy +ℤ pos 1)) (abs_farther dy h) i.lit j.lit;
}

has_reach : (a b y : ℕ) → y ≤ b → (u : ℕ) × IsReach a b y u
has_reach a b y h = let s = row_reach a b y h in (s.0, record { lit = s.1; last = s.2 })

pub seeks_outward : (a b : ℕ) (dy : ℤ) (r y : ℕ) → SeeksFrom a b dy r → nat_abs dy ≤ b → dy ≤ℤ pos 0 → y ≡ nat_abs dy → (u : ℕ) × IsReach a b y u × (r ≤ u)
seeks_outward a b dy r y s l h e = let t = has_reach a b (nat_abs dy) l in (t.0, subst (λ m. IsReach a b m t.0) (sym e) t.1, s.outward h t.0 t.1)

pub seeks_inward : (a b : ℕ) (dy : ℤ) (r y : ℕ) → SeeksFrom a b dy r → nat_abs dy ≤ b → pos 1 ≤ℤ dy → y ≡ nat_abs dy → (u : ℕ) × IsReach a b y u × (u ≤ r)
seeks_inward a b dy r y s l h e = let t = has_reach a b (nat_abs dy) l in (t.0, subst (λ m. IsReach a b m t.0) (sym e) t.1, s.inward h t.0 t.1)

-- a pair is filled just when it is not past the reach
covered_to : (a b y x n j : ℕ) → j < n → lighted a b (x + j) y ≡ true → covered a b y x n ≡ true
covered_to a b y x zero j h e = absurd (omega arith)
covered_to a b y x (suc n) zero h e = (let d : x + 0 ≡ x = omega arith in or_left (lighted a b x y) (covered a b y (suc x) n) (subst (λ z. lighted a b z y ≡ true) d e))
covered_to a b y x (suc n) (suc j) h e = (let d : x + suc j ≡ suc x + j = omega arith in or_right (lighted a b x y) (covered a b y (suc x) n) (covered_to a b y (suc x) n j (omega arith) (subst (λ z. lighted a b z y ≡ true) d e)))

covered_not : (a b y x n : ℕ) → ((u : ℕ) → x ≤ u → lighted a b u y ≡ false) → covered a b y x n ≡ false
covered_not a b y x zero h = refl
covered_not a b y x (suc n) h = or_from (lighted a b x y) (covered a b y (suc x) n) (h x (omega arith)) (covered_not a b y (suc x) n (λ u l. h u (omega arith)))

module _ {a b y r : ℕ} (i : IsReach a b y r) where
  filled_to : (x : ℕ) → x ≤ r → filled_pair a b x y ≡ true
  unfolding filled_pair
  filled_to x h =
      let w = width a b r y i.lit in
      let d : r ≡ x + (r - x) = omega arith in
      covered_to a b y x (suc a - x) (r - x) (omega arith) (subst (λ z. lighted a b z y ≡ true) d i.lit)

  filled_not : (x : ℕ) → r < x → filled_pair a b x y ≡ false
  unfolding filled_pair
  filled_not x h = covered_not a b y x (suc a - x) (λ u l. elim (cases_Bool (lighted a b u y)) [ inl t ↦ absurd (omega (arith, i.last u t)) | inr f ↦ f ])

abs_left : (z : ℤ) (n : ℕ) → (z +ℤ pos n) ≤ℤ negsuc 0 → n < nat_abs z
abs_left (pos k) n h = omega (arith, ints)
abs_left (negsuc k) n h = omega (arith, ints)

abs_right : (z : ℤ) (n : ℕ) → pos (n + 1) ≤ℤ z → n < nat_abs z
abs_right (pos k) n h = omega (arith, ints)
abs_right (negsuc k) n h = omega (arith, ints)

module _ (c : Dot) (a b : ℕ) (dy : ℤ) (r : ℕ) (i : IsReach a b (nat_abs dy) r) where
  abbrev Row : ℤ → ℕ → List Dot
  Row dx n = fill_row c a b dy dx n

  -- columns past the reach are left out
  skips : (m n : ℕ) (dx : ℤ) → ((j : ℕ) → j < m → r < nat_abs (dx +ℤ pos j)) → Row dx (m + n) ≡ Row (dx +ℤ pos m) n
  skips zero n dx h =
      let e : 0 + n ≡ n = omega arith in
      let d : dx ≡ dx +ℤ pos 0 = omega (arith, ints) in
      ap (Row dx) e ∙ ap (λ z. Row z n) d
  skips (suc m) n dx h =
      let e : suc m + n ≡ suc (m + n) = omega arith in
      let o : dx +ℤ pos 0 ≡ dx = omega (arith, ints) in
      let out : filled_pair a b (nat_abs dx) (nat_abs dy) ≡ false = filled_not i (nat_abs dx) (subst (λ z. r < nat_abs z) o (h 0 (omega arith))) in
      let d : dx +ℤ pos 1 +ℤ pos m ≡ dx +ℤ pos (suc m) = omega (arith, ints) in
      ap (Row dx) e
      ∙ cond-false (filled_pair a b (nat_abs dx) (nat_abs dy)) ((c.0 +ℤ dx, c.1 +ℤ dy) ∷ Row (dx +ℤ pos 1) (m + n)) (Row (dx +ℤ pos 1) (m + n)) out
      ∙ skips m n (dx +ℤ pos 1) (λ j l. let f : dx +ℤ pos (suc j) ≡ dx +ℤ pos 1 +ℤ pos j = omega (arith, ints) in subst (λ z. r < nat_abs z) f (h (suc j) (omega arith)))
      ∙ ap (λ z. Row z n) d

  abbrev dot : ℕ → Dot
  dot k = row_dot c.0 (c.1 +ℤ dy) r k

  -- those within it are taken
  takes : (m n k : ℕ) (dx : ℤ) → dx ≡ neg_ℤ (pos r) +ℤ pos k → k + m ≤ 2 * r + 1 → Row dx (m + n) ≡ dots_from dot k m ++ Row (dx +ℤ pos m) n
  takes zero n k dx e h =
      let f : 0 + n ≡ n = omega arith in
      let d : dx ≡ dx +ℤ pos 0 = omega (arith, ints) in
      ap (Row dx) f ∙ ap (λ z. Row z n) d
  takes (suc m) n k dx e h =
      let f : suc m + n ≡ suc (m + n) = omega arith in
      let taken : filled_pair a b (nat_abs dx) (nat_abs dy) ≡ true = filled_to i (nat_abs dx) (abs_few dx r (omega (arith, ints)) (omega (arith, ints))) in
      let d : dx +ℤ pos 1 +ℤ pos m ≡ dx +ℤ pos (suc m) = omega (arith, ints) in
      let x : c.0 +ℤ dx ≡ c.0 -ℤ pos r +ℤ pos k = omega (arith, ints) in
      ap (Row dx) f
      ∙ cond-true (filled_pair a b (nat_abs dx) (nat_abs dy)) ((c.0 +ℤ dx, c.1 +ℤ dy) ∷ Row (dx +ℤ pos 1) (m + n)) (Row (dx +ℤ pos 1) (m + n)) taken
      ∙ ap (λ z. (z, c.1 +ℤ dy) ∷ Row (dx +ℤ pos 1) (m + n)) x
      ∙ ap (λ l. dot k ∷ l) (takes m n (suc k) (dx +ℤ pos 1) (omega (arith, ints)) (omega arith) ∙ ap (λ z. dots_from dot (suc k) m ++ Row z n) d)

  -- so a row is the dots within its reach
  pub row_is : Row (neg_ℤ (pos a)) (2 * a + 1) ≡ dots_from dot 0 (2 * r + 1)
  row_is =
      let w = width a b r (nat_abs dy) i.lit in
      let d : ℕ = a - r in
      let n : 2 * a + 1 ≡ d + (2 * r + 1 + (d + 0)) = omega arith in
      let e : neg_ℤ (pos a) +ℤ pos d ≡ neg_ℤ (pos r) +ℤ pos 0 = omega (arith, ints) in
      let right : ℤ = neg_ℤ (pos a) +ℤ pos d +ℤ pos (2 * r + 1) in
      ap (Row (neg_ℤ (pos a))) n
      ∙ skips d (2 * r + 1 + (d + 0)) (neg_ℤ (pos a)) (λ j l. abs_left (neg_ℤ (pos a) +ℤ pos j) r (omega (arith, ints)))
      ∙ takes (2 * r + 1) (d + 0) 0 (neg_ℤ (pos a) +ℤ pos d) e (omega arith)
      ∙ ap (λ l. dots_from dot 0 (2 * r + 1) ++ l) (skips d 0 right (λ j l. abs_right (right +ℤ pos j) r (omega (arith, ints))))
      ∙ append-nil (dots_from dot 0 (2 * r + 1))

-- the k-th row from the top
abbrev pub row_at : ℕ → ℕ → ℤ
row_at b k = neg_ℤ (pos b) +ℤ pos k

pub all_rows : (c : Dot) (a b : ℕ) → fill_rows c a b (row_at b 0) (2 * b + 1 - 0) ≡ filled_dots c a b
unfolding filled_dots
all_rows c a b =
    let e : 2 * b + 1 - 0 ≡ 2 * b + 1 = omega arith in
    let d : row_at b 0 ≡ neg_ℤ (pos b) = omega (arith, ints) in
    ap (fill_rows c a b (row_at b 0)) e ∙ ap (λ z. fill_rows c a b z (2 * b + 1)) d

pub next_row : (c : Dot) (a b k r : ℕ) → k < 2 * b + 1 → IsReach a b (nat_abs (row_at b k)) r → fill_rows c a b (row_at b k) (2 * b + 1 - k) ≡ dots_from (row_dot c.0 (c.1 -ℤ pos b +ℤ pos k) r) 0 (2 * r + 1) ++ fill_rows c a b (row_at b (k + 1)) (2 * b + 1 - (k + 1))
next_row c a b k r h i =
    let e : 2 * b + 1 - k ≡ suc (2 * b + 1 - (k + 1)) = omega arith in
    let d : row_at b k +ℤ pos 1 ≡ row_at b (k + 1) = omega (arith, ints) in
    let y : c.1 +ℤ row_at b k ≡ c.1 -ℤ pos b +ℤ pos k = omega (arith, ints) in
    ap (fill_rows c a b (row_at b k)) e
    ∙ ap (λ l. l ++ fill_rows c a b (row_at b k +ℤ pos 1) (2 * b + 1 - (k + 1))) (row_is c a b (row_at b k) r i ∙ ap (λ z. dots_from (row_dot c.0 z r) 0 (2 * r + 1)) y)
    ∙ ap (λ z. dots_from (row_dot c.0 (c.1 -ℤ pos b +ℤ pos k) r) 0 (2 * r + 1) ++ fill_rows c a b z (2 * b + 1 - (k + 1))) d

pub seeks_first : (a b : ℕ) → SeeksFrom a b (row_at b 0) 0
seeks_first a b = record { narrow = omega arith; outward = λ h u i. omega arith; inward = λ h u i. absurd (omega (arith, ints)) }

pub row_within : (b k : ℕ) (dy : ℤ) → dy ≡ row_at b k → k ≤ 2 * b → nat_abs dy ≤ b
row_within b k dy e h = abs_few dy b (omega (arith, ints)) (omega (arith, ints))

pub seeks_at : (a b k r : ℕ) (dy : ℤ) → dy ≡ row_at b k → SeeksFrom a b (row_at b k) r → SeeksFrom a b dy r
seeks_at a b k r dy e s = subst (λ z. SeeksFrom a b z r) (sym e) s

pub seeks_after : (a b k r : ℕ) (dy : ℤ) → dy ≡ row_at b k → IsReach a b (nat_abs dy) r → SeeksFrom a b (row_at b (k + 1)) r
seeks_after a b k r dy e i = let d : dy +ℤ pos 1 ≡ row_at b (k + 1) = omega (arith, ints) in subst (λ z. SeeksFrom a b z r) d (seeks_next a b dy r i)

-- one row more
pub rows_turn : {S : Type 0} {visits : S → List Dot → S → Type 0} (h : VisitLaws visits) (c : Dot) (a b k r : ℕ) (s t u : S) (dy : ℤ) (middle : Dot)
    → Walked visits s t (fill_rows c a b (row_at b k) (2 * b + 1 - k)) (filled_dots c a b) → k < 2 * b + 1 → IsReach a b (nat_abs dy) r → dy ≡ row_at b k
    → middle.0 ≡ c.0 → middle.1 ≡ c.1 -ℤ pos b +ℤ pos k → visits t (dots_from (row_dot middle.0 middle.1 r) 0 (2 * r + 1)) u
    → Walked visits s u (fill_rows c a b (row_at b (k + 1)) (2 * b + 1 - (k + 1))) (filled_dots c a b)
rows_turn {visits = visits} h c a b k r s t u dy middle w less i e p q v =
    hand h s t u (dots_from (row_dot c.0 (c.1 -ℤ pos b +ℤ pos k) r) 0 (2 * r + 1)) (fill_rows c a b (row_at b (k + 1)) (2 * b + 1 - (k + 1))) (fill_rows c a b (row_at b k) (2 * b + 1 - k)) (filled_dots c a b) w
    (next_row c a b k r less (subst (λ z. IsReach a b (nat_abs z) r) e i))
    (subst (λ d. visits t (dots_from (row_dot d (c.1 -ℤ pos b +ℤ pos k) r) 0 (2 * r + 1)) u) p (subst (λ d. visits t (dots_from (row_dot middle.0 d r) 0 (2 * r + 1)) u) q v))

pub no_row : (c : Dot) (a b k : ℕ) → 2 * b + 1 ≤ k → fill_rows c a b (row_at b k) (2 * b + 1 - k) ≡ []
no_row c a b k h = let e : 2 * b + 1 - k ≡ 0 = omega arith in ap (fill_rows c a b (row_at b k)) e
