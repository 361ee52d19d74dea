-- The laws of the lighted pairs, from those of the region.
use Rattle.std.proofs.Common.{◌≡◌, ℕ, ◌+◌, ◌-◌, ◌<◌, ◌≤◌, true, false, sym, subst, inl, inr, arith}
use Rattle.std.proofs.lemmas.Bool.{cases_lt, both_ways}
use Rattle.std.proofs.lemmas.Bool.Decides.{same_from_decides}
use Rattle.ellipse.specs.Ellipses.{lighted}
use Rattle.ellipse.proofs.Shape.{order, run, some, fill, low}
use Rattle.ellipse.proofs.Conic.{Inside, down, dec, top, foot, turned_Lit, lit, lights}

abbrev Lighted : ℕ → ℕ → ℕ → ℕ → Type 0
Lighted a b x y = lighted a b x y ≡ true

pub turn : (a b x y : ℕ) → Lighted a b x y → Lighted b a y x
turn a b x y e = lights b a y x (turned_Lit a b x y (lit a b x y e))

pub symmetric : (a b x y : ℕ) → lighted a b x y ≡ lighted b a y x
symmetric a b x y =
    same_from_decides {P = Lighted a b x y} _ _ (λ e. e, λ e. e) (λ e. turn b a y x e, λ e. turn a b x y e)

-- no pair of a later column is higher
pub falls : (a b x z y w : ℕ) → x < z → Lighted a b x y → Lighted a b z w → w ≤ y
falls a b x z y w h e f = order (Inside a b) (down a b) x z y w h (lit a b x y e) (lit a b z w f)

-- the pairs of a column have no gap
pub joined : (a b x w r y : ℕ) → w < r → r < y → Lighted a b x w → Lighted a b x y → Lighted a b x r
joined a b x w r y h k e f = lights a b x r (run (Inside a b) (down a b) x w r y h k (lit a b x w e) (lit a b x y f))

pub height : (a b x y : ℕ) → Lighted a b x y → y ≤ b
height a b x y e = low (Inside a b) (down a b) (dec a b) b (top a b) x y (lit a b x y e)

pub width : (a b x y : ℕ) → Lighted a b x y → x ≤ a
width a b x y e = height b a y x (turn a b x y e)

-- each column up to a has a pair
pub peopled : (a b x : ℕ) → x ≤ a → (w : ℕ) × (w ≤ b) × Lighted a b x w
peopled a b x h =
    let s = some (Inside a b) (down a b) (dec a b) b (top a b) x (foot a b x h) in
    let e = lights a b x s.0 (inl s.1) in
    (s.0, height a b x s.0 e, e)

-- what lies left of a pair lies below one too
pub above : (a b x z y : ℕ) → x ≤ z → Lighted a b z y → (w : ℕ) × (y ≤ w) × Lighted a b x w
above a b x z y h e =
    let s = fill (Inside a b) (down a b) (dec a b) b (top a b) x z y h (lit a b z y e) in
    (s.0, s.1, lights a b x s.0 s.2)

-- and what lies below a pair lies left of one
pub beside : (a b x y w : ℕ) → y ≤ w → Lighted a b x w → (z : ℕ) × (x ≤ z) × Lighted a b z y
beside a b x y w h e =
    let s = above b a y w x h (turn a b x w e) in
    (s.0, s.1, turn b a y s.0 s.2)

-- the next column goes on at most one step lower than the lowest pair y of this one: the row y − 1 has a pair, and that lies farther right
pub next : (a b x y : ℕ) → x < a → Lighted a b x y → (0 < y → lighted a b x (y - 1) ≡ false) → (w : ℕ) × (y ≤ w + 1) × Lighted a b (x + 1) w
next a b x y h e n = elim (cases_lt 0 y) [
  | inr z ↦ (let s = peopled a b (x + 1) (omega arith) in (s.0, omega arith, s.2))
  | inl p ↦ (
      let s = beside a b x (y - 1) y (omega arith) e in
      let d : x ≡ s.0 → ⊥ = λ q. both_ways _ (n p) (subst (λ t. Lighted a b t (y - 1)) (sym q) s.2) in
      let l : x + 1 ≤ s.0 = omega (arith, d, s.1) in
      let t = above a b (x + 1) s.0 (y - 1) l s.2 in
      (t.0, omega (arith, t.1), t.2))
]
