-- The rows of the lighted pairs, to fill an ellipse row by row: a row is filled as far as its reach, the largest x of its pairs.
use Rattle.std.proofs.Common.{◌≡◌, ℕ, zero, suc, ◌<◌, ◌≤◌, true, subst, inl, inr, arith}
use Rattle.std.proofs.lemmas.Bool.{cases_Bool, both_ways}
use Rattle.ellipse.specs.Ellipses.{lighted}
use Rattle.ellipse.proofs.Laws.{turn, falls, peopled, width}

-- each row up to b has a pair
pub row_peopled : (a b y : ℕ) → y ≤ b → (x : ℕ) × (x ≤ a) × (lighted a b x y ≡ true)
row_peopled a b y h = let s = peopled b a y h in (s.0, s.1, turn b a y s.0 s.2)

-- no pair of a higher row lies farther right: so the reach does not grow with y
pub row_falls : (a b x u y w : ℕ) → y < w → lighted a b x y ≡ true → lighted a b u w ≡ true → u ≤ x
row_falls a b x u y w h e f = falls b a y w x u h (turn a b x y e) (turn a b u w f)

-- a row with a pair at x and nothing beyond m has a last pair
last : (a b y m x : ℕ) → lighted a b x y ≡ true → ((u : ℕ) → lighted a b u y ≡ true → u ≤ m) → (z : ℕ) × (lighted a b z y ≡ true) × ((u : ℕ) → lighted a b u y ≡ true → u ≤ z)
last a b y zero x e h = (x, e, λ u f. omega (arith, h u f))
last a b y (suc m) x e h = elim (cases_Bool (lighted a b (suc m) y)) [
  | inl t ↦ (suc m, t, h)
  | inr n ↦ last a b y m x e (λ u f. let d : u ≡ suc m → ⊥ = λ q. both_ways _ n (subst (λ k. lighted a b k y ≡ true) q f) in omega (arith, d, h u f))
]

-- each row up to b has its reach
pub row_reach : (a b y : ℕ) → y ≤ b → (x : ℕ) × (lighted a b x y ≡ true) × ((u : ℕ) → lighted a b u y ≡ true → u ≤ x)
row_reach a b y h = let s = row_peopled a b y h in last a b y a s.0 s.2 (λ u f. width a b u y f)
