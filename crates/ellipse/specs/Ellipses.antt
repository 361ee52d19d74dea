-- The raster ellipse about (0, 0) with the semi-axes a along x and b along y: its lighted pairs (x, y) with x, y ≥ 0.
use Rattle.std.specs.Prelude.{◌≡◌, ℕ, zero, suc, ◌+◌, ◌-◌, ◌*◌, ◌<◌, ◌≤◌, Bool, true, false, cond, ◌&&◌, ◌||◌, ◌⊎◌, List, [], ◌∷◌, ◌++◌, ◌==◌, nat_le, nat_lt}
use Rattle.std.specs.List.{ContainsAt, AllByRecursion}

-- a place lies within the ellipse when a²w² + 4b²x² ≤ 4a²b², w being its height in half steps: these are the two sides
abbrev pub full : ℕ → ℕ → ℕ
full a b = 4 * (a * a) * (b * b)

abbrev pub reach : ℕ → ℕ → ℕ → ℕ → ℕ
reach a b x w = a * a * (w * w) + 4 * (b * b) * (x * x)

-- V, y is the nearest in the column x: x ≤ a; y = 0 or a²(2y−1)² + 4b²x² ≤ 4a²b²; and a²(2y+1)² + 4b²x² > 4a²b²
unfoldable pub upright : ℕ → ℕ → ℕ → ℕ → Bool
upright a b x y =
    nat_le x a && ((y == 0 || nat_le (reach a b x (2 * y - 1)) (full a b)) && nat_lt (full a b) (reach a b x (2 * y + 1)))

-- H, x is the nearest in the row y: y ≤ b; x = 0 or b²(2x−1)² + 4a²y² ≤ 4a²b²; and b²(2x+1)² + 4a²y² > 4a²b²
unfoldable pub level : ℕ → ℕ → ℕ → ℕ → Bool
level a b x y =
    nat_le y b && ((x == 0 || nat_le (reach b a y (2 * x - 1)) (full a b)) && nat_lt (full a b) (reach b a y (2 * x + 1)))

-- V or H; with a = 0 the segment from (0, 0) to (0, b), and with b = 0 the one from (0, 0) to (a, 0)
unfoldable pub lighted : ℕ → ℕ → ℕ → ℕ → Bool
lighted a b x y =
    cond (a == 0) (x == 0 && nat_le y b) (cond (b == 0) (y == 0 && nat_le x a) (upright a b x y || level a b x y))

-- the pairs of the column x that pass a test and have y < k, by falling y
abbrev pub column : (ℕ → ℕ → Bool) → ℕ → ℕ → List (ℕ × ℕ)
column p x zero = []
column p x (suc k) = cond (p x k) ((x, k) ∷ column p x k) (column p x k)

-- those of the n columns from x on with y ≤ b, by rising x
abbrev pub columns : (ℕ → ℕ → Bool) → ℕ → ℕ → ℕ → List (ℕ × ℕ)
columns p b x zero = []
columns p b x (suc n) = column p x (suc b) ++ columns p b (suc x) n

-- the lighted pairs, by rising x, and at equal x by falling y
unfoldable pub pairs : ℕ → ℕ → List (ℕ × ℕ)
pairs a b = columns (lighted a b) b 0 (suc a)

-- that order, and a list in which each pair comes before all that follow
abbrev pub Before : ℕ × ℕ → ℕ × ℕ → Type 0
Before p q = (p.0 < q.0) ⊎ ((p.0 ≡ q.0) × (q.1 < p.1))

abbrev pub Ordered : List (ℕ × ℕ) → Type 0
Ordered [] = Unit {0}
Ordered (p ∷ ps) = AllByRecursion (Before p) ps × Ordered ps

-- a list in this order of the lighted pairs, of these alone and of all of them
pub record Listed (a b : ℕ) (ps : List (ℕ × ℕ)) : Type 0 where
  pub ordered : Ordered ps
  pub sound : AllByRecursion (λ p. lighted a b p.0 p.1 ≡ true) ps
  pub whole : (x y : ℕ) → lighted a b x y ≡ true → ContainsAt ps (x, y)

-- The laws of the shape.
pub record EllipseLaws : Type 0 where
  -- with the axes exchanged the pairs are too
  pub symmetric : (a b x y : ℕ) → lighted a b x y ≡ lighted b a y x
  -- each column up to a has a pair, and no pair lies past the semi-axes
  pub peopled : (a b x : ℕ) → x ≤ a → (w : ℕ) × (w ≤ b) × (lighted a b x w ≡ true)
  pub width : (a b x y : ℕ) → lighted a b x y ≡ true → x ≤ a
  pub height : (a b x y : ℕ) → lighted a b x y ≡ true → y ≤ b
  -- the pairs of a column have no gap
  pub joined : (a b x w r y : ℕ) → w < r → r < y → lighted a b x w ≡ true → lighted a b x y ≡ true → lighted a b x r ≡ true
  -- no pair of a later column is higher than one of an earlier
  pub falls : (a b x z y w : ℕ) → x < z → lighted a b x y ≡ true → lighted a b z w ≡ true → w ≤ y
  -- and the next column goes on at most one step lower than the lowest pair of this one
  pub next : (a b x y : ℕ) → x < a → lighted a b x y ≡ true → (0 < y → lighted a b x (y - 1) ≡ false) → (w : ℕ) × (y ≤ w + 1) × (lighted a b (x + 1) w ≡ true)
  -- what lies left of a pair lies below one too, and the other way round: so filling by rows and by columns is the same
  pub above : (a b x z y : ℕ) → x ≤ z → lighted a b z y ≡ true → (w : ℕ) × (y ≤ w) × (lighted a b x w ≡ true)
  pub beside : (a b x y w : ℕ) → y ≤ w → lighted a b x w ≡ true → (z : ℕ) × (x ≤ z) × (lighted a b z y ≡ true)
  -- `pairs` is what its comment says
  pub listed : (a b : ℕ) → Listed a b (pairs a b)
