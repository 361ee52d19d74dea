-- The dots of a filled ellipse.
use Rattle.std.specs.Prelude.{ℕ, zero, suc, ◌+◌, ◌-◌, ◌*◌, Bool, false, cond, ◌||◌, List, [], ◌∷◌, ◌++◌, ℤ, pos, ◌+ℤ◌, neg_ℤ, unsigned_abs}
use Rattle.plate.specs.World.{Dot}
use Rattle.ellipse.specs.Ellipses.{lighted}

-- some pair (z, y) with x ≤ z < x + n is lighted
abbrev pub covered : ℕ → ℕ → ℕ → ℕ → ℕ → Bool
covered a b y x zero = false
covered a b y x (suc n) = lighted a b x y || covered a b y (suc x) n

-- some pair (z, y) with z ≥ x is lighted: none lies past a
unfoldable pub filled_pair : ℕ → ℕ → ℕ → ℕ → Bool
filled_pair a b x y = covered a b y x (suc a - x)

-- of the n columns from dx on, the dots of the row dy whose pair is filled
abbrev pub fill_row : Dot → ℕ → ℕ → ℤ → ℤ → ℕ → List Dot
fill_row c a b dy dx zero = []
fill_row c a b dy dx (suc n) =
    cond (filled_pair a b (unsigned_abs dx) (unsigned_abs dy))
    ((c.0 +ℤ dx, c.1 +ℤ dy) ∷ fill_row c a b dy (dx +ℤ pos 1) n)
    (fill_row c a b dy (dx +ℤ pos 1) n)

-- n rows from dy on, each from the column −a to the column a
abbrev pub fill_rows : Dot → ℕ → ℕ → ℤ → ℕ → List Dot
fill_rows c a b dy zero = []
fill_rows c a b dy (suc n) = fill_row c a b dy (neg_ℤ (pos a)) (2 * a + 1) ++ fill_rows c a b (dy +ℤ pos 1) n

-- the rows by rising y, each by rising x
unfoldable pub filled_dots : Dot → ℕ → ℕ → List Dot
filled_dots c a b = fill_rows c a b (neg_ℤ (pos b)) (2 * b + 1)
