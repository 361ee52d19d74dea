-- How far the rows of a filled ellipse go. No public contract cites this.
use Rattle.std.specs.Prelude.{◌≡◌, ℕ, ◌≤◌, true, ℤ, pos, ◌+ℤ◌, ◌-ℤ◌, ◌≤ℤ◌, unsigned_abs}
use Rattle.plate.specs.World.{Dot}
use Rattle.ellipse.specs.Ellipses.{lighted}

-- r is the largest x of the lighted pairs of the row y
pub record IsReach (a b y r : ℕ) : Type 0 where
  pub lit : lighted a b r y ≡ true
  pub last : (u : ℕ) → lighted a b u y ≡ true → u ≤ r

-- where to seek the reach of the row dy below the centre from: within the width, not past it down to the centre, and not short of it after
pub record SeeksFrom (a b : ℕ) (dy : ℤ) (r : ℕ) : Type 0 where
  pub narrow : r ≤ a
  pub outward : dy ≤ℤ pos 0 → (u : ℕ) → IsReach a b (unsigned_abs dy) u → r ≤ u
  pub inward : pos 1 ≤ℤ dy → (u : ℕ) → IsReach a b (unsigned_abs dy) u → u ≤ r

-- the k-th dot of a row with the reach r about (x, y)
abbrev pub row_dot : ℤ → ℤ → ℕ → ℕ → Dot
row_dot x y r k = (x -ℤ pos r +ℤ pos k, y)
