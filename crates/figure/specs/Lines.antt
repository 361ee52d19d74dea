-- The dots of a line.
use Rattle.std.specs.Prelude.{ℕ, zero, suc, ◌+◌, ◌*◌, ◌/◌, max, cond, ◌&&◌, List, [], ◌∷◌, ℤ, pos, ◌+ℤ◌, ◌-ℤ◌, Some, None, Option, ◌==◌, int_le, nat_le, unsigned_abs}
use Rattle.plate.specs.World.{Dot, world}

-- a difference without its sign
abbrev pub gap : ℤ → ℤ → ℕ
gap a b = unsigned_abs (a -ℤ b)

-- k steps from a toward b
unfoldable pub toward : ℤ → ℤ → ℕ → ℤ
toward a b k = cond (int_le a b) (a +ℤ pos k) (a -ℤ pos k)

-- the steps along the shorter difference d when k of the longer D are made: k d / D to the nearest, halves upward
unfoldable pub across : ℕ → ℕ → ℕ → ℕ
across D d k = cond (D == 0) 0 ((2 * k * d + D) / (2 * D))

-- the steps along x and along y when k steps along the longer difference are made
unfoldable pub steps_made : ℕ → ℕ → ℕ → ℕ × ℕ
steps_made wide tall k = cond (nat_le tall wide) (k, across wide tall k) (across tall wide k, k)

-- the longer of the differences between two dots
abbrev pub longer : Dot → Dot → ℕ
longer p q = max (gap p.0 q.0) (gap p.1 q.1)

-- the dot of a line after k steps along the longer difference, each toward the end
abbrev pub line_dot : Dot → Dot → ℕ → Dot
line_dot p q k =
    let made = steps_made (gap p.0 q.0) (gap p.1 q.1) k in
    (toward p.0 q.0 made.0, toward p.1 q.1 made.1)

-- n dots, of the steps from k on
abbrev pub dots_from : (ℕ → Dot) → ℕ → ℕ → List Dot
dots_from dot k zero = []
dots_from dot k (suc n) = dot k ∷ dots_from dot (suc k) n

-- a line's dots, from its first end to its last
unfoldable pub line_dots : Dot → Dot → List Dot
line_dots p q = dots_from (line_dot p q) 0 (longer p q + 1)

-- both ends are dots of the world
abbrev pub line_cause : Dot → Dot → Option ℕ
line_cause p q = cond (world p && world q) None (Some 1)
