-- The dots of an outline.
use Rattle.std.specs.Prelude.{ℕ, Bool, cond, ◌&&◌, List, [], ◌∷◌, ℤ, pos, ◌+ℤ◌, ◌-ℤ◌, Some, None, Option, int_le}
use Rattle.std.specs.List.{flat_map}
use Rattle.plate.specs.World.{Dot, world}
use Rattle.ellipse.specs.Ellipses.{pairs}
use Rattle.figure.specs.Drawing.{has}

-- the four dots of a pair about a centre: the signs go ++, −+, −−, +−
abbrev pub corners : Dot → ℕ × ℕ → List Dot
corners c p =
    (c.0 +ℤ pos p.0, c.1 +ℤ pos p.1)
    ∷ (c.0 -ℤ pos p.0, c.1 +ℤ pos p.1)
    ∷ (c.0 -ℤ pos p.0, c.1 -ℤ pos p.1)
    ∷ (c.0 +ℤ pos p.0, c.1 -ℤ pos p.1)
    ∷ []

-- dots in their order, those left out that were named before
abbrev pub once : List Dot → List Dot → List Dot
once named [] = []
once named (p ∷ ps) = cond (has p named) (once named ps) (p ∷ once (p ∷ named) ps)

-- pair after pair, the four dots of each
unfoldable pub outline_dots : Dot → ℕ → ℕ → List Dot
outline_dots c a b = flat_map (λ p. once [] (corners c p)) (pairs a b)

-- a semi-axis from 0 to 4,095
unfoldable pub semi_axis : ℤ → Bool
semi_axis n = int_le (pos 0) n && int_le n (pos 4095)

-- the first cause in an ellipse's own numbers: 1 for its centre, next 2 for its semi-axes
abbrev pub ellipse_cause : Dot → ℤ → ℤ → Option ℕ
ellipse_cause c a b = cond (world c) (cond (semi_axis a && semi_axis b) None (Some 2)) (Some 1)
