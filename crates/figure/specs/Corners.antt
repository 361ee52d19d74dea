-- The four dots of a pair as the walk goes over them, corner by corner. No public contract cites this.
use Rattle.std.specs.Prelude.{ℕ, Bool, true, false, cond, not, ◌&&◌, List, [], ◌∷◌, pos, ◌+ℤ◌, ◌-ℤ◌, ◌==◌}
use Rattle.std.specs.List.{flat_map}
use Rattle.plate.specs.World.{Dot}
use Rattle.figure.specs.declared.outlines.Corner.{Corner}
use Rattle.figure.specs.declared.outlines.Corner.TheVariants.{RightBelow, LeftBelow, LeftAbove, RightAbove}

-- whether the dot at a corner lies to the left of the centre, and whether above it
abbrev pub signs : Corner → Bool × Bool
signs RightBelow = (false, false)
signs LeftBelow = (true, false)
signs LeftAbove = (true, true)
signs RightAbove = (false, true)

-- whether no corner before names the same dot
abbrev pub fresh : ℕ × ℕ → Corner → Bool
fresh p RightBelow = true
fresh p LeftBelow = not (p.0 == 0)
fresh p LeftAbove = not (p.1 == 0)
fresh p RightAbove = not (p.0 == 0) && not (p.1 == 0)

abbrev pub corner : Dot → ℕ × ℕ → Corner → Dot
corner c p s = (
  cond (signs s).0 (c.0 -ℤ pos p.0) (c.0 +ℤ pos p.0),
  cond (signs s).1 (c.1 -ℤ pos p.1) (c.1 +ℤ pos p.1),
)

-- what a corner adds, and what corners one after another add
abbrev pub corner_dots : Dot → ℕ × ℕ → Corner → List Dot
corner_dots c p s = cond (fresh p s) (corner c p s ∷ []) []

abbrev pub corners_dots : Dot → ℕ × ℕ → List Corner → List Dot
corners_dots c p ss = flat_map (corner_dots c p) ss

abbrev pub all_corners : List Corner
all_corners = RightBelow ∷ LeftBelow ∷ LeftAbove ∷ RightAbove ∷ []
