use Rattle.std.proofs.Common.{◌≡◌, ◌+◌, ◌-◌, ◌≤◌, drop}
use Rattle.ellipse.proofs.Places.{Place, coming}
use Rattle.figure.specs.Corners.{corners_dots, all_corners}
use Rattle.figure.specs.Outlines.{outline_dots}
use Rattle.figure.proofs.Kept.{pair_dots}
use Rattle.figure.proofs.Walks.{Walked}
use Rattle.figure.proofs.outlines.walk_outline.Given as goal

abbrev pub invariant-pairs : goal.invariant-pairs
invariant-pairs g l =
    Place l.ellipse.a l.ellipse.b l.x l.y
    × Walked g.V.Visitor.visits l.initial.visitor l.visitor (pair_dots l.centre.at (coming l.ellipse.a l.ellipse.b l.x l.y)) (outline_dots l.centre.at l.ellipse.a l.ellipse.b)

abbrev pub decreases-pairs : goal.decreases-pairs
decreases-pairs g l = (l.ellipse.a - l.x) + l.y

abbrev pub invariant-seek : goal.invariant-seek
invariant-seek g l =
    Place l.ellipse.a l.ellipse.b l.x l.y
    × (coming l.ellipse.a l.ellipse.b l.x l.initial.y ≡ coming l.ellipse.a l.ellipse.b l.x l.y)
    × (l.y ≤ l.initial.y)

abbrev pub decreases-seek : goal.decreases-seek
decreases-seek g l = l.y

abbrev pub invariant-loop-corner : goal.invariant-loop-corner
invariant-loop-corner g l =
    Walked g.V.Visitor.visits l.initial.visitor l.visitor (corners_dots l.centre.at l.pair (drop l.corner-index all_corners)) (corners_dots l.centre.at l.pair all_corners)
