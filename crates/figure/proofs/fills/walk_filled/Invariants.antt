use Rattle.std.proofs.Common.{◌≡◌, ℕ, ◌+◌, ◌-◌, ◌*◌, ◌≤◌, pos, ◌+ℤ◌, ◌-ℤ◌}
use Rattle.figure.specs.Fills.{fill_rows, filled_dots}
use Rattle.figure.specs.Reaches.{SeeksFrom}
use Rattle.figure.proofs.Reaches.{row_at}
use Rattle.figure.proofs.Walks.{Walked}
use Rattle.figure.proofs.fills.walk_filled.Given as goal

-- k rows are handed over
abbrev pub invariant-loop-y : goal.invariant-loop-y
invariant-loop-y g l =
    (k : ℕ) × (l.y ≡ l.fn.centre.at.1 -ℤ pos l.axes.ellipse.b +ℤ pos k) × (k ≤ 2 * l.axes.ellipse.b)
    × SeeksFrom l.axes.ellipse.a l.axes.ellipse.b (row_at l.axes.ellipse.b k) l.reach
    × Walked g.V.Visitor.visits l.initial.visitor l.visitor
    (fill_rows l.fn.centre.at l.axes.ellipse.a l.axes.ellipse.b (row_at l.axes.ellipse.b k) (2 * l.axes.ellipse.b + 1 - k))
    (filled_dots l.fn.centre.at l.axes.ellipse.a l.axes.ellipse.b)
