use Rattle.std.proofs.Common.{◌≡◌, ℕ, ◌+◌, ◌-◌, ◌*◌, ◌≤◌, pos, ◌+ℤ◌, ◌-ℤ◌}
use Rattle.figure.specs.Lines.{dots_from}
use Rattle.figure.specs.Reaches.{row_dot}
use Rattle.figure.proofs.Walks.{Walked}
use Rattle.figure.proofs.fills.visit_row.Given as goal

-- k dots of the row are handed over
abbrev pub invariant-loop-x : goal.invariant-loop-x
invariant-loop-x g l =
    (k : ℕ) × (l.x ≡ l.middle.0 -ℤ pos l.fn.reach +ℤ pos k) × (k ≤ 2 * l.fn.reach + 1)
    × Walked g.V.Visitor.visits l.initial.visitor l.visitor
    (dots_from (row_dot l.middle.0 l.middle.1 l.fn.reach) k (2 * l.fn.reach + 1 - k))
    (dots_from (row_dot l.middle.0 l.middle.1 l.fn.reach) 0 (2 * l.fn.reach + 1))
