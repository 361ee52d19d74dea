use Rattle.std.proofs.Common.{◌+◌, ◌-◌}
use Rattle.figure.specs.Lines.{longer, line_dot, line_dots, dots_from}
use Rattle.figure.proofs.Walks.{Walked}
use Rattle.figure.proofs.lines.walk_line.Given as goal

abbrev pub invariant-loop-k : goal.invariant-loop-k
invariant-loop-k g l =
    Walked g.V.Visitor.visits l.initial.visitor l.visitor
    (dots_from (line_dot l.line.from.at l.line.to.at) l.k (longer l.line.from.at l.line.to.at + 1 - l.k))
    (line_dots l.line.from.at l.line.to.at)
