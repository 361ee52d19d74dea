use Rattle.std.proofs.Common.{◌+◌, ◌-◌, ◌<◌, [], ◌∷◌, subst, arith}
use Rattle.figure.specs.Lines.{longer, line_dot, line_dots, dots_from}
use Rattle.figure.proofs.Walks.{start, turn, finish, all_dots, next_dot, no_dot}
use Rattle.figure.proofs.lines.walk_line.Goals as goal

pub loop-k-init : goal.loop-k-init
loop-k-init g c = start g.V.Visitor.laws _ _ _ (all_dots c.args.line.from.at c.args.line.to.at)

pub loop-k-preserved : goal.loop-k-preserved
loop-k-preserved g c =
    let dot = line_dot c.args.line.from.at c.args.line.to.at in
    let n = longer c.args.line.from.at c.args.line.to.at + 1 in
    let k = c.loop-k.k in
    let less : k < n = omega arith in
    turn g.V.Visitor.laws _ _ _ (dot k ∷ []) (dots_from dot (k + 1) (n - (k + 1))) (dots_from dot k (n - k)) (line_dots c.args.line.from.at c.args.line.to.at) c.loop-k.invariant (next_dot dot k n less)
    (subst (λ p. g.V.Visitor.visits c.loop-k.visitor (p ∷ []) c.visit.new.self) c.dot.ensures c.visit.ensures)

pub returns : goal.returns
returns g c =
    let dot = line_dot c.args.line.from.at c.args.line.to.at in
    let n = longer c.args.line.from.at c.args.line.to.at + 1 in
    finish g.V.Visitor.laws _ _ _ _ c.loop-k.invariant (no_dot dot c.loop-k.k n (omega arith))
