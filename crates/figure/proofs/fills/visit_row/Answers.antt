use Rattle.std.proofs.Common.{◌+◌, ◌*◌, arith, w32, SFits, rules}
use Rattle.std.proofs.lemmas.Int.{ints}
use Rattle.plate.specs.Windows.{within_orders}
use Rattle.figure.specs.Reaches.{row_dot}
use Rattle.figure.proofs.Walks.{row_turn, finish, no_dot}
use Rattle.figure.proofs.fills.visit_row.Goals as goal

pub loop-x-preserved : goal.loop-x-preserved
loop-x-preserved g c =
    let i = c.loop-x.invariant in
    let w = within_orders c.args.middle.0 c.requires in
    let few = c.ranges.reach in
    let fy : SFits w32 c.args.middle.1 = search rules in
    (i.0 + 1, omega (arith, ints), omega (arith, ints), row_turn g.V.Visitor.laws c.args.middle.0 c.args.middle.1 c.args.reach i.0 _ _ _ _ _ i.3 (omega (arith, ints)) (omega (arith, ints)) (omega (arith, ints)) c.visit.ensures)

pub returns-2 : goal.returns-2
returns-2 g c =
    let i = c.loop-x.invariant in
    let w = within_orders c.args.middle.0 c.requires in
    let few = c.ranges.reach in
    let fy : SFits w32 c.args.middle.1 = search rules in
    finish g.V.Visitor.laws _ _ _ _
    (row_turn g.V.Visitor.laws c.args.middle.0 c.args.middle.1 c.args.reach i.0 _ _ _ _ _ i.3 (omega (arith, ints)) (omega (arith, ints)) (omega (arith, ints)) c.visit.ensures)
    (no_dot (row_dot c.args.middle.0 c.args.middle.1 c.args.reach) (i.0 + 1) (2 * c.args.reach + 1) (omega (arith, ints)))
