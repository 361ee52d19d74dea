use Rattle.std.proofs.Common.{◌+◌, ◌-ℤ◌, arith, w32, to_z, of_z}
use Rattle.std.proofs.lemmas.Int.{ints}
use Rattle.plate.specs.Windows.{world_orders, orders_within}
use Rattle.figure.proofs.Reaches.{row_within, seeks_first, seeks_at, seeks_after, all_rows, rows_turn, no_row}
use Rattle.figure.proofs.Walks.{start, finish}
use Rattle.figure.proofs.fills.walk_filled.Goals as goal

pub loop-y-init : goal.loop-y-init
loop-y-init g c =
    let w = world_orders c.args.centre.at c.args.centre.worldly in
    let low = c.args.axes.low in
    let e = c.args.axes.ellipse in
    (0, omega (arith, ints), omega arith, seeks_first e.a e.b, start g.V.Visitor.laws _ _ _ (all_rows c.args.centre.at e.a e.b))

pub reach_of_row-reach-requires-clause-rows : goal.reach_of_row-reach-requires-clause-rows
reach_of_row-reach-requires-clause-rows g c =
    let i = c.loop-y.invariant in
    let w = world_orders c.args.centre.at c.args.centre.worldly in
    let low = c.args.axes.low in
    row_within c.args.axes.ellipse.b i.0 (to_z w32 (of_z w32 (to_z w32 c.loop-y.y-bits -ℤ to_z w32 (of_z w32 c.args.centre.at.1)))) (omega (arith, ints)) i.2

pub reach_of_row-reach-requires-clause-seeks : goal.reach_of_row-reach-requires-clause-seeks
reach_of_row-reach-requires-clause-seeks g c =
    let i = c.loop-y.invariant in
    let w = world_orders c.args.centre.at c.args.centre.worldly in
    let low = c.args.axes.low in
    seeks_at c.args.axes.ellipse.a c.args.axes.ellipse.b i.0 c.loop-y.reach _ (omega (arith, ints)) i.3

pub visit_row-requires : goal.visit_row-requires
visit_row-requires g c =
    let w = world_orders c.args.centre.at c.args.centre.worldly in
    orders_within _ (omega (arith, ints), omega (arith, ints))

pub loop-y-preserved : goal.loop-y-preserved
loop-y-preserved g c =
    let i = c.loop-y.invariant in
    let w = world_orders c.args.centre.at c.args.centre.worldly in
    let low = c.args.axes.low in
    let a = c.args.axes.ellipse.a in
    let b = c.args.axes.ellipse.b in
    let r = c.reach_of_row-reach.result in (
      i.0 + 1,
      omega (arith, ints),
      omega (arith, ints),
      seeks_after a b i.0 r (to_z w32 (of_z w32 (to_z w32 c.loop-y.y-bits -ℤ to_z w32 (of_z w32 c.args.centre.at.1)))) (omega (arith, ints)) c.reach_of_row-reach.ensures,
      rows_turn g.V.Visitor.laws c.args.centre.at a b i.0 r _ _ _ (to_z w32 (of_z w32 (to_z w32 c.loop-y.y-bits -ℤ to_z w32 (of_z w32 c.args.centre.at.1)))) _ i.4 (omega (arith, ints)) c.reach_of_row-reach.ensures (omega (arith, ints)) (omega (arith, ints)) (omega (arith, ints)) c.visit_row.ensures,
    )

pub returns : goal.returns
returns g c =
    let i = c.loop-y.invariant in
    let w = world_orders c.args.centre.at c.args.centre.worldly in
    let low = c.args.axes.low in
    absurd (omega (arith, ints))

pub returns-2 : goal.returns-2
returns-2 g c =
    let i = c.loop-y.invariant in
    let w = world_orders c.args.centre.at c.args.centre.worldly in
    let low = c.args.axes.low in
    let a = c.args.axes.ellipse.a in
    let b = c.args.axes.ellipse.b in
    finish g.V.Visitor.laws _ _ _ _
    (rows_turn g.V.Visitor.laws c.args.centre.at a b i.0 c.reach_of_row-reach.result _ _ _ (to_z w32 (of_z w32 (to_z w32 c.loop-y.y-bits -ℤ to_z w32 (of_z w32 c.args.centre.at.1)))) _ i.4 (omega (arith, ints)) c.reach_of_row-reach.ensures (omega (arith, ints)) (omega (arith, ints)) (omega (arith, ints)) c.visit_row.ensures)
    (no_row c.args.centre.at a b (i.0 + 1) (omega (arith, ints)))
