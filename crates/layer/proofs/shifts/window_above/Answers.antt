use Rattle.std.proofs.Common.{ap, ◌∙◌}
use Rattle.std.proofs.lemmas.Int.{to_z-of_z}
use Rattle.plate.specs.Plates.{shift}
use Rattle.layer.specs.Views.{view}
use Rattle.layer.proofs.Bounds.{within_fits, apart_fits, together_fits, near_across, near_along}
use Rattle.layer.proofs.shifts.window_above.Goals as goal

-- `together_fits` serves no step here: an edit adds where this subtracts, and is to be refused for the window alone
pub returns : goal.returns
returns c =
    let dx = c.args.dx in
    let dy = c.args.dy in
    let across = c.spans.result.0 in
    let along = c.spans.result.1 in
    let x = near_across dx dy c.requires in
    let y = near_along dx dy c.requires in
    let is = simp (to_z-of_z, together_fits across.low dx across.low_near x, within_fits dx x, within_fits dy y, within_fits across.low across.low_near, within_fits across.high across.high_near, within_fits along.low along.low_near, within_fits along.high along.high_near, apart_fits across.low dx across.low_near x, apart_fits across.high dx across.high_near x, apart_fits along.low dy along.low_near y, apart_fits along.high dy along.high_near y) at c.clipped.ensures in
    is ∙ ap (view (shift dx dy)) c.spans.ensures
