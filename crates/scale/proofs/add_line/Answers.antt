use Rattle.std.proofs.Common.{arith, Ok}
use Rattle.figure.proofs.Totals.{call_total}
use Rattle.scale.proofs.add_line.Goals as goal

pub returns : goal.returns
returns g c =
    let told = c.in_ok-dots.ensures in
    let total = call_total g.P.Plate.laws _ _ _ _ _ (Ok c.in_ok-dots.dots) told.answer told.history in
    λ few. omega arith
