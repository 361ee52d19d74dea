use Rattle.std.proofs.Common.{refl}
use Rattle.figure.proofs.Strokes.{struck_one}
use Rattle.figure.proofs.visits.StrikerVisitor.visit.Goals as goal

pub returns-then-is_some : goal.returns-then-is_some
returns-then-is_some g c =
    record { lent = refl; held = refl; struck = struck_one g.P.Plate.laws _ _ _ c.args.at _ c.ask.ensures.same c.strike.ensures.history }
