use Rattle.std.proofs.Common.{refl}
use Rattle.figure.proofs.Calls.{too_few, struck_all}
use Rattle.figure.proofs.shapes.strike_all.Goals as goal

pub returns-then-seen-shots-clause-history : goal.returns-then-seen-shots-clause-history
returns-then-seen-shots-clause-history g c =
    (too_few g.P.Plate.laws _ _ _ _ _ c.args.ink _ _ refl c.count-seen.ensures.same c.shots.ensures.same c.count-seen.ensures.value c.shots.ensures.value c.if-seen-shots.true).history

pub returns-clause-history : goal.returns-clause-history
returns-clause-history g c =
    (struck_all g.P.Plate.laws _ _ _ _ _ c.args.ink _ _ refl c.count-seen.ensures.same c.shots.ensures.same c.count-seen.ensures.value c.shots.ensures.value _ c.if-seen-shots.false c.strike.ensures).history
