use Rattle.scale.specs.Scale.{Spent}
use Rattle.scale.proofs.mark_scale.Given as goal

abbrev pub invariant-loop-step : goal.invariant-loop-step
invariant-loop-step g l = Spent l.initial.tally.dots (g.P.Plate.shots l.initial.plate) l.tally.dots (g.P.Plate.shots l.plate)
