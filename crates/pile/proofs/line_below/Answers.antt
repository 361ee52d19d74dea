use Rattle.std.proofs.Common.{[]}
use Rattle.pile.proofs.line_below.Goals as goal

-- two questions one after the other change nothing
pub returns-in_err-carry-2-clause-same : goal.returns-in_err-carry-2-clause-same
returns-in_err-carry-2-clause-same g c = g.P.Plate.laws.join _ _ _ [] [] c.carry.ensures.same c.carry-2.ensures.same

pub returns-clause-same : goal.returns-clause-same
returns-clause-same g c = g.P.Plate.laws.join _ _ _ [] [] c.carry.ensures.same c.carry-2.ensures.same
