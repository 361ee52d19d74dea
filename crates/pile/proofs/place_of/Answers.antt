use Rattle.std.proofs.Common.{◌∙◌}
use Rattle.pile.proofs.Maps.{map_laws}
use Rattle.pile.proofs.Carrying.{carry_true, carry_deep}
use Rattle.pile.proofs.place_of.Goals as goal

pub returns-clause-exact : goal.returns-clause-exact
returns-clause-exact g c = let laws = g.P.Plate.laws in λ h o. c.carry.ensures.value ∙ carry_true _ _ _ c.args.at (laws.sees _) (laws.framed_below _) (laws.framed _) h o

pub returns-clause-deep : goal.returns-clause-deep
returns-clause-deep g c = λ h d. c.carry.ensures.value ∙ carry_deep _ c.args.at (g.P.Plate.laws.near _) h d

pub returns-clause-maps : goal.returns-clause-maps
returns-clause-maps g c = map_laws _
