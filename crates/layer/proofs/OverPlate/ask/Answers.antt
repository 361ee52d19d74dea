use Rattle.std.proofs.Common.{w32, ◌∙◌}
use Rattle.std.proofs.lemmas.Int.{to_z-of_z}
use Rattle.layer.proofs.Opening.{asked_opened, opened_fits}
use Rattle.layer.proofs.OverPlate.ask.Goals as goal

-- by the two numbers of the place, though the check finds a proof by itself: so an edit that exchanges them is refused for them alone
pub returns-clause-value : goal.returns-clause-value
returns-clause-value g c =
    let s = c.args.self.now in
    let l = g.L.Overlay.layer s.layer in
    let place = c.in_ok-place.place in
    let opened = c.in_ok-place.ensures in
    let fits = opened_fits l c.args.at place (g.L.Overlay.small s.layer) opened in
    let across = to_z-of_z w32 place.0 fits.0 in
    let along = to_z-of_z w32 place.1 fits.1 in
    c.ask.ensures.value ∙ asked_opened l (g.P.Plate.window s.below) (g.P.Plate.lit s.below) c.args.at place _ opened (cc) (cc)
