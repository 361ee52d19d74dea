use Rattle.std.proofs.Common.{ap, ◌∙◌}
use Rattle.plate.specs.World.{window_of}
use Rattle.layer.specs.Views.{view}
use Rattle.layer.proofs.Bounds.{window_of_framed}
use Rattle.layer.proofs.OverPlate.window.Goals as goal

pub returns-clause-value : goal.returns-clause-value
returns-clause-value g c =
    let s = c.args.self.now in
    let seen = view (g.L.Overlay.layer s.layer) in
    c.view.ensures ∙ ap (λ w. seen (window_of w)) c.window-below.ensures.value ∙ ap seen (window_of_framed (g.P.Plate.window s.below) (g.P.Plate.laws.framed s.below))
