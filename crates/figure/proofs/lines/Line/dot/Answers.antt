use Rattle.std.proofs.Common.{◌≡◌, ℕ, ap, ◌∙◌, w32, SFits, rules}
use Rattle.std.proofs.lemmas.Int.{to_z-of_z}
use Rattle.figure.specs.Lines.{gap, steps_made, line_dot}
use Rattle.figure.proofs.Crossings.{moved_toward}
use Rattle.figure.proofs.lines.Line.dot.Goals as goal

pub returns : goal.returns
returns c =
    let p = c.args.self.from.at in
    let q = c.args.self.to.at in
    let px : SFits w32 p.0 = search rules in
    let py : SFits w32 p.1 = search rules in
    let qx : SFits w32 q.0 = search rules in
    let qy : SFits w32 q.1 = search rules in
    let made : c.steps-steps.result ≡ steps_made (gap p.0 q.0) (gap p.1 q.1) c.args.k = cc in
    let x = moved_toward p.0 q.0 _ _ (steps_made (gap p.0 q.0) (gap p.1 q.1) c.args.k).0 _ _ (to_z-of_z w32 p.0 px) (to_z-of_z w32 q.0 qx) (ap (λ (m : ℕ × ℕ). m.0) made) c.moved.ensures.across in
    let y = moved_toward p.1 q.1 _ _ (steps_made (gap p.0 q.0) (gap p.1 q.1) c.args.k).1 _ _ (to_z-of_z w32 p.1 py) (to_z-of_z w32 q.1 qy) (ap (λ (m : ℕ × ℕ). m.1) made) c.moved.ensures.along in
    ap (λ z. (z, c.moved.result.1)) x ∙ ap (λ z. ((line_dot p q c.args.k).0, z)) y
