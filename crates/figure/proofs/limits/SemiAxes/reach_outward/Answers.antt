use Rattle.std.proofs.Common.{◌≡◌, true, false, ap, subst, is_some, rules, tests}
use Rattle.std.proofs.lemmas.Iterator.{first_from_Range}
use Rattle.figure.specs.Reaches.{IsReach}
use Rattle.figure.proofs.Reaches.{is_last, found}
use Rattle.figure.proofs.limits.SemiAxes.reach_outward.Goals as goal

pub unwrap-requires : goal.unwrap-requires
unwrap-requires c =
    let e = c.args.self.ellipse in
    let first = first_from_Range _ _ _ _ (λ x. is_last e.a e.b c.args.y x ≡ true) (λ x. is_last e.a e.b c.args.y x ≡ false) c.find.ensures.ran
    (λ x q k. search (rules, tests))
    (λ x q k. (search rules, search (rules, tests))) in
    ap is_some (found e.a e.b c.args.y c.args.from c.requires.0 c.requires.1 c.requires.2 c.find.result first).1

pub returns : goal.returns
returns c =
    let e = c.args.self.ellipse in
    let first = first_from_Range _ _ _ _ (λ x. is_last e.a e.b c.args.y x ≡ true) (λ x. is_last e.a e.b c.args.y x ≡ false) c.find.ensures.ran
    (λ x q k. search (rules, tests))
    (λ x q k. (search rules, search (rules, tests))) in
    let seen = found e.a e.b c.args.y c.args.from c.requires.0 c.requires.1 c.requires.2 c.find.result first in
    let same : seen.0 ≡ c.unwrap.result = cc in
    subst (IsReach e.a e.b c.args.y) same seen.2
