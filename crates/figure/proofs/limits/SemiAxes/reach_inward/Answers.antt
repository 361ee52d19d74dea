use Rattle.std.proofs.Common.{◌≡◌, true, false, ap, subst, is_some, rules, tests}
use Rattle.ellipse.specs.Ellipses.{lighted}
use Rattle.figure.specs.Reaches.{IsReach}
use Rattle.figure.proofs.Backward.{last_from_Range}
use Rattle.figure.proofs.Reaches.{found_back}
use Rattle.figure.proofs.limits.SemiAxes.reach_inward.Goals as goal

pub unwrap-requires : goal.unwrap-requires
unwrap-requires c =
    let e = c.args.self.ellipse in
    let i = c.requires.reaches in
    let last = last_from_Range _ (λ x. lighted e.a e.b x c.args.y ≡ true) (λ x. lighted e.a e.b x c.args.y ≡ false)
    (λ x q k. search (rules, tests))
    (λ x q k. (search rules, search (rules, tests)))
    _ _ _ c.rfind.ensures.ran in
    ap is_some (found_back e.a e.b c.args.y c.args.from i.0 i.1 i.2 c.rfind.result last).1

pub returns : goal.returns
returns c =
    let e = c.args.self.ellipse in
    let i = c.requires.reaches in
    let last = last_from_Range _ (λ x. lighted e.a e.b x c.args.y ≡ true) (λ x. lighted e.a e.b x c.args.y ≡ false)
    (λ x q k. search (rules, tests))
    (λ x q k. (search rules, search (rules, tests)))
    _ _ _ c.rfind.ensures.ran in
    let seen = found_back e.a e.b c.args.y c.args.from i.0 i.1 i.2 c.rfind.result last in
    let same : seen.0 ≡ c.unwrap.result = cc in
    subst (IsReach e.a e.b c.args.y) same seen.2
