use Rattle.std.proofs.Common.{◌-◌, ◌++◌, drop, refl, ap, ◌∙◌, arith}
use Rattle.std.proofs.lemmas.List.{take-append-drop}
use Rattle.strip.proofs.StripPlate.ask.Goals as goal

pub returns-clause-same : goal.returns-clause-same
returns-clause-same c =
    let rs = c.args.self.now.records.now in
    let n = c.min-used.result in record {
      lent = refl;
      bounds = refl;
      records = ap (λ zs. zs ++ drop (n - 0) rs) c.lit_by.ensures.same ∙ take-append-drop (n - 0) rs;
      used = omega arith;
      room = omega arith;
      visible = tt;
    }
