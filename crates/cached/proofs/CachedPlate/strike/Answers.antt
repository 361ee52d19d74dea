use Rattle.std.proofs.Common.{◌-◌, [], ◌∷◌, sym, refl, ap, ◌∙◌, subst, arith, Ok, Err}
use Rattle.plate.specs.Plates.{Strike, After}
use Rattle.cached.specs.declared.Cached.{Cached}
use Rattle.cached.specs.Holding.{cached_meaning, lit_at}
use Rattle.cached.proofs.Cells.{chosen, ink_held, goes}
use Rattle.cached.proofs.CachedPlate.strike.Goals as goal

pub returns : goal.returns
returns c =
    let s = c.args.self.now in
    let u = c.hold.new.self in
    let t : Cached = record { cells = u.cells; held = u.held; lit = c.over-self.result; shots = u.shots - 1 } in
    let k : Strike = (c.args.at, c.args.ink) in
    let f = chosen k.0 c.in-Some.cell c.in-Some.ensures in
    let left = c.if-self-eq0.false in
    let h = c.hold.ensures in
    let e = h.shots in
    record {
      answer = sym (goes k.0 s.shots (Err 21) (Ok tt) (Err 20) f.0 left);
      history = subst (λ ks. After ks (cached_meaning s) (cached_meaning t)) (sym (goes k.0 s.shots [] (k ∷ []) [] f.0 left)) (record {
        window = refl;
        lit = ink_held s u k c.over-self.result f.0 (h.held ∙ f.1) (h.lit ∙ ap (lit_at s) f.1) h.same c.over-self.ensures;
        shots = omega arith;
      });
    }
