use Rattle.std.proofs.Common.{◌≡◌, ℕ, Bool, true, false, cond, eqb, get_or, replicate, refl, ap, ◌∙◌, inl, inr}
use mathlib.Core.Path.{fun_ext}
use lib.ListN.{length-replicate}
use Rattle.std.proofs.lemmas.List.{get_or-replicate, get_or_past}
use Rattle.std.proofs.lemmas.Bool.{cases_lt}
use Rattle.plate.specs.Plates.{meaning}
use Rattle.cached.specs.Holding.{frame, cell_of}
use Rattle.cached.proofs.Cached.new.Goals as goal

unlit : (n i : ℕ) → get_or (replicate n false) i false ≡ false
unlit n i = elim (cases_lt i n) [
  | inl h ↦ get_or-replicate n i false false h
  | inr h ↦ get_or_past (replicate n false) i false (simp length-replicate h)
]

either : (b : Bool) → cond b false false ≡ false
either true = refl
either false = refl

pub returns : goal.returns
returns c = ap (λ lit. meaning frame lit c.args.shots) (fun_ext (λ p. ap (cond (eqb (cell_of p) 0) false) (unlit 256 (cell_of p)) ∙ either (eqb (cell_of p) 0)))
