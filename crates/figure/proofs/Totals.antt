-- The shots that a call takes are the dots that it reports.
use Rattle.std.proofs.Common.{◌≡◌, ℕ, ◌+◌, Bool, true, false, cond, leb, List, [], length, Some, None, Option, sym, refl, ap, ◌∙◌, Result, Ok, Err}
use Rattle.std.proofs.lemmas.List.{length-map}
use Rattle.plate.specs.declared.Ink.{Ink}
use Rattle.plate.specs.declared.Window.{Window}
use Rattle.plate.specs.World.{Dot}
use Rattle.plate.specs.Plates.{Strike, Layer, Meaning, Laws}
use Rattle.figure.specs.Drawing.{visible, inked_with, figure_answer, figure_strikes, reported}

struck_length : (enough : Bool) (ps : List Dot) (ink : Ink) → length (cond enough (inked_with ink ps) []) ≡ reported (cond enough (Ok (length ps)) (Err 22))
struck_length true ps ink = length-map ps (λ p. (p, ink))
struck_length false ps ink = refl

call_length : (cause : Option ℕ) (dots : List Dot) (w : Window) (shots : ℕ) (ink : Ink) → length (figure_strikes cause dots w shots ink) ≡ reported (figure_answer cause dots w shots)
call_length (Some number) dots w shots ink = refl
call_length None dots w shots ink = struck_length (leb (length (visible w dots)) shots) (visible w dots) ink

pub call_total : {Q : Type 0} {window : Q → Window} {lit : Q → Dot → Bool} {shots : Q → ℕ} {strikes : Q → List Strike → Q → Type 0} {layers : Q → List Layer} {floor : Q → Meaning} (h : Laws window lit shots strikes layers floor) (s t : Q) (cause : Option ℕ) (dots : List Dot) (ink : Ink) (answer : Result ℕ ℕ) → answer ≡ figure_answer cause dots (window s) (shots s) → strikes s (figure_strikes cause dots (window s) (shots s) ink) t → shots s ≡ reported answer + shots t
call_total {window = window} {shots = shots} h s t cause dots ink answer e k = (h.after s t (figure_strikes cause dots (window s) (shots s) ink) k).shots ∙ ap (λ n. n + shots t) (call_length cause dots (window s) (shots s) ink ∙ ap reported (sym e))
