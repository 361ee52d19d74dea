-- What one visit of a striker does.
use Rattle.std.proofs.Common.{◌≡◌, ℕ, zero, suc, ◌+◌, Bool, cond, eqb, List, [], ◌∷◌, take, sym, refl, ap, ◌∙◌, subst, inl, inr, arith}
use Rattle.std.proofs.lemmas.Bool.{cases_Bool, cond-false, ne_eqb}
use Rattle.plate.specs.declared.Ink.{Ink}
use Rattle.plate.specs.declared.Window.{Window}
use Rattle.plate.specs.World.{Dot, inside}
use Rattle.plate.specs.Plates.{Strike, Layer, Meaning, Laws, accepted}
use Rattle.figure.specs.Drawing.{visible, inked_with}

take_none : {X : Type 0} (n : ℕ) → take {A = X} n [] ≡ []
take_none zero = refl
take_none (suc n) = refl

seen_one : (n : ℕ) (p : Dot) (ink : Ink) → cond (eqb n 0) [] ((p, ink) ∷ []) ≡ inked_with ink (take n (p ∷ []))
seen_one zero p ink = refl
seen_one (suc n) p ink = cond-false (eqb (suc n) 0) [] ((p, ink) ∷ []) (ne_eqb (suc n) 0 (λ e. omega arith)) ∙ ap (λ l. (p, ink) ∷ inked_with ink l) (sym (take_none n))

-- a strike of one dot is the strike of the visible ones among this dot
accepted_one : (w : Window) (n : ℕ) (p : Dot) (ink : Ink) → accepted w n (p, ink) ≡ inked_with ink (take n (visible w (p ∷ [])))
accepted_one w n p ink = elim (cases_Bool (inside w p)) [
  | inl t ↦ simp t (seen_one n p ink)
  | inr f ↦ simp f (ap (inked_with ink) (sym (take_none n)))
]

module _ {Q : Type 0} {window : Q → Window} {lit : Q → Dot → Bool} {shots : Q → ℕ} {strikes : Q → List Strike → Q → Type 0} {layers : Q → List Layer} {floor : Q → Meaning} (h : Laws window lit shots strikes layers floor) where
  abbrev pub Reached : Q → Dot → Ink → Q → Type 0
  Reached s p ink t = strikes s (inked_with ink (take (shots s) (visible (window s) (p ∷ [])))) t

  -- a plate that was asked and then struck
  pub struck_one : (s t u : Q) (p : Dot) (ink : Ink) → strikes s [] t → strikes t (accepted (window t) (shots t) (p, ink)) u → Reached s p ink u
  struck_one s t u p ink a b =
      let k = h.after s t [] a in
      let n : shots s ≡ 0 + shots t = k.shots in
      let m : shots t ≡ shots s = omega arith in
      subst (λ zs. strikes s zs u) (ap (λ w. accepted w (shots t) (p, ink)) k.window ∙ ap (λ i. accepted (window s) i (p, ink)) m ∙ accepted_one (window s) (shots s) p ink) (h.join s t u [] (accepted (window t) (shots t) (p, ink)) a b)
