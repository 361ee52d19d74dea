-- Proofs: visitors of a plate keep the laws of visitors. Nothing here needs to be believed.
use Rattle.std.specs.Prelude.{◌≡◌, ℕ, zero, suc, ◌+◌, ◌-◌, min, Bool, true, false, cond, List, [], ◌∷◌, ◌++◌, length, take, refl}
use Rattle.std.proofs.Common.{sym, ap, subst, ◌∙◌, arith, length-append, length-take}
use Rattle.std.specs.Borrow.{MutBor}
use Rattle.std.proofs.lemmas.List.{map-append, length-map}
use Rattle.plate.specs.declared.Ink.{Ink}
use Rattle.plate.specs.declared.Window.{Window}
use Rattle.plate.specs.World.{Dot, inside}
use Rattle.plate.specs.Plates.{Strike, Layer, Meaning, Laws}
use Rattle.figure.specs.Drawing.{visible, inked_with}
use Rattle.figure.specs.Visits.{VisitLaws, Counts, Inks}

cond-append : (b : Bool) (p : Dot) (us vs : List Dot) → cond b (p ∷ (us ++ vs)) (us ++ vs) ≡ cond b (p ∷ us) us ++ vs
cond-append true p us vs = refl
cond-append false p us vs = refl

pub visible-append : (w : Window) (us vs : List Dot) → visible w (us ++ vs) ≡ visible w us ++ visible w vs
visible-append w [] vs = refl
visible-append w (u ∷ us) vs = ap (λ l. cond (inside w u) (u ∷ l) l) (visible-append w us vs) ∙ cond-append (inside w u) u (visible w us) (visible w vs)

-- the first n of two lists joined
take-append : {X : Type 0} (n : ℕ) (us vs : List X) → take n (us ++ vs) ≡ take n us ++ take (n - length us) vs
take-append zero us vs = (let e : 0 - length us ≡ 0 = omega arith in ap (λ k. take k vs) (sym e))
take-append (suc n) [] vs = (let e : suc n - 0 ≡ suc n = omega arith in ap (λ k. take k vs) (sym e))
take-append (suc n) (u ∷ us) vs = ap (λ l. u ∷ l) (take-append n us vs) ∙ (let e : suc n - suc (length us) ≡ n - length us = omega arith in ap (λ k. u ∷ (take n us ++ take k vs)) (sym e))

-- shots that are left after the first visible dots, where some were out of reach
left_over : (n k len : ℕ) → n ≡ min n len + k → n - len ≡ k
left_over n k len e = omega arith

module _ {S Q : Type 0} {window : Q → Window} {lit : Q → Dot → Bool} {shots : Q → ℕ} {strikes : Q → List Strike → Q → Type 0} {layers : Q → List Layer} {floor : Q → Meaning} (plate : S → MutBor Q) (h : Laws window lit shots strikes layers floor) where
  pub counter_laws : (seen : S → ℕ) → VisitLaws {S = S} (λ s ps t. Counts window strikes (plate s) (plate t) (seen s) (seen t) ps)
  counter_laws seen = record {
    none = λ s. record { lent = refl; same = h.none (plate s).now; seen = λ _. omega arith };
    join = λ s t u ps qs a b.
        let w = (h.after (plate s).now (plate t).now [] a.same).window in
        let n : length (visible (window (plate s).now) (ps ++ qs)) ≡ length (visible (window (plate s).now) ps) + length (visible (window (plate s).now) qs) = ap length (visible-append (window (plate s).now) ps qs) ∙ length-append (visible (window (plate s).now) ps) (visible (window (plate s).now) qs) in
        let m : length (visible (window (plate t).now) qs) ≡ length (visible (window (plate s).now) qs) = ap (λ v. length (visible v qs)) w in
        record {
          lent = b.lent ∙ a.lent;
          same = h.join (plate s).now (plate t).now (plate u).now [] [] a.same b.same;
          seen = λ few.
              let first = a.seen (omega arith) in
              let second = b.seen (omega arith) in
              omega arith;
        };
  }

  pub striker_laws : (ink : S → Ink) → VisitLaws {S = S} (λ s ps t. Inks window shots strikes (plate s) (plate t) (ink s) (ink t) ps)
  striker_laws ink = record {
    none = λ s. record { lent = refl; held = refl; struck = subst (λ zs. strikes (plate s).now (inked_with (ink s) zs) (plate s).now) (sym (take_none (shots (plate s).now))) (h.none (plate s).now) };
    join = λ s t u ps qs a b.
        let before = (plate s).now in
        let between = (plate t).now in
        let first : List Dot = visible (window before) ps in
        let second : List Dot = visible (window before) qs in
        let w : window between ≡ window before = (h.after before between (inked_with (ink s) (take (shots before) first)) a.struck).window in
        let n : shots before ≡ length (inked_with (ink s) (take (shots before) first)) + shots between = (h.after before between (inked_with (ink s) (take (shots before) first)) a.struck).shots in
        let len : length (inked_with (ink s) (take (shots before) first)) ≡ min (shots before) (length first) = length-map (take (shots before) first) (λ p. (p, ink s)) ∙ length-take (shots before) first in
        let rest : shots before - length first ≡ shots between = left_over (shots before) (shots between) (length first) (omega arith) in
        let all : inked_with (ink s) (take (shots before) first) ++ inked_with (ink t) (take (shots between) (visible (window between) qs)) ≡ inked_with (ink s) (take (shots before) (visible (window before) (ps ++ qs))) =
        ap (λ i. inked_with (ink s) (take (shots before) first) ++ inked_with i (take (shots between) (visible (window between) qs))) a.held
        ∙ ap (λ v. inked_with (ink s) (take (shots before) first) ++ inked_with (ink s) (take (shots between) (visible v qs))) w
        ∙ ap (λ k. inked_with (ink s) (take (shots before) first) ++ inked_with (ink s) (take k second)) (sym rest)
        ∙ sym (map-append (λ p. (p, ink s)) (take (shots before) first) (take (shots before - length first) second))
        ∙ ap (inked_with (ink s)) (sym (take-append (shots before) first second))
        ∙ ap (λ zs. inked_with (ink s) (take (shots before) zs)) (sym (visible-append (window before) ps qs)) in
        record {
          lent = b.lent ∙ a.lent;
          held = b.held ∙ a.held;
          struck = subst (λ zs. strikes before zs (plate u).now) all (h.join before between (plate u).now (inked_with (ink s) (take (shots before) first)) (inked_with (ink t) (take (shots between) (visible (window between) qs))) a.struck b.struck);
        };
  }
    where
      take_none : {X : Type 0} (n : ℕ) → take {A = X} n [] ≡ []
      take_none zero = refl
      take_none (suc n) = refl
