-- A line names no dot twice.
use Rattle.std.proofs.Common.{◌≡◌, ℕ, zero, suc, ◌+◌, ◌<◌, true, false, leb, ℤ, pos, ◌+ℤ◌, ◌-ℤ◌, sym, refl, ap, ◌∙◌, inl, inr, arith}
use lib.Signed.{le_z}
use Rattle.std.proofs.lemmas.Int.{ints}
use Rattle.std.proofs.lemmas.Bool.{cases_Bool, cond-true, cond-false, or_from}
use Rattle.plate.specs.World.{Dot}
use Rattle.plate.specs.Plates.{same}
use Rattle.plate.specs.Windows.{same_orders}
use Rattle.figure.specs.Drawing.{has, Distinct}
use Rattle.figure.specs.Lines.{gap, across, toward, steps_made, line_dot, line_dots, dots_from, longer}

toward_apart : (a b : ℤ) (k j : ℕ) → k < j → toward a b k ≡ toward a b j → ⊥
unfolding toward
toward_apart a b k j h e = elim (cases_Bool (le_z a b)) [
  | inl t ↦ (let d : a +ℤ pos k ≡ a +ℤ pos j = sym (cond-true (le_z a b) (a +ℤ pos k) (a -ℤ pos k) t) ∙ e ∙ cond-true (le_z a b) (a +ℤ pos j) (a -ℤ pos j) t in omega (arith, ints))
  | inr f ↦ (let d : a -ℤ pos k ≡ a -ℤ pos j = sym (cond-false (le_z a b) (a +ℤ pos k) (a -ℤ pos k) f) ∙ e ∙ cond-false (le_z a b) (a +ℤ pos j) (a -ℤ pos j) f in omega (arith, ints))
]

made_along : (wide tall k : ℕ) → (leb tall wide ≡ true → (steps_made wide tall k).0 ≡ k) × (leb tall wide ≡ false → (steps_made wide tall k).1 ≡ k)
unfolding steps_made
made_along wide tall k = (
  λ t. ap (λ (m : ℕ × ℕ). m.0) (cond-true (leb tall wide) (k, across wide tall k) (across tall wide k, k) t),
  λ f. ap (λ (m : ℕ × ℕ). m.1) (cond-false (leb tall wide) (k, across wide tall k) (across tall wide k, k) f),
)

-- every step along the longer difference comes to another dot
steps_apart : (p q : Dot) (k j : ℕ) → k < j → same (line_dot p q k) (line_dot p q j) ≡ false
steps_apart p q k j h = elim (cases_Bool (same (line_dot p q k) (line_dot p q j))) [
  | inl t ↦ absurd (
      let wide = gap p.0 q.0 in
      let tall = gap p.1 q.1 in
      let e = same_orders (line_dot p q k) (line_dot p q j) t in
      elim (cases_Bool (leb tall wide)) [
        | inl l ↦ toward_apart p.0 q.0 k j h (ap (toward p.0 q.0) (sym ((made_along wide tall k).0 l)) ∙ e.0 ∙ ap (toward p.0 q.0) ((made_along wide tall j).0 l))
        | inr f ↦ toward_apart p.1 q.1 k j h (ap (toward p.1 q.1) (sym ((made_along wide tall k).1 f)) ∙ e.1 ∙ ap (toward p.1 q.1) ((made_along wide tall j).1 f))
      ])
  | inr f ↦ f
]

module _ (dot : ℕ → Dot) (apart : (k j : ℕ) → k < j → same (dot k) (dot j) ≡ false) where
  has_later : (k j n : ℕ) → k < j → has (dot k) (dots_from dot j n) ≡ false
  has_later k j zero h = refl
  has_later k j (suc n) h = or_from (same (dot k) (dot j)) (has (dot k) (dots_from dot (suc j) n)) (apart k j h) (has_later k (suc j) n (omega arith))

  Distinct_from : (k n : ℕ) → Distinct (dots_from dot k n)
  Distinct_from k zero = tt
  Distinct_from k (suc n) = (has_later k (suc k) n (omega arith), Distinct_from (suc k) n)

pub line_once : (p q : Dot) → Distinct (line_dots p q)
unfolding line_dots
line_once p q = Distinct_from (line_dot p q) (steps_apart p q) 0 (longer p q + 1)
