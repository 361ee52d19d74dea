-- What is left of the pairs from a place on, and what is left a step further.
use Rattle.std.proofs.Common.{◌≡◌, ℕ, zero, suc, ◌+◌, ◌-◌, ◌<◌, ◌≤◌, Bool, true, false, List, [], ◌∷◌, ◌++◌, sym, refl, ap, ◌∙◌, subst, inl, inr, arith}
use Rattle.std.proofs.lemmas.Bool.{cases_eq, cases_Bool, both_ways, cond-true, cond-false}
use Rattle.ellipse.specs.Ellipses.{lighted, column, columns, pairs}
use Rattle.ellipse.proofs.Laws.{falls, joined}

abbrev Test : Type 0
Test = ℕ → ℕ → Bool

-- the column x from y downward, and the columns after it
unfoldable pub rest : (ℕ → ℕ → Bool) → ℕ → ℕ → ℕ → ℕ → List (ℕ × ℕ)
rest p a b x y = column p x (suc y) ++ columns p b (suc x) (a - x)

column_none : (p : Test) (x k : ℕ) → ((j : ℕ) → j < k → p x j ≡ false) → column p x k ≡ []
column_none p x zero h = refl
column_none p x (suc k) h = cond-false _ _ _ (h k (omega arith)) ∙ column_none p x k (λ j l. h j (omega arith))

-- a column that has nothing from k on
column_cut : (p : Test) (x k m : ℕ) → k ≤ m → ((j : ℕ) → k ≤ j → p x j ≡ false) → column p x m ≡ column p x k
column_cut p x k zero l h = let e : 0 ≡ k = omega arith in ap (column p x) e
column_cut p x k (suc m) l h = elim (cases_eq k (suc m)) [
  | inl e ↦ ap (column p x) (sym e)
  | inr n ↦ cond-false _ _ _ (h m (omega arith)) ∙ column_cut p x k m (omega arith) h
]

module _ (p : Test) (a b x y : ℕ) where
  -- (x, y) does not pass the test
  pub skipped : p x y ≡ false → 0 < y → rest p a b x y ≡ rest p a b x (y - 1)
  unfolding rest
  skipped e h =
      let q : y ≡ suc (y - 1) = omega arith in
      ap (λ c. c ++ columns p b (suc x) (a - x)) (cond-false _ _ _ e ∙ ap (column p x) q)

  taken : p x y ≡ true → rest p a b x y ≡ (x, y) ∷ (column p x y ++ columns p b (suc x) (a - x))
  unfolding rest
  taken e = ap (λ c. c ++ columns p b (suc x) (a - x)) (cond-true _ _ _ e)

  -- it does: go on below it,
  pub downward : p x y ≡ true → 0 < y → rest p a b x y ≡ (x, y) ∷ rest p a b x (y - 1)
  unfolding rest
  downward e h =
      let q : y ≡ suc (y - 1) = omega arith in
      taken e ∙ ap (λ k. (x, y) ∷ (column p x k ++ columns p b (suc x) (a - x))) q

  -- or beside it, where nothing below it passes, and nothing above it in the next column,
  pub sideways : p x y ≡ true → ((j : ℕ) → j < y → p x j ≡ false) → x < a → y ≤ b → ((j : ℕ) → y < j → p (x + 1) j ≡ false) → rest p a b x y ≡ (x, y) ∷ rest p a b (x + 1) y
  unfolding rest
  sideways e low h k high =
      let s : suc x ≡ x + 1 = omega arith in
      let d : a - x ≡ suc (a - (x + 1)) = omega arith in
      taken e
      ∙ ap (λ c. (x, y) ∷ (c ++ columns p b (suc x) (a - x))) (column_none p x y low)
      ∙ ap (λ n. (x, y) ∷ columns p b n (a - x)) s
      ∙ ap (λ n. (x, y) ∷ columns p b (x + 1) n) d
      ∙ ap (λ c. (x, y) ∷ (c ++ columns p b (suc (x + 1)) (a - (x + 1)))) (column_cut p (x + 1) (suc y) (suc b) (omega arith) high)

  -- or nowhere, in the last column
  pub ended : p x y ≡ true → ((j : ℕ) → j < y → p x j ≡ false) → a ≤ x → rest p a b x y ≡ (x, y) ∷ []
  unfolding rest
  ended e low h =
      let d : a - x ≡ 0 = omega arith in
      taken e
      ∙ ap (λ c. (x, y) ∷ (c ++ columns p b (suc x) (a - x))) (column_none p x y low)
      ∙ ap (λ n. (x, y) ∷ columns p b (suc x) n) d

-- at the start all pairs are left
pub began : (a b : ℕ) → rest (lighted a b) a b 0 b ≡ pairs a b
unfolding rest pairs
began a b = let d : a - 0 ≡ a = omega arith in ap (λ n. column (lighted a b) 0 (suc b) ++ columns (lighted a b) b 1 n) d

-- a column ends where the first place below a pair is not lighted
pub none_below : (a b x y : ℕ) → lighted a b x y ≡ true → (0 < y → lighted a b x (y - 1) ≡ false) → (j : ℕ) → j < y → lighted a b x j ≡ false
none_below a b x y e n j h = elim (cases_Bool (lighted a b x j)) [
  | inr f ↦ f
  | inl t ↦ absurd (elim (cases_eq j (y - 1)) [
    | inl q ↦ both_ways _ (n (omega arith)) (subst (λ k. lighted a b x k ≡ true) q t)
    | inr q ↦ both_ways _ (n (omega arith)) (joined a b x j (y - 1) y (omega arith) (omega arith) t e)
  ])
]

-- and the next one has nothing above it
pub none_above : (a b x y : ℕ) → lighted a b x y ≡ true → (j : ℕ) → y < j → lighted a b (x + 1) j ≡ false
none_above a b x y e j h = elim (cases_Bool (lighted a b (x + 1) j)) [
  | inr f ↦ f
  | inl t ↦ absurd (let k : j ≤ y = falls a b x (x + 1) y j (omega arith) e t in omega arith)
]
