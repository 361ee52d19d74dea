-- What `rfind` over a range finds, said of the numbers in it.
use Rattle.std.proofs.Common.{◌≡◌, ℕ, ◌+◌, ◌-◌, ◌<◌, ◌≤◌, Bool, true, false, List, [], ◌∷◌, Some, None, Option, sym, subst, inl, inr, arith, Bor}
use denote.Param.Members.{Mut}
use Rattle.std.specs.Bool.{⊤}
use Rattle.std.specs.Fn.{CalledAt}
use Rattle.std.specs.Iterator.{Yields, YieldsThen}
use Rattle.std.specs.List.{FoldsTo}
use Rattle.std.specs.Option.{MatchOption}
use Rattle.std.specs.declared.ops.Range.{Range}
use Rattle.std.proofs.lemmas.Bool.{cases_eq}

-- a range of unsigned integers, from its end
abbrev pub steps_back : Range ℕ → Option ℕ → Range ℕ → Type 0
steps_back s r t = (t.start ≡ s.start) × MatchOption r ((s.end - s.start ≡ 0) × (t.end ≡ s.end)) (λ x. (0 < s.end - s.start) × (x ≡ t.end) × (s.end ≡ t.end + 1))

module _ {F : Type 0} {g : Mut F (Bor ℕ × Unit {0}) Bool} (f : F) (Yes No : ℕ → Type 0)
    (yes : (x : ℕ) (q : F) → CalledAt g f x true q → Yes x) (no : (x : ℕ) (q : F) → CalledAt g f x false q → (q ≡ f) × No x) where
  abbrev Last : Option ℕ → ℕ → ℕ → Type 0
  Last r low high = MatchOption r ((k : ℕ) → low ≤ k → k < high → No k) (λ x. (low ≤ x) × (x < high) × Yes x × ((k : ℕ) → x < k → k < high → No k))

  -- a number more at the end that fails
  more : (r : Option ℕ) (low high : ℕ) → No high → Last r low high → Last r low (high + 1)
  more None low high n h = λ k a b. elim (cases_eq k high) [ inl e ↦ subst No (sym e) n | inr d ↦ h k a (omega arith) ]
  more (Some x) low high n h = (h.0, omega (arith, h.1), h.2, λ k a b. elim (cases_eq k high) [ inl e ↦ subst No (sym e) n | inr d ↦ h.3 k a (omega arith) ])

  ends : (s u : Range ℕ) (r : Option ℕ) → steps_back s r u → MatchOption r ⊤ (λ x. (h : F) × CalledAt g f x true h) → Last r s.start s.end
  ends s u None b m = λ k low high. absurd (omega (arith, b.1.0))
  ends s u (Some x) b m = (omega (arith, b.1.0, b.1.1, b.1.2), omega (arith, b.1.0, b.1.1, b.1.2), yes x m.0 m.1, λ k low high. absurd (omega (arith, b.1.1, b.1.2)))

  walk : (s t u : Range ℕ) (xs : List ℕ) (j : F) (r : Option ℕ) → Yields steps_back s xs t → steps_back t r u → FoldsTo (λ p x q. CalledAt g p x false q) f xs j → MatchOption r ⊤ (λ x. (h : F) × CalledAt g j x true h) → Last r s.start s.end
  walk s t u [] j r y b c m = ends s u r (subst (λ z. steps_back z r u) (sym y) b) (subst (λ p. MatchOption r ⊤ (λ x. (h : F) × CalledAt g p x true h)) (sym c) m)
  walk s t u (x ∷ xs) j r y b c m =
      let n = no x c.0 c.1 in
      let i = walk y.0 t u xs j r y.2 b (subst (λ p. FoldsTo (λ p x q. CalledAt g p x false q) p xs j) n.0 c.2) m in
      let v : y.0.start ≡ s.start = y.1.0 in
      let w : s.end ≡ x + 1 = omega (arith, y.1.1.1, y.1.1.2) in
      let z : y.0.end ≡ x = sym y.1.1.1 in
      subst (λ h. Last r s.start h) (sym w) (more r s.start x n.1 (subst (λ h. Last r s.start h) z (subst (λ l. Last r l y.0.end) v i)))

  pub last_from_Range : (s u : Range ℕ) (r : Option ℕ) → (xs : List ℕ) × (j : F) × YieldsThen steps_back s xs r u × FoldsTo (λ p x q. CalledAt g p x false q) f xs j × MatchOption r ⊤ (λ x. (h : F) × CalledAt g j x true h) → Last r s.start s.end
  last_from_Range s u r d = walk s d.2.0 u d.0 d.1 r d.2.1 d.2.2 d.3 d.4
