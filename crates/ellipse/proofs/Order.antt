-- `pairs` is in order, and has just the lighted pairs.
use Rattle.std.proofs.Common.{◌≡◌, ℕ, zero, suc, ◌+◌, ◌<◌, ◌≤◌, Bool, true, List, [], ◌∷◌, ◌++◌, sym, refl, subst, inl, inr, arith}
use Rattle.std.specs.List.{ContainsAt, AllByRecursion}
use Rattle.std.proofs.ByRecursion.{All-append, All-weaker, has_append_left, has_append_right, has_push}
use Rattle.std.proofs.lemmas.Bool.{cases_eq, both_ways, cond_both}
use Rattle.ellipse.specs.Ellipses.{lighted, column, columns, pairs, Before, Ordered, Listed}
use Rattle.ellipse.proofs.Laws.{height, width}

abbrev Test : Type 0
Test = ℕ → ℕ → Bool

abbrev Pair : Type 0
Pair = ℕ × ℕ

Ordered-++ : (ps qs : List Pair) → Ordered ps → Ordered qs → AllByRecursion (λ p. AllByRecursion (Before p) qs) ps → Ordered (ps ++ qs)
Ordered-++ [] qs o r h = r
Ordered-++ (p ∷ ps) qs o r h = (All-append (Before p) ps qs o.0 h.0, Ordered-++ ps qs o.1 r h.1)

-- where the pairs of a column lie
Under : ℕ → ℕ → Pair → Type 0
Under x k q = (q.0 ≡ x) × (q.1 < k)

column-Under : (p : Test) (x k : ℕ) → AllByRecursion (Under x k) (column p x k)
unfolding Under
column-Under p x zero = tt
column-Under p x (suc k) =
    let up : AllByRecursion (Under x (suc k)) (column p x k) = All-weaker (Under x k) (Under x (suc k)) (λ q h. (h.0, omega (arith, h.1))) _ (column-Under p x k) in
    cond_both (p x k) _ _ (AllByRecursion (Under x (suc k))) (λ _. ((refl, omega arith), up)) (λ _. up)

column-Ordered : (p : Test) (x k : ℕ) → Ordered (column p x k)
unfolding Under
column-Ordered p x zero = tt
column-Ordered p x (suc k) =
    cond_both (p x k) _ _ Ordered
    (λ _. (All-weaker (Under x k) (Before (x, k)) (λ q h. inr (sym h.0, h.1)) _ (column-Under p x k), column-Ordered p x k))
    (λ _. column-Ordered p x k)

columns_from : (p : Test) (b x n : ℕ) → AllByRecursion (λ q. x ≤ q.0) (columns p b x n)
unfolding Under
columns_from p b x zero = tt
columns_from p b x (suc n) =
    All-append (λ q. x ≤ q.0) (column p x (suc b)) _
    (All-weaker (Under x (suc b)) (λ q. x ≤ q.0) (λ q h. omega (arith, h.0)) _ (column-Under p x (suc b)))
    (All-weaker (λ q. suc x ≤ q.0) (λ q. x ≤ q.0) (λ q h. omega arith) _ (columns_from p b (suc x) n))

columns-Ordered : (p : Test) (b x n : ℕ) → Ordered (columns p b x n)
unfolding Under
columns-Ordered p b x zero = tt
columns-Ordered p b x (suc n) =
    Ordered-++ (column p x (suc b)) (columns p b (suc x) n) (column-Ordered p x (suc b)) (columns-Ordered p b (suc x) n)
    (All-weaker (Under x (suc b)) (λ r. AllByRecursion (Before r) (columns p b (suc x) n))
    (λ r h. All-weaker (λ q. suc x ≤ q.0) (Before r) (λ q k. inl (omega (arith, h.0))) _ (columns_from p b (suc x) n))
    _ (column-Under p x (suc b)))

Passes : Test → Pair → Type 0
Passes p q = p q.0 q.1 ≡ true

column_sound : (p : Test) (x k : ℕ) → AllByRecursion (Passes p) (column p x k)
unfolding Passes
column_sound p x zero = tt
column_sound p x (suc k) =
    cond_both (p x k) _ _ (AllByRecursion (Passes p)) (λ e. (e, column_sound p x k)) (λ _. column_sound p x k)

columns_sound : (p : Test) (b x n : ℕ) → AllByRecursion (Passes p) (columns p b x n)
columns_sound p b x zero = tt
columns_sound p b x (suc n) = All-append (Passes p) (column p x (suc b)) _ (column_sound p x (suc b)) (columns_sound p b (suc x) n)

column_whole : (p : Test) (x y k : ℕ) → y < k → p x y ≡ true → ContainsAt (column p x k) (x, y)
column_whole p x y zero h e = absurd (omega arith)
column_whole p x y (suc k) h e = elim (cases_eq k y) [
  | inl q ↦ cond_both (p x k) _ _ (λ l. ContainsAt l (x, y))
      (λ _. has_append_left ((x, k) ∷ []) (column p x k) (x, y) (subst (λ j. ContainsAt {X = Pair} ((x, k) ∷ []) (x, j)) q (has_push [] (x, k))))
      (λ f. absurd (both_ways _ f (subst (λ j. p x j ≡ true) (sym q) e)))
  | inr n ↦ (let i = column_whole p x y k (omega arith) e in
      cond_both (p x k) _ _ (λ l. ContainsAt l (x, y)) (λ _. has_append_right ((x, k) ∷ []) (column p x k) (x, y) i) (λ _. i))
]

columns_whole : (p : Test) (b x y z n : ℕ) → z ≤ x → x < z + n → y ≤ b → p x y ≡ true → ContainsAt (columns p b z n) (x, y)
columns_whole p b x y z zero h k l e = absurd (omega arith)
columns_whole p b x y z (suc n) h k l e = elim (cases_eq x z) [
  | inl q ↦ has_append_left (column p z (suc b)) _ (x, y) (subst (λ j. ContainsAt (column p j (suc b)) (x, y)) q (column_whole p x y (suc b) (omega arith) e))
  | inr d ↦ has_append_right (column p z (suc b)) _ (x, y) (columns_whole p b x y (suc z) n (omega arith) (omega arith) l e)
]

pub listed : (a b : ℕ) → Listed a b (pairs a b)
unfolding pairs Passes
listed a b = record {
  ordered = columns-Ordered (lighted a b) b 0 (suc a);
  sound = columns_sound (lighted a b) b 0 (suc a);
  whole = λ x y e. columns_whole (lighted a b) b x y 0 (suc a) (omega arith) (omega (arith, width a b x y e)) (height a b x y e) e;
}
