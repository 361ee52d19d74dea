-- An outline names no dot twice.
use Rattle.std.proofs.Common.{◌≡◌, ℕ, zero, suc, true, false, List, [], ◌∷◌, ◌++◌, ℤ, pos, ◌+ℤ◌, ◌-ℤ◌, neg_ℤ, nat_abs, sym, refl, ap, ◌∙◌, subst, inl, inr, arith}
use Rattle.std.specs.List.{AllByRecursion}
use Rattle.std.proofs.lemmas.Int.{ints}
use Rattle.std.proofs.lemmas.Bool.{cases_Bool, or_cases, or_parts, or_from, or_left, or_right, true≢false, cond-true, cond-false}
use Rattle.plate.specs.World.{Dot}
use Rattle.plate.specs.Plates.{same}
use Rattle.plate.specs.Windows.{same_orders, orders_same}
use Rattle.ellipse.specs.Ellipses.{Before, Ordered, pairs}
use Rattle.ellipse.proofs.Order.{listed}
use Rattle.figure.specs.Drawing.{has, Distinct}
use Rattle.figure.specs.Outlines.{corners, once, outline_dots}
use Rattle.figure.proofs.Kept.{pair_dots}

abs_neg : (n : ℕ) → nat_abs (neg_ℤ (pos n)) ≡ n
abs_neg zero = refl
abs_neg (suc n) = refl

abs_plus : (z d : ℤ) (n : ℕ) → d ≡ z +ℤ pos n → nat_abs (d -ℤ z) ≡ n
abs_plus z d n e = let f : d -ℤ z ≡ pos n = omega (arith, ints) in ap nat_abs f

abs_minus : (z d : ℤ) (n : ℕ) → d ≡ z -ℤ pos n → nat_abs (d -ℤ z) ≡ n
abs_minus z d n e = let f : d -ℤ z ≡ neg_ℤ (pos n) = omega (arith, ints) in ap nat_abs f ∙ abs_neg n

-- the pair that a dot belongs to, about a centre
abbrev pair_of : Dot → Dot → ℕ × ℕ
pair_of c d = (nat_abs (d.0 -ℤ c.0), nat_abs (d.1 -ℤ c.1))

pair : (a b x y : ℕ) → a ≡ x → b ≡ y → ◌≡◌ {A = ℕ × ℕ} (a, b) (x, y)
pair a b x y p q = ap (λ z. (z, b)) p ∙ ap (λ z. (x, z)) q

corner_pair : (c d : Dot) (x y : ℕ) → has d (corners c (x, y)) ≡ true → pair_of c d ≡ (x, y)
corner_pair c d x y t = elim (or_cases (same d (c.0 +ℤ pos x, c.1 +ℤ pos y)) _ t) [
  | inl h ↦ (let e = same_orders d (c.0 +ℤ pos x, c.1 +ℤ pos y) h in pair _ _ x y (abs_plus c.0 d.0 x e.0) (abs_plus c.1 d.1 y e.1))
  | inr u ↦ elim (or_cases (same d (c.0 -ℤ pos x, c.1 +ℤ pos y)) _ u) [
    | inl h ↦ (let e = same_orders d (c.0 -ℤ pos x, c.1 +ℤ pos y) h in pair _ _ x y (abs_minus c.0 d.0 x e.0) (abs_plus c.1 d.1 y e.1))
    | inr v ↦ elim (or_cases (same d (c.0 -ℤ pos x, c.1 -ℤ pos y)) _ v) [
      | inl h ↦ (let e = same_orders d (c.0 -ℤ pos x, c.1 -ℤ pos y) h in pair _ _ x y (abs_minus c.0 d.0 x e.0) (abs_minus c.1 d.1 y e.1))
      | inr w ↦ elim (or_cases (same d (c.0 +ℤ pos x, c.1 -ℤ pos y)) false w) [
        | inl h ↦ (let e = same_orders d (c.0 +ℤ pos x, c.1 -ℤ pos y) h in pair _ _ x y (abs_plus c.0 d.0 x e.0) (abs_minus c.1 d.1 y e.1))
        | inr n ↦ absurd (true≢false (sym n))
      ]
    ]
  ]
]

-- what is kept was there
once_sub : (named ds : List Dot) (d : Dot) → has d (once named ds) ≡ true → has d ds ≡ true
once_sub named [] d t = t
once_sub named (e ∷ ds) d t = elim (cases_Bool (has e named)) [
  | inl h ↦ or_right (same d e) (has d ds) (once_sub named ds d (sym (ap (has d) (cond-true (has e named) (once named ds) (e ∷ once (e ∷ named) ds) h)) ∙ t))
  | inr n ↦ elim (or_cases (same d e) (has d (once (e ∷ named) ds)) (sym (ap (has d) (cond-false (has e named) (once named ds) (e ∷ once (e ∷ named) ds) n)) ∙ t)) [
    | inl s ↦ or_left (same d e) (has d ds) s
    | inr r ↦ or_right (same d e) (has d ds) (once_sub (e ∷ named) ds d r)
  ]
]

-- two dots that are the same are found in the same lists
same-has : (d e : Dot) (ds : List Dot) → same d e ≡ true → has d ds ≡ has e ds
same-has d e ds s = let o = same_orders d e s in ap (λ (p : Dot). has p ds) (ap (λ z. (z, d.1)) o.0 ∙ ap (λ z. (e.0, z)) o.1)

-- nothing that was named is kept, and nothing is kept twice
once_apart : (named ds : List Dot) (d : Dot) → has d named ≡ true → has d (once named ds) ≡ false
once_apart named [] d h = refl
once_apart named (e ∷ ds) d h = elim (cases_Bool (has e named)) [
  | inl t ↦ ap (has d) (cond-true (has e named) (once named ds) (e ∷ once (e ∷ named) ds) t) ∙ once_apart named ds d h
  | inr n ↦ ap (has d) (cond-false (has e named) (once named ds) (e ∷ once (e ∷ named) ds) n) ∙ or_from (same d e) (has d (once (e ∷ named) ds)) (elim (cases_Bool (same d e)) [
    | inl s ↦ absurd (true≢false (sym h ∙ same-has d e named s ∙ n))
    | inr f ↦ f
  ]) (once_apart (e ∷ named) ds d (or_right (same d e) (has d named) h))
]

once-Distinct : (named ds : List Dot) → Distinct (once named ds)
once-Distinct named [] = tt
once-Distinct named (e ∷ ds) = elim (cases_Bool (has e named)) [
  | inl t ↦ subst Distinct (sym (cond-true (has e named) (once named ds) (e ∷ once (e ∷ named) ds) t)) (once-Distinct named ds)
  | inr n ↦ subst Distinct (sym (cond-false (has e named) (once named ds) (e ∷ once (e ∷ named) ds) n)) (once_apart (e ∷ named) ds e (or_left (same e e) (has e named) (orders_same e e refl refl)), once-Distinct (e ∷ named) ds)
]

has-append : (d : Dot) (xs ys : List Dot) → has d xs ≡ false → has d ys ≡ false → has d (xs ++ ys) ≡ false
has-append d [] ys p q = q
has-append d (x ∷ xs) ys p q = let o = or_parts (same d x) (has d xs) p in or_from (same d x) (has d (xs ++ ys)) o.0 (has-append d xs ys o.1 q)

pub Distinct-append : (xs ys : List Dot) → Distinct xs → Distinct ys → ((d : Dot) → has d xs ≡ true → has d ys ≡ false) → Distinct (xs ++ ys)
Distinct-append [] ys p q r = q
Distinct-append (x ∷ xs) ys p q r = (has-append x xs ys p.0 (r x (or_left (same x x) (has x xs) (orders_same x x refl refl))), Distinct-append xs ys p.1 q (λ d h. r d (or_right (same d x) (has d xs) h)))

Before_apart : (p q : ℕ × ℕ) → Before p q → p ≡ q → ⊥
Before_apart p q h e = let x = ap (λ (r : ℕ × ℕ). r.0) e in let y = ap (λ (r : ℕ × ℕ). r.1) e in elim h [ inl l ↦ omega arith | inr r ↦ (let m = r.1 in omega arith) ]

not_later : (c d : Dot) (p : ℕ × ℕ) (ps : List (ℕ × ℕ)) → pair_of c d ≡ p → AllByRecursion (Before p) ps → has d (pair_dots c ps) ≡ false
not_later c d p [] e o = refl
not_later c d p (q ∷ qs) e o = has-append d (once [] (corners c q)) (pair_dots c qs) (elim (cases_Bool (has d (once [] (corners c q)))) [
  | inl t ↦ absurd (Before_apart p q o.0 (sym e ∙ corner_pair c d q.0 q.1 (once_sub [] (corners c q) d t)))
  | inr f ↦ f
]) (not_later c d p qs e o.1)

pairs-Distinct : (c : Dot) (ps : List (ℕ × ℕ)) → Ordered ps → Distinct (pair_dots c ps)
pairs-Distinct c [] o = tt
pairs-Distinct c (p ∷ ps) o = Distinct-append (once [] (corners c p)) (pair_dots c ps) (once-Distinct [] (corners c p)) (pairs-Distinct c ps o.1) (λ d h. not_later c d p ps (corner_pair c d p.0 p.1 (once_sub [] (corners c p) d h)) o.0)

pub outline_once : (c : Dot) (a b : ℕ) → Distinct (outline_dots c a b)
unfolding outline_dots
outline_once c a b = pairs-Distinct c (pairs a b) (listed a b).ordered
