-- The region of an ellipse, and that the lighted pairs are those at its border.
use Rattle.std.proofs.Common.{◌≡◌, ℕ, ◌+◌, ◌-◌, ◌*◌, ◌<◌, ◌≤◌, true, ◌&&◌, ◌||◌, eqb, ltb, leb, ◌⊎◌, sym, ap, ◌∙◌, subst, inl, inr, mul-le-mul, mul-le-mul_left, arith}
use Rattle.std.proofs.lemmas.Bool.{cases_lt, cases_eq, and_parts, and_from, or_cases, or_left, or_right, cond-true, cond-false, eq-eqb, ne_eqb, eqb-true, leb-true, ltb-true, le-leb, lt-ltb}
use Rattle.ellipse.specs.Ellipses.{full, reach, upright, level, lighted}
use Rattle.ellipse.proofs.Shape.{Region, V, H, Lit, Down}

-- the ellipse in half steps, a²w² + b²u² ≤ 4a²b²; the bounds on u and w make it the segment where a = 0 or b = 0
abbrev pub Inside : ℕ → ℕ → Region
Inside a b u w = (u ≤ 2 * a) × (w ≤ 2 * b) × (a * a * (w * w) + b * b * (u * u) ≤ full a b)

squared : (m n : ℕ) → m ≤ n → m * m ≤ n * n
squared m n h = mul-le-mul h h

scaled : (k m n : ℕ) → m ≤ n → k * k * (m * m) ≤ k * k * (n * n)
scaled k m n h = mul-le-mul_left (k * k) (squared m n h)

pub down : (a b : ℕ) → Down (Inside a b)
down a b u w p q h k i = (omega arith, omega arith, omega (arith, scaled b p u h, scaled a q w k))

pub dec : (a b u w : ℕ) → Inside a b u w ⊎ (Inside a b u w → ⊥)
dec a b u w = elim (cases_lt (2 * a) u) [
  | inl h ↦ inr (λ i. omega arith)
  | inr h ↦ elim (cases_lt (2 * b) w) [
    | inl k ↦ inr (λ i. omega arith)
    | inr k ↦ elim (cases_lt (full a b) (a * a * (w * w) + b * b * (u * u))) [ inl l ↦ inr (λ i. omega arith) | inr l ↦ inl (h, k, l) ]
  ]
]

pub top : (a b u : ℕ) → Inside a b u (2 * b + 1) → ⊥
top a b u i = omega arith

pub foot : (a b x : ℕ) → x ≤ a → Inside a b (2 * x) 0
foot a b x h = (omega arith, omega arith, omega (arith, scaled b x a h))

-- the axes exchanged
turned : (a b u w : ℕ) → Inside a b u w → Inside b a w u
turned a b u w i = (i.1, i.0, omega (arith, i.2))

pub turned_Lit : (a b x y : ℕ) → Lit (Inside a b) x y → Lit (Inside b a) y x
turned_Lit a b x y (inl v) = inr (turned a b _ _ v.0, λ i. v.1 (turned b a _ _ i))
turned_Lit a b x y (inr v) = inl (turned a b _ _ v.0, λ i. v.1 (turned b a _ _ i))

full_turned : (a b : ℕ) → full a b ≡ full b a
full_turned a b = omega arith

-- H is V with the axes exchanged
pub level_turned : (a b x y : ℕ) → level a b x y ≡ upright b a y x
unfolding level upright
level_turned a b x y =
    ap (λ f. leb y b && ((eqb x 0 || leb (reach b a y (2 * x - 1)) f) && ltb f (reach b a y (2 * x + 1)))) (full_turned a b)

-- with a ≥ 1 the test alone keeps w ≤ 2b
narrow : (a b u w : ℕ) → 0 < a → a * a * (w * w) + b * b * (u * u) ≤ full a b → w ≤ 2 * b
narrow a b u w p h = elim (cases_lt (2 * b) w) [
  | inl k ↦ absurd (let j : 2 * b + 1 ≤ w = omega arith in omega (arith, scaled a (2 * b + 1) w j, squared 1 a p))
  | inr k ↦ k
]

inside : (a b x w : ℕ) → 0 < a → x ≤ a → reach a b x w ≤ full a b → Inside a b (2 * x) w
inside a b x w p h k =
    let l : a * a * (w * w) + b * b * ((2 * x) * (2 * x)) ≤ full a b = omega arith in
    (omega arith, narrow a b (2 * x) w p l, l)

reaches : (a b x w : ℕ) → Inside a b (2 * x) w → reach a b x w ≤ full a b
reaches a b x w i = omega (arith, i.2)

upright_says : (a b x y : ℕ) → 0 < a → upright a b x y ≡ true → V (Inside a b) x y
unfolding upright
upright_says a b x y p e =
    let t = and_parts (leb x a) _ e in
    let s = and_parts _ (ltb (full a b) (reach a b x (2 * y + 1))) t.1 in
    let h : x ≤ a = leb-true x a t.0 in
    let k : full a b < reach a b x (2 * y + 1) = ltb-true _ _ s.1 in (
      elim (or_cases (eqb y 0) _ s.0) [
        | inl z ↦ (let z : y ≡ 0 = eqb-true y 0 z in down a b _ _ _ _ (omega arith) (omega arith) (foot a b x h))
        | inr l ↦ inside a b x (2 * y - 1) p h (leb-true _ _ l)
      ],
      λ i. omega (arith, reaches a b x (2 * y + 1) i),
    )

upright_from : (a b x y : ℕ) → 0 < a → V (Inside a b) x y → upright a b x y ≡ true
unfolding upright
upright_from a b x y p v =
    let h : x ≤ a = omega (arith, v.0.0) in
    and_from _ _ (le-leb x a h) (and_from _ _
    (or_right _ _ (le-leb _ _ (reaches a b x (2 * y - 1) v.0)))
    (elim (cases_lt (full a b) (reach a b x (2 * y + 1))) [
      | inl k ↦ lt-ltb _ _ k
      | inr k ↦ absurd (v.1 (inside a b x (2 * y + 1) p h k))
    ]))

-- which of its cases `lighted` is
lighted_at_0 : (a b x y : ℕ) → a ≡ 0 → lighted a b x y ≡ (eqb x 0 && leb y b)
unfolding lighted
lighted_at_0 a b x y z = cond-true _ _ _ (eq-eqb a 0 z)

lighted_at_flat : (a b x y : ℕ) → (a ≡ 0 → ⊥) → b ≡ 0 → lighted a b x y ≡ (eqb y 0 && leb x a)
unfolding lighted
lighted_at_flat a b x y n z = cond-false _ _ _ (ne_eqb a 0 n) ∙ cond-true _ _ _ (eq-eqb b 0 z)

lighted_at_round : (a b x y : ℕ) → (a ≡ 0 → ⊥) → (b ≡ 0 → ⊥) → lighted a b x y ≡ (upright a b x y || level a b x y)
unfolding lighted
lighted_at_round a b x y n m = cond-false _ _ _ (ne_eqb a 0 n) ∙ cond-false _ _ _ (ne_eqb b 0 m)

-- the segment of a = 0; the one of b = 0 is this with the axes exchanged
upward : (b y : ℕ) → y ≤ b → H (Inside 0 b) 0 y
upward b y h = ((omega arith, omega arith, omega arith), λ i. omega arith)

upward_says : (b x y : ℕ) → (eqb x 0 && leb y b) ≡ true → Lit (Inside 0 b) x y
upward_says b x y e =
    let t = and_parts (eqb x 0) _ e in
    subst (λ q. Lit (Inside 0 b) q y) (sym (eqb-true x 0 t.0)) (inr (upward b y (leb-true _ _ t.1)))

upward_from : (b x y : ℕ) → Lit (Inside 0 b) x y → (eqb x 0 && leb y b) ≡ true
upward_from b x y (inl v) = and_from _ _ (eq-eqb x 0 (omega (arith, v.0))) (le-leb y b (omega (arith, v.0)))
upward_from b x y (inr v) = and_from _ _ (eq-eqb x 0 (omega (arith, v.0))) (le-leb y b (omega (arith, v.0)))

-- a lighted pair is at the region's border
pub lit : (a b x y : ℕ) → lighted a b x y ≡ true → Lit (Inside a b) x y
lit a b x y e = elim (cases_eq a 0) [
  | inl z ↦ subst (λ q. Lit (Inside q b) x y) (sym z) (upward_says b x y (sym (lighted_at_0 a b x y z) ∙ e))
  | inr n ↦ elim (cases_eq b 0) [
    | inl z ↦ subst (λ q. Lit (Inside a q) x y) (sym z) (turned_Lit 0 a y x (upward_says a y x (sym (lighted_at_flat a b x y n z) ∙ e)))
    | inr m ↦ elim (or_cases (upright a b x y) _ (sym (lighted_at_round a b x y n m) ∙ e)) [
      | inl u ↦ inl (upright_says a b x y (omega arith) u)
      | inr l ↦ turned_Lit b a y x (inl (upright_says b a y x (omega arith) (sym (level_turned a b x y) ∙ l)))
    ]
  ]
]

-- and a pair at the border is lighted
pub lights : (a b x y : ℕ) → Lit (Inside a b) x y → lighted a b x y ≡ true
lights a b x y l = elim (cases_eq a 0) [
  | inl z ↦ lighted_at_0 a b x y z ∙ upward_from b x y (subst (λ q. Lit (Inside q b) x y) z l)
  | inr n ↦ elim (cases_eq b 0) [
    | inl z ↦ lighted_at_flat a b x y n z ∙ upward_from a y x (turned_Lit a 0 x y (subst (λ q. Lit (Inside a q) x y) z l))
    | inr m ↦ lighted_at_round a b x y n m ∙ round l n m
  ]
]
  where
    round : Lit (Inside a b) x y → (a ≡ 0 → ⊥) → (b ≡ 0 → ⊥) → (upright a b x y || level a b x y) ≡ true
    round (inl v) n m = or_left _ _ (upright_from a b x y (omega arith) v)
    round (inr v) n m = or_right _ _ (level_turned a b x y ∙ upright_from b a y x (omega arith) (turned a b _ _ v.0, λ i. v.1 (turned b a _ _ i)))
