-- What the laws of the shape rest on: a region that holds, with a place, all that lies left of it and below. Places are in half steps.
use Rattle.std.proofs.Common.{◌≡◌, ℕ, zero, suc, ◌+◌, ◌-◌, ◌*◌, ◌<◌, ◌≤◌, ◌⊎◌, subst, inl, inr, arith}
use Rattle.std.proofs.lemmas.Bool.{cases_lt}

abbrev pub Region : Type 1
Region = ℕ → ℕ → Type 0

-- the region's border passes within half a step of (x, y): up and down, or left and right
abbrev pub V : Region → ℕ → ℕ → Type 0
V In x y = In (2 * x) (2 * y - 1) × (In (2 * x) (2 * y + 1) → ⊥)

abbrev pub H : Region → ℕ → ℕ → Type 0
H In x y = In (2 * x - 1) (2 * y) × (In (2 * x + 1) (2 * y) → ⊥)

abbrev pub Lit : Region → ℕ → ℕ → Type 0
Lit In x y = V In x y ⊎ H In x y

abbrev pub Down : Region → Type 0
Down In = (u w p q : ℕ) → p ≤ u → q ≤ w → In u w → In p q

module _ (In : Region) (down : Down In) where
  -- a place outside lies above one inside that is not left of it
  over : (u w p q : ℕ) → In u w → (In p q → ⊥) → p ≤ u → w < q
  over u w p q i n h = elim (cases_lt w q) [ inl k ↦ k | inr k ↦ absurd (n (down u w p q h k i)) ]

  -- no pair of a later column is higher
  pub order : (x z y w : ℕ) → x < z → Lit In x y → Lit In z w → w ≤ y
  order x z y w h (inl v) (inl r) = let k : 2 * w - 1 < 2 * y + 1 = over _ _ _ _ r.0 v.1 (omega arith) in omega arith
  order x z y w h (inl v) (inr r) = let k : 2 * w < 2 * y + 1 = over _ _ _ _ r.0 v.1 (omega arith) in omega arith
  order x z y w h (inr v) (inl r) = let k : 2 * w - 1 < 2 * y = over _ _ _ _ r.0 v.1 (omega arith) in omega arith
  order x z y w h (inr v) (inr r) = let k : 2 * w < 2 * y = over _ _ _ _ r.0 v.1 (omega arith) in omega arith

  under : (x r y : ℕ) → r < y → Lit In x y → In (2 * x - 1) (2 * r)
  under x r y h (inl v) = down _ _ _ _ (omega arith) (omega arith) v.0
  under x r y h (inr v) = down _ _ _ _ (omega arith) (omega arith) v.0

  past : (x r w : ℕ) → w < r → Lit In x w → In (2 * x + 1) (2 * r) → ⊥
  past x r w h (inl v) i = v.1 (down _ _ _ _ (omega arith) (omega arith) i)
  past x r w h (inr v) i = v.1 (down _ _ _ _ (omega arith) (omega arith) i)

  -- between two pairs of a column lies no gap
  pub run : (x w r y : ℕ) → w < r → r < y → Lit In x w → Lit In x y → Lit In x r
  run x w r y h k l m = inr (under x r y k m, past x r w h l)

  -- the foot of a column left of a pair is inside
  within : (x y p : ℕ) → p < x → Lit In x y → In (2 * p) 0
  within x y p h (inl v) = down _ _ _ _ (omega arith) (omega arith) v.0
  within x y p h (inr v) = down _ _ _ _ (omega arith) (omega arith) v.0

  module _ (dec : (u w : ℕ) → In u w ⊎ (In u w → ⊥)) (b : ℕ) (top : (u : ℕ) → In u (2 * b + 1) → ⊥) where
    -- upward from a place inside, the border comes within n steps
    from : (x n y : ℕ) → y + n ≡ b → In (2 * x) (2 * y - 1) → (w : ℕ) × V In x w
    from x zero y e i =
        elim (dec (2 * x) (2 * y + 1)) [ inl j ↦ absurd (top (2 * x) (down _ _ _ _ (omega arith) (omega arith) j)) | inr n ↦ (y, (i, n)) ]
    from x (suc n) y e i =
        elim (dec (2 * x) (2 * y + 1)) [ inl j ↦ from x n (y + 1) (omega arith) (down _ _ _ _ (omega arith) (omega arith) j) | inr n ↦ (y, (i, n)) ]

    -- a column with its foot inside has a pair
    pub some : (x : ℕ) → In (2 * x) 0 → (w : ℕ) × V In x w
    some x i = from x b 0 (omega arith) i

    -- what lies left of a pair lies below one too
    pub fill : (x z y : ℕ) → x ≤ z → Lit In z y → (w : ℕ) × (y ≤ w) × Lit In x w
    fill x z y h l = elim (cases_lt x z) [
      | inl k ↦ (let s = some x (within z y x k l) in (s.0, order x z s.0 y k (inl s.1) l, inl s.1))
      | inr k ↦ (y, omega arith, let e : z ≡ x = omega arith in subst (λ q. Lit In q y) e l)
    ]

    -- no pair is higher than the region
    pub low : (x y : ℕ) → Lit In x y → y ≤ b
    low x y (inl v) = elim (cases_lt b y) [ inl k ↦ absurd (top (2 * x) (down _ _ _ _ (omega arith) (omega arith) v.0)) | inr k ↦ k ]
    low x y (inr v) = elim (cases_lt b y) [ inl k ↦ absurd (top (2 * x - 1) (down _ _ _ _ (omega arith) (omega arith) v.0)) | inr k ↦ k ]
