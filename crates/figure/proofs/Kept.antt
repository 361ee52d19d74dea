-- The dots of a pair: leaving out what was named before is the same as looking at x = 0 and y = 0.
use Rattle.std.proofs.Common.{length, get_or, drop, drop-cons, ◌≡◌, ℕ, suc, ◌+◌, ◌<◌, true, false, List, [], ◌∷◌, ◌++◌, pos, ◌+ℤ◌, ◌-ℤ◌, ap, ◌∙◌, inl, inr, arith}
use Rattle.std.specs.List.{flat_map}
use Rattle.std.proofs.lemmas.Int.{ints}
use Rattle.std.proofs.lemmas.Bool.{cases_Bool, cases_eq, eq-eqb, ne_eqb}
use Rattle.plate.specs.World.{Dot}
use Rattle.plate.specs.Plates.{same}
use Rattle.plate.specs.Windows.{same_orders, orders_same}
use Rattle.ellipse.specs.Ellipses.{pairs}
use Rattle.figure.specs.Corners.{corner_dots, corners_dots, all_corners}
use Rattle.figure.specs.declared.outlines.Corner.{Corner}
use Rattle.figure.specs.Outlines.{corners, once, outline_dots}

differ : (p q : Dot) → (p.0 ≡ q.0 → p.1 ≡ q.1 → ⊥) → same p q ≡ false
differ p q no_match = elim (cases_Bool (same p q)) [ inl t ↦ (let e = same_orders p q t in absurd (no_match e.0 e.1)) | inr f ↦ f ]

module _ (c : Dot) (x y : ℕ) where
  abbrev ne : Dot
  ne = (c.0 +ℤ pos x, c.1 +ℤ pos y)

  abbrev nw : Dot
  nw = (c.0 -ℤ pos x, c.1 +ℤ pos y)

  abbrev sw : Dot
  sw = (c.0 -ℤ pos x, c.1 -ℤ pos y)

  abbrev se : Dot
  se = (c.0 +ℤ pos x, c.1 -ℤ pos y)

  pub kept_once : once [] (corners c (x, y)) ≡ corners_dots c (x, y) all_corners
  kept_once = elim (cases_eq x 0) [
    | inl x0 ↦ elim (cases_eq y 0) [
      | inl y0 ↦ (
          let ex = eq-eqb x 0 x0 in
          let ey = eq-eqb y 0 y0 in
          let a : same nw ne ≡ true = orders_same nw ne (omega (arith, ints)) (omega (arith, ints)) in
          let b : same sw ne ≡ true = orders_same sw ne (omega (arith, ints)) (omega (arith, ints)) in
          let d : same se ne ≡ true = orders_same se ne (omega (arith, ints)) (omega (arith, ints)) in
          simp (ex, ey, a, b, d))
      | inr y1 ↦ (
          let ex = eq-eqb x 0 x0 in
          let ey = ne_eqb y 0 y1 in
          let a : same nw ne ≡ true = orders_same nw ne (omega (arith, ints)) (omega (arith, ints)) in
          let b : same sw ne ≡ false = differ sw ne (λ p q. y1 (omega (arith, ints))) in
          let d : same se sw ≡ true = orders_same se sw (omega (arith, ints)) (omega (arith, ints)) in
          simp (ex, ey, a, b, d))
    ]
    | inr x1 ↦ elim (cases_eq y 0) [
      | inl y0 ↦ (
          let ex = ne_eqb x 0 x1 in
          let ey = eq-eqb y 0 y0 in
          let a : same nw ne ≡ false = differ nw ne (λ p q. x1 (omega (arith, ints))) in
          let b : same sw nw ≡ true = orders_same sw nw (omega (arith, ints)) (omega (arith, ints)) in
          let d : same se nw ≡ false = differ se nw (λ p q. x1 (omega (arith, ints))) in
          let e : same se ne ≡ true = orders_same se ne (omega (arith, ints)) (omega (arith, ints)) in
          simp (ex, ey, a, b, d, e))
      | inr y1 ↦ (
          let ex = ne_eqb x 0 x1 in
          let ey = ne_eqb y 0 y1 in
          let a : same nw ne ≡ false = differ nw ne (λ p q. x1 (omega (arith, ints))) in
          let b : same sw nw ≡ false = differ sw nw (λ p q. y1 (omega (arith, ints))) in
          let d : same sw ne ≡ false = differ sw ne (λ p q. x1 (omega (arith, ints))) in
          let e : same se sw ≡ false = differ se sw (λ p q. x1 (omega (arith, ints))) in
          let f : same se nw ≡ false = differ se nw (λ p q. y1 (omega (arith, ints))) in
          let g : same se ne ≡ false = differ se ne (λ p q. y1 (omega (arith, ints))) in
          simp (ex, ey, a, b, d, e, f, g))
    ]
  ]

-- one corner more
pub next_corner : (c : Dot) (p : ℕ × ℕ) (ss : List Corner) (i : ℕ) (d : Corner) → i < length ss → corners_dots c p (drop i ss) ≡ corner_dots c p (get_or ss i d) ++ corners_dots c p (drop (i + 1) ss)
next_corner c p ss i d h =
    let e : suc i ≡ i + 1 = omega arith in
    ap (corners_dots c p) (drop-cons ss i d h) ∙ ap (λ k. corner_dots c p (get_or ss i d) ++ corners_dots c p (drop k ss)) e

-- the dots of pairs
abbrev pub pair_dots : Dot → List (ℕ × ℕ) → List Dot
pair_dots c ps = flat_map (λ p. once [] (corners c p)) ps

pub outline_pairs : (c : Dot) (a b : ℕ) (ps : List (ℕ × ℕ)) → ps ≡ pairs a b → pair_dots c ps ≡ outline_dots c a b
unfolding outline_dots
outline_pairs c a b ps e = ap (pair_dots c) e

pub next_pair : (c : Dot) (x y : ℕ) (ps rest : List (ℕ × ℕ)) → ps ≡ (x, y) ∷ rest → pair_dots c ps ≡ corners_dots c (x, y) all_corners ++ pair_dots c rest
next_pair c x y ps rest e = ap (pair_dots c) e ∙ ap (λ ds. ds ++ pair_dots c rest) (kept_once c x y)
