-- Dots and their cells.
use Rattle.std.proofs.Common.{◌≡◌, ℕ, ◌<◌, Bool, true, false, cond, eqb, get_or, ℤ, pos, negsuc, nat_abs, ◌≤ℤ◌, Some, None, sym, refl, ap, ◌∙◌, inl, inr, arith}
use Rattle.std.proofs.lemmas.Int.{ints}
use Rattle.std.proofs.lemmas.Bool.{cases_Bool, cond-true, cond-false, eq-eqb, ne_eqb, true≢false}
use Rattle.plate.specs.World.{Dot, inside, inked}
use Rattle.plate.specs.Plates.{Strike, same, struck}
use Rattle.plate.specs.Windows.{inside_orders, same_orders, orders_same}
use Rattle.cached.specs.declared.Cached.{Cached}
use Rattle.cached.specs.Holding.{frame, cell_of, lit_at}

-- what is known of a dot of the window
pub record Shown (p : Dot) : Type 0 where
  pub x : p.0 ≡ pos (nat_abs p.0)
  pub y : p.1 ≡ pos (nat_abs p.1)
  pub across : nat_abs p.0 < 16
  pub down : nat_abs p.1 < 16

from_zero : (z : ℤ) → pos 0 ≤ℤ z → z ≡ pos (nat_abs z)
from_zero (pos n) h = refl
from_zero (negsuc n) h = absurd h.le

pub shown : (p : Dot) → inside frame p ≡ true → Shown p
shown p t =
    let i = inside_orders frame p t in
    let x = from_zero p.0 i.0 in
    let y = from_zero p.1 i.2 in
    record { x = x; y = y; across = omega (arith, ints); down = omega (arith, ints) }

-- dots of one cell are one dot, and one dot has one cell
one_dot : (p q : Dot) → Shown p → Shown q → cell_of p ≡ cell_of q → same p q ≡ true
unfolding cell_of
one_dot p q s t e =
    let ex : nat_abs p.0 ≡ nat_abs q.0 = omega arith in
    let ey : nat_abs p.1 ≡ nat_abs q.1 = omega arith in
    orders_same p q (s.x ∙ ap pos ex ∙ sym t.x) (s.y ∙ ap pos ey ∙ sym t.y)

one_cell : (p q : Dot) → same p q ≡ true → cell_of p ≡ cell_of q
one_cell p q t = let e = same_orders p q t in ap (λ x. cell_of (x, p.1)) e.0 ∙ ap (λ y. cell_of (q.0, y)) e.1

-- a cell is chosen for a dot of the window alone
pub chosen : (p : Dot) (cell : ℕ) → Some cell ≡ cond (inside frame p) (Some (cell_of p)) None → (inside frame p ≡ true) × (cell ≡ cell_of p)
chosen p cell e = elim (cases_Bool (inside frame p)) [
  | inl t ↦ (let d = e ∙ cond-true (inside frame p) (Some (cell_of p)) None t in (t, cc))
  | inr f ↦ (let d = e ∙ cond-false (inside frame p) (Some (cell_of p)) None f in let z : ◌≡◌ {A = ℕ} 0 1 = cc in absurd (omega arith))
]

-- ink on the held dot is a strike on its dot, where u is s with that dot held
pub ink_held : (s u : Cached) (k : Strike) (lit : Bool) → inside frame k.0 ≡ true → u.held ≡ cell_of k.0 → u.lit ≡ lit_at s (cell_of k.0) → ((i : ℕ) → lit_at u i ≡ lit_at s i) → lit ≡ inked k.1 u.lit → (p : Dot) → inside frame p ≡ true → cond (eqb (cell_of p) u.held) lit (get_or u.cells (cell_of p) false) ≡ struck k (λ q. lit_at s (cell_of q)) p
ink_held s u k lit h held was stays is p t = elim (cases_Bool (same p k.0)) [
  | inl e ↦ (
      let c = one_cell p k.0 e in
      cond-true (eqb (cell_of p) u.held) lit (get_or u.cells (cell_of p) false) (eq-eqb (cell_of p) u.held (c ∙ sym held))
      ∙ is
      ∙ ap (inked k.1) (was ∙ ap (lit_at s) (sym c))
      ∙ sym (cond-true (same p k.0) (inked k.1 (lit_at s (cell_of p))) (lit_at s (cell_of p)) e))
  | inr f ↦ (
      let n = ne_eqb (cell_of p) u.held (λ e. true≢false (sym (one_dot p k.0 (shown p t) (shown k.0 h) (e ∙ held)) ∙ f)) in
      cond-false (eqb (cell_of p) u.held) lit (get_or u.cells (cell_of p) false) n
      ∙ sym (cond-false (eqb (cell_of p) u.held) u.lit (get_or u.cells (cell_of p) false) n)
      ∙ stays (cell_of p)
      ∙ sym (cond-false (same p k.0) (inked k.1 (lit_at s (cell_of p))) (lit_at s (cell_of p)) f))
]

-- what a strike comes to inside the window, with shots left
pub goes : {X : Type 0} (p : Dot) (shots : ℕ) (spent hit missed : X) → inside frame p ≡ true → (shots ≡ 0 → ⊥) → cond (inside frame p) (cond (eqb shots 0) spent hit) missed ≡ hit
goes p shots spent hit missed t left = cond-true (inside frame p) (cond (eqb shots 0) spent hit) missed t ∙ cond-false (eqb shots 0) spent hit (ne_eqb shots 0 left)
