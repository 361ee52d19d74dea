-- Proofs about windows, for the terms of laws: nothing here needs to be believed.
use Rattle.std.specs.Prelude.{◌≡◌, Bool, true, false, ◌&&◌, T, ℤ, pos, negsuc, ◌≤ℤ◌, int_le, refl}
use Rattle.std.proofs.Common.{sym, ap, ◌∙◌, inl, inr, arith}
use Rattle.std.proofs.lemmas.Int.{ints}
use Rattle.std.proofs.lemmas.Bool.{and_parts, and_from, cases_Bool, cond-true, cond-false, true≢false}
use Rattle.plate.specs.declared.Window.{Window}
use Rattle.plate.specs.World.{Dot, within, world, inside, empty, canonical, bounded, window_of}
use Rattle.plate.specs.Plates.{Framed, same}

-- two tests that imply each other are one
pub both : (x y : Bool) → (x ≡ true → y ≡ true) → (y ≡ true → x ≡ true) → x ≡ y
both true true f g = refl
both true false f g = sym (f refl)
both false true f g = g refl
both false false f g = refl

T_true : (b : Bool) → T b → b ≡ true
T_true true h = refl
T_true false h = elim h [ ]

pub le_true : (a b : ℤ) → a ≤ℤ b → int_le a b ≡ true
le_true a b h = T_true (int_le a b) h.le

-- the tests as orders of integers
abbrev pub Within : ℤ → Type 0
Within z = (negsuc 32766 ≤ℤ z) × (z ≤ℤ pos 32767)

abbrev pub In : Window → Dot → Type 0
In w p = (w.left ≤ℤ p.0) × (p.0 ≤ℤ w.right) × (w.top ≤ℤ p.1) × (p.1 ≤ℤ w.bottom)

pub within_orders : (z : ℤ) → within z ≡ true → Within z
unfolding within
within_orders z t = let a = and_parts (int_le (negsuc 32766) z) (int_le z (pos 32767)) t in omega (arith, ints)

pub orders_within : (z : ℤ) → Within z → within z ≡ true
unfolding within
orders_within z h = and_from (int_le (negsuc 32766) z) (int_le z (pos 32767)) (le_true (negsuc 32766) z h.0) (le_true z (pos 32767) h.1)

pub world_parts : (p : Dot) → world p ≡ true → (within p.0 ≡ true) × (within p.1 ≡ true)
unfolding world
world_parts p t = and_parts (within p.0) (within p.1) t

pub world_orders : (p : Dot) → world p ≡ true → Within p.0 × Within p.1
world_orders p t = let a = world_parts p t in (within_orders p.0 a.0, within_orders p.1 a.1)

pub orders_world : (p : Dot) → Within p.0 → Within p.1 → world p ≡ true
unfolding world
orders_world p h k = and_from (within p.0) (within p.1) (orders_within p.0 h) (orders_within p.1 k)

pub inside_orders : (w : Window) (p : Dot) → inside w p ≡ true → In w p
unfolding inside
inside_orders w p t =
    let a = and_parts (int_le w.left p.0 && int_le p.0 w.right) (int_le w.top p.1 && int_le p.1 w.bottom) t in
    let b = and_parts (int_le w.left p.0) (int_le p.0 w.right) a.0 in
    let c = and_parts (int_le w.top p.1) (int_le p.1 w.bottom) a.1 in
    omega (arith, ints)

pub orders_inside : (w : Window) (p : Dot) → In w p → inside w p ≡ true
unfolding inside
orders_inside w p h =
    and_from (int_le w.left p.0 && int_le p.0 w.right) (int_le w.top p.1 && int_le p.1 w.bottom)
    (and_from (int_le w.left p.0) (int_le p.0 w.right) (le_true w.left p.0 h.0) (le_true p.0 w.right h.1))
    (and_from (int_le w.top p.1) (int_le p.1 w.bottom) (le_true w.top p.1 h.2) (le_true p.1 w.bottom h.3))

pub same_orders : (p q : Dot) → same p q ≡ true → (p.0 ≡ q.0) × (p.1 ≡ q.1)
unfolding same
same_orders p q e =
    let a = and_parts (int_le p.0 q.0 && int_le q.0 p.0) (int_le p.1 q.1 && int_le q.1 p.1) e in
    let b = and_parts (int_le p.0 q.0) (int_le q.0 p.0) a.0 in
    let c = and_parts (int_le p.1 q.1) (int_le q.1 p.1) a.1 in
    (omega (arith, ints), omega (arith, ints))

pub orders_same : (p q : Dot) → p.0 ≡ q.0 → p.1 ≡ q.1 → same p q ≡ true
unfolding same
orders_same p q d e =
    and_from (int_le p.0 q.0 && int_le q.0 p.0) (int_le p.1 q.1 && int_le q.1 p.1)
    (and_from (int_le p.0 q.0) (int_le q.0 p.0) (le_true p.0 q.0 (omega (arith, ints))) (le_true q.0 p.0 (omega (arith, ints))))
    (and_from (int_le p.1 q.1) (int_le q.1 p.1) (le_true p.1 q.1 (omega (arith, ints))) (le_true q.1 p.1 (omega (arith, ints))))

-- the empty window has no dot
pub inside-empty : (p : Dot) → inside empty p ≡ false
inside-empty p = both (inside empty p) false (λ t. let i = inside_orders empty p t in absurd (omega (arith, ints))) (λ e. absurd (true≢false (sym e)))

abbrev uncrossed : Window → Bool
uncrossed w = int_le w.left w.right && int_le w.top w.bottom

In-uncrossed : (w : Window) (p : Dot) → In w p → uncrossed w ≡ true
In-uncrossed w p i = and_from (int_le w.left w.right) (int_le w.top w.bottom) (le_true w.left w.right (omega (arith, ints))) (le_true w.top w.bottom (omega (arith, ints)))

-- a window that is told anew keeps its dots
pub inside-canonical : (w : Window) (p : Dot) → inside (canonical w) p ≡ inside w p
unfolding canonical
inside-canonical w p = elim (cases_Bool (uncrossed w)) [
  | inl t ↦ ap (λ v. inside v p) (cond-true (uncrossed w) w empty t)
  | inr f ↦ ap (λ v. inside v p) (cond-false (uncrossed w) w empty f) ∙ inside-empty p ∙ both false (inside w p) (λ e. absurd (true≢false (sym e))) (λ t. absurd (true≢false (sym (In-uncrossed w p (inside_orders w p t)) ∙ f)))
]

pub canonical_twice : (w : Window) → canonical (canonical w) ≡ canonical w
unfolding canonical
canonical_twice w = elim (cases_Bool (uncrossed w)) [
  | inl t ↦ ap canonical (cond-true (uncrossed w) w empty t)
  | inr f ↦ ap canonical (cond-false (uncrossed w) w empty f) ∙ sym (cond-false (uncrossed w) w empty f)
]

-- the empty window, and one of bounds within limits, are told as plates tell theirs
pub Framed-empty : Framed empty
unfolding canonical
Framed-empty = record { told = refl; worldly = λ p h. absurd (true≢false (sym h ∙ inside-empty p)) }

pub Framed-canonical : (w : Window) → bounded w ≡ true → Framed (canonical w)
unfolding bounded
Framed-canonical w b = record {
  told = canonical_twice w;
  worldly = λ p h.
      let e = and_parts (world (w.left, w.top)) (world (w.right, w.bottom)) b in
      let low = world_orders (w.left, w.top) e.0 in
      let high = world_orders (w.right, w.bottom) e.1 in
      let i = inside_orders w p (sym (inside-canonical w p) ∙ h) in
      orders_world p (omega (arith, ints)) (omega (arith, ints));
}

pub Framed-window_of : (w : Window) → Framed (window_of w)
Framed-window_of w = elim (cases_Bool (bounded w)) as (λ _. Framed (window_of w)) [
  | inl t ↦ rw (cond-true (bounded w) (canonical w) empty t) (Framed-canonical w t)
  | inr f ↦ rw (cond-false (bounded w) (canonical w) empty f) Framed-empty
]
