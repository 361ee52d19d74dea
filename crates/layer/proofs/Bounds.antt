-- The bounds of plates' windows are numbers of the world.
use Rattle.std.proofs.Common.{◌≡◌, true, false, ◌&&◌, ℤ, pos, ◌+ℤ◌, ◌-ℤ◌, sym, refl, ◌∙◌, subst, inl, inr, arith, w32, SFits, negsuc, is_some, Some, None, Option, ap}
use lib.Signed.{le_z}
use Rattle.std.proofs.lemmas.Int.{ints, to_z-of_z}
use Rattle.std.proofs.lemmas.Bool.{and_parts, and_from, cases_Bool, cond-true, cond-false}
use Rattle.std.specs.Option.{SomeIff}
use Rattle.std.specs.Int.{saturate_to_bits}
use Rattle.plate.specs.declared.Window.{Window}
use Rattle.plate.specs.World.{within, world, empty, canonical, bounded, window_of}
use Rattle.plate.specs.Plates.{Framed}
use Rattle.plate.specs.Piles.{handable}
use Rattle.plate.specs.Windows.{within_orders, orders_within, world_parts, orders_inside, Framed-window_of}

-- the bounds of a plate's window are numbers of the world
pub record Bounded (w : Window) : Type 0 where
  pub left : within w.left ≡ true
  pub top : within w.top ≡ true
  pub right : within w.right ≡ true
  pub bottom : within w.bottom ≡ true

Bounded-empty : Bounded empty
unfolding within
Bounded-empty = record { left = refl; top = refl; right = refl; bottom = refl }

pub Framed-Bounded : (w : Window) → Framed w → Bounded w
unfolding canonical
Framed-Bounded w f = elim (cases_Bool (le_z w.left w.right && le_z w.top w.bottom)) [
  | inl t ↦ (
      let a = and_parts (le_z w.left w.right) (le_z w.top w.bottom) t in
      let low = world_parts (w.left, w.top) (f.worldly (w.left, w.top) (orders_inside w (w.left, w.top) (omega (arith, ints)))) in
      let high = world_parts (w.right, w.bottom) (f.worldly (w.right, w.bottom) (orders_inside w (w.right, w.bottom) (omega (arith, ints)))) in
      record { left = low.0; top = low.1; right = high.0; bottom = high.1 })
  | inr e ↦ subst Bounded (sym (sym f.told ∙ cond-false (le_z w.left w.right && le_z w.top w.bottom) w empty e)) Bounded-empty
]

-- the bounds of the window that given bounds make
pub made_bounds : (v w : Window) → v ≡ window_of w → Bounded v
made_bounds v w e = subst Bounded (sym e) (Framed-Bounded (window_of w) (Framed-window_of w))

pub made_left : (v w : Window) → v ≡ window_of w → within v.left ≡ true
made_left v w e = (made_bounds v w e).left

pub made_top : (v w : Window) → v ≡ window_of w → within v.top ≡ true
made_top v w e = (made_bounds v w e).top

pub made_right : (v w : Window) → v ≡ window_of w → within v.right ≡ true
made_right v w e = (made_bounds v w e).right

pub made_bottom : (v w : Window) → v ≡ window_of w → within v.bottom ≡ true
made_bottom v w e = (made_bounds v w e).bottom

pub within_fits : (a : ℤ) → within a ≡ true → SFits w32 a
within_fits a t = let w = within_orders a t in omega (arith, ints)

-- two numbers of the world are not too far apart
pub apart_fits : (a b : ℤ) → within a ≡ true → within b ≡ true → SFits w32 (a -ℤ b)
apart_fits a b p q = let v = within_orders a p in let w = within_orders b q in omega (arith, ints)

pub together_fits : (a b : ℤ) → within a ≡ true → within b ≡ true → SFits w32 (a +ℤ b)
together_fits a b p q = let v = within_orders a p in let w = within_orders b q in omega (arith, ints)

pub near_across : (a b : ℤ) → world (a, b) ≡ true → within a ≡ true
near_across a b t = (world_parts (a, b) t).0

pub near_along : (a b : ℤ) → world (a, b) ≡ true → within b ≡ true
near_along a b t = (world_parts (a, b) t).1

-- a plate's window, given as bounds, makes itself
pub window_of_framed : (w : Window) → Framed w → window_of w ≡ w
unfolding bounded world
window_of_framed w f =
    let k = Framed-Bounded w f in
    cond-true (bounded w) (canonical w) empty (and_from (within w.left && within w.top) (within w.right && within w.bottom) (and_from (within w.left) (within w.top) k.left k.top) (and_from (within w.right) (within w.bottom) k.right k.bottom))
    ∙ f.told

-- the negation of a number of the world is one too
pub negated_within : (z : ℤ) → within z ≡ true → within (pos 0 -ℤ z) ≡ true
negated_within z t = let w = within_orders z t in orders_within (pos 0 -ℤ z) (omega (arith, ints))

pub negated_fits : (z : ℤ) → within z ≡ true → SFits w32 (pos 0 -ℤ z)
negated_fits z t = let w = within_orders z t in omega (arith, ints)

-- the numbers that can be handed to a call are just those of an i32
pub fits_handable : (z : ℤ) → SFits w32 z → handable z ≡ true
unfolding handable
fits_handable z f = grind (arith, ints)

pub handable_fits : (z : ℤ) → handable z ≡ true → SFits w32 z
unfolding handable
handable_fits z t = grind (arith, ints)

pub unfit_handable : (z : ℤ) → (SFits w32 z → ⊥) → handable z ≡ false
unfolding handable
unfit_handable z f = grind (arith, ints)

-- a sum can be handed to a call just where a checked sum answers it, and a saturated sum that can be handed is exact
pub can_add_is : (z z' : ℤ) (o : Option ℤ) → z' ≡ z → SomeIff o (SFits w32 z') z' → is_some o ≡ handable z
can_add_is z z' (Some x) e h = sym (fits_handable z (subst (SFits w32) e h.0))
can_add_is z z' None e h = sym (unfit_handable z (λ f. h (subst (SFits w32) (sym e) f)))

pub saturated_is : (z : ℤ) → SFits w32 z → saturate_to_bits 31 z ≡ z
saturated_is (pos n) f = ap pos (omega (arith, ints))
saturated_is (negsuc n) f = ap negsuc (omega (arith, ints))

-- sets that attributes name by one word
pub ruleset world_apart = (apart_fits, together_fits, near_across, near_along)

pub ruleset made_within = (to_z-of_z, made_left, made_top, made_right, made_bottom)

pub ruleset negations = (to_z-of_z, negated_within, negated_fits)

pub ruleset handing = (to_z-of_z, fits_handable, unfit_handable)
