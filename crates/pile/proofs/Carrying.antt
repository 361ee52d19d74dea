-- A pile that shows a dot, and a pile that is not too deep, loses no number of the world on the way down.
use Rattle.std.proofs.Common.{◌≡◌, ℕ, suc, ◌+◌, ◌*◌, ◌≤◌, true, false, ◌&&◌, List, [], ◌∷◌, length, ℤ, pos, negsuc, ◌≤ℤ◌, Some, None, sym, refl, ◌∙◌, inl, inr, arith}
use lib.Signed.{le_z}
use Rattle.std.proofs.lemmas.Int.{ints}
use Rattle.std.proofs.lemmas.Bool.{and_parts, and_from, cases_Bool, cond-true, cond-false}
use Rattle.plate.specs.declared.Window.{Window}
use Rattle.plate.specs.World.{Dot, within, world, inside, empty, canonical}
use Rattle.plate.specs.Plates.{Layer, mask, shift, turn, step, place, admits, shows, Framed, Seen, Meaning, near, Near}
use Rattle.plate.specs.Piles.{handable, handable_dot, carried, has_dots, apart}
use Rattle.plate.specs.Windows.{le_true, world_orders, orders_inside}
use Rattle.pile.proofs.Maps.{origin, turned-origin, map_laws}

handable_orders : (z : ℤ) → negsuc 2147483647 ≤ℤ z → z ≤ℤ pos 2147483647 → handable z ≡ true
unfolding handable
handable_orders z low high = and_from (le_z (negsuc 2147483647) z) (le_z z (pos 2147483647)) (le_true (negsuc 2147483647) z low) (le_true z (pos 2147483647) high)

-- a dot that is not too far from a dot of the world has numbers that can be handed to a call
handable_near : (p q : Dot) → world q ≡ true → apart p q ≤ 2147450880 → handable_dot p ≡ true
unfolding handable_dot apart
handable_near p q h d =
    let o = world_orders q h in
    and_from (handable p.0) (handable p.1) (handable_orders p.0 (omega (arith, ints)) (omega (arith, ints))) (handable_orders p.1 (omega (arith, ints)) (omega (arith, ints)))

carried_on : (l : Layer) (ls : List Layer) (p : Dot) → handable_dot (step l p) ≡ true → carried ls (step l p) ≡ Some (place ls (step l p)) → carried (l ∷ ls) p ≡ Some (place (l ∷ ls) p)
carried_on l ls p h e = cond-true (handable_dot (step l p)) (carried ls (step l p)) None h ∙ e

step-apart : (l : Layer) (p q : Dot) → apart (step l p) (step l q) ≡ apart p q
step-apart l = (map_laws (l ∷ [])).distances

-- beside the way of a dot that is shown
shows-world : (ls : List Layer) (w : Window) (q : Dot) → Framed w → shows ls w q ≡ true → world q ≡ true
shows-world [] w q f s = f.worldly q s
shows-world (l ∷ ls) w q f s = (and_parts (world q) (admits l q && shows ls w (step l q)) s).0

carried_beside : (ls : List Layer) (w : Window) (p q : Dot) → Framed w → shows ls w q ≡ true → apart p q ≤ 65534 → carried ls p ≡ Some (place ls p)
carried_beside [] w p q f s d = refl
carried_beside (l ∷ ls) w p q f s d =
    let below = (and_parts (admits l q) (shows ls w (step l q)) (and_parts (world q) (admits l q && shows ls w (step l q)) s).1).1 in
    let e = step-apart l p q in
    carried_on l ls p (handable_near (step l p) (step l q) (shows-world ls w (step l q) f below) (omega arith)) (carried_beside ls w (step l p) (step l q) f below (omega arith))

world-apart : (p q : Dot) → world p ≡ true → world q ≡ true → apart p q ≤ 65534
unfolding apart
world-apart p q h k = let a = world_orders p h in let b = world_orders q k in omega (arith, ints)

corner : (w : Window) → has_dots w ≡ true → inside w (w.left, w.top) ≡ true
corner w t = let a = and_parts (le_z w.left w.right) (le_z w.top w.bottom) t in orders_inside w (w.left, w.top) (omega (arith, ints))

undotted : (w : Window) → Framed w → has_dots w ≡ false → w ≡ empty
unfolding canonical
undotted w f e = sym f.told ∙ cond-false (has_dots w) w empty e

pub carry_true : (ls : List Layer) (m n : Meaning) (p : Dot) → Seen ls m n → Framed m.window → Framed n.window → world p ≡ true → (n.window ≡ empty → ⊥) → carried ls p ≡ Some (place ls p)
carry_true ls m n p s f g h o = elim (cases_Bool (has_dots n.window)) [
  | inl t ↦ (
      let q : Dot = (n.window.left, n.window.top) in
      let seen = corner n.window t in
      carried_beside ls m.window p q f (sym (s.window q) ∙ seen) (world-apart p q h (g.worldly q seen)))
  | inr e ↦ absurd (o (undotted n.window g e))
]

-- each layer leads at most 32,767 farther from the origin
step-origin : (l : Layer) → near l ≡ true → apart (step l origin) origin ≤ 32767
unfolding apart
step-origin (mask w) h = omega (arith, ints)
step-origin (shift dx dy) h = let o = world_orders (dx, dy) h in omega (arith, ints)
step-origin (turn f) h = rw (turned-origin f) (omega (arith, ints))

world-origin : world origin ≡ true
unfolding world within
world-origin = refl

apart_by : (p q r : Dot) → apart p r ≤ apart p q + apart q r
unfolding apart
apart_by p q r = omega (arith, ints)

carried_far : (ls : List Layer) (k : ℕ) (p : Dot) → Near ls → k + length ls ≤ 65001 → apart p origin ≤ 32767 * k → carried ls p ≡ Some (place ls p)
carried_far [] k p h d a = refl
carried_far (l ∷ ls) k p h d a =
    let e = step-apart l p origin in
    let s = step-origin l h.0 in
    let t = apart_by (step l p) (step l origin) origin in
    let b : apart (step l p) origin ≤ 32767 * suc k = omega arith in
    carried_on l ls p (handable_near (step l p) origin world-origin (omega arith)) (carried_far ls (suc k) (step l p) h.1 (omega arith) b)

pub carry_deep : (ls : List Layer) (p : Dot) → Near ls → world p ≡ true → length ls ≤ 65000 → carried ls p ≡ Some (place ls p)
unfolding apart
carry_deep ls p n h d = let a = world_orders p h in carried_far ls 1 p n (omega arith) (omega (arith, ints))
