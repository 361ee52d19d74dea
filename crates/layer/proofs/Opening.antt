-- What a layer answers, from what the plate below answers.
use Rattle.std.proofs.Common.{◌≡◌, Bool, true, ◌&&◌, if◌then◌else◌, Some, None, ℤ, ◌+ℤ◌, arith, w32, SFits, ap, ◌∙◌}
use Rattle.std.proofs.lemmas.Int.{ints}
use Rattle.std.proofs.lemmas.Bool.{and_parts, and_from, cond-true}
use Rattle.plate.specs.declared.Facing.{Facing}
use Rattle.plate.specs.declared.Facing.TheVariants.{Same, Quarter, Half, Back, AcrossX, AcrossY, Swap, Anti}
use Rattle.plate.specs.declared.Window.{Window}
use Rattle.plate.specs.World.{Dot, within, world, inside}
use Rattle.plate.specs.Plates.{Layer, mask, shift, turn, turned, step, admits, near, asked}
use Rattle.plate.specs.Piles.{handable, handable_dot}
use Rattle.plate.specs.Windows.{world_parts}
use Rattle.layer.specs.Views.{view, place_below}
use Rattle.layer.specs.LayerLaws.{inside-view}
use Rattle.layer.proofs.Bounds.{handable_fits}

turn_handable : (k : Facing) (p : Dot) → world p ≡ true → handable_dot (turned k p) ≡ true
unfolding world within handable handable_dot
turn_handable Same p w = grind (arith, ints)
turn_handable Quarter p w = grind (arith, ints)
turn_handable Half p w = grind (arith, ints)
turn_handable Back p w = grind (arith, ints)
turn_handable AcrossX p w = grind (arith, ints)
turn_handable AcrossY p w = grind (arith, ints)
turn_handable Swap p w = grind (arith, ints)
turn_handable Anti p w = grind (arith, ints)

sum_handable : (a d : ℤ) → within a ≡ true → within d ≡ true → handable (a +ℤ d) ≡ true
unfolding within handable
sum_handable a d p q = grind (arith, ints)

-- the place of a dot of the world can be handed on
world-handable : (l : Layer) (p : Dot) → near l ≡ true → world p ≡ true → handable_dot (step l p) ≡ true
unfolding world within handable handable_dot
world-handable (mask m) p s w = grind (arith, ints)
world-handable (shift dx dy) p s w =
    let a = world_parts p w in
    let d = world_parts (dx, dy) s in
    and_from (handable (p.0 +ℤ dx)) (handable (p.1 +ℤ dy)) (sum_handable p.0 dx a.0 d.0) (sum_handable p.1 dy a.1 d.1)
world-handable (turn k) p s w = turn_handable k p w

-- the window above, by the window below
pub inside_opened : (l : Layer) (w : Window) (p : Dot) → inside (view l w) p ≡ (world p && (admits l p && inside w (step l p)))
inside_opened l w p = inside-view l w p

-- the place below of a dot of the world
pub place_opened : (l : Layer) (p : Dot) → near l ≡ true → world p ≡ true → place_below l p ≡ step l p
place_opened l p s w = cond-true (handable_dot (step l p)) (step l p) p (world-handable l p s w)

-- a dot that is opened is asked about as a dot with the numbers of its place is below
pub asked_opened : (l : Layer) (w : Window) (lit : Dot → Bool) (p q r : Dot) → Some q ≡ (if world p && admits l p then Some (step l p) else None) → r.0 ≡ q.0 → r.1 ≡ q.1 → asked w lit r ≡ asked (view l w) (λ d. lit (step l d)) p
asked_opened l w lit p q r e a b =
    let i = inside_opened l w p in
    let k : asked w lit q ≡ asked (view l w) (λ d. lit (step l d)) p = grind arith in
    ap (λ z. asked w lit (z, r.1)) a ∙ ap (λ z. asked w lit (q.0, z)) b ∙ k

-- its place has numbers that an i32 holds
pub opened_fits : (l : Layer) (p q : Dot) → near l ≡ true → Some q ≡ (if world p && admits l p then Some (step l p) else None) → SFits w32 q.0 × SFits w32 q.1
unfolding handable_dot
opened_fits l p q s e =
    let w = world-handable l p s in
    let h : handable_dot q ≡ true = grind arith in
    let parts = and_parts (handable q.0) (handable q.1) h in
    (handable_fits q.0 parts.0, handable_fits q.1 parts.1)
