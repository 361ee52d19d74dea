-- The window above a layer, computed from the window below; that it has just the right dots is `inside-view` in LayerLaws.antt.
use Rattle.std.specs.Prelude.{Bool, cond, ℤ, pos, negsuc, ◌-ℤ◌, neg_ℤ}
use Rattle.std.specs.Int.{int_max, int_min}
use Rattle.plate.specs.declared.Facing.{Facing}
use Rattle.plate.specs.declared.Window.{Window}
use Rattle.plate.specs.World.{Dot, canonical}
use Rattle.plate.specs.Plates.{Layer, mask, shift, turn, step}
use Rattle.plate.specs.Piles.{exchanges, negates_first, negates_second, handable_dot}

-- all dots of the world
abbrev pub whole : Window
whole = record { left = negsuc 32766; top = negsuc 32766; right = pos 32767; bottom = pos 32767 }

-- the dots that two windows share
abbrev pub overlap : Window → Window → Window
overlap v w = record { left = int_max v.left w.left; top = int_max v.top w.top; right = int_min v.right w.right; bottom = int_min v.bottom w.bottom }

-- the part of a window that lies in the world, told as plates tell theirs
unfoldable pub clipped : Window → Window
clipped w = canonical (overlap whole w)

-- the numbers that lie from low to high once they are negated, or as they are
abbrev pub flipped : Bool → ℤ → ℤ → ℤ × ℤ
flipped negates low high = cond negates (neg_ℤ high, neg_ℤ low) (low, high)

abbrev pub window_by : ℤ × ℤ → ℤ × ℤ → Window
window_by across along = record { left = across.0; top = along.0; right = across.1; bottom = along.1 }

-- the dots that a turn sends into a window
unfoldable pub unturned : Facing → Window → Window
unturned k w =
    let first = flipped (negates_first k) w.left w.right in
    let second = flipped (negates_second k) w.top w.bottom in
    cond (exchanges k) (window_by second first) (window_by first second)

-- the dots that a layer admits and whose places lie in a window
abbrev pub pulled : Layer → Window → Window
pulled (mask m) w = overlap m w
pulled (shift dx dy) w = record { left = w.left -ℤ dx; top = w.top -ℤ dy; right = w.right -ℤ dx; bottom = w.bottom -ℤ dy }
pulled (turn k) w = unturned k w

-- the window above a layer
abbrev pub view : Layer → Window → Window
view l w = clipped (pulled l w)

-- the place below of a dot above; a dot whose place no call can be handed stays where it is
abbrev pub place_below : Layer → Dot → Dot
place_below l p = cond (handable_dot (step l p)) (step l p) p
