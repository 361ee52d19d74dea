-- Dots, windows and inks.
use Rattle.std.specs.Prelude.{Bool, true, false, cond, not, ◌&&◌, ℤ, pos, negsuc, int_le}
use Rattle.plate.specs.declared.Ink.{Ink}
use Rattle.plate.specs.declared.Ink.TheVariants.{Light, Clear, Flip}
use Rattle.plate.specs.declared.Window.{Window}

-- a dot: x to the right, y downward
abbrev pub Dot : Type 0
Dot = ℤ × ℤ

-- the world: the dots with both numbers from -32,767 to 32,767
unfoldable pub within : ℤ → Bool
within z = int_le (negsuc 32766) z && int_le z (pos 32767)

unfoldable pub world : Dot → Bool
world p = within p.0 && within p.1

-- a window's four bounds belong to it
unfoldable pub inside : Window → Dot → Bool
inside w p = (int_le w.left p.0 && int_le p.0 w.right) && (int_le w.top p.1 && int_le p.1 w.bottom)

-- the window without dots
abbrev pub empty : Window
empty = record { left = pos 1; top = pos 1; right = pos 0; bottom = pos 0 }

-- the window with the dots of these bounds: crossed bounds have none
unfoldable pub canonical : Window → Window
canonical w = cond (int_le w.left w.right && int_le w.top w.bottom) w empty

-- bounds within limits: all four are numbers of the world
unfoldable pub bounded : Window → Bool
bounded w = world (w.left, w.top) && world (w.right, w.bottom)

-- the window that given bounds make: none of its dots where the bounds are refused
abbrev pub window_of : Window → Window
window_of w = cond (bounded w) (canonical w) empty

-- a dot that takes an ink
abbrev pub inked : Ink → Bool → Bool
inked Light lit = true
inked Clear lit = false
inked Flip lit = not lit
