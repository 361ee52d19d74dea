-- The way down a pile: how it turns, where a dot lies on the lowest plate, and what becomes of a window.
use Rattle.std.specs.Prelude.{◌≡◌, ℕ, suc, ◌+◌, ◌*◌, ◌%◌, max, Bool, true, false, cond, not, ◌&&◌, List, [], ◌∷◌, ℤ, pos, negsuc, ◌+ℤ◌, ◌-ℤ◌, Some, None, Option, ◌==◌, int_le, unsigned_abs}
use Rattle.std.specs.Bool.{beq}
use Rattle.std.specs.Int.{int_max, int_min}
use Rattle.plate.specs.declared.Facing.{Facing}
use Rattle.plate.specs.declared.Facing.TheVariants.{Same, Quarter, Half, Back, AcrossX, AcrossY, Swap, Anti}
use Rattle.plate.specs.declared.Window.{Window}
use Rattle.plate.specs.World.{Dot, inside, empty}
use Rattle.plate.specs.Plates.{Layer, mask, shift, turn, turned, step, place}

-- the numbers of the turns
abbrev pub facing_number : Facing → ℕ
facing_number Same = 0
facing_number Quarter = 1
facing_number Half = 2
facing_number Back = 3
facing_number AcrossX = 4
facing_number AcrossY = 5
facing_number Swap = 6
facing_number Anti = 7

-- a turn exchanges x and y or not, and then negates the first number, the second, both or none
abbrev pub exchanges : Facing → Bool
exchanges Same = false
exchanges Quarter = true
exchanges Half = false
exchanges Back = true
exchanges AcrossX = false
exchanges AcrossY = false
exchanges Swap = true
exchanges Anti = true

abbrev pub negates_first : Facing → Bool
negates_first Same = false
negates_first Quarter = true
negates_first Half = true
negates_first Back = false
negates_first AcrossX = true
negates_first AcrossY = false
negates_first Swap = false
negates_first Anti = true

abbrev pub negates_second : Facing → Bool
negates_second Same = false
negates_second Quarter = false
negates_second Half = true
negates_second Back = true
negates_second AcrossX = false
negates_second AcrossY = true
negates_second Swap = false
negates_second Anti = true

-- the turn with these three parts
abbrev pub facing_by : Bool → Bool → Bool → Facing
facing_by false false false = Same
facing_by false false true = AcrossY
facing_by false true false = AcrossX
facing_by false true true = Half
facing_by true false false = Swap
facing_by true false true = Back
facing_by true true false = Quarter
facing_by true true true = Anti

abbrev pub differs : Bool → Bool → Bool
differs a b = not (beq a b)

-- the one turn that is f and then g
abbrev pub joined_turn : Facing → Facing → Facing
joined_turn f g =
    facing_by
    (differs (exchanges f) (exchanges g))
    (differs (negates_first g) (cond (exchanges g) (negates_second f) (negates_first f)))
    (differs (negates_second g) (cond (exchanges g) (negates_first f) (negates_second f)))

-- how one layer turns, and all of a pile's turns together
abbrev pub turn_of : Layer → Facing
turn_of (mask m) = Same
turn_of (shift dx dy) = Same
turn_of (turn k) = k

abbrev pub facing_of : List Layer → Facing
facing_of [] = Same
facing_of (l ∷ ls) = joined_turn (turn_of l) (facing_of ls)

-- how many of a pile's turns exchange the axes
abbrev pub exchangings : List Layer → ℕ
exchangings [] = 0
exchangings (l ∷ ls) = cond (exchanges (turn_of l)) 1 0 + exchangings ls

-- a number that can be handed to a call, as an i32, and a dot of two such numbers
unfoldable pub handable : ℤ → Bool
handable z = int_le (negsuc 2147483647) z && int_le z (pos 2147483647)

unfoldable pub handable_dot : Dot → Bool
handable_dot p = handable p.0 && handable p.1

-- the place on the lowest plate, unless a number on the way can be handed to no call; the way may leave the world
abbrev pub carried : List Layer → Dot → Option Dot
carried [] p = Some p
carried (l ∷ ls) p = cond (handable_dot (step l p)) (carried ls (step l p)) None

-- a window carried down is the window of the places of its dots; the empty one stays empty
abbrev pub spanned : Dot → Dot → Window
spanned p q = record { left = int_min p.0 q.0; top = int_min p.1 q.1; right = int_max p.0 q.0; bottom = int_max p.1 q.1 }

abbrev pub has_dots : Window → Bool
has_dots w = int_le w.left w.right && int_le w.top w.bottom

unfoldable pub lowered : List Layer → Window → Window
lowered ls w = cond (has_dots w) (spanned (place ls (w.left, w.top)) (place ls (w.right, w.bottom))) empty

-- how many dots a window has
unfoldable pub dot_count : Window → ℕ
dot_count w = cond (has_dots w) (suc (unsigned_abs (w.right -ℤ w.left)) * suc (unsigned_abs (w.bottom -ℤ w.top))) 0

-- how far apart two dots are, by the larger of their differences; neighbours are one apart
unfoldable pub apart : Dot → Dot → ℕ
apart p q = max (unsigned_abs (p.0 -ℤ q.0)) (unsigned_abs (p.1 -ℤ q.1))

-- one dot moved by the numbers of another
abbrev pub moved : Dot → Dot → Dot
moved p q = (p.0 +ℤ q.0, p.1 +ℤ q.1)

-- The laws of a pile's map, for every pile.
pub record MapLaws (ls : List Layer) : Type 0 where
  -- two dots have two places, and every dot of the plane is a place
  pub one_to_one : (p q : Dot) → place ls p ≡ place ls q → p ≡ q
  pub onto : (q : Dot) → (p : Dot) × (place ls p ≡ q)
  -- the map is one turn followed by one shift
  pub turn_then_shift : (p : Dot) → place ls p ≡ moved (turned (facing_of ls) p) (place ls (pos 0, pos 0))
  -- distances stay, so that neighbours have neighbouring places
  pub distances : (p q : Dot) → apart (place ls p) (place ls q) ≡ apart p q
  -- the axes are exchanged where an odd number of turns exchange them
  pub odd : exchanges (facing_of ls) ≡ (exchangings ls % 2 == 1)
  -- a window carried down has just the places of its dots, and as many; the empty one is carried down as itself
  pub window : (w : Window) (p : Dot) → inside (lowered ls w) (place ls p) ≡ inside w p
  pub as_many : (w : Window) → dot_count (lowered ls w) ≡ dot_count w
  pub none : lowered ls empty ≡ empty
