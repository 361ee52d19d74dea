-- What masks, shifts and turns are made from, and which layer each then is.
use Rattle.std.specs.Prelude.{◌≡◌, ℕ, Bool, false, cond, ◌&&◌, ℤ, pos, int_le, Result, MatchResult}
use Rattle.plate.specs.World.{world}
use Rattle.plate.specs.Plates.{Layer, mask, shift, turn}
use Rattle.plate.specs.Piles.{facing_number}
use Rattle.layer.specs.declared.LayerRefusal.{LayerRefusal}
use Rattle.layer.specs.declared.LayerRefusal.TheVariants.{BadShift, BadTurn}
use Rattle.layer.specs.declared.masks.Masking.{Masking}
use Rattle.layer.specs.declared.shifts.Shifting.{Shifting}
use Rattle.layer.specs.declared.turns.Turning.{Turning}

abbrev pub layer_number : LayerRefusal → ℕ
layer_number BadShift = 1
layer_number BadTurn = 1

-- a mask by the window that it shows
abbrev pub mask_layer : Masking → Layer
mask_layer m = mask m.shown

-- the shift that two numbers make: none where one of them is refused
abbrev pub shift_by : ℤ → ℤ → Layer
shift_by dx dy = cond (world (dx, dy)) (shift dx dy) (shift (pos 0) (pos 0))

abbrev pub shift_layer : Shifting → Layer
shift_layer s = shift_by s.dx s.dy

-- the numbers of the eight turns
abbrev pub turn_number : ℤ → Bool
turn_number n = int_le (pos 0) n && int_le n (pos 7)

abbrev pub turn_layer : Turning → Layer
turn_layer t = turn t.facing

-- what a number makes: its turn, or the refusal where no turn has it
abbrev pub MakesTurn : ℤ → Result Turning LayerRefusal → Type 0
MakesTurn n r = MatchResult r (λ t. pos (facing_number t.facing) ≡ n) (λ e. (turn_number n ≡ false) × (e ≡ BadTurn))
