-- What calls answer, a refusal told by its number.
use Rattle.std.specs.Prelude.{ℕ, Ok, Err, Result}
use Rattle.plate.specs.declared.StrikeRefusal.{StrikeRefusal}
use Rattle.plate.specs.declared.StrikeRefusal.TheVariants.{Outside, NoShots}
use Rattle.plate.specs.declared.WindowRefusal.{WindowRefusal}
use Rattle.plate.specs.declared.WindowRefusal.TheVariants.{BeyondWorld}

-- an answer as its value or the number of its refusal; each kind of refusal has its own numbers
abbrev pub told : {X E : Type 0} → (E → ℕ) → Result X E → Result X ℕ
told number (Ok x) = Ok x
told number (Err e) = Err (number e)

abbrev pub strike_number : StrikeRefusal → ℕ
strike_number Outside = 20
strike_number NoShots = 21

abbrev pub window_number : WindowRefusal → ℕ
window_number BeyondWorld = 1
