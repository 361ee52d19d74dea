-- What a tally of dots has to do with the shots of a plate.
use Rattle.std.specs.Prelude.{◌≡◌, ℕ, ◌+◌, ◌^◌, ◌<◌}

-- the dots that were added to the tally are the shots that are gone, where their sum can be told at all
abbrev pub Spent : ℕ → ℕ → ℕ → ℕ → Type 0
Spent dots shots dots_then shots_then = dots + shots < 2 ^ 32 → dots_then + shots_then ≡ dots + shots
