-- Which bit of which byte keeps a dot, and how an ink changes it.
use Rattle.std.specs.Prelude.{ℕ, ◌+◌, ◌-◌, ◌*◌, ◌/◌, ◌%◌, ◌^◌, Bool, cond, ◌==◌, unsigned_abs}
use Rattle.plate.specs.declared.Ink.{Ink}
use Rattle.plate.specs.World.{Dot, inked}

-- how many bytes a row takes: eight dots to a byte, and the last byte may have spare bits
abbrev pub row_bytes : ℕ → ℕ
row_bytes width = (width + 7) / 8

-- which byte keeps a dot: row by row from the top, each row from the left
unfoldable pub byte_of : ℕ → Dot → ℕ
byte_of width p = unsigned_abs p.1 * row_bytes width + unsigned_abs p.0 / 8

-- which bit of that byte, bit 0 being the lowest: a row's dots go from high bits to low ones
unfoldable pub bit_of : Dot → ℕ
bit_of p = 7 - unsigned_abs p.0 % 8

-- whether bit k of a byte is one
unfoldable pub bit : ℕ → ℕ → Bool
bit byte k = byte / 2 ^ k % 2 == 1

-- what bit k is worth in its byte
abbrev pub worth : ℕ → Bool → ℕ
worth k one = cond one (2 ^ k) 0

-- the byte whose bit k took an ink, with every other bit as it was
unfoldable pub inked_byte : Ink → ℕ → ℕ → ℕ
inked_byte ink byte k = byte - worth k (bit byte k) + worth k (inked ink (bit byte k))
