-- A plate of 16 by 16 dots that holds one of them apart from its cells.
use Rattle.std.specs.Prelude.{ℕ, ◌+◌, ◌*◌, Bool, false, cond, pos, ◌==◌, slice_index_or, unsigned_abs}
use Rattle.plate.specs.declared.Window.{Window}
use Rattle.plate.specs.World.{Dot}
use Rattle.plate.specs.Plates.{Meaning}
use Rattle.cached.specs.declared.Cached.{Cached}

abbrev pub frame : Window
frame = record { left = pos 0; top = pos 0; right = pos 15; bottom = pos 15 }

-- which cell keeps a dot: row by row from the top, each row from the left
unfoldable pub cell_of : Dot → ℕ
cell_of p = unsigned_abs p.1 * 16 + unsigned_abs p.0

-- whether the dot of a cell is lit: by what is held of it, or else by its cell
abbrev pub lit_at : Cached → ℕ → Bool
lit_at s i = cond (i == s.held) s.lit (slice_index_or s.cells i false)

-- what a plate with a held dot means, whatever its fields hold
abbrev pub cached_meaning : Cached → Meaning
cached_meaning s = record { window = frame; lit = λ p. lit_at s (cell_of p); shots = s.shots }
