-- The printed lines, byte for byte, and what a call answers and leaves that writes one.
use Rattle.std.specs.Prelude.{ℕ, zero, suc, ◌+◌, Bool, cond, List, [], ◌∷◌, ◌++◌, length, drop, ℤ, pos, ◌+ℤ◌, ◌-ℤ◌, codes, decimal, nat_le, unsigned_abs, Result, Ok, Err}
use Rattle.std.specs.List.{concat}
use Rattle.plate.specs.declared.Window.{Window}
use Rattle.plate.specs.World.{Dot, inside}
use Rattle.report.specs.declared.PrintRefusal.{PrintRefusal}
use Rattle.report.specs.declared.PrintRefusal.TheVariants.{Outside, TooShort}

-- the numbers that workshops know these refusals by
abbrev pub print_number : PrintRefusal → ℕ
print_number Outside = 20
print_number TooShort = 11

-- the line feed that ends each line
abbrev feed : List ℕ
feed = 10 ∷ []

-- "width height shots"
abbrev pub header : ℕ → ℕ → ℕ → List ℕ
header width height shots = concat (decimal width ∷ codes " " ∷ decimal height ∷ codes " " ∷ decimal shots ∷ feed ∷ [])

-- "refused N line L column C"
abbrev pub refusal_line : ℕ → ℕ → ℕ → List ℕ
refusal_line number line column = concat (codes "refused " ∷ decimal number ∷ codes " line " ∷ decimal line ∷ codes " column " ∷ decimal column ∷ feed ∷ [])

-- '#' for a lit dot and '.' for an unlit one
abbrev pub mark : Bool → ℕ
mark lit = cond lit 35 46

-- the marks of n dots from (x, y) to the right
abbrev pub marks : (Dot → Bool) → ℕ → ℤ → ℤ → List ℕ
marks lit zero x y = []
marks lit (suc n) x y = mark (lit (x, y)) ∷ marks lit n (x +ℤ pos 1) y

-- how many dots a row has, from the window's left to its right
abbrev pub breadth : Window → ℕ
breadth w = unsigned_abs (w.right -ℤ w.left) + 1

-- a window has a row if it has the row's first dot; the empty window has none
abbrev pub has_row : Window → ℤ → Bool
has_row w y = inside w (w.left, y)

-- one row, from the window's left to its right
abbrev pub row_line : Window → (Dot → Bool) → ℤ → List ℕ
row_line w lit y = marks lit (breadth w) w.left y ++ feed

-- a line is written whole or not at all: 11 where there are too few bytes for it
abbrev pub line_answer : List ℕ → List ℕ → Result ℕ ℕ
line_answer line bytes = cond (nat_le (length line) (length bytes)) (Ok (length line)) (Err 11)

-- the line stands at the start, and the bytes after it keep what they held
abbrev pub written : List ℕ → List ℕ → List ℕ
written line bytes = cond (nat_le (length line) (length bytes)) (line ++ drop (length line) bytes) bytes

-- 20 where the window has no such row, whatever bytes there are
abbrev pub row_answer : Window → (Dot → Bool) → ℤ → List ℕ → Result ℕ ℕ
row_answer w lit y bytes = cond (has_row w y) (line_answer (row_line w lit y) bytes) (Err 20)

abbrev pub row_written : Window → (Dot → Bool) → ℤ → List ℕ → List ℕ
row_written w lit y bytes = cond (has_row w y) (written (row_line w lit y) bytes) bytes
