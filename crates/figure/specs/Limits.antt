-- What checking the numbers of a figure answers. No public contract cites this.
use Rattle.std.specs.Prelude.{◌≡◌, ℕ, ◌≤◌, ◌&&◌, true, false, ℤ, Some, None, Ok, Err, Result, unsigned_abs}
use Rattle.plate.specs.World.{Dot, world}
use Rattle.figure.specs.declared.Figure.{Figure}
use Rattle.figure.specs.declared.FigureRefusal.{FigureRefusal}
use Rattle.figure.specs.declared.FigureRefusal.TheVariants.{BeyondWorld, BadAxis}
use Rattle.figure.specs.declared.limits.WorldDot.{WorldDot}
use Rattle.figure.specs.declared.limits.SemiAxes.{SemiAxes}
use Rattle.figure.specs.declared.shapes.Shape.{Shape}
use Rattle.figure.specs.Drawing.{figure_number}
use Rattle.figure.specs.Outlines.{semi_axis}
use Rattle.figure.specs.Figures.{cause_of, dots_of}
use Rattle.figure.specs.Shapes.{shape_dots}

-- this dot, one of the world, or that it is none
abbrev pub DotIs : Dot → Result WorldDot FigureRefusal → Type 0
DotIs at (Ok dot) = dot.at ≡ at
DotIs at (Err e) = (world at ≡ false) × (e ≡ BeyondWorld)

-- this number as a count, a semi-axis, or that it is none
abbrev pub AxisIs : ℤ → Result ℕ FigureRefusal → Type 0
AxisIs n (Ok count) = (semi_axis n ≡ true) × (count ≡ unsigned_abs n) × (count ≤ 4095)
AxisIs n (Err e) = (semi_axis n ≡ false) × (e ≡ BadAxis)

-- these semi-axes, or that one of them is none
abbrev pub AxesAre : ℤ × ℤ → Result SemiAxes FigureRefusal → Type 0
AxesAre axes (Ok kept) = ((semi_axis axes.0 && semi_axis axes.1) ≡ true) × (kept.ellipse.a ≡ unsigned_abs axes.0) × (kept.ellipse.b ≡ unsigned_abs axes.1)
AxesAre axes (Err e) = ((semi_axis axes.0 && semi_axis axes.1) ≡ false) × (e ≡ BadAxis)

-- a figure with its numbers in their limits, or the first cause in them
abbrev pub ShapeIs : Figure → Result Shape FigureRefusal → Type 0
ShapeIs figure (Ok shape) = (cause_of figure ≡ None) × (shape_dots shape ≡ dots_of figure)
ShapeIs figure (Err e) = cause_of figure ≡ Some (figure_number e)
