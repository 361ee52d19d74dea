-- The dots of a figure whose numbers keep their limits, in order. No public contract cites this.
use Rattle.std.specs.Prelude.{List}
use Rattle.plate.specs.World.{Dot}
use Rattle.figure.specs.declared.shapes.Shape.{Shape}
use Rattle.figure.specs.declared.shapes.Shape.TheVariants.{Line, Outline, Filled}
use Rattle.figure.specs.Lines.{line_dots}
use Rattle.figure.specs.Outlines.{outline_dots}
use Rattle.figure.specs.Fills.{filled_dots}

abbrev pub shape_dots : Shape → List Dot
shape_dots (Line line) = line_dots line.from.at line.to.at
shape_dots (Outline centre axes) = outline_dots centre.at axes.ellipse.a axes.ellipse.b
shape_dots (Filled centre axes) = filled_dots centre.at axes.ellipse.a axes.ellipse.b
