-- A figure by its numbers: the first cause that they give, and its dots in order.
use Rattle.std.specs.Prelude.{ℕ, List, Option, unsigned_abs}
use Rattle.plate.specs.World.{Dot}
use Rattle.figure.specs.declared.Figure.{Figure}
use Rattle.figure.specs.declared.Figure.TheVariants.{Outline, Circle, Filled, Line}
use Rattle.figure.specs.Lines.{line_dots, line_cause}
use Rattle.figure.specs.Outlines.{outline_dots, ellipse_cause}
use Rattle.figure.specs.Fills.{filled_dots}

-- 1 for a coordinate outside the world, next 2 for a semi-axis or a radius
abbrev pub cause_of : Figure → Option ℕ
cause_of (Outline c a b) = ellipse_cause c a b
cause_of (Circle c r) = ellipse_cause c r r
cause_of (Filled c a b) = ellipse_cause c a b
cause_of (Line p q) = line_cause p q

-- a circle is the outline with both semi-axes equal to its radius
abbrev pub dots_of : Figure → List Dot
dots_of (Outline c a b) = outline_dots c (unsigned_abs a) (unsigned_abs b)
dots_of (Circle c r) = outline_dots c (unsigned_abs r) (unsigned_abs r)
dots_of (Filled c a b) = filled_dots c (unsigned_abs a) (unsigned_abs b)
dots_of (Line p q) = line_dots p q
