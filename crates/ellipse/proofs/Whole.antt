-- All laws of the shape together.
use Rattle.ellipse.specs.Ellipses.{EllipseLaws}
use Rattle.ellipse.proofs.Laws.{symmetric, peopled, width, height, joined, falls, next, above, beside}
use Rattle.ellipse.proofs.Order.{listed}

pub ellipse_laws : EllipseLaws
ellipse_laws = record {
  symmetric = symmetric;
  peopled = peopled;
  width = width;
  height = height;
  joined = joined;
  falls = falls;
  next = next;
  above = above;
  beside = beside;
  listed = listed;
}
