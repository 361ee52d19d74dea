use Rattle.std.proofs.Common.{◌+◌, ◌-◌, [], drop, sym, refl, ◌∙◌, arith}
use Rattle.std.proofs.lemmas.List.{at_drop_all}
use Rattle.ellipse.proofs.Places.{place_start, coming_start, coming, go_on, go_down, go_side, go_end}
use Rattle.figure.specs.Corners.{corners_dots, all_corners}
use Rattle.figure.proofs.Kept.{pair_dots, outline_pairs, next_pair, next_corner}
use Rattle.figure.proofs.Walks.{start, turn, finish}
use Rattle.figure.proofs.outlines.walk_outline.Goals as goal
use Rattle.figure.proofs.outlines.walk_outline.Goals.{else-y-gt0-via-then-y-gt0+else-lighted-2, else-y-gt0-via-else-y-gt0}

pub pairs-init : goal.pairs-init
pairs-init g c =
    let e = c.args.axes.ellipse in
    (place_start e.a e.b, start g.V.Visitor.laws _ _ _ (outline_pairs c.args.centre.at e.a e.b _ (coming_start e.a e.b)))

pub seek-preserved : goal.seek-preserved
seek-preserved g c =
    let s = go_on c.seek.invariant.0 (sym c.if-lighted.ensures.value) in
    (s.0, c.seek.invariant.1 ∙ s.1, omega (arith, c.seek.invariant.2))

pub loop-corner-init : goal.loop-corner-init
loop-corner-init g c = start g.V.Visitor.laws _ _ _ refl

pub loop-corner-preserved : goal.loop-corner-preserved
loop-corner-preserved g c =
    turn g.V.Visitor.laws _ _ _ _ (corners_dots c.args.centre.at (c.pairs.x, c.seek.y) (drop (c.loop-corner.corner-index + 1) all_corners)) _ (corners_dots c.args.centre.at (c.pairs.x, c.seek.y) all_corners) c.loop-corner.invariant (next_corner c.args.centre.at (c.pairs.x, c.seek.y) all_corners c.loop-corner.corner-index _ c.loop-corner-test.true) c.visit_corner.ensures

pub pairs-preserved-then-lighted-2 : goal.pairs-preserved-then-lighted-2
pairs-preserved-then-lighted-2 g c =
    let s = go_down c.seek.invariant.0 (sym c.if-lighted.ensures.value) c.if-y-gt0.true (sym c.if-lighted-2.ensures.value) in
    let signs = finish g.V.Visitor.laws _ _ _ _ c.loop-corner.invariant (at_drop_all (corners_dots c.args.centre.at (c.pairs.x, c.seek.y)) all_corners c.loop-corner.corner-index c.loop-corner-test.false) in (
      s.0,
      turn g.V.Visitor.laws _ _ _ (corners_dots c.args.centre.at (c.pairs.x, c.seek.y) all_corners) (pair_dots c.args.centre.at (coming c.args.axes.ellipse.a c.args.axes.ellipse.b c.pairs.x (c.seek.y - 1))) _ _ c.pairs.invariant.1 (next_pair c.args.centre.at c.pairs.x c.seek.y _ _ (c.seek.invariant.1 ∙ s.1)) signs,
    )

pub pairs-preserved : goal.pairs-preserved
pairs-preserved g c =
    let s = go_side c.seek.invariant.0 (sym c.if-lighted.ensures.value)
    (λ p. elim c.else-y-gt0.branch [ else-y-gt0-via-then-y-gt0+else-lighted-2 w ↦ sym w.if-lighted-2.ensures.value | else-y-gt0-via-else-y-gt0 w ↦ absurd (omega (arith, w.if-y-gt0.false)) ])
    c.if-x-ellipse.true in
    let signs = finish g.V.Visitor.laws _ _ _ _ c.loop-corner.invariant (at_drop_all (corners_dots c.args.centre.at (c.pairs.x, c.seek.y)) all_corners c.loop-corner.corner-index c.loop-corner-test.false) in (
      s.0,
      turn g.V.Visitor.laws _ _ _ (corners_dots c.args.centre.at (c.pairs.x, c.seek.y) all_corners) (pair_dots c.args.centre.at (coming c.args.axes.ellipse.a c.args.axes.ellipse.b (c.pairs.x + 1) c.seek.y)) _ _ c.pairs.invariant.1 (next_pair c.args.centre.at c.pairs.x c.seek.y _ _ (c.seek.invariant.1 ∙ s.1)) signs,
    )

pub returns : goal.returns
returns g c =
    let s = go_end c.seek.invariant.0 (sym c.if-lighted.ensures.value)
    (λ p. elim c.else-y-gt0.branch [ else-y-gt0-via-then-y-gt0+else-lighted-2 w ↦ sym w.if-lighted-2.ensures.value | else-y-gt0-via-else-y-gt0 w ↦ absurd (omega (arith, w.if-y-gt0.false)) ])
    c.if-x-ellipse.false in
    let signs = finish g.V.Visitor.laws _ _ _ _ c.loop-corner.invariant (at_drop_all (corners_dots c.args.centre.at (c.pairs.x, c.seek.y)) all_corners c.loop-corner.corner-index c.loop-corner-test.false) in
    finish g.V.Visitor.laws _ _ (pair_dots c.args.centre.at []) _ (turn g.V.Visitor.laws _ _ _ (corners_dots c.args.centre.at (c.pairs.x, c.seek.y) all_corners) (pair_dots c.args.centre.at []) _ _ c.pairs.invariant.1 (next_pair c.args.centre.at c.pairs.x c.seek.y _ _ (c.seek.invariant.1 ∙ s)) signs) refl
