use Rattle.std.proofs.Common.{arith}
use Rattle.std.proofs.lemmas.Int.{ints, to_z-of_z}
use Rattle.figure.proofs.Reaches.{seeks_outward, seeks_inward}
use Rattle.figure.proofs.limits.SemiAxes.reach_of_row.Goals as goal

pub reach_outward-requires : goal.reach_outward-requires
reach_outward-requires c =
    let f = c.ranges.dy in
    seeks_outward c.args.self.ellipse.a c.args.self.ellipse.b c.args.dy c.args.from _ c.requires.seeks c.requires.rows (omega (arith, ints)) (simp to_z-of_z at c.unsigned_abs-y.ensures.value)

pub reach_inward-requires-clause-reaches : goal.reach_inward-requires-clause-reaches
reach_inward-requires-clause-reaches c =
    let f = c.ranges.dy in
    seeks_inward c.args.self.ellipse.a c.args.self.ellipse.b c.args.dy c.args.from _ c.requires.seeks c.requires.rows (omega (arith, ints)) (simp to_z-of_z at c.unsigned_abs-y.ensures.value)
