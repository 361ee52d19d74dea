use Rattle.std.proofs.Common.{◌∙◌, ap, w32, SFits, rules}
use Rattle.std.specs.Iterator.Adapters.{enumerate_source, enumerate_count}
use Rattle.std.proofs.lemmas.Int.{to_z-of_z}
use Rattle.report.proofs.Rows.{along_start, row_turn}
use Rattle.report.proofs.put_marks.Goals as goal

pub loop-at-init : goal.loop-at-init
loop-at-init g c =
    let l : SFits w32 c.args.window.left = search rules in
    let r : SFits w32 c.args.window.right = search rules in
    let i = c.into_iter-at-iterator.ensures.into_iter_gives in
    let e = c.enumerate-at-items.ensures in
    let none = ap enumerate_count i ∙ e.count in
    let n = c.new.ensures in
    record {
      same = g.P.Plate.laws.none _;
      along = along_start _ _ _ _ _ c.requires.row (n.start ∙ to_z-of_z w32 _ l) (n.end ∙ to_z-of_z w32 _ r) n.exhausted none (ap enumerate_source i ∙ e.source);
      bytes = rw none;
    }

pub loop-at-preserved : goal.loop-at-preserved
loop-at-preserved g c =
    let fy = c.ranges.y in
    let fx : SFits w32 c.in-Some.x = search rules in
    let i = c.loop-at.invariant in
    let n = c.in-Some.ensures.steps in
    let t = row_turn g.P.Plate.laws _ _ _ _ _ _ _ _ _ _ _ _ c.requires.whose c.requires.row c.requires.room i.same i.along (simp to_z-of_z at i.bytes) n.0 (simp to_z-of_z at c.mark_at.ensures.value) c.mark_at.ensures.same in
    rw (n.1, n.2) record { same = t.0; along = t.1; bytes = simp to_z-of_z t.2 }
