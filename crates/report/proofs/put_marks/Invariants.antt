use Rattle.std.proofs.Common.{◌≡◌, [], drop, ◌++◌}
use Rattle.std.specs.Iterator.Adapters.{enumerate_source, enumerate_count}
use Rattle.report.specs.Lines.{marks}
use Rattle.report.proofs.Rows.{Along}
use Rattle.report.proofs.put_marks.Given as goal

abbrev pub invariant-loop-at : goal.invariant-loop-at
invariant-loop-at g l = record {
  same : g.P.Plate.strikes l.initial.plate [] l.plate;
  along : Along l.fn.window (enumerate_count l.at-iterator) (enumerate_source l.at-iterator);
  bytes : l.out ≡ marks (g.P.Plate.lit l.initial.plate) (enumerate_count l.at-iterator) l.fn.window.left l.fn.y ++ drop (enumerate_count l.at-iterator) l.initial.out;
}
