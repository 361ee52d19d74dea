use Rattle.std.proofs.Common.{arith}
use Rattle.std.proofs.lemmas.Grind.{common_steps}
use Rattle.report.proofs.Rows.{short_answer, short_bytes, whole_answer, whole_bytes, row_told}
use Rattle.report.proofs.write_row.Goals as goal

pub returns-then-out-count-clause-answer : goal.returns-then-out-count-clause-answer
returns-then-out-count-clause-answer g c = grind (arith, short_answer c.window-window.result)

pub returns-then-out-count-clause-bytes : goal.returns-then-out-count-clause-bytes
returns-then-out-count-clause-bytes g c = grind (arith, short_bytes c.window-window.result)

pub returns-clause-answer : goal.returns-clause-answer
returns-clause-answer g c = grind (arith, whole_answer c.window-window.result)

pub returns-clause-bytes : goal.returns-clause-bytes
returns-clause-bytes g c = grind (arith, common_steps, whole_bytes, row_told g.P.Plate.laws c.args.plate.now c.window-window.new.self c.window-window.result c.args.y c.window-window.ensures.value)

pub returns-clause-same : goal.returns-clause-same
returns-clause-same g c = g.P.Plate.laws.join _ _ _ _ _ c.window-window.ensures.same c.put_marks.ensures.same
