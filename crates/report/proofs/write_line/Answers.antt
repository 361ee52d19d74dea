use Rattle.std.proofs.Common.{sym, ◌∙◌, arith}
use Rattle.std.proofs.lemmas.Bool.{leb-true}
use Rattle.report.proofs.Places.{room_said, after_said, sets-said, length_unsaid, sets_unsaid, whole_answer, whole_line}
use Rattle.report.proofs.write_line.Goals as goal

pub put_text-at-requires : goal.put_text-at-requires
put_text-at-requires c =
    let i = c.loop-piece.invariant in
    let h = leb-true _ _ (sym c.if-not-all_fit.ensures) in
    room_said _ _ _ _ _ c.loop-piece-test.true (omega arith)

pub loop-piece-preserved : goal.loop-piece-preserved
loop-piece-preserved c =
    let i = c.loop-piece.invariant in
    let h = c.loop-piece-test.true in
    let e = c.put_text-at.ensures.after in
    (after_said _ _ _ _ _ h e ∙ i.0, sets-said _ _ _ _ _ _ _ h e c.put_text-at.ensures.bytes ∙ i.1)

pub returns : goal.returns
returns c =
    let i = c.loop-piece.invariant in
    let t = sym c.if-not-all_fit.ensures in
    let e = length_unsaid _ _ c.loop-piece-test.false in
    record { answer = whole_answer _ _ _ t (omega arith); bytes = sym (sets_unsaid _ _ _ _ c.loop-piece-test.false) ∙ i.1 ∙ whole_line _ _ t }
