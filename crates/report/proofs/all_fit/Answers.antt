use Rattle.std.proofs.Common.{◌<◌, ◌≤◌, length, [], sym, refl, arith}
use Rattle.std.proofs.lemmas.Bool.{le-leb, lt-leb}
use Rattle.report.proofs.Places.{said_all, length-said, length_unsaid}
use Rattle.report.proofs.all_fit.Goals as goal

pub returns-then-room-len : goal.returns-then-room-len
returns-then-room-len c =
    let i = c.loop-piece.invariant in
    let e = length-said c.args.pieces.now c.loop-piece.piece-index (record { ref_ptr = (0, 0); now = [] }) _ c.loop-piece-test.true refl in
    let short : c.args.room < length (said_all c.args.pieces.now) = omega arith in
    sym (lt-leb _ _ short)

pub loop-piece-preserved : goal.loop-piece-preserved
loop-piece-preserved c =
    let i = c.loop-piece.invariant in
    let e = length-said c.args.pieces.now c.loop-piece.piece-index (record { ref_ptr = (0, 0); now = [] }) _ c.loop-piece-test.true refl in
    omega arith

pub returns : goal.returns
returns c =
    let i = c.loop-piece.invariant in
    let e = length_unsaid _ _ c.loop-piece-test.false in
    let whole : length (said_all c.args.pieces.now) ≤ c.args.room = omega arith in
    sym (le-leb _ _ whole)
