use Rattle.std.proofs.Common.{◌≡◌, ◌+◌, length, drop}
use Rattle.report.proofs.Places.{said_all}
use Rattle.report.proofs.all_fit.Given as goal

abbrev pub invariant-loop-piece : goal.invariant-loop-piece
invariant-loop-piece l = length (said_all (drop l.piece-index l.pieces)) + l.initial.room ≡ length (said_all l.pieces) + l.room
