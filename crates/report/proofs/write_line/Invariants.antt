use Rattle.std.proofs.Common.{◌≡◌, ◌+◌, length, drop}
use lib.Seq.{sets}
use Rattle.report.proofs.Places.{said_all}
use Rattle.report.proofs.write_line.Given as goal

abbrev pub invariant-loop-piece : goal.invariant-loop-piece
invariant-loop-piece l =
    (l.at + length (said_all (drop l.piece-index l.pieces)) ≡ length (said_all l.pieces))
    × (sets l.out l.at (said_all (drop l.piece-index l.pieces)) ≡ sets l.initial.out 0 (said_all l.pieces))
