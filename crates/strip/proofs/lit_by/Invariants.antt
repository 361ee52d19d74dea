use Rattle.std.proofs.Common.{◌≡◌, map, drop}
use Rattle.plate.specs.Plates.{lit_after}
use Rattle.strip.specs.Strips.{kept, lit_by}
use Rattle.strip.proofs.lit_by.Given as goal

-- what is lit now, after the records still to come, is what all of them leave
abbrev pub invariant-loop-record : goal.invariant-loop-record
invariant-loop-record l = lit_after (map kept (drop l.record-index l.record-items)) (λ q. l.lit) l.at ≡ lit_by l.record-items l.at
