use Rattle.std.proofs.Common.{◌∙◌}
use Rattle.strip.proofs.Records.{next_record}
use Rattle.strip.proofs.lit_by.Goals as goal

pub loop-record-preserved : goal.loop-record-preserved
loop-record-preserved c =
    next_record c.args.records.now c.loop-record.record-index _ c.loop-record.lit c.leaves-lit.result _ c.loop-record-test.true c.leaves-lit.ensures
    ∙ c.loop-record.invariant
