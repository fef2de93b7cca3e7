-- `lines::widen`: its loop keeps `Copied`, of crate text (proofs/Overwrites.antt there), with the bytes as what is given.
use Rattle.text.proofs.Overwrites.{copied_more}
use Rattle.lines.proofs.widen.Goals as goal

pub loop-i-preserved : goal.loop-i-preserved
loop-i-preserved c = rw c.from.ensures (copied_more c.loop-i.invariant c.loop-i-test.true c.requires)
