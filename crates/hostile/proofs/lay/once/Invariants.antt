-- `hostile::lay::once`: the bytes left grow fewer. Assumes nothing.
use lib.ListN.{length}
use Rattle.hostile.proofs.lay.once.Given as goal

abbrev pub decreases-loop-rest : goal.decreases-loop-rest
decreases-loop-rest l = length l.rest
