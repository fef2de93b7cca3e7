-- `speed::sum`: the sum stays below the number it is divided by. Assumes nothing.
use Prim.Native.Nat.{◌<◌}
use Rattle.speed.proofs.sum.Given as goal

abbrev pub invariant-loop : goal.invariant-loop
invariant-loop g l = l.sum < 1000003
