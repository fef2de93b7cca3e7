-- What `change` keeps true from turn to turn.
use Rattle.std.specs.Int.Bits.{bit_xor}
use Rattle.labels.proofs.Rows.{Left}
use Rattle.planting.proofs.change.Given as goal

abbrev pub invariant-loop-t : goal.invariant-loop-t
invariant-loop-t l = Left (λ w. bit_xor w l.c) l.base l.bodies l.initial.way l.way l.t-iterator.left
