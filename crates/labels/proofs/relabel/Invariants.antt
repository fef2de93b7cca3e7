-- What `relabel` keeps true from turn to turn.
use Rattle.labels.proofs.Rows.{Left}
use Rattle.labels.proofs.relabel.Given as goal

abbrev pub invariant-loop-t : goal.invariant-loop-t
invariant-loop-t l = Left (λ _. l.new) l.base l.bodies l.initial.root l.root l.t-iterator.left
