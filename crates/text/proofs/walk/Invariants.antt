-- What `walk` keeps true from turn to turn.
use Rattle.text.specs.EdgeLists.{lists_of}
use Rattle.text.proofs.Walks.{Walked}
use Rattle.text.proofs.walk.Given as goal

abbrev pub invariant-loop-i : goal.invariant-loop-i
invariant-loop-i l =
    Walked l.text l.head.a l.head.b l.head.n l.head.edges (lists_of l.initial.edges) l.at l.i (lists_of l.edges)
