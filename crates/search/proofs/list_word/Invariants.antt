-- What `list_word` keeps true from turn to turn.
use Prim.Native.Nat.{◌+◌}
use lib.ListN.{length}
use Rattle.reaching.specs.Words.{Coming}
use Rattle.search.proofs.Listing.{Listing}
use Rattle.search.proofs.list_word.Given as goal

abbrev pub invariant-loop-t : goal.invariant-loop-t
invariant-loop-t l =
    (t : Coming (λ j. l.base + j) l.word l.start (length l.initial.list)) → Listing l.base t.edges t.most l.start l.initial.list l.list l.t-iterator.left l.n
