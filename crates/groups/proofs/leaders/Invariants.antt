-- What `leaders` keeps true from turn to turn.
use Rattle.groups.specs.Classes.{together_in}
use Rattle.groups.proofs.Listing.{Listing}
use Rattle.groups.proofs.leaders.Given as goal

abbrev pub invariant-loop-v : goal.invariant-loop-v
invariant-loop-v l = Listing (together_in l.labels l.j) l.n l.initial.list l.list l.v
