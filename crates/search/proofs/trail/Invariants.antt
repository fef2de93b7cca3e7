-- What `trail` keeps true from turn to turn, and what its turns count down.
use Rattle.search.specs.Ends.{LedIn}
use Rattle.search.proofs.Leading.{Leading}
use Rattle.search.proofs.trail.Given as goal

abbrev pub invariant-loop-q : goal.invariant-loop-q
invariant-loop-q l = (t : LedIn l.place l.queue) → Leading t.w l.place l.q l.n l.initial.path l.path

abbrev pub decreases-loop-q : goal.decreases-loop-q
decreases-loop-q l = l.q
