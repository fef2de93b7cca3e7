-- What `reach` keeps true from turn to turn.
use mathlib.Core.Path.{◌≡◌}
use Rattle.reaching.specs.Words.{standing_at, Coming}
use Rattle.reaching.proofs.Coming.{Reaching}
use Rattle.reaching.proofs.reach.Given as goal

abbrev pub invariant-loop-t : goal.invariant-loop-t
invariant-loop-t l =
    (l.queue.seen ≡ l.initial.queue.seen)
    × ((t : Coming (standing_at l.edge l.base) l.word l.initial.queue.size 379)
    → Reaching (standing_at l.edge l.base) t.edges t.most l.initial.queue.size l.place l.initial.queue.edges l.initial.queue.from l.queue.edges l.queue.from l.t-iterator.left l.queue.size)
