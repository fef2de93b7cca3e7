-- What `try_forests` keeps true from turn to turn.
use mathlib.Core.Path.{◌≡◌}
use Prim.Native.Nat.{◌-◌, ◌≤◌}
use Rattle.std.specs.Prelude.{None}
use Rattle.rule.specs.Forests.{limit}
use Rattle.theory.specs.Search.{try_forests}
use Rattle.reaching.specs.Trying.{Tells}
use Rattle.reaching.specs.Queues.{TryingIn, AfterIn}
use Rattle.reaching.proofs.try_forests.Given as goal

-- the forests before f are tried, whatever design the tables stand for
abbrev pub invariant-loop-f : goal.invariant-loop-f
invariant-loop-f l =
    ((t : TryingIn l.edge l.place l.tables l.initial.queue) → limit t.d t.x ≡ l.last → t.forest t.x ≡ l.own
    → Tells (AfterIn t l.queue) l.place (try_forests t.d t.forest l.place t.x (l.f - 1) t.w) l.queue.size None)
    × (1 ≤ l.f)
    × (l.f - 1 ≤ l.last)
