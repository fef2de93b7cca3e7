-- From what a search answers to what `trail` and `circuit` ask: where it ended, each edge that waits was reached from an earlier place; where it
-- did not end, the new edge waits first and no edge waits twice. So says the theory of any search.
-- Assumes nothing.
use mathlib.Core.Path.{ap, ◌∙◌, subst}
use mathlib.Core.List.{List}
use Rattle.std.specs.Prelude.{None}
use Prim.Native.Nat.{ℕ}
use native.Mathlib.Omega.{arith}
use lib.ListN.{take}
use Rattle.theory.proofs.Search.Stages.{Stage, Ended, search_ends, Turned as Stages}
use Rattle.reaching.proofs.Held.{held_few}
use Rattle.theory.specs.Search.{search}
use Rattle.theory.specs.Search.Result.{found}
use Rattle.reaching.specs.Setting.{HoldsWaiting}
use Rattle.reaching.specs.Trying.{Comes}
use Rattle.search.specs.Given.{Given}
use Rattle.search.specs.Answers.{Searched}
use Rattle.search.specs.Ends.{Led, Queued}

-- the search has ended at a place, in a forest
abbrev pub EndsAt : {a k : ℕ} {ones others colours forests root way edge : List ℕ} → Given a k ones others colours forests root way edge
    → (queue from : List ℕ) (p f : ℕ) → Type 0
EndsAt g queue from p f = Comes (λ w. HoldsWaiting w queue from) (found p f) (search g.d g.forest g.d.m)

module _ {a k : ℕ} {ones others colours forests root way edge queue from : List ℕ} (g : Given a k ones others colours forests root way edge) where
  pub ended_there : {p f : ℕ} (s : EndsAt g queue from p f) → Ended g.d g.forest g.d.m p f s.waiting
  ended_there s =
      subst (Stages g.d g.forest g.d.m g.d.m) s.is (search_ends g.d g.forest g.d.m (omega (arith, g.setting.edges.low)))

  abbrev pub led : {p f : ℕ} → EndsAt g queue from p f → Led p queue from
  led s = record { w = s.waiting; holds = s.holds; here = (ended_there s).waits; earlier = (ended_there s).reached.earlier }

  pub not_ended : {n : ℕ} (s : Searched g queue from n None) → Stage g.d g.forest g.d.m g.d.m 0 s.waiting
  not_ended s =
      subst (Stages g.d g.forest g.d.m g.d.m) s.is (search_ends g.d g.forest g.d.m (omega (arith, g.setting.edges.low)))

  abbrev pub queued : {n : ℕ} → Searched g queue from n None → Queued n queue
  queued s =
      record {
        d = g.d;
        forest = g.forest;
        w = s.waiting;
        edges = g.setting.edges.high;
        sound = (not_ended s).reached;
        counts = s.holds.0;
        few = omega (arith, s.holds.0, held_few s.holds.1);
        queued = ap (λ (j : ℕ). take j queue) s.holds.0 ∙ s.holds.1.queued;
      }
