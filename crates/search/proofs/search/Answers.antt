-- `search::search`: the first turn is the new edge's, and the others follow.
use mathlib.Core.Path.{subst, ap₂}
use Prim.Native.Nat.{ℕ, ◌+◌}
use Rattle.reaching.specs.Trying.{Tells}
use Rattle.search.proofs.AllTurns.{ended}
use Rattle.search.proofs.Beginning.{sought_for, first_asks, first_ends, first_goes}
use Rattle.search.proofs.search.Goals as goal

pub try_forests-requires : goal.try_forests-requires
try_forests-requires c =
    let Q = c.args.queue.now in
    let s = sought_for c.from-red.ensures (ap₂ (λ (a b : ℕ). a + b) c.from-red.ensures c.from.ensures) c.requires in
    first_asks s Q.edges Q.from Q.edges_long Q.from_long c.of.ensures

pub turns-requires : goal.turns-requires
turns-requires c =
    let Q = c.args.queue.now in
    let s = sought_for c.from-red.ensures (ap₂ (λ (a b : ℕ). a + b) c.from-red.ensures c.from.ensures) c.requires in (
      s.given,
      first_goes s Q.edges Q.from Q.edges_long Q.from_long c.of.ensures _ _ _ _
          (λ t last own. subst (Tells _ _ _ _) c.in-None.is (c.try_forests.ensures t last own)),
    )

pub returns-in-Some : goal.returns-in-Some
returns-in-Some c sought =
    let Q = c.args.queue.now in
    let s = sought_for c.from-red.ensures (ap₂ (λ (a b : ℕ). a + b) c.from-red.ensures c.from.ensures) sought in
    let n = c.try_forests.new.queue.size in
    ended s.given n 1 s.given.setting.edges.low
    (first_ends s Q.edges Q.from Q.edges_long Q.from_long c.of.ensures _ _ _ n _
    (λ t last own. subst (Tells _ _ _ _) c.in-Some.is (c.try_forests.ensures t last own)))

pub returns-in-None : goal.returns-in-None
returns-in-None c sought =
    let Q = c.args.queue.now in
    let s = sought_for c.from-red.ensures (ap₂ (λ (a b : ℕ). a + b) c.from-red.ensures c.from.ensures) sought in
    c.turns.ensures s.given
    (first_goes s Q.edges Q.from Q.edges_long Q.from_long c.of.ensures _ _ _ _
    (λ t last own. subst (Tells _ _ _ _) c.in-None.is (c.try_forests.ensures t last own)))
