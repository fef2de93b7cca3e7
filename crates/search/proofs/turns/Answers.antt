-- `search::turns`: after each turn the queue is what the model has after one turn more; where no edge is left to have its turn, or the search has
-- ended, the model stays as it is.
use mathlib.Core.Path.{subst}
use Prim.Native.Nat.{◌+◌}
use native.Mathlib.Omega.{arith}
use Rattle.search.specs.Answers.{Answers}
use Rattle.search.proofs.AllTurns.{ended, all_edges, all_over}
use Rattle.search.proofs.turns.Goals as goal

pub loop-q-init : goal.loop-q-init
loop-q-init c = (omega arith, λ g s. (g.setting.edges.low, s))

pub turn-requires : goal.turn-requires
turn-requires c =
    let g = c.requires.0 in
    (g, (c.loop-q.invariant.0, (c.loop-q-test.true, (c.loop-q.invariant.1 g c.requires.1).1)))

pub returns-in-Some : goal.returns-in-Some
returns-in-Some c g s =
    let r = c.loop-q.invariant.1 g s in
    let Q = c.turn.new.queue in
    ended g Q.size (c.loop-q.q + 1) (omega (arith, all_edges g c.loop-q.q r.1))
    (subst (Answers _ _ _) c.in-Some.is (c.turn.ensures g r.1))

pub loop-q-preserved : goal.loop-q-preserved
loop-q-preserved c = (
  omega arith,
  λ g s.
      let r = c.loop-q.invariant.1 g s in
      (omega (arith, all_edges g c.loop-q.q r.1), subst (Answers _ _ _) c.in_default.is (c.turn.ensures g r.1)),
)

pub returns : goal.returns
returns c g s =
    let r = c.loop-q.invariant.1 g s in
    all_over g c.loop-q.q r.1 c.loop-q-test.false r.0
