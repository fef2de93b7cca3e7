-- What is said of the arrays of a search (Trying.antt, Words.antt), said of a queue.
use Rattle.std.specs.Prelude.{◌≡◌, List, ℕ, replicate}
use Rattle.rule.specs.declared.Edge.{Edge}
use Rattle.theory.specs.Search.{Waiting}
use Rattle.tables.specs.declared.Tables.{Tables}
use Rattle.reaching.specs.declared.waiting.Queue.{Queue}
use Rattle.reaching.specs.Words.{CameToWait}
use Rattle.reaching.specs.Trying.{Trying, After}

-- nothing waits
pub record IsEmpty (Q : Queue) : Type 0 where
  pub edges : Q.edges ≡ replicate 379 0
  pub from : Q.from ≡ replicate 379 0
  pub seen : Q.seen ≡ replicate 6 0
  pub none : Q.size ≡ 0

-- the edges of a list wait behind the others, reached from a place, and no more is seen than before
pub record ReachesIn (list : List ℕ) (place : ℕ) (before after : Queue) : Type 0 where
  pub came : CameToWait list before.size place before.edges before.from after.edges after.from after.size
  pub as_seen : after.seen ≡ before.seen

-- the edge waits at a place
abbrev pub TryingIn : Edge → (place : ℕ) → Tables → Queue → Type 0
TryingIn e place T Q = Trying e.one e.other place Q.size T.labels.root T.way T.edge Q.edges Q.from Q.seen

-- and after some of its forests
abbrev pub AfterIn : {u v place n : ℕ} {root way edge queue from seen : List ℕ} → Trying u v place n root way edge queue from seen → Queue → Waiting → Type 0
AfterIn t Q = After t Q.edges Q.from Q.seen
