-- What a search leaves to be read: the path from the new edge to the place where it ended, and the circuit where it did not end.
use Rattle.std.specs.Prelude.{◌≡◌, List, reverse, ℕ, suc, ◌≤◌, ◌<◌, length, take}
use Rattle.rule.specs.Sets.{◌without◌, numbers}
use Rattle.rule.specs.Legal.{Design}
use Rattle.rule.specs.Calls.{Filled}
use Rattle.theory.specs.Search.{Waiting, from_at, path_to}
use Rattle.theory.proofs.Search.Reached.{Reached}
use Rattle.reaching.specs.declared.waiting.Queue.{Queue}
use Rattle.reaching.specs.Setting.{HoldsWaiting}

-- edges wait up to a place and perhaps behind it, each of them reached from an earlier place
pub record Led (place : ℕ) (queue from : List ℕ) : Type 0 where
  pub w : Waiting
  pub holds : HoldsWaiting w queue from
  pub here : place < length w.queue
  pub earlier : (p : ℕ) → 1 ≤ p → p < length w.queue → from_at w p < p

-- the path to the place stands in the first places, its last edge first
pub record Traced (w : Waiting) (place : ℕ) (before after : List ℕ) (n : ℕ) : Type 0 where
  pub backwards : Filled (reverse (path_to w place)) before after
  pub counts : n ≡ length (path_to w place)
  pub as_long : length after ≡ length before

-- n edges wait, the new one first, each once
pub record Queued (n : ℕ) (queue : List ℕ) : Type 0 where
  pub d : Design
  pub forest : ℕ → ℕ
  pub w : Waiting
  pub edges : d.m ≤ 513
  pub sound : Reached d forest d.m w
  pub counts : n ≡ length w.queue
  pub few : n ≤ 379
  pub queued : take n queue ≡ w.queue

-- the others stand in the first places, smallest first; places past them are as they were
pub record CircuitListed (w : Waiting) (m n : ℕ) (before after : List ℕ) (len : ℕ) : Type 0 where
  pub in_order : Filled (numbers (w.seen without m) m) before after
  pub counts : len ≡ length (numbers (w.seen without m) m)
  pub one_fewer : suc len ≡ n

-- ---- said of a queue

abbrev pub LedIn : (place : ℕ) → Queue → Type 0
LedIn place Q = Led place Q.edges Q.from

abbrev pub QueuedIn : Queue → Type 0
QueuedIn Q = Queued Q.size Q.edges
