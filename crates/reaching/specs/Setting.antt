-- What a search stands on, and what its arrays hold on the way.
use Rattle.std.specs.Prelude.{◌≡◌, List, ℕ, ◌-◌, ◌≤◌, ◌<◌, length, get_or, take}
use Rattle.rule.specs.Sets.{In}
use Rattle.rule.specs.Legal.{Design, k}
use Rattle.theory.specs.Search.{Waiting}
use Rattle.theory.proofs.Search.Reached.{Reached}
use Rattle.words.specs.Bits.{bit}
use Rattle.tables.specs.Tables.{slot, filled, Tabled}

-- A design of at most 513 edges, with its forests as the tables hold them. Its last edge is the new one.
pub record Setting (d : Design) (forest : ℕ → ℕ) (root way who edge size : List ℕ) : Type 0 where
  pub edges : In 513 d.m
  pub forests : k d ≤ 6
  pub one : (e : ℕ) → In d.m e → In 64 (d.one e)
  pub other : (e : ℕ) → In d.m e → In 64 (d.other e)
  pub tabled : Tabled d forest root way who edge size

-- the first places of the two arrays hold what waits
pub record HoldsWaiting (w : Waiting) (queue from : List ℕ) : Type 0 where
  pub queued : take (length w.queue) queue ≡ w.queue
  pub reached : take (length w.queue) from ≡ w.from
  pub places : (length queue ≡ 379) × (length from ≡ 379)

-- and a word for each forest says which of its slots have been seen
pub record SearchState (d : Design) (forest : ℕ → ℕ) (edge size : List ℕ) (queue from seen : List ℕ) (w : Waiting) : Type 0 where
  pub sound : Reached d forest d.m w
  pub holds : HoldsWaiting w queue from
  pub marks : (f j : ℕ) → In 6 f → j < filled size f → bit (get_or seen (f - 1) 0) j ≡ w.seen (slot edge f j)
  pub words : length seen ≡ 6
