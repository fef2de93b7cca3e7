-- What the arrays of a search hold at a place: their first places hold what waits, and that is at most 379 edges.
-- Assumes nothing.
use mathlib.Core.Path.{◌≡◌, sym, ap, ◌∙◌}
use mathlib.Core.List.{List}
use Prim.Native.Nat.{ℕ, ◌≤◌, ◌<◌}
use native.Mathlib.Omega.{arith}
use lib.ListN.{length, get_or, take, length-take}
use lib.Seq.{get_or-take}
use Rattle.theory.specs.Search.{Waiting, edge_at, from_at}
use Rattle.reaching.specs.Setting.{HoldsWaiting}

-- the front of an array
pub front_at : (whole list : List ℕ) (n p : ℕ) → take n whole ≡ list → p < n → get_or whole p 0 ≡ get_or list p 0
front_at whole list n p q h = sym (get_or-take n whole p 0 h) ∙ ap (λ (l : List ℕ). get_or l p 0) q

module _ {w : Waiting} {queue from : List ℕ} (h : HoldsWaiting w queue from) where
  pub held_edge : (p : ℕ) → p < length w.queue → get_or queue p 0 ≡ edge_at w p
  held_edge p l = front_at queue w.queue (length w.queue) p h.queued l

  pub held_from : (p : ℕ) → p < length w.queue → get_or from p 0 ≡ from_at w p
  held_from p l = front_at from w.from (length w.queue) p h.reached l

  pub held_few : length w.queue ≤ 379
  held_few = omega (arith, ap length h.queued, length-take (length w.queue) queue, h.places.0)
