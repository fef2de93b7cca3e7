-- A lent array over which a list has been laid, and the places of a queue where the numbers of a set stand in order.
use Rattle.std.specs.Prelude.{◌≡◌, List, ◌++◌, ℕ, ◌+◌, ◌≤◌, length, take, drop}
use Rattle.rule.specs.Sets.{Is, Set, In, ◌with◌, numbers}

-- `now` is `old` with the list laid over it from a place on; what stands before and behind it is as it was
pub record Laid (old : List ℕ) (place : ℕ) (list now : List ℕ) : Type 0 where
  pub room : place + length list ≤ length old
  pub over : now ≡ take place old ++ list ++ drop (place + length list) old

-- where the numbers of a set that e is not in stood in order, from the place `first` up to the place `size`, those of the set with e do
pub record TakesIn (e first size : ℕ) (before after : List ℕ) : Type 0 where
  pub in_order : (old : List ℕ) (s : Set) (m : ℕ) → In m e → ¬ (Is (s e)) → size ≡ first + length (numbers s m)
      → Laid old first (numbers s m) before → Laid old first (numbers (s with e) m) after
