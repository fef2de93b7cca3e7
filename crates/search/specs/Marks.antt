-- Numbers marked in words, number y as bit y % 64 of word y / 64, and a list of them.
use Rattle.std.specs.Prelude.{◌≡◌, List, ℕ, ◌+◌, ◌/◌, ◌%◌, ◌≤◌, ◌<◌, length, get_or}
use Rattle.rule.specs.Sets.{Is, Set, In, count}
use Rattle.words.specs.Bits.{bit}
use Rattle.reaching.specs.Laid.{Laid}

-- the list is written behind the first `size` places
pub record MarksWritten (before : List ℕ) (size : ℕ) (list after : List ℕ) (size' : ℕ) : Type 0 where
  pub laid : Laid before size list after
  pub counts : size' ≡ size + length list

abbrev pub is_marked : List ℕ → Set
is_marked marks y = bit (get_or marks (y / 64) 0) (y % 64)

-- the edges at the places 1 to n - 1 of a queue are marked, and no others
pub record Marked (queue : List ℕ) (n : ℕ) (marks : List ℕ) : Type 0 where
  pub has : (q : ℕ) → 1 ≤ q → q < n → Is (is_marked marks (get_or queue q 0))
  pub only : (y : ℕ) → Is (is_marked marks y) → (q : ℕ) × ((1 ≤ q) × ((q < n) × (get_or queue q 0 ≡ y)))

-- what is marked is at most m, which nine words hold, and fits so many places
pub record Markings (marks : List ℕ) (places : ℕ) : Type 0 where
  pub m : ℕ
  pub small : m < 576
  pub within : (y : ℕ) → Is (is_marked marks y) → In m y
  pub room : count (is_marked marks) m ≤ places
