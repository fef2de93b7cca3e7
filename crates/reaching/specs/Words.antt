-- Words whose bits stand for edges, and the edges of a word behind those that wait.
use Rattle.std.specs.Prelude.{◌≡◌, List, ℕ, ◌+◌, ◌≤◌, ◌<◌, length, get_or, replicate}
use Rattle.rule.specs.Sets.{Is, Set, In, count}
use Rattle.words.specs.Bits.{bit}
use Rattle.reaching.specs.Laid.{Laid}

-- bit j of the word, of 64, stands for the number `of j`: those of 1 to m that are in s are the numbers of its bits, each once
pub record Carries (of : ℕ → ℕ) (word : ℕ) (s : Set) (m : ℕ) : Type 0 where
  pub number : (j : ℕ) → j < 64 → Is (bit word j) → In m (of j) × Is (s (of j))
  pub bit_of : (y : ℕ) → In m y → Is (s y) → (j : ℕ) × ((j < 64) × (Is (bit word j) × (of j ≡ y)))
  pub once : (i j : ℕ) → i < 64 → j < 64 → Is (bit word i) → Is (bit word j) → of i ≡ of j → i ≡ j

-- the numbers that stand in a table from the index `base` on
abbrev pub standing_at : List ℕ → ℕ → ℕ → ℕ
standing_at table base j = get_or table (base + j) 0

-- the edges of a word are to be written behind the first `size` places, of so many
pub record Coming (of : ℕ → ℕ) (word size places : ℕ) : Type 0 where
  pub edges : Set
  pub most : ℕ
  pub carried : Carries of word edges most
  pub room : size + count edges most ≤ places

-- the edges of a list wait behind the first `size`, each of them reached from a place
pub record CameToWait (list : List ℕ) (size place : ℕ) (queue from queue' from' : List ℕ) (size' : ℕ) : Type 0 where
  pub waits : Laid queue size list queue'
  pub reached : Laid from size (replicate (length list) place) from'
  pub counts : size' ≡ size + length list
