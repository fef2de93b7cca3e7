-- What the calls on labels promise, for every design and every set of its edges.
use Rattle.std.specs.Prelude.{◌≡◌, ◌⊎◌, List, ℕ, ◌-◌, ◌<◌, get_or}
use Rattle.rule.specs.Sets.{Is, Set, In, ◌with◌}
use Rattle.rule.specs.Legal.{Design}
use Rattle.theory.specs.Joined.{joined}
use Rattle.words.specs.Bits.{bit}
use Rattle.tables.specs.Tables.{start, label, Labels}
use Rattle.labels.specs.Rows.{Long, Outside}

-- no edge of the design is in s
abbrev pub Empty : Design → Set → Type 0
Empty d s = (e : ℕ) → In d.m e → ¬ (Is (s e))

-- each forest has the labels of a set with no edge
pub record Begun (root who : List ℕ) : Type 0 where
  pub root_long : Long root
  pub who_long : Long who
  pub labels : (d : Design) (s : Set) → Empty d s → (f : ℕ) → In 6 f → Labels d s f root who

-- what `unite` needs so that it stays inside the tables
pub record ReadyToUnite (f u v : ℕ) (root : List ℕ) : Type 0 where
  pub forest : In 6 f
  pub one : In 64 u
  pub other : In 64 v
  pub one_label : label root f u < 64
  pub other_label : label root f v < 64

-- the word has the bodies that s joins to u
abbrev pub Tree : Design → Set → (u word : ℕ) → Type 0
Tree d s u word = (x : ℕ) → In 64 x → bit word (x - 1) ≡ joined d s u x

-- `word` has the bodies of the tree of u or of that of v; with any edge between u and v, which stood in two trees, forest f has the
-- labels of one edge more; the other forests are as they were
pub record United (f u v : ℕ) (root who root' who' : List ℕ) (word : ℕ) : Type 0 where
  pub root_long : Long root'
  pub who_long : Long who'
  pub root_else : (i : ℕ) → Outside (start f) i → get_or root' i 0 ≡ get_or root i 0
  pub who_else : (i : ℕ) → Outside (start f) i → get_or who' i 0 ≡ get_or who i 0
  pub tree : (d : Design) (s : Set) → Labels d s f root who → Tree d s u word ⊎ Tree d s v word
  pub labels : (d : Design) (s : Set) (e : ℕ) → In d.m e → d.one e ≡ u → d.other e ≡ v → Labels d s f root who
      → ¬ (Is (joined d s u v)) → Labels d (s with e) f root' who'
