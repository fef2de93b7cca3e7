-- Classes of bodies, read off the labels of the forests, and listed by their smallest bodies.
use Rattle.std.specs.Prelude.{◌≡◌, List, ℕ, ◌-◌, ◌≤◌, length, drop}
use Rattle.rule.specs.declared.Book.{Book}
use Rattle.rule.specs.Sets.{Is, Set, In, at}
use Rattle.rule.specs.Legal.{Design}
use Rattle.rule.specs.Forests.{Arranged}
use Rattle.theory.specs.Numbers.{every}
use Rattle.theory.specs.Closed.{greatest}
use Rattle.theory.specs.Groups.{joined_in_all}
use Rattle.words.specs.Bits.{bit}
use Rattle.tables.specs.declared.Limits.{Limits}
use Rattle.tables.specs.declared.Labels.{Labels}
use Rattle.tables.specs.Tables.{label, crowd}
use Rattle.groups.specs.Lent.{Lent, Coloured, limits}

-- u is in the word of v's label in each of the forests 1 to j
unfoldable pub together : (root who : List ℕ) (j v : ℕ) → Set
together root who j v u = every (λ i. bit (crowd who i (label root i v)) (u - 1)) j

-- lead is the smallest of the bodies 1 to n that are near
pub record Leader (near : Set) (n lead : ℕ) : Type 0 where
  pub body : In n lead
  pub is_near : Is (near lead)
  pub smallest : (u : ℕ) → In n u → Is (near u) → lead ≤ u

-- the first n places hold, for each body in order, the smallest body near it; the places past them what they held
pub record ClassesListed (near : ℕ → Set) (n : ℕ) (before after : List ℕ) : Type 0 where
  pub as_long : length after ≡ length before
  pub leads : (v : ℕ) → In n v → Leader (near v) n (at after v)
  pub past : drop n after ≡ drop n before

-- two bodies are near when the greatest closed set joins them in each of the forests 1 to j
abbrev pub Classes : (m : ℕ) (ones others colours forests : List ℕ) (red black j n : ℕ) (before after : List ℕ) → Type 0
Classes m ones others colours forests red black j n before after =
    (d : Design) → Lent d m ones others → Coloured d colours → Arranged d (at forests)
    → ClassesListed (joined_in_all d (at forests) (greatest d (at forests) (limits d red black)) j) n before after

-- ---- the same of a book, its labels and its limits

abbrev pub together_in : Labels → (j v : ℕ) → Set
together_in L = together L.root L.who

abbrev pub ClassesIn : Book → Limits → (j : ℕ) → (before after : List ℕ) → Type 0
ClassesIn B limits j before after = Classes B.count B.ones B.others B.colours B.forests limits.red limits.black j B.n before after
