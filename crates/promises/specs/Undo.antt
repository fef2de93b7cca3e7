-- What the laws of undo speak of where nothing but calls is seen: the edges that a book came from, the same edges in another order, and
-- answers that are alike.
--
-- In order: the kinds of answers; the edges of a book; another order.
use Rattle.std.specs.Prelude.{◌≡◌, ℕ, Ok}
use mathlib.Core.List.{List, [], ◌∷◌, ◌++◌, Permᴰ}
use Rattle.rule.specs.declared.Edge.{Edge}
use Rattle.rule.specs.declared.Book.{Book}
use Rattle.rule.specs.declared.Reason.{Reason}
use Rattle.rule.specs.declared.Answer.{Answer}
use Rattle.rule.specs.declared.Answer.TheVariants.{Kept, Implied, Refused}
use Rattle.rule.specs.Calls.{Open, Offer}
use Rattle.step.specs.Runs.{Taken}

-- ---- answers

-- the answer is kept
abbrev pub IsKept : Answer → Type 0
IsKept (Kept n) = Unit
IsKept (Implied n) = ⊥
IsKept (Refused r) = ⊥

-- the answer is implied
abbrev pub IsImplied : Answer → Type 0
IsImplied (Kept n) = ⊥
IsImplied (Implied n) = Unit
IsImplied (Refused r) = ⊥

-- both are kept, both are implied, or both are refused for one reason. (Not more: in another order moved is another number, and a circuit
-- has other numbers in it.)
abbrev pub Alike : Answer → Answer → Type 0
Alike (Kept m) (Kept n) = Unit
Alike (Kept m) (Implied n) = ⊥
Alike (Kept m) (Refused s) = ⊥
Alike (Implied m) (Kept n) = ⊥
Alike (Implied m) (Implied n) = Unit
Alike (Implied m) (Refused s) = ⊥
Alike (Refused r) (Kept n) = ⊥
Alike (Refused r) (Implied n) = ⊥
Alike (Refused r) (Refused s) = r ≡ s

-- ---- the edges that a book came from

-- the book was opened and offered these edges, in this order, each answered kept or implied. Refused offers may have come between
pub data Came (a b n : ℕ) : List Edge → Book → Type 0 where
  begun : {B : Book} → Open a b n B (Ok tt) → Came a b n [] B
  took : {edges : List Edge} {before after : Book} (e : Edge) (list listed : List ℕ) (answer : Answer) → Came a b n edges before → Taken answer
      → Offer before after e list listed answer → Came a b n (edges ++ e ∷ []) after
  refused : {edges : List Edge} {before after : Book} (given : Edge) (list listed : List ℕ) (r : Reason) → Came a b n edges before
      → Offer before after given list listed (Refused r) → Came a b n edges after

-- ---- another order

-- the same edges, each as often, in another order: the library's permutations
abbrev pub Reordered : List Edge → List Edge → Type 0
Reordered = Permᴰ
