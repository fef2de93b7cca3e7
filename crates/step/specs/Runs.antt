-- Books that came from opening and any run of offers, refused ones among them; and what a book implies.
--
-- Not here: the edges that such a book came from, in a list; crate promises.
use Rattle.std.specs.Prelude.{ℕ, List, Ok}
use Rattle.rule.specs.declared.Book.{Book}
use Rattle.rule.specs.declared.Answer.{Answer}
use Rattle.rule.specs.declared.Answer.TheVariants.{Kept, Implied, Refused}
use Rattle.rule.specs.declared.Edge.{Edge}
use Rattle.rule.specs.Books.{design_of, kept_of}
use Rattle.rule.specs.Calls.{Open, Offer}
use Rattle.theory.specs.Order.{ImpliedBy}

-- the answer is kept or implied
abbrev pub Taken : Answer → Type 0
Taken (Kept n) = Unit
Taken (Implied n) = Unit
Taken (Refused r) = ⊥

-- the book was opened and then offered edges, whatever was answered
pub data Run : Book → Type 0 where
  opened : {book : Book} (a b n : ℕ) → Open a b n book (Ok tt) → Run book
  offered : {before after : Book} (given : Edge) (list listed : List ℕ) (answer : Answer) → Run before
      → Offer before after given list listed answer → Run after

-- an edge between u and v is implied by the book: with it the kept edges are not legal
abbrev pub BookImplies : Book → (given : Edge) → Type 0
BookImplies B given = ImpliedBy (design_of B) (kept_of B) given
