-- The first faulty line of a book text: document 01, "Reasons for saying no" and "Book text". What a first fault is, of any grammar, is said in crate grammar; here it is of
-- `book_text` (specs/Due.antt).
--
-- What 01 leaves open is read so. A last line without LF is not the one due, and the part is what is there. Bytes after the last due
-- line are a faulty line of the next number, and the part is that line. A missing line has the number that it would have had. A line
-- with a number of four digits, or any byte more (a space, a CR), is not the one due: 9, and no check on a value is made.
use Rattle.std.specs.Prelude.{List, ℕ}
use Rattle.rule.specs.declared.Reason.{Reason}
use Rattle.grammar.specs.Grammar as grammar
pub use Rattle.grammar.specs.Grammar.{Fault, AtFault}
use Rattle.text.specs.Due.{Said, book_text}

-- from what was said and the rest of a text, lines that are due and in range lead to what is then said and what then is left
abbrev pub Leads : Said → List ℕ → Said → List ℕ → Type 0
Leads said rest last left = grammar.Leads book_text said rest last left

-- the line after what was said is at fault
abbrev pub Faulty : Said → List ℕ → Reason → Type 0
Faulty said rest reason = grammar.Faulty book_text said rest reason

-- the first fault of a text
abbrev pub FirstFault : List ℕ → Fault → Type 0
FirstFault text f = grammar.FirstFault book_text text f

-- the text has its first fault in this line, for this reason
abbrev pub RefusedAt : List ℕ → Reason → (line : ℕ) → Type 0
RefusedAt text reason line = grammar.RefusedAt book_text text reason line
