-- The lines of what offers answered: document 01, "The report, whole".
use Rattle.std.specs.Prelude.{List, [], ◌∷◌, ◌++◌, ℕ, take}
use Rattle.rule.specs.declared.Book.{Book}
use Rattle.rule.specs.declared.Answer.{Answer}
use Rattle.rule.specs.declared.Answer.TheVariants.{Kept, Implied, Refused}
use Rattle.rule.specs.Figures.{freedom}
use Rattle.rule.specs.declared.Edge.{Edge}
use Rattle.rule.specs.Books.{design_of, kept_of}
use Rattle.text.specs.Lines.{line}
use Rattle.reports.specs.Keys.{key_kept, key_implied}
use Rattle.reports.specs.Reads.{Offers, none, then}

-- the line of an answer: kept= with the freedom of the book just after the offer, or implied= with the numbers that the offer wrote into
-- the lent list. (A refused offer adds no edge, and has no line.)
abbrev pub answer_line : (after : Book) (listed : List ℕ) → Answer → List ℕ
answer_line after listed (Kept n) = line key_kept (freedom (design_of after) (kept_of after) ∷ [])
answer_line after listed (Implied n) = line key_implied (take n listed)
answer_line after listed (Refused r) = []

-- the lines of the answers of successive offers, in order
unfoldable pub answer_lines : {first B : Book} {edges : List Edge} → Offers first edges B → List (List ℕ)
answer_lines none = []
answer_lines (then {before} {after} e list listed answer run pass offer) = answer_lines run ++ answer_line after listed answer ∷ []
