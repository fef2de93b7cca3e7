-- A text that is read line by line, whatever its lines are.
--
-- A grammar is a value: what may have been said, the line that is due after it, how many lines that is, and when all have come. All that follows is said of any grammar,
-- once. In order: the first line of a text; a grammar; lines that are due and in range; the line at fault; the first fault, with the part that is handed back; a text that
-- is whole.
-- Not here: the lines of a book text, which crate text has as the grammar `book_text`; that every text has one outcome (proofs/Outcomes.antt).
use Rattle.std.specs.Prelude.{◌≡◌, Bool, cond, List, [], ◌∷◌, ◌++◌, ℕ, suc, ◌≤◌, length, drop}
use Rattle.rule.specs.declared.Reason.{Reason}
use Rattle.rule.specs.declared.Reason.TheVariants.{Line}
use Rattle.rule.specs.Sets.{◌=?◌}
use Rattle.rule.specs.Reasons.{Check, Pass, Fail}

-- the one value where the test holds, the other where not
unfoldable pub pick : {A : Type 0} → Bool → A → A → A
pick test one other = cond test one other

abbrev pub LF : ℕ
LF = 10

-- what a text begins with, up to its first LF or, where it has none, its end
unfoldable pub first_line : List ℕ → List ℕ
first_line [] = []
first_line (x ∷ rest) = pick (x =? LF) [] (x ∷ first_line rest)

-- ---- a grammar

-- The line that is due. It may say any value that is allowed; its bytes, what has then been said, and the checks, in order, on what it says.
pub record DueLine (Said : Type 0) : Type 1 where
  pub Value : Type 0
  pub Allowed : Value → Type 0
  pub bytes : Value → List ℕ
  pub then : Value → Said
  pub checks : Value → List Check

-- what may have been said, at first nothing; how many lines that is; the line that is due; and when all have come
pub record Grammar : Type 1 where
  pub Said : Type 0
  pub nothing : Said
  pub lines : Said → ℕ
  pub due : Said → DueLine Said
  pub Ended : Said → List ℕ → Type 0

-- ---- reading

-- rest begins with the line that is due, which says value; more follows it
pub record NextIs {Said : Type 0} (line : DueLine Said) (rest : List ℕ) (value : line.Value) (more : List ℕ) : Type 0 where
  pub allowed : line.Allowed value
  pub begins : rest ≡ line.bytes value ++ more

-- from what was said and the rest of a text, lines that are due and in range lead to what is then said and what then is left
pub data Leads (g : Grammar) : g.Said → List ℕ → g.Said → List ℕ → Type 0 where
  here : {said : g.Said} {rest : List ℕ} → Leads g said rest said rest
  one_line : {said last : g.Said} {rest more left : List ℕ} (value : (g.due said).Value) → NextIs (g.due said) rest value more
      → Pass ((g.due said).checks value) → Leads g ((g.due said).then value) more last left → Leads g said rest last left

-- the next line is at fault, where the text has not ended: it is not the one due (9, which comes first), or it is and a check on it
-- fails
pub data AtFault {Said : Type 0} (line : DueLine Said) (ended : Type 0) (rest : List ℕ) : Reason → Type 0 where
  other : ((value : line.Value) (more : List ℕ) → ¬ NextIs line rest value more) → ¬ ended → AtFault line ended rest Line
  fails : {reason : Reason} (value : line.Value) (more : List ℕ) → NextIs line rest value more → Fail (line.checks value) reason
      → AtFault line ended rest reason

-- the line after what was said is at fault
abbrev pub Faulty : (g : Grammar) → g.Said → List ℕ → Reason → Type 0
Faulty g said rest reason = AtFault (g.due said) (g.Ended said rest) rest reason

-- a line number, counted from 1, a reason, and a part of the text
pub record Fault : Type 0 where
  pub line : ℕ
  pub reason : Reason
  pub start : ℕ
  pub size : ℕ

-- the fault at a place of a text, in a line: the part is what stands there up to its LF
abbrev pub fault_in : List ℕ → (line at : ℕ) → Reason → Fault
fault_in text line at reason = record { line = line; reason = reason; start = at; size = length (first_line (drop at text)) }

-- The first fault of a text: the lines before it are due and in range, and it is at fault. The part is that line without its
-- LF; for a missing line it is empty and at the text's end.
pub record FirstFault (g : Grammar) (text : List ℕ) (f : Fault) : Type 0 where
  pub said : g.Said
  pub within : f.start ≤ length text
  pub before : Leads g g.nothing text said (drop f.start text)
  pub number : f.line ≡ suc (g.lines said)
  pub at_fault : Faulty g said (drop f.start text) f.reason
  pub part : f.size ≡ length (first_line (drop f.start text))

-- the text has its first fault in this line, for this reason
abbrev pub RefusedAt : (g : Grammar) → List ℕ → Reason → (line : ℕ) → Type 0
RefusedAt g text reason line = (f : Fault) × FirstFault g text f × (reason ≡ f.reason) × (line ≡ f.line)

-- the text is whole: its lines are due and in range, and all have come
pub record Whole (g : Grammar) (text : List ℕ) : Type 0 where
  pub said : g.Said
  pub left : List ℕ
  pub leads : Leads g g.nothing text said left
  pub ended : g.Ended said left
