-- What each answer of a call says in document 01's numbers. 01: "Where an answer is an enum, a definition gives this paper's number and values for each
-- of its cases. The promises use that definition."
--
-- Each definition goes through the cases of one answer, `Answer` of src/lib.rt or a `Result`: which of 01's words a case is, and which numbers come with it. A refusal is the
-- number of its reason in 01's table and the place that comes with it. What is said of those numbers is given by the call (Calls.antt).
-- Not here: the numbers of the reasons (Reasons.antt), and the words of the verdicts, the answers of reading and of the steppers (crate reports).
use Rattle.std.specs.Prelude.{ℕ, Result, Ok, Err}
use Rattle.rule.specs.declared.Verdict.{Verdict}
use Rattle.rule.specs.declared.Answer.{Answer}
use Rattle.rule.specs.declared.Answer.TheVariants.{Kept, Implied, Refused}
use Rattle.rule.specs.declared.Reason.{Reason}
use Rattle.rule.specs.Reasons.{number_of, place_of}

-- an offer and a question: kept, with moved; implied, with the length of the circuit; or refused
abbrev pub AnswerSays : (kept : (moved : ℕ) → Type 0) (implied : (size : ℕ) → Type 0) (refused : (number place : ℕ) → Type 0) → Answer → Type 0
AnswerSays kept implied refused (Kept moved) = kept moved
AnswerSays kept implied refused (Implied size) = implied size
AnswerSays kept implied refused (Refused reason) = refused (number_of reason) (place_of reason)

-- opening and the group list: done, or refused
abbrev pub DoneSays : (fine : Type 0) (refused : (number place : ℕ) → Type 0) → Result Unit Reason → Type 0
DoneSays fine refused (Ok _) = fine
DoneSays fine refused (Err reason) = refused (number_of reason) (place_of reason)

-- freedom, dropped and the length of a written text: a figure, or refused
abbrev pub FigureSays : (figure : (number : ℕ) → Type 0) (refused : (number place : ℕ) → Type 0) → Result ℕ Reason → Type 0
FigureSays figure refused (Ok number) = figure number
FigureSays figure refused (Err reason) = refused (number_of reason) (place_of reason)

-- the verdict call: one of the four verdicts, or refused
abbrev pub JudgedSays : (judged : Verdict → Type 0) (refused : (number place : ℕ) → Type 0) → Result Verdict Reason → Type 0
JudgedSays judged refused (Ok verdict) = judged verdict
JudgedSays judged refused (Err reason) = refused (number_of reason) (place_of reason)
