-- What reading and the steppers answer, in document 01's numbers, as crate rule has it of the other calls (crates/rule/specs/Answers.antt): the cases of
-- each answer of src/lib.rt, and the numbers that come with them.
use Rattle.std.specs.Prelude.{ℕ, Result, Ok, Err}
use Rattle.rule.specs.declared.Reason.{Reason}
use Rattle.rule.specs.Reasons.{number_of, place_of}
use Rattle.text.specs.declared.Refusal.{Refusal}
use Rattle.reports.specs.declared.Line.{Line}

-- reading: a book; or refused, with the reason, whose number `number_of` gives, and the number of the line at fault
abbrev pub ReceivedSays : (fine : Type 0) (refused : Reason → (line : ℕ) → Type 0) → Result Unit Refusal → Type 0
ReceivedSays fine refused (Ok done) = fine
ReceivedSays fine refused (Err refusal) = refused refusal.reason refusal.line

-- a stepper: so many bytes; over, when all lines have come; or refused
abbrev pub LineSays : (written : (size : ℕ) → Type 0) (over : Type 0) (refused : (number place : ℕ) → Type 0) → Line → Type 0
LineSays written over refused (Line.Written size) = written size
LineSays written over refused Line.Over = over
LineSays written over refused (Line.Refused reason) = refused (number_of reason) (place_of reason)
