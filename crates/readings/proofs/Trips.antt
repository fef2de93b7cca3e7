-- The round trip: what was written of a book is read again as a book of the same sheet, and what was read is written again byte by byte.
--
-- A sound book's sheet is in range, so its text is the text of one sheet, and has no fault (crates writer and text). The sheet of a book that was read is
-- the one that its text is of (Reading.antt).
-- Assumes nothing.
use mathlib.Core.Path.{◌≡◌, refl, sym, ap, ◌∙◌}
use mathlib.Core.List.{List}
use Prim.Native.Nat.{ℕ}
use lib.ListN.{take}
use Rattle.std.specs.Prelude.{Result, Ok, Err}
use Rattle.rule.specs.declared.Book.{Book}
use Rattle.text.specs.Sheets.{text_of}
use Rattle.text.proofs.Answers.{same_sheet, never_both}
use Rattle.text.specs.declared.Refusal.{Refusal}
use Rattle.reports.specs.Reads.{sheet_of, Receives, Written}
use Rattle.readings.proofs.Reading.{reads_sheet}
use Rattle.readings.proofs.Spelling.{writes_front}
use Rattle.writer.proofs.Sheets.{sound_sheet_range}

module _ (B : Book) {buffer buffered : List ℕ} {n : ℕ} (w : Written B buffer buffered (Ok n)) where
  pub written_text : take n buffered ≡ text_of (sheet_of B)
  written_text = writes_front w.1

  -- what was written is read again, and says the same
  pub read_written : (C : Book) (r : Result Unit Refusal) → Receives (take n buffered) C r → (r ≡ Ok tt) × (sheet_of C ≡ sheet_of B)
  read_written C (Ok done) q = (
    refl,
    reads_sheet q
        ∙ same_sheet (take n buffered) q.sheet (sheet_of B) q.range (sound_sheet_range B w.0.0) q.is_text written_text,
  )
  read_written C (Err refusal) q =
      never_both (take n buffered) (sheet_of B) q.0.0 (sound_sheet_range B w.0.0) written_text q.0.1

  -- what was read is written again
  pub write_read : (text : List ℕ) → Receives text B (Ok tt) → take n buffered ≡ text
  write_read text r = written_text ∙ ap text_of (reads_sheet r) ∙ sym r.is_text
