-- A text of at least 8,192 bytes has the report and the certificate of the text that is cut there: one line, with the same reason and line number. So a
-- program that reads no more than that prints what it would print of the whole.
--
-- Neither text is a book, being longer than 6,172 bytes, and the two are refused alike (`cut_same`, crate text).
-- Assumes nothing.
use mathlib.Core.Path.{ap}
use mathlib.Core.Logic.{inl, inr, ◌↔◌}
use mathlib.Core.List.{List}
use Prim.Native.Nat.{ℕ, ◌≤◌}
use native.Mathlib.Omega.{arith}
use lib.ListN.{length, take}
use lib.Seq.{length-take-le}
use Rattle.std.specs.Prelude.{Result, Ok, Err}
use Rattle.rule.specs.declared.Book.{Book}
use Rattle.text.proofs.Sizes.{sheet_size}
use Rattle.text.proofs.Cuts.{read_room, cut_same}
use Rattle.text.specs.declared.Refusal.{Refusal}
use Rattle.reports.specs.Reads.{Reads, Receives}
use Rattle.reports.specs.Texts.{Report, Certificate}

no_book : {text : List ℕ} {B : Book} → read_room ≤ length text → ¬ Reads text B
no_book long r = absurd (omega (arith, sheet_size r.sheet r.range, ap length r.is_text, long))

module _ (text : List ℕ) (long : read_room ≤ length text) where
  abbrev cut : List ℕ
  cut = take read_room text

  cut_long : read_room ≤ length cut
  cut_long = omega (arith, length-take-le read_room text long)

  -- reading answers alike
  received_cut : (B : Book) (r : Result Unit Refusal) → Receives text B r → Receives cut B r
  received_cut B (Ok done) p = absurd (no_book long p)
  received_cut B (Err refusal) p = ((cut_same text long refusal.reason refusal.line).0 p.0, p.1)

  received_whole : (B : Book) (r : Result Unit Refusal) → Receives cut B r → Receives text B r
  received_whole B (Ok done) p = absurd (no_book cut_long p)
  received_whole B (Err refusal) p = ((cut_same text long refusal.reason refusal.line).1 p.0, p.1)

  pub receives_cut : (B : Book) (r : Result Unit Refusal) → (Receives text B r ↔ Receives cut B r)
  receives_cut B r = (received_cut B r, received_whole B r)

  -- ---- the report

  module _ (i : ℕ) (bytes : List ℕ) where
    report_of_cut : Report text i bytes → Report cut i bytes
    report_of_cut (inl p) = absurd (no_book long p.1)
    report_of_cut (inr p) = inr (p.0, p.1, (cut_same text long p.0 p.1).0 p.2, p.3, p.4)

    report_of_whole : Report cut i bytes → Report text i bytes
    report_of_whole (inl p) = absurd (no_book cut_long p.1)
    report_of_whole (inr p) = inr (p.0, p.1, (cut_same text long p.0 p.1).1 p.2, p.3, p.4)

    pub report_cut : Report text i bytes ↔ Report cut i bytes
    report_cut = (report_of_cut, report_of_whole)

  -- ---- the certificate

  pub certificate_cut : (lines : List (List ℕ)) → (Certificate text lines ↔ Certificate cut lines)
  certificate_cut lines = (
    λ c. record {
      book = c.book;
      received = c.received;
      is_received = received_cut c.book c.received c.is_received;
      so_many = c.so_many;
      each = c.each;
    },
    λ c. record {
      book = c.book;
      received = c.received;
      is_received = received_whole c.book c.received c.is_received;
      so_many = c.so_many;
      each = c.each;
    },
  )
