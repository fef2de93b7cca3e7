-- The lines of what was read are the lines of the text's report and certificate, as many and no more, and the report of a text is
-- determined.
--
-- Reading gives a grown book, so its lines are those with each circuit among the edges kept before (Circuits.antt). Any other book that the
-- text gives has the same design and keeps the same edges (Same.antt), and a report names nothing else. A certificate names forests, which
-- the text does not determine: its lines are those of the one book that was read.
-- Assumes nothing.
use mathlib.Core.Path.{◌≡◌, sym, ap₂, ◌∙◌, subst₂}
use mathlib.Core.Logic.{inl, inr, ◌↔◌}
use mathlib.Core.List.{List}
use Prim.Native.Nat.{ℕ, ◌<◌}
use native.Mathlib.Omega.{arith}
use Rattle.std.specs.Prelude.{Result, Ok, Err}
use Rattle.rule.specs.declared.Book.{Book}
use Rattle.rule.specs.declared.Reason.{Reason}
use Rattle.rule.specs.Sets.{Set, below}
use Rattle.rule.specs.Legal.{Design}
use Rattle.rule.specs.Books.{design_of, kept_of}
use Rattle.text.specs.Faults.{RefusedAt}
use Rattle.text.specs.declared.Refusal.{Refusal}
use Rattle.reports.specs.Reads.{Reads, Receives}
use Rattle.reports.specs.Reports.{ReportLine, refused_line}
use Rattle.reports.specs.Steps.{report, certificate, lines_of, LineOf}
use Rattle.reports.specs.Texts.{OnlyRefused, Report, CertificateOf}
use Rattle.reports.proofs.Sections.{Determined}
use Rattle.readings.proofs.Reading.{reads_grew}
use Rattle.readings.proofs.Same.{reads_same, same_design, same_kept, reads_not_refused, refused_determined}
use Rattle.readings.proofs.Circuits.{report_settled, certificate_settled}
use Rattle.readings.proofs.Lines.{report_line_determined, report_line_within, certificate_line_within}

-- ---- two books of one text

-- each report line of the one is the other's
report_same : {text : List ℕ} {B C : Book} (i : ℕ) (bytes : List ℕ) → Reads text B → Reads text C
    → ReportLine (design_of B) (kept_of B) (below (kept_of B)) i bytes → ReportLine (design_of C) (kept_of C) (below (kept_of C)) i bytes
report_same {B = B} {C} i bytes p q l =
    let same = reads_same p q in
    subst₂ (λ (d : Design) (kept : Set). ReportLine d kept (below kept) i bytes) (same_design B C same) (same_kept B C same) l

-- ---- a refused text

-- its one line is determined
refused_same : (text : List ℕ) {r s : Reason} {i j : ℕ} → RefusedAt text r i → RefusedAt text s j → refused_line r i ≡ refused_line s j
refused_same text p q = let same = refused_determined text p q in ap₂ refused_line same.0 same.1

only_refused_determined : (text : List ℕ) (i : ℕ) → Determined (OnlyRefused text i)
only_refused_determined text i x y p q = p.4 ∙ refused_same text p.2 q.2 ∙ sym q.4

-- ---- the report of a text

pub report_determined : (text : List ℕ) (i : ℕ) → Determined (Report text i)
report_determined text i x y (inl p) (inl q) =
    let C = q.0 in
    report_line_determined (design_of C) (kept_of C) (below (kept_of C)) i x y (report_same i x p.1 q.1 p.2) q.2
report_determined text i x y (inl p) (inr q) = reads_not_refused p.1 q.2
report_determined text i x y (inr p) (inl q) = reads_not_refused q.1 p.2
report_determined text i x y (inr p) (inr q) = only_refused_determined text i x y p q

module _ (text : List ℕ) (B : Book) (i : ℕ) (bytes : List ℕ) where
  to_report : (r : Result Unit Refusal) → Receives text B r → i < lines_of report B r → LineOf report B r i bytes → Report text i bytes
  to_report (Ok done) p h l = let g = reads_grew p in inl (B, p, (report_settled B g.sound g.grown i bytes).0 l)
  to_report (Err refusal) p h l = inr (refusal.reason, refusal.line, p.0, omega arith, l)

  from_report : (r : Result Unit Refusal) → Receives text B r → Report text i bytes → LineOf report B r i bytes
  from_report (Ok done) p (inl q) =
      let g = reads_grew p in
      (report_settled B g.sound g.grown i bytes).1 (report_same i bytes q.1 p q.2)
  from_report (Ok done) p (inr q) = reads_not_refused p q.2
  from_report (Err refusal) p (inl q) = reads_not_refused q.1 p.0
  from_report (Err refusal) p (inr q) = q.4 ∙ refused_same text q.2 p.0

  -- line i of what was read is line i of the text's report
  pub report_of_text : (r : Result Unit Refusal) → Receives text B r → i < lines_of report B r → (LineOf report B r i bytes ↔ Report text i bytes)
  report_of_text r p h = (to_report r p h, from_report r p)

  -- and of the certificate of that book
  certificate_of_book : Reads text B → (LineOf certificate B (Ok tt) i bytes ↔ CertificateOf B (Ok tt) i bytes)
  certificate_of_book p = let g = reads_grew p in certificate_settled B g.sound g.grown i bytes

  pub certificate_of_text : (r : Result Unit Refusal) → Receives text B r → i < lines_of certificate B r → (LineOf certificate B r i bytes ↔ CertificateOf B r i bytes)
  certificate_of_text (Ok done) p h = certificate_of_book p
  certificate_of_text (Err refusal) p h = ((λ l. (omega arith, l)), (λ l. l.1))

  -- ---- how many lines there are

  pub report_within : (r : Result Unit Refusal) → Receives text B r → Report text i bytes → i < lines_of report B r
  report_within (Ok done) p (inl q) =
      report_line_within (design_of B) (kept_of B) (below (kept_of B)) (λ e. kept_of B) i bytes (report_same i bytes q.1 p q.2)
  report_within (Ok done) p (inr q) = reads_not_refused p q.2
  report_within (Err refusal) p (inl q) = reads_not_refused q.1 p.0
  report_within (Err refusal) p (inr q) = omega (arith, q.3)

  pub certificate_within : (r : Result Unit Refusal) → CertificateOf B r i bytes → i < lines_of certificate B r
  certificate_within (Ok done) l = certificate_line_within B (below (kept_of B)) (λ e. kept_of B) i bytes l
  certificate_within (Err refusal) l = omega (arith, l.0)
