-- A line of a report or of a certificate is determined: whatever the circuits are taken among, no two lists of bytes are line i. Past the number of lines
-- there is none, and so far behind the book text stands the forest line of an edge.
--
-- Circuits and group lists are determined (crate rule), and so is a line of sections of which each line is; where a line of sections stands is said once
-- for all of them (crate reports, proofs/Sections.antt).
-- Assumes nothing.
use mathlib.Core.Path.{◌≡◌, sym, ap, ◌∙◌, subst}
use mathlib.Core.Logic.{inl, inr}
use mathlib.Core.List.{List, [], ◌∷◌}
use Prim.Native.Nat.{ℕ, suc, ◌+◌, ◌-◌, ◌<◌}
use native.Mathlib.Omega.{arith}
use Rattle.rule.specs.declared.Book.{Book}
use Rattle.rule.specs.Sets.{Set, In}
use Rattle.rule.specs.Legal.{Design}
use Rattle.rule.specs.Books.{design_of}
use Rattle.rule.proofs.Determined.{circuit_determined, groups_determined as group_list_determined}
use Rattle.text.specs.Lines.{line}
use Rattle.reports.specs.Keys.{key_implied, key_groups}
use Rattle.reports.specs.Sections.{Nth, for_each, lines_in}
use Rattle.reports.specs.Reports.{ImpliedLine, EdgeLine, GroupsLine, figures, report_lines, ReportLine, book_lines, ForestLine, certificate_lines, CertificateLine}
use Rattle.reports.proofs.Sections.{Determined, exactly_determined, nth_determined, line_determined, line_within, line_is}

-- ---- the line of an edge

implied_determined : (d : Design) (kept : Set) (e : ℕ) → Determined (ImpliedLine d kept e)
implied_determined d kept e x y p q =
    p.is_line ∙ ap (line key_implied) (circuit_determined d kept e p.is_circuit q.is_circuit) ∙ sym q.is_line

edge_determined : (d : Design) (kept : Set) (among : ℕ → Set) (e : ℕ) → Determined (EdgeLine d kept among e)
edge_determined d kept among e x y (inl p) (inl q) = p.1 ∙ sym q.1
edge_determined d kept among e x y (inl p) (inr q) = absurd (q.0 p.0)
edge_determined d kept among e x y (inr p) (inl q) = absurd (p.0 q.0)
edge_determined d kept among e x y (inr p) (inr q) = implied_determined d (among e) e x y p.1 q.1

forest_determined : (B : Book) (among : ℕ → Set) (e : ℕ) → Determined (ForestLine B among e)
forest_determined B among e x y (inl p) (inl q) = p.1 ∙ sym q.1
forest_determined B among e x y (inl p) (inr q) = absurd (omega (arith, p.0, q.0))
forest_determined B among e x y (inr p) (inl q) = absurd (omega (arith, p.0, q.0))
forest_determined B among e x y (inr p) (inr q) = implied_determined (design_of B) (among e) e x y p.1 q.1

-- ---- the report

module _ (d : Design) (kept : Set) where
  groups_determined : Determined (GroupsLine d kept)
  groups_determined x y p q = p.is_line ∙ ap (line key_groups) (group_list_determined p.is_list q.is_list) ∙ sym q.is_line

  figures_determined : (j : ℕ) → Determined (Nth (figures d kept) j)
  figures_determined =
      nth_determined (figures d kept) (exactly_determined _, (exactly_determined _, (exactly_determined _, (groups_determined, tt))))

  module _ (among : ℕ → Set) where
    pub report_line_determined : (i : ℕ) → Determined (ReportLine d kept among i)
    report_line_determined = line_determined (report_lines d kept among) ((λ i. edge_determined d kept among (suc i)), (figures_determined, tt))

    -- as many, whatever the circuits are taken among
    pub report_line_within : (other : ℕ → Set) (i : ℕ) (bytes : List ℕ) → ReportLine d kept among i bytes → i < lines_in (report_lines d kept other)
    unfolding lines_in
    report_line_within other = line_within (report_lines d kept among)

-- ---- the certificate

module _ (B : Book) (among : ℕ → Set) where
  pub certificate_line_determined : (i : ℕ) → Determined (CertificateLine B among i)
  certificate_line_determined =
      line_determined (certificate_lines B among) ((λ i. exactly_determined _), ((λ i. forest_determined B among (suc i)), tt))

  pub certificate_line_within : (other : ℕ → Set) (i : ℕ) (bytes : List ℕ) → CertificateLine B among i bytes → i < lines_in (certificate_lines B other)
  unfolding lines_in
  certificate_line_within other = line_within (certificate_lines B among)

  -- so far behind the book text stands the line of an edge's forest
  pub certificate_line_forest : (e : ℕ) → In B.count e → (bytes : List ℕ) → CertificateLine B among (B.count + e + 3) bytes → ForestLine B among e bytes
  unfolding lines_in
  certificate_line_forest e h bytes l =
      let forest = line_is (book_lines B ∷ []) (for_each B.count (ForestLine B among)) [] (e - 1) (B.count + e + 3) bytes
      (omega (arith, h.low, h.high)) (omega (arith, h.low)) l in
      let same : suc (e - 1) ≡ e = omega (arith, h.low) in
      subst (λ (z : ℕ). ForestLine B among z bytes) same forest
