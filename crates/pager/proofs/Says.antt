-- What the writers of single lines write is what the report and the certificate say, section by section.
-- Assumes nothing.
use mathlib.Core.Path.{◌≡◌, refl, subst}
use mathlib.Core.Logic.{◌≢◌, inl, inr}
use mathlib.Core.List.{List, [], ◌∷◌}
use Prim.Native.Nat.{ℕ, suc, ◌+◌, ◌-◌, ◌≤◌, ◌<◌}
use native.Mathlib.Numerals.{add-one}
use lib.ListN.{length, get_or}
use Rattle.rule.specs.declared.Book.{Book}
use Rattle.rule.specs.Sets.{at}
use Rattle.rule.specs.Books.{design_of, kept_of}
use Rattle.text.specs.Lines.{line}
use Rattle.text.specs.Puts.{Writes}
use Rattle.reports.specs.Keys.{key_kept, key_forest}
use Rattle.reports.specs.Reports.{freedom_after, ImpliedLine, EdgeLine, figures, book_line, book_lines, ForestLine}
use Rattle.reports.specs.Sections.{Nth}
use Rattle.reports.specs.Steps.{Puts, report, certificate}
use Rattle.reports.proofs.Sections.{line_first, line_behind, nth_as}
use Rattle.pager.proofs.Tallies.{forest_none, forest_some, is_kept, is_implied}

-- what is said of the bytes may be said otherwise
pub puts_as : {P Q : List ℕ → Type 0} {s after : List ℕ} {r : ℕ} → ((bytes : List ℕ) → P bytes → Q bytes) → Puts P s after r → Puts Q s after r
puts_as f p = record { bytes = p.bytes; says = f p.bytes p.says; writes = p.writes }

pub puts_of : {Q : List ℕ → Type 0} {s after : List ℕ} {r : ℕ} (bytes : List ℕ) → Q bytes → Writes bytes s after r → Puts Q s after r
puts_of bytes q w = record { bytes = bytes; says = q; writes = w }

-- line j of these, said of the line that has this number
pub puts_nth : {s after : List ℕ} {r : ℕ} (ls : List (List ℕ → Type 0)) (i j : ℕ) → i ≡ j → Puts (Nth ls j) s after r → Puts (Nth ls i) s after r
puts_nth ls i j q = puts_as (λ bytes x. nth_as ls i j bytes q x)

-- the implied= line of the edge with i others before it
implied_next : (B : Book) (i : ℕ) (bytes : List ℕ) → ImpliedLine (design_of B) (kept_of B) (i + 1) bytes
    → ImpliedLine (design_of B) (kept_of B) (suc i) bytes
implied_next B i bytes l = subst (λ (e : ℕ). ImpliedLine (design_of B) (kept_of B) e bytes) (add-one i) l

module _ (B : Book) {s after : List ℕ} {r : ℕ} where
  -- ---- an edge of the report

  pub edge_implied : (i : ℕ) → get_or B.forests i 0 ≡ 0 → Puts (ImpliedLine (design_of B) (kept_of B) (i + 1)) s after r
      → Puts (EdgeLine (design_of B) (kept_of B) (λ e. kept_of B) (suc i)) s after r
  edge_implied i q = puts_as (λ bytes l. inr (is_implied B (suc i) (forest_none B i q), implied_next B i bytes l))

  pub edge_kept : (i : ℕ) → i < B.count → get_or B.forests i 0 ≢ 0
      → Writes (line key_kept (freedom_after (design_of B) (kept_of B) (suc i) ∷ [])) s after r
      → Puts (EdgeLine (design_of B) (kept_of B) (λ e. kept_of B) (suc i)) s after r
  edge_kept i l ne w = puts_of _ (inl (is_kept B i l (forest_some B i ne), refl)) w

  -- ---- the report

  pub report_edge : (i : ℕ) → i < B.count → Puts (EdgeLine (design_of B) (kept_of B) (λ e. kept_of B) (suc i)) s after r → Puts (report.Says B i) s after r
  unfolding design_of
  report_edge i l = puts_as (λ bytes x. line_first _ _ i bytes l x)

  pub report_figure : (i : ℕ) → B.count ≤ i → i - B.count < length (figures (design_of B) (kept_of B))
      → Puts (Nth (figures (design_of B) (kept_of B)) (i - B.count)) s after r → Puts (report.Says B i) s after r
  unfolding design_of
  report_figure i past few = puts_as (λ bytes x. line_behind _ _ i bytes past (line_first _ _ (i - B.count) bytes few x))

  -- ---- the certificate

  pub forest_implied : (e : ℕ) → get_or B.forests e 0 ≡ 0 → Puts (ImpliedLine (design_of B) (kept_of B) (e + 1)) s after r
      → Puts (ForestLine B (λ e. kept_of B) (suc e)) s after r
  forest_implied e q = puts_as (λ bytes l. inr (forest_none B e q, implied_next B e bytes l))

  pub forest_kept : (e : ℕ) → get_or B.forests e 0 ≢ 0 → Writes (line key_forest (get_or B.forests e 0 ∷ [])) s after r
      → Puts (ForestLine B (λ e. kept_of B) (suc e)) s after r
  unfolding at
  forest_kept e ne w = puts_of _ (inl (forest_some B e ne, refl)) w

  pub certificate_text : (i : ℕ) → i < (book_lines B).number → Writes (book_line B i) s after r → Puts (certificate.Says B i) s after r
  certificate_text i less w = puts_of _ (line_first _ _ i _ less refl) w

  pub certificate_forest : (i : ℕ) → (book_lines B).number ≤ i → i - (book_lines B).number < B.count
      → Puts (ForestLine B (λ e. kept_of B) (suc (i - (book_lines B).number))) s after r → Puts (certificate.Says B i) s after r
  certificate_forest i past less = puts_as (λ bytes x. line_behind _ _ i bytes past (line_first _ _ (i - (book_lines B).number) bytes less x))
