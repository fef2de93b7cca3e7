-- In a book that was grown from empty each line of a report and of a certificate is the same, whether the circuits are taken among the
-- edges kept before each edge or among all the kept edges.
--
-- The circuits are the same (crate theory, theorem 9), so the list of a circuit is. Every other section names no circuit.
-- Assumes nothing.
use mathlib.Core.Path.{refl}
use mathlib.Core.Logic.Iff
use mathlib.Core.Logic.{inl, inr, ◌↔◌}
use mathlib.Core.List.{List}
use Prim.Native.Nat.{ℕ, suc, ◌<◌}
use native.Mathlib.Omega.{arith}
use Rattle.rule.specs.declared.Book.{Book}
use Rattle.rule.specs.Sets.{Is, Set, In, below}
use Rattle.rule.specs.Legal.{Design, InCircuit}
use Rattle.rule.specs.Books.{design_of, forest_of, kept_of, Sound, GrownBook}
use Rattle.theory.proofs.Legal.Kept.{kept_has}
use Rattle.theory.proofs.Legal.Sound.{sound_ends}
use Rattle.theory.proofs.Theorems.{circuit_settled}
use Rattle.reports.specs.Reports.{ImpliedLine, EdgeLine, report_lines, ReportLine, ForestLine, certificate_lines, CertificateLine}
use Rattle.reports.proofs.Sections.{turns_same, line_turned}

-- among the one sets and among the others each implied edge has the same circuit
abbrev pub SameCircuits : Design → Set → (among other : ℕ → Set) → Type 0
SameCircuits d kept among other =
    (e : ℕ) → In d.m e → ¬ (Is (kept e)) → (y : ℕ) → In d.m y → (InCircuit d (among e) e y ↔ InCircuit d (other e) e y)

same_circuits_sym : (d : Design) (kept : Set) (among other : ℕ → Set) → SameCircuits d kept among other → SameCircuits d kept other among
same_circuits_sym d kept among other same e h implied y hy = Iff.symm (same e h implied y hy)

-- ---- the lines, from the one sets to the others

module _ (d : Design) (kept : Set) (among other : ℕ → Set) (same : SameCircuits d kept among other) {bytes : List ℕ} where
  implied_as : (e : ℕ) → In d.m e → ¬ (Is (kept e)) → ImpliedLine d (among e) e bytes → ImpliedLine d (other e) e bytes
  implied_as e h implied l =
      let is = l.is_circuit in
      record {
        circuit = l.circuit;
        is_circuit =
            record { chosen = is.chosen; exactly = λ y hy. Iff.trans (is.exactly y hy) (same e h implied y hy); in_order = is.in_order };
        is_line = l.is_line;
      }

  edge_as : (e : ℕ) → In d.m e → EdgeLine d kept among e bytes → EdgeLine d kept other e bytes
  edge_as e h (inl l) = inl l
  edge_as e h (inr l) = inr (l.0, implied_as e h l.0 l.1)

report_as : (d : Design) (kept : Set) (among other : ℕ → Set) → SameCircuits d kept among other → (i : ℕ) (bytes : List ℕ)
    → ReportLine d kept among i bytes → ReportLine d kept other i bytes
report_as d kept among other same =
    line_turned (report_lines d kept among) (report_lines d kept other)
    (record { as_many = refl; turn = λ i bytes h l. edge_as d kept among other same (suc i) (omega arith) l }, (turns_same _, tt))

module _ (B : Book) (among other : ℕ → Set) (same : SameCircuits (design_of B) (kept_of B) among other) {bytes : List ℕ} where
  forest_as : (e : ℕ) → In B.count e → ForestLine B among e bytes → ForestLine B other e bytes
  unfolding design_of
  forest_as e h (inl l) = inl l
  forest_as e h (inr l) =
      let implied : ¬ (Is (kept_of B e)) = λ k. absurd (omega (arith, l.0, kept_has (design_of B) (forest_of B) e k)) in
      inr (l.0, implied_as (design_of B) (kept_of B) among other same e h implied l.1)

certificate_as : (B : Book) (among other : ℕ → Set) → SameCircuits (design_of B) (kept_of B) among other → (i : ℕ) (bytes : List ℕ)
    → CertificateLine B among i bytes → CertificateLine B other i bytes
certificate_as B among other same =
    line_turned (certificate_lines B among) (certificate_lines B other)
    (turns_same _, (record { as_many = refl; turn = λ i bytes h l. forest_as B among other same (suc i) (omega arith) l }, tt))

-- ---- in a grown book

module _ (B : Book) (sound : Sound B) (grown : GrownBook B) where
  settles : SameCircuits (design_of B) (kept_of B) (below (kept_of B)) (λ e. kept_of B)
  settles e h implied y hy = circuit_settled (design_of B) (sound_ends B sound) (kept_of B) grown e h implied y hy

  settles_back : SameCircuits (design_of B) (kept_of B) (λ e. kept_of B) (below (kept_of B))
  settles_back = same_circuits_sym (design_of B) (kept_of B) (below (kept_of B)) (λ e. kept_of B) settles

  module _ (i : ℕ) (bytes : List ℕ) where
    pub edge_settled : i < B.count
        → (EdgeLine (design_of B) (kept_of B) (λ e. kept_of B) (suc i) bytes ↔ EdgeLine (design_of B) (kept_of B) (below (kept_of B)) (suc i) bytes)
    unfolding design_of
    edge_settled h = (
      edge_as (design_of B) (kept_of B) _ _ settles_back (suc i) (omega arith),
      edge_as (design_of B) (kept_of B) _ _ settles (suc i) (omega arith),
    )

    pub report_settled : ReportLine (design_of B) (kept_of B) (λ e. kept_of B) i bytes ↔ ReportLine (design_of B) (kept_of B) (below (kept_of B)) i bytes
    report_settled = (report_as (design_of B) (kept_of B) _ _ settles_back i bytes, report_as (design_of B) (kept_of B) _ _ settles i bytes)

    pub certificate_settled : CertificateLine B (λ e. kept_of B) i bytes ↔ CertificateLine B (below (kept_of B)) i bytes
    certificate_settled = (certificate_as B _ _ settles_back i bytes, certificate_as B _ _ settles i bytes)
