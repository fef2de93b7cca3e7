-- The lines of a report and of a certificate: document 01, "The report, whole". Both come in sections (Sections.antt). Lines are counted from 0.
--
-- In order: the line of an edge; the report; the text of a book; the certificate; the refused line.
-- Not here: the lines that a stepper writes (Steps.antt); the report and the certificate of a text (Texts.antt).
--
-- The circuit of an implied edge is taken among some kept edges, `among e`: at its offer these are the edges kept before it. (In a book that
-- was grown from empty all kept edges give the same circuit: theorem 9 of crate theory.)
use Rattle.std.specs.Prelude.{◌≡◌, ◌⊎◌, List, [], ◌∷◌, ◌++◌, ℕ, zero, suc, ◌+◌, ◌*◌, ◌-◌, ◌≤◌}
use Rattle.rule.specs.declared.Book.{Book}
use Rattle.rule.specs.declared.Reason.{Reason}
use Rattle.rule.specs.Sets.{Is, Set, count}
use Rattle.rule.specs.Legal.{Design, k, Circuit}
use Rattle.rule.specs.Figures.{freedom, dropped, verdict, Groups}
use Rattle.rule.specs.Books.{edge_of, design_of, forest_of}
use Rattle.rule.specs.Reasons.{number_of}
use Rattle.text.specs.Lines.{LF, line, key_a, key_b, key_bodies, key_edges}
use Rattle.text.specs.Sheets.{edge_text}
use Rattle.reports.specs.Keys.{key_kept, key_implied, key_free, key_dropped, key_verdict, key_groups, key_forest, key_refused, word_of}
use Rattle.reports.specs.Sections.{Section, Exactly, in_order, for_each, LineIn}

-- ---- the line of an edge

-- the freedom after edge e: k·(n−1) less the number kept up to it
unfoldable pub freedom_after : Design → Set → ℕ → ℕ
freedom_after d kept e = k d * (d.n - 1) - count kept e

-- implied= with the circuit of e among these kept edges
pub record ImpliedLine (d : Design) (kept : Set) (e : ℕ) (bytes : List ℕ) : Type 0 where
  pub circuit : List ℕ
  pub is_circuit : Circuit d kept e circuit
  pub is_line : bytes ≡ line key_implied circuit

-- kept= with the freedom after that edge, or its implied= line
abbrev pub EdgeLine : Design → Set → (ℕ → Set) → ℕ → List ℕ → Type 0
EdgeLine d kept among e bytes =
    (Is (kept e) × (bytes ≡ line key_kept (freedom_after d kept e ∷ [])))
    ⊎ (¬ (Is (kept e)) × ImpliedLine d (among e) e bytes)

-- ---- the report

-- groups= with the group list
pub record GroupsLine (d : Design) (kept : Set) (bytes : List ℕ) : Type 0 where
  pub list : List ℕ
  pub is_list : Groups d kept list
  pub is_line : bytes ≡ line key_groups list

-- the figures of the whole: free=, dropped=, verdict= and groups=
abbrev pub figures : Design → Set → List (List ℕ → Type 0)
figures d kept =
    Exactly (line key_free (freedom d kept ∷ []))
    ∷ Exactly (line key_dropped (dropped d kept ∷ []))
    ∷ Exactly (key_verdict ++ (word_of (verdict d kept) ++ LF ∷ []))
    ∷ GroupsLine d kept
    ∷ []

-- the edges in order, then the figures
abbrev pub report_lines : Design → Set → (among : ℕ → Set) → List Section
report_lines d kept among = for_each d.m (EdgeLine d kept among) ∷ in_order (figures d kept) ∷ []

-- line i of a report
abbrev pub ReportLine : Design → Set → (among : ℕ → Set) → ℕ → List ℕ → Type 0
ReportLine d kept among = LineIn (report_lines d kept among)

-- ---- the text of a book

-- line i of it: the four lines of the head, and then the edges in order
unfoldable pub book_line : Book → ℕ → List ℕ
book_line B zero = line key_a (B.a ∷ [])
book_line B (suc zero) = line key_b (B.b ∷ [])
book_line B (suc (suc zero)) = line key_bodies (B.n ∷ [])
book_line B (suc (suc (suc zero))) = line key_edges (B.count ∷ [])
book_line B (suc (suc (suc (suc i)))) = edge_text (edge_of B (suc i))

-- all its lines
abbrev pub book_lines : Book → Section
book_lines B = record { number = 4 + B.count; Says = λ i. Exactly (book_line B i) }

-- ---- the certificate

-- forest= with the forest of edge e, or its implied= line
abbrev pub ForestLine : Book → (ℕ → Set) → ℕ → List ℕ → Type 0
ForestLine B among e bytes =
    (1 ≤ forest_of B e × (bytes ≡ line key_forest (forest_of B e ∷ [])))
    ⊎ ((forest_of B e ≡ 0) × ImpliedLine (design_of B) (among e) e bytes)

-- the text of the book, and then a line for each edge in order
abbrev pub certificate_lines : Book → (among : ℕ → Set) → List Section
certificate_lines B among = book_lines B ∷ for_each B.count (ForestLine B among) ∷ []

-- line i of a certificate
abbrev pub CertificateLine : Book → (among : ℕ → Set) → ℕ → List ℕ → Type 0
CertificateLine B among = LineIn (certificate_lines B among)

-- ---- a refused text

-- refused= with the reason, a comma and the line number
unfoldable pub refused_line : Reason → ℕ → List ℕ
refused_line reason number = line key_refused (number_of reason ∷ number ∷ [])
