-- The line of an edge in the report of a text is what its offer answered when the text was read: line i is kept= with the freedom of the
-- book just after offer i + 1, or implied= with the list that this offer wrote.
--
-- By induction on the offers. Just after an offer the line of its edge is that of the answer: the edges up to it are all the edges there
-- are, and those kept before it are the kept ones without it. And later offers leave the line as it is: they leave the earlier edges
-- kept or implied as they were, and the circuits as they were (crate theory).
--
-- Not here: that a text has no other report, and that the steppers write it: crate readings.
-- Assumes nothing.
use mathlib.Core.Path.{◌≡◌, refl, sym, ap, ◌∙◌, subst}
use mathlib.Core.Logic.{inl, inr, ◌↔◌}
use mathlib.Core.Bool.{Bool}
use mathlib.Core.List.{List, [], ◌∷◌, ◌++◌}
use Prim.Native.Nat.{ℕ, suc, ◌+◌, ◌*◌, ◌-◌, ◌<◌}
use native.Mathlib.Omega.{arith}
use lib.ListN.{length, get_or, take, drop, length-append, get_or-append}
use lib.Seq.{take_at, get_or_at}
use Rattle.rule.specs.declared.Book.{Book}
use Rattle.rule.specs.declared.Answer.{Answer}
use Rattle.rule.specs.declared.Answer.TheVariants.{Kept, Implied, Refused}
use Rattle.rule.specs.Sets.{Is, ◌and◌, ◌<?◌, Set, In, below, count}
use Rattle.rule.specs.Legal.{Design, Keeps, Circuit}
use Rattle.rule.specs.Figures.{freedom}
use Rattle.rule.specs.declared.Edge.{Edge}
use Rattle.rule.specs.Books.{design_of, forest_of, kept_of, offered, next, plus}
use Rattle.rule.specs.Calls.{new_book, Offer}
use Rattle.rule.proofs.Tests.{same_test, by_le, in_split, below_in, below_lt, below_make}
use Rattle.rule.proofs.Counting.{Agree, count_eq}
use Rattle.theory.proofs.Legal.Kept.{kept_most}
use Rattle.theory.proofs.Laws.Grown.{old_kept, new_kept}
use Rattle.theory.proofs.Laws.Circuits.{circuit_agree, circuit_longer}
use Rattle.text.specs.Lines.{line}
use Rattle.reports.specs.Keys.{key_kept, key_implied}
use Rattle.reports.specs.Reads.{Offers, none, then, Reads}
use Rattle.reports.specs.Reports.{freedom_after, EdgeLine}
use Rattle.reports.specs.Texts.{Report}
use Rattle.reports.proofs.Sections.{line_first}
use Rattle.step.specs.Runs.{Taken, Run}
use Rattle.step.specs.Runs.Run.{opened}
use Rattle.step.proofs.Runs.{Grew, run_grew}
use Rattle.step.proofs.Undo.{taken_design, taken_grown}
use Rattle.readings.proofs.Reading.{offers_run, reads_hold, holds_count}
use Rattle.promises.specs.Lines.{answer_line, answer_lines}
use Rattle.promises.proofs.Orders.{passed_taken, reads_open}

-- ---- a later offer leaves the line

below_agree : (m : ℕ) (s t : Set) (e : ℕ) → Agree m s t → Agree m (below s e) (below t e)
unfolding below
below_agree m s t e same i h = ap (λ (b : Bool). b and i <? e) (same i h)

module _ (d : Design) (given : Edge) (kept more : Set) (same : Agree d.m kept more) (bytes : List ℕ) (e : ℕ) (h : In d.m e) where
  edge_line_longer : EdgeLine d kept (below kept) e bytes → EdgeLine (plus d given) more (below more) e bytes
  unfolding plus freedom_after
  edge_line_longer (inl l) =
      let counts : count kept e ≡ count more e = count_eq kept more e (λ i hi. same i (omega arith)) in
      inl (sym (same e h) ∙ l.0, l.1 ∙ ap (λ (z : ℕ). line key_kept (((d.a + d.b) * (d.n - 1) - z) ∷ [])) counts)
  edge_line_longer (inr l) =
      let c = l.1 in
      inr (
        λ t. l.0 (same e h ∙ t),
        record {
          circuit = c.circuit;
          is_circuit =
              circuit_longer d given (below more e) e h (λ t. absurd (omega (arith, h.high, below_lt more e (suc d.m) t))) c.circuit
              (circuit_agree d (below kept e) (below more e) e c.circuit (below_agree d.m kept more e same) c.is_circuit);
          is_line = c.is_line;
        },
      )

-- ---- just after the offer

module _ (before after : Book) (grew : Grew before) (given : Edge) (list listed : List ℕ) (answer : Answer) (taken : Taken answer)
    (o : Offer before after given list listed answer) where
  design : design_of after ≡ offered before given
  design = taken_design before after given list listed answer grew taken o

  count_after : after.count ≡ next before
  unfolding design_of plus
  count_after = ap (λ (d : Design). d.m) design

  old_same : Agree before.count (kept_of before) (kept_of after)
  unfolding design_of
  old_same =
      old_kept (design_of before) given (kept_of before) (kept_of after) grew.grown
      (taken_grown before after given list listed answer grew taken o)

  new_same : Is (kept_of after (next before)) ↔ Keeps (offered before given) (kept_of before) (next before)
  unfolding design_of
  new_same =
      new_kept (design_of before) given (kept_of before) (kept_of after) grew.grown
      (taken_grown before after given list listed answer grew taken o)

  -- those kept before the edge are the kept ones below it
  before_same : Agree (next before) (kept_of before) (below (kept_of after) (next before))
  unfolding design_of
  before_same i h =
      in_split before.count i h
      (λ k.
      same_test _ _ (λ t. below_make (kept_of after) (next before) i (sym (old_same i k) ∙ t) (omega arith))
      (λ t. old_same i k ∙ below_in (kept_of after) (next before) i t))
      (λ q.
      same_test _ _ (λ t. absurd (omega (arith, kept_most (design_of before) (forest_of before) i t)))
      (λ t. absurd (omega (arith, below_lt (kept_of after) (next before) i t))))

module _ (before after : Book) (grew : Grew before) (given : Edge) (list listed : List ℕ) where
  answer_line_lem : (answer : Answer) → Taken answer → Offer before after given list listed answer
      → EdgeLine (design_of after) (kept_of after) (below (kept_of after)) (next before) (answer_line after listed answer)
  unfolding design_of plus freedom freedom_after
  answer_line_lem (Kept c) taken o =
      inl (
        (new_same before after grew given list listed (Kept c) tt o).1 o.says.keeps,
        ap (λ (z : ℕ). line key_kept (((after.a + after.b) * (after.n - 1) - count (kept_of after) z) ∷ [])) o.adds.count,
      )
  answer_line_lem (Implied c) taken o =
      let s = o.says in
      let e = next before in
      let wrote : take c listed ≡ s.circuit = ap (take c) s.fills ∙ take_at s.circuit (drop (length s.circuit) list) c (sym s.number) in
      inr (
        λ t. s.implies ((new_same before after grew given list listed (Implied c) tt o).0 t),
        record {
          circuit = s.circuit;
          is_circuit =
              subst (λ (d : Design). Circuit d (below (kept_of after) e) e s.circuit) (sym (design before after grew given list listed (Implied c) tt o))
              (circuit_agree (offered before given) (kept_of before) (below (kept_of after) e) e s.circuit
              (before_same before after grew given list listed (Implied c) tt o) s.is_circuit);
          is_line = ap (line key_implied) wrote;
        },
      )
  answer_line_lem (Refused r) taken o = absurd taken

-- ---- all the offers

-- line i of a book's report
abbrev LineOfEdge : Book → ℕ → List ℕ → Type 0
LineOfEdge B i bytes = EdgeLine (design_of B) (kept_of B) (below (kept_of B)) (suc i) bytes

-- one line more: an earlier one stays, and the last is that of the answer
module _ (before after : Book) (grew : Grew before) (given : Edge) (list listed : List ℕ) (answer : Answer) (taken : Taken answer)
    (o : Offer before after given list listed answer) (lines : List (List ℕ)) (so_many : length lines ≡ before.count) where
  lines_more : ((i : ℕ) → i < before.count → LineOfEdge before i (get_or lines i []))
      → (i : ℕ) → i < next before → LineOfEdge after i (get_or (lines ++ answer_line after listed answer ∷ []) i [])
  unfolding design_of
  lines_more each i h =
      by_le before.count i
      (λ last.
      let q : length lines ≡ i = omega arith in
      let r : before.count ≡ i = omega arith in
      subst (λ (bytes : List ℕ). LineOfEdge after i bytes) (sym (get_or_at lines (answer_line after listed answer) [] [] i q))
      (subst (λ (j : ℕ). LineOfEdge after j (answer_line after listed answer)) r
      (answer_line_lem before after grew given list listed answer taken o)))
      (λ earlier.
      subst (λ (bytes : List ℕ). LineOfEdge after i bytes) (sym (get_or-append lines (answer_line after listed answer ∷ []) [] i (omega arith)))
      (subst (λ (d : Design). EdgeLine d (kept_of after) (below (kept_of after)) (suc i) (get_or lines i []))
      (sym (design before after grew given list listed answer taken o))
      (edge_line_longer (design_of before) given (kept_of before) (kept_of after) (old_same before after grew given list listed answer taken o)
      (get_or lines i []) (suc i) (omega arith) (each i earlier))))

-- the book has as many edges as there are lines, and its lines are those
record Reported (B : Book) (lines : List (List ℕ)) : Type 0 where
  so_many : length lines ≡ B.count
  each : (i : ℕ) → i < B.count → LineOfEdge B i (get_or lines i [])

offers_reported : {first B : Book} {edges : List Edge} (run : Offers first edges B) → Run first → first.count ≡ 0 → Reported B (answer_lines run)
unfolding answer_lines
offers_reported none run_first empty = record { so_many = sym empty; each = λ i h. absurd (omega arith) }
offers_reported (then {before} {after} e list listed answer run pass o) run_first empty =
    let r = offers_reported run run_first empty in
    let taken = passed_taken before after e list listed answer pass o in
    let grew = run_grew (offers_run run run_first) in
    let more = count_after before after grew e list listed answer taken o in
    let line = answer_line after listed answer in
    record {
      so_many = length-append (answer_lines run) (line ∷ []) ∙ omega (arith, r.so_many);
      each =
          λ i h.
          lines_more before after grew e list listed answer taken o (answer_lines run)
          r.so_many r.each i (omega arith);
    }

-- ---- the report of a text

module _ {text : List ℕ} {B : Book} (r : Reads text B) where
  reads_reported : Reported B (answer_lines r.offers)
  unfolding new_book
  reads_reported = offers_reported r.offers (opened r.sheet.a r.sheet.b r.sheet.n (reads_open r)) refl

  -- each edge of the text was answered
  pub answer_lines_count : length (answer_lines r.offers) ≡ length r.sheet.edges
  answer_lines_count = reads_reported.so_many ∙ holds_count (reads_hold r)

  -- line i of the report is the line of what offer i + 1 answered
  pub report_line_answered : (i : ℕ) → i < length r.sheet.edges → Report text i (get_or (answer_lines r.offers) i [])
  unfolding design_of
  report_line_answered i h =
      let many = holds_count (reads_hold r) in
      inl (B, r, line_first _ _ i (get_or (answer_lines r.offers) i []) (omega arith) (reads_reported.each i (omega arith)))
