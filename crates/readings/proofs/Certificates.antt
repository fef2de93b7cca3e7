-- What the printed lines of a certificate say to whoever counts them through: red edges stand in forests 1 to a, no forest has a loop, and the edges with
-- a forest line are exactly the kept ones.
--
-- All lines are of one book that was read (`Certificate`). The line of an edge names its forest in that book, since a line is of one number and no
-- `implied=` line begins like a `forest=` line; and that book is sound and grown from empty.
-- Assumes nothing.
use mathlib.Core.Path.{◌≡◌, sym, ap, ◌∙◌, subst}
use mathlib.Core.Logic.{⊎_elim, ◌↔◌}
use mathlib.Core.List.{List, [], ◌∷◌}
use Prim.Native.Nat.{ℕ, ◌+◌, ◌≤◌}
use native.Mathlib.Omega.{arith}
use lib.ListN.{length, get_or}
use Rattle.std.specs.Prelude.{Result, Ok}
use Rattle.rule.specs.declared.Book.{Book}
use Rattle.rule.specs.Sets.{Is, Set, In, below}
use Rattle.rule.specs.Legal.{Design, k, Grown}
use Rattle.rule.specs.Forests.{Loopless, limit, in_forest, Permitted}
use Rattle.rule.specs.Books.{design_of, forest_of, kept_of}
use Rattle.rule.proofs.Tests.{without_old, without_ne, without_make}
use Rattle.rule.proofs.Determined.{grown_determined}
use Rattle.rule.proofs.Loops.{chain_mono}
use Rattle.theory.proofs.Legal.Kept.{forest_make, kept_make, kept_has, limit_red, limit_most}
use Rattle.theory.proofs.Legal.Sound.{sound_arranged}
use Rattle.text.specs.Lines.{line}
use Rattle.text.proofs.LineReads.{line_number_determined}
use Rattle.step.proofs.Runs.{Grew}
use Rattle.text.specs.declared.Refusal.{Refusal}
use Rattle.reports.specs.Keys.{key_forest, key_implied}
use Rattle.reports.specs.Reads.{Receives}
use Rattle.reports.specs.Reports.{ForestLine}
use Rattle.reports.specs.Steps.{certificate, lines_of}
use Rattle.reports.specs.Texts.{CertificateOf, Certificate, ForestShown}
use Rattle.reports.proofs.Numbers.{certificate_number}
use Rattle.readings.proofs.Reading.{reads_grew}
use Rattle.readings.proofs.Lines.{certificate_line_forest}

-- a line that begins with forest= is none that begins with implied=
not_implied : (f : ℕ) (circuit : List ℕ) → ¬ (line key_forest (f ∷ []) ≡ line key_implied circuit)
unfolding line
not_implied f circuit q = absurd (omega (arith, ap (λ (l : List ℕ). get_or l 0 0) q))

module _ {text : List ℕ} {lines : List (List ℕ)} (c : Certificate text lines) (fine : c.received ≡ Ok tt) where
  abbrev B : Book
  B = c.book

  abbrev d : Design
  d = design_of c.book

  grew : Grew B
  grew = reads_grew (subst (Receives text B) fine c.is_received)

  so_many : length lines ≡ 4 + B.count + B.count
  so_many = c.so_many ∙ ap (lines_of certificate B) fine ∙ certificate_number B

  forest_line : (e : ℕ) → In B.count e → ForestLine B (below (kept_of B)) e (get_or lines (B.count + e + 3) [])
  forest_line e h =
      certificate_line_forest B (below (kept_of B)) e h (get_or lines (B.count + e + 3) [])
      (subst (λ (r : Result Unit Refusal). CertificateOf B r (B.count + e + 3) (get_or lines (B.count + e + 3) [])) fine
      (c.each (B.count + e + 3) (omega (arith, so_many, h.high))))

  -- the forest that the line of an edge names is its forest in the book
  pub shown_is : (e f : ℕ) → In B.count e → ForestShown lines B.count e f → (f ≡ forest_of B e) × (1 ≤ f)
  shown_is e f h shown =
      ⊎_elim
      (λ (l : (1 ≤ forest_of B e) × (get_or lines (B.count + e + 3) [] ≡ line key_forest (forest_of B e ∷ []))).
      let same : f ≡ forest_of B e = line_number_determined key_forest f (forest_of B e) (sym shown ∙ l.1) in (same, omega (arith, l.0)))
      (λ l. absurd (not_implied f l.1.circuit (sym shown ∙ l.1.is_line)))
      (forest_line e h)

  permitted : (e : ℕ) → In B.count e → forest_of B e ≤ limit d e
  unfolding Permitted design_of
  permitted e h = (sound_arranged B grew.sound).permitted e h

  -- red edges stand in forests 1 to a
  pub shown_red : (e f : ℕ) → In B.count e → Is (d.red e) → ForestShown lines B.count e f → In d.a f
  shown_red e f h red shown =
      let is = shown_is e f h shown in
      record { low = is.1; high = omega (arith, is.0, permitted e h, limit_red d e red) }

  -- no forest has a loop: edges whose lines all name one forest have none
  pub shown_loopless : (f : ℕ) (s : Set) → ((e : ℕ) → In B.count e → Is (s e) → ForestShown lines B.count e f) → Loopless d s
  unfolding Loopless design_of
  shown_loopless f s all e h in_s chain =
      let is = shown_is e f h (all e h in_s) in
      let range : In (k d) f = record { low = is.1; high = omega (arith, is.0, permitted e h, limit_most d e) } in
      (sound_arranged B grew.sound).loopless f range e h (stands e h in_s)
      (chain_mono d
      (λ i hi t. without_make (in_forest (forest_of B) f) e i (stands i hi (without_old s e i t)) (without_ne s e i t)) chain)
    where
      stands : (i : ℕ) → In B.count i → Is (s i) → Is (in_forest (forest_of B) f i)
      stands i hi t = forest_make (forest_of B) f i (sym (shown_is i f hi (all i hi t)).0)

  -- the edges with a forest line are exactly those that are kept when the edges are offered in order
  pub shown_kept : (kept : Set) → Grown d kept → (e : ℕ) → In B.count e → (((f : ℕ) × ForestShown lines B.count e f) ↔ Is (kept e))
  unfolding design_of
  shown_kept kept grown e h = (there, back)
    where
      same : kept e ≡ kept_of B e
      same = grown_determined d kept (kept_of B) grown grew.grown e h

      there : ((f : ℕ) × ForestShown lines B.count e f) → Is (kept e)
      there shown =
          let is = shown_is e shown.0 h shown.1 in
          same ∙ kept_make d (forest_of B) e h.high (omega (arith, is.0, is.1))

      back : Is (kept e) → (f : ℕ) × ForestShown lines B.count e f
      back t =
          let has : 1 ≤ forest_of B e = kept_has d (forest_of B) e (sym same ∙ t) in
          ⊎_elim (λ l. (forest_of B e, l.1)) (λ l. absurd (omega (arith, l.0))) (forest_line e h)
