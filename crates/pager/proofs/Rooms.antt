-- Every line fits into a line's room, and none is empty.
--
-- A line of one or two numbers of 64 bits has at most 50 bytes, an edge 12, and the group list at most 64 numbers of three digits. (That an
-- implied= line fits is shown in crate circuits.) A line ends with its LF, so it has a byte; what each line of a section has, every line has (crate reports).
-- Assumes nothing.
use Rattle.std.specs.Prelude.{Result, Ok, Err}
use mathlib.Core.Path.{◌≡◌, ap}
use mathlib.Core.Logic.{inl, inr}
use mathlib.Core.List.{List, [], ◌∷◌, ◌++◌}
use Prim.Native.Nat.{ℕ, zero, suc, ◌≤◌, ◌<◌}
use native.Mathlib.Omega.{arith}
use lib.ListN.{length, get_or, length-append}
use mir.Syntax.{w64}
use mir.Val.{Fits}
use Rattle.rule.specs.declared.Book.{Book}
use Rattle.rule.specs.Sets.{Set, at}
use Rattle.rule.specs.Legal.{Design}
use Rattle.rule.specs.Figures.{verdict, Groups}
use Rattle.rule.specs.Books.{edge_of, design_of, kept_of, Sound}
use Rattle.theory.proofs.Legal.Sound.{sound_head, sound_edge}
use Rattle.text.specs.Lines.{LF, comma, numeral, listed, line, key_a, key_b, key_bodies, key_edges}
use Rattle.text.specs.Sheets.{edge_text}
use Rattle.text.proofs.Sizes.{line_length, edge_length}
use Rattle.lines.proofs.Sizes.{Numbers, numeral_at_most_20, line_not_empty, number_line_at_most, line_at_most}
use Rattle.text.specs.declared.Refusal.{Refusal}
use Rattle.reports.specs.Keys.{key_verdict, key_groups, word_of}
use Rattle.reports.specs.Sections.{Exactly, Nth}
use Rattle.reports.specs.Reports.{ImpliedLine, EdgeLine, GroupsLine, figures, report_lines, ReportLine, book_line, book_lines, ForestLine, certificate_lines, CertificateLine, refused_line}
use Rattle.reports.specs.Steps.{LineOf, line_room}
use Rattle.reports.proofs.Sections.{Has, nth_has, line_has}
use Rattle.pager.specs.declared.Kind.{Kind}
use Rattle.pager.specs.Kinds.{form_of}

-- ---- room

pub number_line_room : (key : List ℕ) (n places : ℕ) → length key ≤ 8 → Fits w64 n → line_room ≤ places → length (line key (n ∷ [])) ≤ places
number_line_room key n places few small room = omega (arith, number_line_at_most key n small.fits)

small_line_room : (key : List ℕ) (n places : ℕ) → length key ≤ 8 → n ≤ 512 → line_room ≤ places → length (line key (n ∷ [])) ≤ places
small_line_room key n places few small room = omega (arith, number_line_at_most key n (omega arith))

pub pair_line_room : (key : List ℕ) (n m places : ℕ) → length key ≤ 8 → Fits w64 n → Fits w64 m → line_room ≤ places
    → length (line key (n ∷ m ∷ [])) ≤ places
unfolding listed
pair_line_room key n m places few small_n small_m room =
    omega (
      arith,
      line_length key (n ∷ m ∷ []),
      length-append (numeral n) (comma ∷ numeral m),
      numeral_at_most_20 n small_n.fits,
      numeral_at_most_20 m small_m.fits,
    )

module _ (B : Book) (sound : Sound B) where
  pub groups_room : (l : List ℕ) (places : ℕ) → Groups (design_of B) (kept_of B) l → line_room ≤ places → length (line key_groups l) ≤ places
  unfolding design_of at
  groups_room l places g room =
      let bodies : B.n ≤ 64 = (sound_head B sound).bodies.high in
      let long : length l ≡ B.n = g.as_long in
      let small : Numbers l = λ i h.
      let lead : get_or l i 0 ≤ B.n = (g.leads (suc i) (omega arith)).body.high in
      omega arith in
      omega (arith, line_at_most key_groups l small)

  pub book_line_room : (i places : ℕ) → i < (book_lines B).number → line_room ≤ places → length (book_line B i) ≤ places
  unfolding book_line
  book_line_room zero places less room = small_line_room key_a B.a places (omega arith) (omega (arith, (sound_head B sound).profile.0.high)) room
  book_line_room (suc zero) places less room = small_line_room key_b B.b places (omega arith) (omega (arith, (sound_head B sound).profile.1.high)) room
  book_line_room (suc (suc zero)) places less room = small_line_room key_bodies B.n places (omega arith) (omega (arith, (sound_head B sound).bodies.high)) room
  book_line_room (suc (suc (suc zero))) places less room = small_line_room key_edges B.count places (omega arith) (sound_head B sound).edges room
  book_line_room (suc (suc (suc (suc e)))) places less room =
      let range = (sound_edge B sound (suc e) (omega arith)).range in
      omega (arith, room, edge_length B.n (edge_of B (suc e)) (sound_head B sound).bodies range)

-- ---- no line is empty

abbrev NotEmpty : List ℕ → Type 0
NotEmpty bytes = 1 ≤ length bytes

is_line_not_empty : (key values : List ℕ) → Has NotEmpty (Exactly (line key values))
is_line_not_empty key values bytes q = omega (arith, ap length q, line_not_empty key values)

implied_not_empty : (d : Design) (kept : Set) (e : ℕ) → Has NotEmpty (ImpliedLine d kept e)
implied_not_empty d kept e bytes l = is_line_not_empty _ _ _ l.is_line

edge_not_empty : (d : Design) (kept : Set) (among : ℕ → Set) (e : ℕ) → Has NotEmpty (EdgeLine d kept among e)
edge_not_empty d kept among e bytes (inl x) = is_line_not_empty _ _ _ x.1
edge_not_empty d kept among e bytes (inr x) = implied_not_empty _ _ _ _ x.1

verdict_not_empty : (word : List ℕ) → Has NotEmpty (Exactly (key_verdict ++ (word ++ LF ∷ [])))
verdict_not_empty word bytes x = omega (arith, ap length x, simp length-append at (ap length x))

groups_not_empty : (d : Design) (kept : Set) → Has NotEmpty (GroupsLine d kept)
groups_not_empty d kept bytes l = is_line_not_empty _ _ _ l.is_line

figures_not_empty : (d : Design) (kept : Set) (j : ℕ) → Has NotEmpty (Nth (figures d kept) j)
figures_not_empty d kept =
    nth_has NotEmpty (figures d kept)
    (is_line_not_empty _ _, (is_line_not_empty _ _, (verdict_not_empty (word_of (verdict d kept)), (groups_not_empty d kept, tt))))

report_not_empty : (d : Design) (kept : Set) (among : ℕ → Set) (i : ℕ) → Has NotEmpty (ReportLine d kept among i)
report_not_empty d kept among =
    line_has NotEmpty (report_lines d kept among) ((λ i. edge_not_empty d kept among (suc i)), (figures_not_empty d kept, tt))

text_not_empty : (B : Book) (i : ℕ) → Has NotEmpty (Exactly (book_line B i))
unfolding book_line edge_text
text_not_empty B zero = is_line_not_empty _ _
text_not_empty B (suc zero) = is_line_not_empty _ _
text_not_empty B (suc (suc zero)) = is_line_not_empty _ _
text_not_empty B (suc (suc (suc zero))) = is_line_not_empty _ _
text_not_empty B (suc (suc (suc (suc i)))) = is_line_not_empty _ _

forest_not_empty : (B : Book) (among : ℕ → Set) (e : ℕ) → Has NotEmpty (ForestLine B among e)
forest_not_empty B among e bytes (inl x) = is_line_not_empty _ _ _ x.1
forest_not_empty B among e bytes (inr x) = implied_not_empty _ _ _ _ x.1

certificate_not_empty : (B : Book) (among : ℕ → Set) (i : ℕ) → Has NotEmpty (CertificateLine B among i)
certificate_not_empty B among =
    line_has NotEmpty (certificate_lines B among) (text_not_empty B, ((λ i. forest_not_empty B among (suc i)), tt))

pub no_line_empty : (kind : Kind) (B : Book) (received : Result Unit Refusal) (i : ℕ) (bytes : List ℕ) → LineOf (form_of kind) B received i bytes → 1 ≤ length bytes
unfolding refused_line
no_line_empty Kind.Report B (Ok _) i bytes l = report_not_empty (design_of B) (kept_of B) (λ e. kept_of B) i bytes l
no_line_empty Kind.Report B (Err _) i bytes l = is_line_not_empty _ _ _ l
no_line_empty Kind.Certificate B (Ok _) i bytes l = certificate_not_empty B (λ e. kept_of B) i bytes l
no_line_empty Kind.Certificate B (Err _) i bytes l = is_line_not_empty _ _ _ l
