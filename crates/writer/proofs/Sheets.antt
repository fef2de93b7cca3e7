-- The sheet of a sound book: its edges as a list, that it is in range, that its text is the lines of the book one behind the other, and that the text
-- fits into the room for one.
--
-- The rule of each place of a sound book says what the sheet's range asks, edge by edge. By the size theorem of crate text its text has
-- then at most 6,172 bytes.
-- Assumes nothing.
use mathlib.Core.Path.{◌≡◌, refl, sym, ap, ◌∙◌}
use mathlib.Core.List.{List, [], ◌∷◌, ◌++◌, append_assoc, append-nil}
use Prim.Native.Nat.{ℕ, zero, suc, ◌+◌, ◌≤◌}
use native.Mathlib.Omega.{arith}
use lib.ListN.{length, length-append}
use Rattle.rule.specs.declared.Book.{Book}
use Rattle.rule.specs.declared.Edge.{Edge}
use Rattle.rule.specs.Books.{edge_of, EdgeRange, Obeys, Sound}
use Rattle.theory.proofs.Legal.Sound.{sound_head}
use Rattle.text.specs.Sheets.{EdgesRange, SheetRange, edge_text, edges_text, head_text, text_of, text_room}
use Rattle.text.proofs.SheetRuns.{edges_text_append}
use Rattle.text.proofs.Sizes.{sheet_size}
use Rattle.reports.specs.Reads.{edges_of, sheet_of}
use Rattle.reports.specs.Reports.{book_line, book_lines}
use Rattle.lines.proofs.Rounds.{Pieces}

-- ---- the edges as a list

pub edges_number : (B : Book) (m : ℕ) → length (edges_of B m) ≡ m
unfolding edges_of
edges_number B zero = refl
edges_number B (suc m) = omega (arith, length-append (edges_of B m) (edge_of B (suc m) ∷ []), edges_number B m)

-- one edge more is one line more
edges_text_more : (B : Book) (m : ℕ) → edges_text (edges_of B (suc m)) ≡ edges_text (edges_of B m) ++ edge_text (edge_of B (suc m))
unfolding edges_of edges_text
edges_text_more B m =
    edges_text_append (edges_of B m) (edge_of B (suc m) ∷ [])
    ∙ ap (λ (s : List ℕ). edges_text (edges_of B m) ++ s) (append-nil (edge_text (edge_of B (suc m))))

-- ---- in range

edges_range_snoc : (n : ℕ) (es : List Edge) (e : Edge) → EdgesRange n es → EdgeRange n e → EdgesRange n (es ++ e ∷ [])
edges_range_snoc n [] e r q = (q, tt)
edges_range_snoc n (f ∷ es) e r q = (r.0, edges_range_snoc n es e r.1 q)

edges_range : (B : Book) → Sound B → (m : ℕ) → m ≤ B.count → EdgesRange B.n (edges_of B m)
unfolding edges_of Sound Obeys
edges_range B sound zero h = tt
edges_range B sound (suc m) h =
    edges_range_snoc B.n (edges_of B m) (edge_of B (suc m)) (edges_range B sound m (omega arith)) (sound (suc m) h).range

-- The sheet of a sound book is in range.
pub sound_sheet_range : (B : Book) → Sound B → SheetRange (sheet_of B)
unfolding sheet_of
sound_sheet_range B sound =
    let head = sound_head B sound in
    record {
      profile = head.profile;
      bodies = head.bodies;
      few = omega (arith, edges_number B B.count, head.edges);
      edges = edges_range B sound B.count (omega arith);
    }

-- ---- the lines

-- the first lines of the text of a book, one behind the other
unfoldable pub first_lines : Book → ℕ → List ℕ
first_lines B zero = []
first_lines B (suc i) = first_lines B i ++ book_line B i

-- one a round
pub lines_pieces : (B : Book) (m : ℕ) → Pieces (first_lines B) (book_line B) m
unfolding first_lines
lines_pieces B m = record { none = refl; step = λ i h. refl }

-- the head and the first m edges
lines_parts : (B : Book) (m : ℕ) → first_lines B (suc (suc (suc (suc m)))) ≡ head_text B.a B.b B.n B.count ++ edges_text (edges_of B m)
unfolding first_lines book_line head_text edges_of edges_text
lines_parts B zero = simp (append_assoc, append-nil)
lines_parts B (suc m) =
    let head = head_text B.a B.b B.n B.count in
    ap (λ (s : List ℕ). s ++ edge_text (edge_of B (suc m))) (lines_parts B m)
    ∙ append_assoc head (edges_text (edges_of B m)) (edge_text (edge_of B (suc m)))
    ∙ ap (λ (s : List ℕ). head ++ s) (sym (edges_text_more B m))

-- The text of a book is its lines, one behind the other.
pub text_lines : (B : Book) → first_lines B (book_lines B).number ≡ text_of (sheet_of B)
unfolding text_of sheet_of
text_lines B =
    let same : (book_lines B).number ≡ suc (suc (suc (suc B.count))) = omega arith in
    ap (first_lines B) same
    ∙ lines_parts B B.count
    ∙ ap (λ (m : ℕ). head_text B.a B.b B.n m ++ edges_text (edges_of B B.count)) (sym (edges_number B B.count))

-- ---- room

-- No text of a sound book is longer than the room for one.
pub sound_text_size : (B : Book) → Sound B → length (text_of (sheet_of B)) ≤ text_room
sound_text_size B sound = sheet_size (sheet_of B) (sound_sheet_range B sound)

-- written from the front on, its lines fit
pub lines_room : (B : Book) → Sound B → (places : ℕ) → text_room ≤ places → 0 + length (first_lines B (book_lines B).number) ≤ places
lines_room B sound places room = omega (arith, ap length (text_lines B), sound_text_size B sound)
