-- The lines of the text of a book, each by its number: what the definitions come to in each arm of `book_line`.
-- Not here: that these lines one behind the other are the text (crate writer); that they fit (crates writer and paging).
-- Assumes nothing.
use mathlib.Core.Path.{◌≡◌, ap}
use mathlib.Core.List.{[], ◌∷◌}
use Prim.Native.Nat.{ℕ, suc, ◌-◌, ◌≤◌}
use native.Mathlib.Omega.{arith}
use Rattle.rule.specs.Books.{edge_of}
use Rattle.rule.specs.declared.Book.{Book}
use Rattle.text.specs.Lines.{line, key_a, key_b, key_bodies, key_edges}
use Rattle.text.specs.Sheets.{edge_text}
use Rattle.reports.specs.Reports.{book_line}

module _ (B : Book) (i : ℕ) where
  pub line_a : i ≡ 0 → book_line B i ≡ line key_a (B.a ∷ [])
  unfolding book_line
  line_a q = ap (book_line B) q

  pub line_b : i ≡ 1 → book_line B i ≡ line key_b (B.b ∷ [])
  unfolding book_line
  line_b q = ap (book_line B) q

  pub line_bodies : i ≡ 2 → book_line B i ≡ line key_bodies (B.n ∷ [])
  unfolding book_line
  line_bodies q = ap (book_line B) q

  pub line_edges : i ≡ 3 → book_line B i ≡ line key_edges (B.count ∷ [])
  unfolding book_line
  line_edges q = ap (book_line B) q

  pub line_edge : 4 ≤ i → book_line B i ≡ edge_text (edge_of B (suc (i - 4)))
  unfolding book_line
  line_edge h = let same : i ≡ suc (suc (suc (suc (i - 4)))) = omega arith in ap (book_line B) same
