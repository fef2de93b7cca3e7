-- A text of at least 8,192 bytes is refused, and the text that is cut there is refused for the same reason at the same line. So a program that reads
-- no more than that prints what it would print of the whole.
--
-- It is the theorem of crate grammar for book text: a line that is due has at most 14 bytes, whatever is checked of it, and at most 512 edge lines follow the head's four, so
-- that the line at fault begins within the first 7,224.
-- Not here: the theorem (crate grammar, proofs/Cuts.antt); that no text longer than 6,172 bytes is a book (Sizes.antt).
-- Assumes nothing.
use mathlib.Core.Path.{◌≡◌, ap}
use mathlib.Core.Logic.{⊎_elim, ◌↔◌}
use mathlib.Core.List.{List, [], ◌∷◌}
use Prim.Native.Nat.{ℕ, ◌≤◌, ◌<◌}
use native.Mathlib.Omega.{arith}
use lib.ListN.{length, take, length-append}
use Rattle.rule.specs.declared.Reason.{Reason}
use Rattle.rule.specs.Reasons.{Pass}
use Rattle.rule.specs.declared.Edge.{Edge}
use Rattle.rule.specs.Books.{capacity}
use Rattle.grammar.specs.Grammar.{fault_in}
use Rattle.grammar.specs.Grammar.Leads.{here, one_line}
use Rattle.grammar.proofs.Cuts as grammar
use Rattle.grammar.proofs.Cuts.{Bounded}
use Rattle.text.specs.Lines.{comma, numeral, listed, line, key_a, key_b, key_bodies, key_edges}
use Rattle.text.specs.Sheets.{key_of, edge_text}
use Rattle.text.specs.Due.{Said, nothing, to_a, to_b, to_bodies, to_edges, lines_said, Writable, due, Ended, book_text}
use Rattle.text.specs.Faults.{Leads, Fault, FirstFault, RefusedAt}
use Rattle.text.proofs.Numerals.{numeral_few}
use Rattle.text.proofs.EdgeReads.{key_of_red, key_of_black}
use Rattle.text.proofs.Sizes.{line_length, number_line_length}
use Rattle.text.proofs.Steps.{line_counted, book_text_lawful}

-- ---- a line that is due is short

abbrev short : ℕ
short = 14

number_short : (key : List ℕ) (n : ℕ) → length key ≤ 7 → n < 1000 → length (line key (n ∷ [])) ≤ short
number_short key n k h = omega (arith, number_line_length key n 3 (numeral_few 2 n (omega (arith, h))))

key_short : (e : Edge) → Writable e → length (key_of e.colour) ≤ 6
key_short e w =
    ⊎_elim (λ red. omega (arith, ap length (key_of_red e.colour red))) (λ black. omega (arith, ap length (key_of_black e.colour black))) w.colour

edge_short : (e : Edge) → Writable e → length (edge_text e) ≤ short
unfolding edge_text listed
edge_short e w =
    omega (
      arith,
      line_length (key_of e.colour) (e.one ∷ e.other ∷ []),
      length-append (numeral e.one) (comma ∷ numeral e.other),
      key_short e w,
      numeral_few 2 e.one (omega (arith, w.one)),
      numeral_few 2 e.other (omega (arith, w.other)),
    )

line_short : (said : Said) (value : (due said).Value) → (due said).Allowed value → length ((due said).bytes value) ≤ short
unfolding due
line_short nothing a h = number_short key_a a (omega arith) h
line_short (to_a a) b h = number_short key_b b (omega arith) h
line_short (to_b a b) n h = number_short key_bodies n (omega arith) h
line_short (to_bodies a b n) m h = number_short key_edges m (omega arith) h
line_short (to_edges a b n m es) e h = edge_short e h.1

-- ---- the lines are few

Few : Said → Type 0
Few nothing = Unit
Few (to_a a) = Unit
Few (to_b a b) = Unit
Few (to_bodies a b n) = Unit
Few (to_edges a b n m es) = (m ≤ capacity) × (length es ≤ m)

few_then : (said : Said) (value : (due said).Value) → (due said).Allowed value → Pass ((due said).checks value) → Few said → Few ((due said).then value)
unfolding Few due
few_then nothing a h p f = tt
few_then (to_a a) b h p f = tt
few_then (to_b a b) n h p f = tt
few_then (to_bodies a b n) m h p f = (p.0, omega arith)
few_then (to_edges a b n m es) e h p f = (f.0, omega (arith, h.0, length-append es (e ∷ [])))

leads_few : {said last : Said} {rest left : List ℕ} → Leads said rest last left → Few said → Few last
leads_few here f = f
leads_few {said} (one_line value next pass l) f = leads_few l (few_then said value next.allowed pass f)

few_lines : (said : Said) → Few said → lines_said said ≤ 516
unfolding lines_said Few
few_lines nothing f = omega arith
few_lines (to_a a) f = omega arith
few_lines (to_b a b) f = omega arith
few_lines (to_bodies a b n) f = omega arith
few_lines (to_edges a b n m es) f = omega (arith, f.0, f.1)

few_come : {last : Said} {text left : List ℕ} → Leads nothing text last left → lines_said last ≤ 516
unfolding Few
few_come {last} l = few_lines last (leads_few l tt)

nothing_follows : (said : Said) (rest : List ℕ) → Ended said rest → rest ≡ []
nothing_follows nothing rest e = absurd e
nothing_follows (to_a a) rest e = absurd e
nothing_follows (to_b a b) rest e = absurd e
nothing_follows (to_bodies a b n) rest e = absurd e
nothing_follows (to_edges a b n m es) rest e = e.1

book_text_bounded : Bounded book_text short 516
book_text_bounded = record { short = line_short; counted = line_counted; few_come = few_come; nothing_follows = nothing_follows }

-- ---- of a text

-- as many bytes as a program reads
abbrev pub read_room : ℕ
read_room = 8192

module _ (text : List ℕ) (long : read_room ≤ length text) where
  pub cut_fault_lem : (f : Fault) → FirstFault text f → FirstFault (take read_room text) (fault_in (take read_room text) f.line f.start f.reason)
  cut_fault_lem = grammar.cut_fault_lem book_text short 516 book_text_bounded read_room (omega arith) text long

  -- refused alike
  pub cut_same : (reason : Reason) (number : ℕ) → RefusedAt text reason number ↔ RefusedAt (take read_room text) reason number
  cut_same = grammar.cut_same book_text short 516 book_text_bounded read_room (omega arith) text long book_text_lawful
