-- Every list of bytes is the text of exactly one sheet in range, or it has exactly one first fault, and never both: the theorem of crate
-- grammar for book text, whose whole texts are those of sheets in range.
-- Not here: that book text is lawful (Steps.antt); a sheet in range and a text read to its end (SheetRuns.antt).
-- Assumes nothing.
use mathlib.Core.Path.{◌≡◌, sym, subst}
use mathlib.Core.Logic.{◌⊎◌, inl, inr}
use mathlib.Core.List.{List, []}
use Prim.Native.Nat.{ℕ}
use lib.ListN.{length}
use Rattle.grammar.specs.Grammar.{Whole}
use Rattle.grammar.proofs.Outcomes as grammar
use Rattle.text.specs.Sheets.{Sheet, SheetRange, text_of}
use Rattle.text.specs.Due.{Said, nothing, to_a, to_b, to_bodies, to_edges, book_text}
use Rattle.text.specs.Faults.{Leads, Fault, FirstFault}
use Rattle.text.proofs.Steps.{book_text_lawful}
use Rattle.text.proofs.SheetRuns.{ended_sheet, sheet_leads, sheet_ended}

pub fault_determined : (text : List ℕ) (f g : Fault) → FirstFault text f → FirstFault text g → f ≡ g
fault_determined = grammar.fault_determined book_text book_text_lawful

-- what a sheet's text has said when it is read
abbrev said_by : Sheet → Said
said_by s = to_edges s.a s.b s.n (length s.edges) s.edges

-- the text of a sheet in range is whole
sheet_whole : (s : Sheet) → SheetRange s → Whole book_text (text_of s)
sheet_whole s r =
    record { said = said_by s; left = []; leads = sheet_leads s r; ended = sheet_ended s }

pub sheet_determined : (s t : Sheet) → SheetRange s → SheetRange t → text_of s ≡ text_of t → s ≡ t
unfolding sheet_whole
sheet_determined s t p q e =
    let said : said_by s ≡ said_by t =
    grammar.whole_determined book_text book_text_lawful (text_of s) (sheet_whole s p)
    (subst (Whole book_text) (sym e) (sheet_whole t q)) in
    let a : s.a ≡ t.a = cc in
    let b : s.b ≡ t.b = cc in
    let n : s.n ≡ t.n = cc in
    let edges : s.edges ≡ t.edges = cc in
    λ i. record { a = a i; b = b i; n = n i; edges = edges i }

pub sheet_no_fault : (s : Sheet) (f : Fault) → SheetRange s → ¬ FirstFault (text_of s) f
sheet_no_fault s f r = grammar.whole_no_fault book_text book_text_lawful (text_of s) f (sheet_whole s r)

-- The theorem: a sheet in range, or a first fault.
abbrev pub Outcome : List ℕ → Type 0
Outcome text = ((s : Sheet) × SheetRange s × (text ≡ text_of s)) ⊎ ((f : Fault) × FirstFault text f)

pub outcome : (text : List ℕ) → Outcome text
outcome text = of (grammar.outcome book_text book_text_lawful text)
  where
    sheet : (said : Said) (left : List ℕ) → Leads nothing text said left → book_text.Ended said left → Outcome text
    sheet nothing left run e = absurd e
    sheet (to_a a) left run e = absurd e
    sheet (to_b a b) left run e = absurd e
    sheet (to_bodies a b n) left run e = absurd e
    sheet (to_edges a b n m es) left run e = let s = ended_sheet text a b n m es left run e in inl (_, s.0, s.1)

    of : grammar.Outcome book_text text → Outcome text
    of (inl w) = sheet w.said w.left w.leads w.ended
    of (inr f) = inr f
