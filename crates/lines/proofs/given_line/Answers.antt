-- `lines::given_line`: the three numbers that are written are those that the arrays hold of the edge, however they were fetched.
use native.Mathlib.Omega.{arith}
use mathlib.Core.Path.{◌≡◌, ap, ◌∙◌}
use mathlib.Core.List.{List}
use Prim.Native.Nat.{ℕ, suc, ◌+◌, ◌≤◌}
use lib.ListN.{length, get_or}
use Rattle.rule.specs.declared.Book.{Book}
use Rattle.rule.specs.declared.Edge.{Edge}
use Rattle.rule.specs.Books.{the_edge, edge_of}
use Rattle.rule.specs.Sets.{at}
use Rattle.rule.proofs.Places.{edge_at_index}
use Rattle.text.specs.Sheets.{edge_text}
use Rattle.text.specs.Puts.{Writes}
use Rattle.lines.proofs.given_line.Goals as goal

-- these three numbers are what the arrays hold at index e
record Held (B : Book) (e one other colour : ℕ) : Type 0 where
  ones : one ≡ get_or B.ones e 0
  others : other ≡ get_or B.others e 0
  colours : colour ≡ get_or B.colours e 0

-- of the edge that was read at index i
read : (B : Book) (e i : ℕ) {edge : Edge} → edge ≡ edge_of B (i + 1) → i ≡ e → Held B e edge.one edge.other edge.colour
read B e i {edge} is same =
    let q = is ∙ edge_at_index B i ∙ ap (λ (z : ℕ). the_edge (get_or B.ones z 0) (get_or B.others z 0) (get_or B.colours z 0)) same in
    record { ones = ap (λ (x : Edge). x.one) q; others = ap (λ (x : Edge). x.other) q; colours = ap (λ (x : Edge). x.colour) q }

-- an array at an index that is e
at_index : (e : ℕ) (l : List ℕ) (i : ℕ) → i ≡ e → get_or l i 0 ≡ get_or l e 0
at_index e l i same = ap (λ (z : ℕ). get_or l z 0) same

module _ (B : Book) (e : ℕ) {one other colour : ℕ} where
  -- edge e + 1, by its three numbers
  by_numbers : Held B e one other colour → the_edge one other colour ≡ edge_of B (suc e)
  unfolding edge_of at
  by_numbers h = cc

  fits : {room : ℕ} → length (edge_text (edge_of B (suc e))) ≤ room → Held B e one other colour → length (edge_text (the_edge one other colour)) ≤ room
  fits fit h = rw (by_numbers h) fit

  writes : {before after : List ℕ} {end : ℕ} → Writes (edge_text (the_edge one other colour)) before after end → Held B e one other colour
      → Writes (edge_text (edge_of B (suc e))) before after end
  writes w h = rw (by_numbers h) at w

pub edge_line-requires : goal.edge_line-requires
edge_line-requires c =
    let e = c.args.e in
    let edge = read c.args.book.now e c.from.result c.edge-edge.ensures c.from.ensures in
    fits c.args.book.now e c.requires.e_in_bounds (record {
      ones = omega (arith, at_index e);
      others = omega (arith, at_index e);
      colours = omega (arith, at_index e);
    })

pub returns : goal.returns
returns c =
    let e = c.args.e in
    let edge = read c.args.book.now e c.from.result c.edge-edge.ensures c.from.ensures in
    writes c.args.book.now e c.edge_line.ensures (record {
      ones = omega (arith, at_index e);
      others = omega (arith, at_index e);
      colours = omega (arith, at_index e);
    })
