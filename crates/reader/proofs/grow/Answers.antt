-- `reader::grow`: after each turn the book has been offered one edge more (proofs/Lines.antt). Assumes nothing.
use borrow.Author.Rules.{rules}
use mathlib.Core.Path.{◌≡◌, sym, ap, ◌∙◌, subst}
use Prim.Native.Nat.{ℕ, ◌+◌, ◌≤◌, ◌<◌}
use native.Mathlib.Numerals.{add-one}
use native.Mathlib.Omega.{arith}
use lib.ListN.{length}
use Rattle.rule.specs.declared.Book.{Book}
use Rattle.rule.specs.declared.Edge.{Edge}
use Rattle.rule.specs.Calls.{new_book, Adds}
use Rattle.text.specs.EdgeLists.{edge_in, lists_of}
use Rattle.engine.specs.Take.{TakeableIn, TakesIn}
use Rattle.reader.specs.Growing.{Growing}
use Rattle.reader.proofs.Lines.{lists_few, due_takeable, grows, grows_none, same_head, same_range, same_offers}
use Rattle.reader.proofs.grow.Goals as goal

pub loop-i-init : goal.loop-i-init
unfolding new_book
loop-i-init c =
    let is = c.new_book-book.ensures in
    let T = c.no_forests-tables.result in (
      subst (λ (B : Book). Growing (lists_of c.args.edges.now) B T) (sym is)
          (grows_none T c.requires.profile c.requires.bodies c.no_forests-tables.ensures.begun c.no_forests-tables.ensures.cleared),
      ap (λ (B : Book). B.count) is,
      record { a_is = ap (λ (B : Book). B.a) is; b_is = ap (λ (B : Book). B.b) is; n_is = ap (λ (B : Book). B.n) is },
    )

pub edge-due-requires : goal.edge-due-requires
edge-due-requires c =
    let all = lists_few c.args.head.edges (lists_of c.args.edges.now) c.requires in
    omega (arith, all, c.loop-i-test.true, c.from-i-end.ensures)

pub take-requires : goal.take-requires
take-requires c =
    let inv = c.loop-i.invariant in
    let given = lists_of c.args.edges.now in
    let more : c.loop-i.book.count < c.args.head.edges = omega (arith, inv.1, c.loop-i-test.true, c.from-i-end.ensures) in
    let room : length c.loop-i.list ≡ 378 = search rules in
    let is_due : edge_in given c.loop-i.book.count ≡ c.edge-due.result = ap (edge_in given) inv.1 ∙ sym c.edge-due.ensures in
    subst (λ (e : Edge). TakeableIn c.loop-i.book e c.loop-i.list c.loop-i.tables) is_due
    (due_takeable (same_range c.args.head.edges given inv.2 c.requires) inv.0 more c.loop-i.list (omega (arith, room)))

pub loop-i-preserved : goal.loop-i-preserved
loop-i-preserved c =
    let inv = c.loop-i.invariant in
    let book = c.loop-i.book in
    let given = lists_of c.args.edges.now in
    let new = c.take.new in
    let more : book.count < c.args.head.edges = omega (arith, inv.1, c.loop-i-test.true, c.from-i-end.ensures) in
    let room : length c.loop-i.list ≡ 378 = search rules in
    let is_due : c.edge-due.result ≡ edge_in given book.count = c.edge-due.ensures ∙ ap (edge_in given) (sym inv.1) in
    let adds : Adds book new.book (edge_in given book.count) = subst (Adds book new.book) is_due c.take.ensures.adds in
    let takes : TakesIn book new.book (edge_in given book.count) c.loop-i.list new.list new.tables c.take.result =
    subst (λ (e : Edge). TakesIn book new.book e c.loop-i.list new.list new.tables c.take.result) is_due c.take.ensures.takes in (
      grows (same_range c.args.head.edges given inv.2 c.requires) inv.0 more new.book c.loop-i.list new.list new.tables c.take.result (omega (arith, room)) adds takes,
      omega (arith, adds.count, inv.1),
      same_head adds inv.2,
    )

pub returns : goal.returns
returns c =
    let inv = c.loop-i.invariant in
    same_offers inv.2 (omega (arith, inv.1, c.loop-i-test.false, c.loop-i.auto.i-end, c.from-i-end.ensures)) inv.0
