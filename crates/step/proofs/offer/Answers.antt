-- `step::offer`: a refusal is handed on; else the edge is taken.
use borrow.Author.Rules.{rules}
use mathlib.Core.Path.{◌≡◌, refl}
use lib.ListN.{length}
use Rattle.rule.specs.Books.{the_edge}
use Rattle.planting.proofs.Sizes.{sized}
use Rattle.engine.specs.Take.{Full}
use Rattle.step.proofs.Asked.{offer_refused}
use Rattle.step.proofs.offer.Goals as goal

pub returns-in-Err : goal.returns-in-Err
returns-in-Err c =
    offer_refused c.args.book (the_edge c.args.u c.args.v c.args.colour) c.args.list.now Unit _ (c.in-Err.ensures c.args.list.now refl)

pub taken-requires : goal.taken-requires
taken-requires c =
    let ones : length c.args.book.ones ≡ 512 = search rules in
    let others : length c.args.book.others ≡ 512 = search rules in
    let colours : length c.args.book.colours ≡ 512 = search rules in
    let forests : length c.args.book.forests ≡ 512 = search rules in
    let full : Full c.args.book = record { ones = ones; others = others; colours = colours; forests = forests } in
    let passes = c.in_default.ensures c.args.list.now refl in
    rw c.as_edge-edge.ensures
    (record {
      checked = passes.0;
      ready = record { tabled = passes.1; sized = sized c.offer_checks-checked.new.tables; full = full };
    })

pub returns : goal.returns
returns c = rw c.as_edge-edge.ensures at c.taken.ensures
