-- `engine::take`: the edge is sought a place for, entered, and moved to it where there is one (proofs/Taking.antt).
use borrow.Author.Rules.{rules}
use mathlib.Core.Path.{refl, sym, subst}
use Rattle.rule.proofs.Passed.{passed_offer}
use Rattle.rule.specs.declared.Book.{Book}
use Rattle.rule.specs.declared.Answer.TheVariants.{Kept}
use Rattle.rule.specs.Calls.{Adds}
use Rattle.engine.specs.Take.{TakesIn}
use Rattle.engine.proofs.Taking.{room, seekable, adds, takes_implied, replanting, takes_kept}
use Rattle.engine.proofs.take.Goals as goal

pub seek-place-requires : goal.seek-place-requires
seek-place-requires c =
    let x = c.args in
    record {
      room = (passed_offer x.book.now x.edge x.list.now c.requires.checked).asked.room;
      seekable = seekable x.book.now x.edge c.requires;
    }

pub enter-requires : goal.enter-requires
enter-requires c = record { room = room c.args.book.now c.args.edge c.requires; full = c.requires.ready.full }

pub replant-requires : goal.replant-requires
replant-requires c =
    let scratch = c.seek-place.new.scratch in
    replanting c.args.book.now c.args.edge c.requires c.enter.ensures scratch.path c.in-Found.n c.in-Found.f c.in-Found.ensures.0 _ refl scratch.path_long

pub overflow_cast-result : goal.overflow_cast-result
overflow_cast-result c =
    let few = c.in-Found.ensures.0.few in
    search (rules, few)

pub returns-in-Found : goal.returns-in-Found
returns-in-Found c =
    let x = c.args in
    let scratch = c.seek-place.new.scratch in
    let book = x.book.now in
    let moving =
    replanting book x.edge c.requires c.enter.ensures scratch.path c.in-Found.n c.in-Found.f c.in-Found.ensures.0 _ refl scratch.path_long in
    record {
      takes =
          subst (λ (after : Book). TakesIn book after x.edge x.list.now c.seek-place.new.list c.replant.new.tables (Kept c.in-Found.n)) (sym c.replant.ensures.book)
          (takes_kept book x.edge c.requires c.enter.ensures scratch.path c.in-Found.n c.in-Found.f c.in-Found.ensures.0 _ refl scratch.path_long
          _ _ _ _ _ _ (c.replant.ensures.replanted moving) c.seek-place.new.list c.in-Found.ensures.1);
      adds = subst (λ (after : Book). Adds book after x.edge) (sym c.replant.ensures.book) (adds book x.edge c.requires c.enter.ensures _);
    }

pub returns-in-Stuck : goal.returns-in-Stuck
returns-in-Stuck c =
    record {
      takes = takes_implied c.args.book.now c.args.edge c.requires c.enter.ensures c.seek-place.new.list _ c.in-Stuck.ensures;
      adds = c.enter.ensures.adds;
    }
