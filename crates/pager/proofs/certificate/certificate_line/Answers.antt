-- `pager::certificate_line`: a line of the book text, or behind it the forest of an edge (Says.antt).
use borrow.Author.Rules.{rules}
use native.Mathlib.Omega.{arith}
use lib.ListN.{length}
use Rattle.theory.proofs.Legal.Sound.{sound_head}
use Rattle.reports.proofs.Numbers.{certificate_number}
use Rattle.pager.proofs.Rooms.{book_line_room}
use Rattle.pager.proofs.Says.{certificate_text, certificate_forest}
use Rattle.pager.proofs.certificate.certificate_line.Goals as goal

pub overflow_add-past : goal.overflow_add-past
overflow_add-past c =
    let few = (sound_head c.args.source.book.now c.args.source.sound).edges in
    search (rules, few)

pub book_line-requires : goal.book_line-requires
book_line-requires c =
    let less = c.if-i-past.true in
    let sound = c.args.source.sound in
    record {
      i_bound = (less, (sound_head c.args.source.book.now sound).edges);
      i_in_bounds = book_line_room c.args.source.book.now sound c.args.i (length c.args.buffer.now) less (search rules);
    }

pub returns-then-i-past : goal.returns-then-i-past
returns-then-i-past c =
    certificate_text c.args.source.book.now c.args.i c.if-i-past.true c.book_line.ensures

pub forest_line-requires : goal.forest_line-requires
forest_line-requires c =
    omega (arith, c.requires, certificate_number c.args.source.book.now, c.if-i-past.false)

pub returns : goal.returns
returns c =
    certificate_forest c.args.source.book.now c.args.i c.if-i-past.false
    (omega (arith, c.requires, certificate_number c.args.source.book.now, c.if-i-past.false)) c.forest_line.ensures
