-- `writer::text_of`: its rounds add the lines of the text one by one (Rounds.antt of crate lines). The text of a sound book fits (Sheets.antt).
use borrow.Author.Rules.{rules}
use native.Mathlib.Omega.{arith}
use mathlib.Core.Path.{refl}
use Rattle.text.proofs.Overwrites.{writes_as}
use Rattle.theory.proofs.Legal.Sound.{sound_head}
use Rattle.lines.proofs.Adding.{adds_writes}
use Rattle.lines.proofs.Rounds.{rounds_none, rounds_room, rounds_more, rounds_all}
use Rattle.writer.proofs.Sheets.{lines_pieces, text_lines, lines_room}
use Rattle.writer.proofs.text_of.Goals as goal

pub overflow_add-number : goal.overflow_add-number
overflow_add-number c = let few = (sound_head c.args.book.now c.requires.0).edges in search (rules, few)

pub loop-i-init : goal.loop-i-init
loop-i-init c = rounds_none (lines_pieces c.args.book.now _) (omega arith)

pub add_book_line-end-requires-clause-i_bound : goal.add_book_line-end-requires-clause-i_bound
add_book_line-end-requires-clause-i_bound c = (c.loop-i-test.true, (sound_head c.args.book.now c.requires.0).edges)

pub add_book_line-end-requires-clause-i_in_bounds : goal.add_book_line-end-requires-clause-i_in_bounds
add_book_line-end-requires-clause-i_in_bounds c =
    let book = c.args.book.now in
    rounds_room (lines_pieces book _) c.loop-i.invariant (lines_room book c.requires.0 _ c.requires.1) c.loop-i-test.true _ refl

pub loop-i-preserved : goal.loop-i-preserved
loop-i-preserved c =
    let book = c.args.book.now in
    rounds_more (lines_pieces book _) c.loop-i.invariant (lines_room book c.requires.0 _ c.requires.1) c.loop-i-test.true _ refl c.add_book_line-end.ensures

pub returns : goal.returns
returns c =
    let book = c.args.book.now in
    writes_as (text_lines book)
    (adds_writes (rounds_all (lines_pieces book _) c.loop-i.invariant (lines_room book c.requires.0 _ c.requires.1) c.loop-i-test.false))
