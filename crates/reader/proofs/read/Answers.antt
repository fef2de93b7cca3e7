-- `reader::read`: what `find` finds, and the book that grows from the lists that it leaves (proofs/Lines.antt). Assumes nothing.
use Rattle.reader.proofs.Lines.{lists_range, all_offered}
use Rattle.reader.proofs.read.Goals as goal

pub grow-requires : goal.grow-requires
grow-requires c =
    let sheet = c.in-Ok.ensures.judges in
    lists_range sheet (c.in-Ok.ensures.entered sheet.sheet sheet.range sheet.is_text)

pub returns-in-Ok : goal.returns-in-Ok
returns-in-Ok c =
    let sheet = c.in-Ok.ensures.judges in
    all_offered sheet (c.in-Ok.ensures.entered sheet.sheet sheet.range sheet.is_text) c.grow.ensures

pub returns-in-Err : goal.returns-in-Err
returns-in-Err c = (c.in-Err.ensures.judges, c.new_book.ensures)
