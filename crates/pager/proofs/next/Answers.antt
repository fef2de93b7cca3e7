-- `pager::next`: a page that is lent a line's room, or the whole buffer where that has less (Nexts.antt).
use native.Mathlib.Omega.{arith}
use mathlib.Core.Path.{sym}
use lib.Seq.{length-take-le}
use Rattle.pager.proofs.Nexts.{next_of_page, next_of_short}
use Rattle.pager.proofs.next.Goals as goal

pub returns-then-buffer-lt2048 : goal.returns-then-buffer-lt2048
returns-then-buffer-lt2048 c =
    next_of_short c.args.kind c.args.state c.page.result.state c.args.buffer.now c.page.new.buffer
    (omega (arith, c.if-buffer-lt2048.true)) c.page.result.answer c.page.ensures

pub slice_bounds-page-end-2 : goal.slice_bounds-page-end-2
slice_bounds-page-end-2 c = sym (length-take-le 2048 c.args.buffer.now c.if-buffer-lt2048.false)

pub returns : goal.returns
returns c =
    next_of_page c.args.kind c.args.state c.args.buffer.now c.if-buffer-lt2048.false c.page-2.new.buffer c.page-2.auto.buffer
    c.page-2.result.state c.page-2.result.answer c.page-2.ensures
