-- `pager::groups_line`: the group list of the book (crate groups), widened and then written (Leaders.antt).
use borrow.Author.Rules.{rules}
use native.Mathlib.Omega.{arith}
use mathlib.Core.Path.{sym}
use Prim.Native.Nat.{ℕ}
use lib.ListN.{length-replicate}
use lib.Seq.{length-take-le}
use Rattle.pager.proofs.Leaders.{bodies_few, listed_long, first_long, widened_long, leaders_room, says_groups}
use Rattle.pager.proofs.groups_line.Goals as goal

pub slice_bounds-list-end : goal.slice_bounds-list-end
slice_bounds-list-end c =
    let source = c.args.source in
    rw c.from-n.ensures (listed_long source.book.now source.sound _ c.list_groups.new.list c.list_groups.ensures)

pub slice_bounds-widen-end : goal.slice_bounds-widen-end
slice_bounds-widen-end c =
    let source = c.args.source in
    rw c.from-n.ensures (sym (first_long source.book.now source.sound _ c.list_groups.new.list c.list_groups.ensures))

pub widen-requires : goal.widen-requires
widen-requires c =
    let source = c.args.source in
    rw c.from-n.ensures (omega (
      arith,
      first_long source.book.now source.sound _ c.list_groups.new.list c.list_groups.ensures,
      bodies_few source.book.now source.sound,
      length-replicate {A = ℕ} 64 0,
    ))

pub slice_bounds-leaders-end : goal.slice_bounds-leaders-end
slice_bounds-leaders-end c =
    let source = c.args.source in
    rw c.from-n.ensures
    (widened_long source.book.now source.sound _ c.list_groups.new.list c.list_groups.ensures _ c.widen.new.wide
    (rw c.from-n.ensures at c.widen.ensures))

pub slice_bounds-list_line-end-3 : goal.slice_bounds-list_line-end-3
slice_bounds-list_line-end-3 c =
    let source = c.args.source in
    rw c.from-n.ensures
    (sym (length-take-le source.book.now.n c.widen.new.wide
    (widened_long source.book.now source.sound _ c.list_groups.new.list c.list_groups.ensures _ c.widen.new.wide
    (rw c.from-n.ensures at c.widen.ensures))))

pub list_line-requires : goal.list_line-requires
list_line-requires c =
    let source = c.args.source in
    rw c.from-n.ensures
    (leaders_room source.book.now source.sound _ c.list_groups.new.list c.list_groups.ensures _ c.widen.new.wide
    (rw c.from-n.ensures at c.widen.ensures) _ (search rules))

pub returns : goal.returns
returns c =
    let source = c.args.source in
    says_groups source.book.now source.sound _ c.list_groups.new.list c.list_groups.ensures _ c.widen.new.wide
    (rw c.from-n.ensures at c.widen.ensures) (rw c.from-n.ensures at c.list_line.ensures)
