-- `book::sound`: a bad head is place 0; else the scan tells the place.
use Rattle.book.proofs.Said.{refused, granted}
use Rattle.book.proofs.Checks.{bad_head, good_book, bad_edge}
use Rattle.book.proofs.sound.Goals as goal

pub returns-then-not-head_fine : goal.returns-then-not-head_fine
returns-then-not-head_fine c = bad_head c.args.book.now (refused _ c.head_fine.ensures c.if-not-head_fine.true)

pub scan-requires : goal.scan-requires
scan-requires c = granted _ c.head_fine.ensures c.if-not-head_fine.false

pub returns-in-None : goal.returns-in-None
returns-in-None c =
    good_book c.args.book.now (granted _ c.head_fine.ensures c.if-not-head_fine.false) c.scan.new.tables c.in-None.ensures

pub returns-in-Some : goal.returns-in-Some
returns-in-Some c =
    bad_edge c.args.book.now (granted _ c.head_fine.ensures c.if-not-head_fine.false) c.scan.new.tables c.in-Some.place c.in-Some.ensures
