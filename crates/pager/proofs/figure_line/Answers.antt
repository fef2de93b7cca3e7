-- `pager::figure_line`: figure by figure, each where it stands in the list of the figures.
use native.Mathlib.Omega.{arith}
use mathlib.Core.Path.{refl}
use Rattle.rule.specs.Books.{design_of, kept_of}
use Rattle.reports.specs.Reports.{figures}
use Rattle.pager.proofs.Says.{puts_of, puts_nth}
use Rattle.pager.proofs.figure_line.Goals as goal

pub returns-in-0 : goal.returns-in-0
returns-in-0 c =
    let a = c.args in
    puts_nth (figures (design_of a.source.book.now) (kept_of a.source.book.now)) a.j 0 c.in-0.is (puts_of _ refl c.free_line.ensures)

pub returns-in-1 : goal.returns-in-1
returns-in-1 c =
    let a = c.args in
    puts_nth (figures (design_of a.source.book.now) (kept_of a.source.book.now)) a.j 1 c.in-1.is (puts_of _ refl c.dropped_line.ensures)

pub returns-in-2 : goal.returns-in-2
returns-in-2 c =
    let a = c.args in
    puts_nth (figures (design_of a.source.book.now) (kept_of a.source.book.now)) a.j 2 c.in-2.is (puts_of _ refl c.judged_line.ensures)

pub returns-in_default : goal.returns-in_default
returns-in_default c =
    let a = c.args in
    puts_nth (figures (design_of a.source.book.now) (kept_of a.source.book.now)) a.j 3 (omega (arith, c.in_default, c.requires))
    c.groups_line.ensures
