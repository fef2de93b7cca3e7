-- `pager::report_line`: an edge, or a figure behind the edges (Says.antt).
use native.Mathlib.Omega.{arith}
use Rattle.reports.proofs.Numbers.{report_number}
use Rattle.pager.proofs.Says.{report_edge, report_figure}
use Rattle.pager.proofs.report_line.Goals as goal

pub returns-then-i-count : goal.returns-then-i-count
returns-then-i-count c =
    report_edge c.args.place.source.book.now c.args.place.line c.if-i-count.true c.report_edge.ensures

pub figure_line-requires : goal.figure_line-requires
figure_line-requires c =
    omega (arith, c.requires, report_number c.args.place.source.book.now, c.if-i-count.false)

pub returns : goal.returns
returns c =
    let past = c.if-i-count.false in
    report_figure c.args.place.source.book.now c.args.place.line (omega (arith, past)) (omega (arith, past, c.requires, report_number c.args.place.source.book.now))
    c.figure_line.ensures
