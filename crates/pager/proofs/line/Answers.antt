-- `pager::line`: kind by kind.
use mathlib.Core.Path.{sym, subst}
use Prim.Native.Nat.{◌<◌}
use Rattle.reports.specs.Steps.{Puts}
use Rattle.pager.specs.declared.Kind.{Kind}
use Rattle.pager.specs.Kinds.{form_of}
use Rattle.pager.proofs.line.Goals as goal

pub report_line-requires : goal.report_line-requires
report_line-requires c =
    subst (λ (kind : Kind). c.args.place.line < (form_of kind).number c.args.place.source.book.now) c.in-Report.is c.requires

pub certificate_line-requires : goal.certificate_line-requires
certificate_line-requires c =
    subst (λ (kind : Kind). c.args.place.line < (form_of kind).number c.args.place.source.book.now) c.in-Certificate.is c.requires

pub returns-in-Report : goal.returns-in-Report
returns-in-Report c =
    subst (λ (kind : Kind). Puts ((form_of kind).Says c.args.place.source.book.now c.args.place.line) c.args.buffer.now c.report_line.new.buffer c.report_line.result)
    (sym c.in-Report.is) c.report_line.ensures

pub returns-in-Certificate : goal.returns-in-Certificate
returns-in-Certificate c =
    subst (λ (kind : Kind). Puts ((form_of kind).Says c.args.place.source.book.now c.args.place.line) c.args.buffer.now c.certificate_line.new.buffer c.certificate_line.result)
    (sym c.in-Certificate.is) c.certificate_line.ensures
