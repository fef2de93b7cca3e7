-- `pager::number_of_lines`: kind by kind.
use borrow.Author.Rules.{rules}
use mathlib.Core.Path.{sym, ap, ◌∙◌}
use Rattle.theory.proofs.Legal.Sound.{sound_head}
use Rattle.reports.proofs.Numbers.{report_number, certificate_number}
use Rattle.pager.specs.declared.Kind.{Kind}
use Rattle.pager.specs.Kinds.{form_of}
use Rattle.pager.proofs.number_of_lines.Goals as goal

pub overflow_add-result : goal.overflow_add-result
overflow_add-result c =
    let few = (sound_head c.args.source.book.now c.args.source.sound).edges in
    search (rules, few)

pub overflow_add-result-in-Certificate : goal.overflow_add-result-in-Certificate
overflow_add-result-in-Certificate c =
    let few = (sound_head c.args.source.book.now c.args.source.sound).edges in
    search (rules, few)

pub overflow_add-result-in-Certificate-2 : goal.overflow_add-result-in-Certificate-2
overflow_add-result-in-Certificate-2 c =
    let few = (sound_head c.args.source.book.now c.args.source.sound).edges in
    search (rules, few)

pub returns-in-Report : goal.returns-in-Report
returns-in-Report c = sym (report_number c.args.source.book.now) ∙ sym (ap (λ (kind : Kind). (form_of kind).number c.args.source.book.now) c.in-Report.is)

pub returns-in-Certificate : goal.returns-in-Certificate
returns-in-Certificate c = sym (certificate_number c.args.source.book.now) ∙ sym (ap (λ (kind : Kind). (form_of kind).number c.args.source.book.now) c.in-Certificate.is)
