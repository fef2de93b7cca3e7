-- `pager::judged_line`: the verdict on the two figures of the book (crate book), in a line.
use mathlib.Core.Path.{◌∙◌, ap, ap₂}
use mathlib.Core.List.{◌∷◌, [], ◌++◌}
use Rattle.rule.specs.declared.Verdict.{Verdict}
use Rattle.rule.specs.Figures.{verdict, verdict_on}
use Rattle.text.specs.Lines.{LF}
use Rattle.text.proofs.Overwrites.{writes_as}
use Rattle.reports.specs.Keys.{key_verdict, word_of}
use Rattle.pager.proofs.judged_line.Goals as goal

pub returns : goal.returns
unfolding verdict
returns c =
    writes_as
    (ap (λ (v : Verdict). key_verdict ++ (word_of v ++ LF ∷ [])) (c.judge.ensures ∙ ap₂ verdict_on c.free_of.ensures c.implied_of.ensures))
    c.verdict_line.ensures
