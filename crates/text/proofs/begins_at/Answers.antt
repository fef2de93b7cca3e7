-- `text::begins_at` meets its contract: the two cases of `begins_at`. Assumes nothing.
use mathlib.Core.Path.{sym, ap, ◌∙◌}
use Rattle.text.specs.Readings.{begins}
use Rattle.text.proofs.Fields.{part_rest}
use Rattle.text.proofs.Keys.{begins_at_past, begins_at_in, begins_starts}
use Rattle.text.proofs.begins_at.Goals as goal

pub returns-then-text-at : goal.returns-then-text-at
returns-then-text-at c = sym (begins_at_past _ _ _ c.if-text-at.true)

pub returns : goal.returns
returns c =
    let a = c.args in
    begins_starts _ _ _ c.starts_with.ensures.value
    ∙ ap (begins a.key.now) (part_rest a.text.now a.at)
    ∙ sym (begins_at_in _ _ _ c.if-text-at.false)
