-- `pager::kept_after`: an edge with a forest adds one (Tallies.antt).
use native.Mathlib.Omega.{arith}
use mathlib.Core.Path.{sym, ◌∙◌}
use Rattle.theory.proofs.Legal.Sound.{sound_head}
use Rattle.pager.proofs.Tallies.{forest_some, tally_implied, tally_kept}
use Rattle.pager.proofs.kept_after.Goals as goal

pub returns-then-forest-eq0 : goal.returns-then-forest-eq0
returns-then-forest-eq0 c =
    let place = c.args.place in
    tally_implied place.source.book.now place.line place.kept place.tally (sym c.forest_at-forest.ensures ∙ c.if-forest-eq0.true)

pub overflow_add-result : goal.overflow_add-result
overflow_add-result c =
    let place = c.args.place in
    record { fits = omega (arith, place.tally.few, c.if-count-i.false, (sound_head place.source.book.now place.source.sound).edges) }

pub returns : goal.returns
returns c =
    let place = c.args.place in
    tally_kept place.source.book.now place.line place.kept place.tally c.if-count-i.false
    (forest_some place.source.book.now place.line (λ q. c.if-forest-eq0.false (c.forest_at-forest.ensures ∙ q)))
