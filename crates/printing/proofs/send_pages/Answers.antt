-- `printing::send_pages`: each turn hands over the page that is next, or is the last (Turns.antt). Assumes nothing.
use mathlib.Core.Path.{refl, ◌∙◌, subst}
use mathlib.Core.List.{[]}
use Rattle.std.specs.ControlFlow.{MatchControlFlow}
use Rattle.std.proofs.Common.{ControlFlow}
use Rattle.printing.specs.declared.output.Sent.{Sent}
use Rattle.printing.specs.Sending.{SentFurther, SentLast}
use Rattle.printing.proofs.Turns.{under_way_first, under_way_turn, last_turn, under_way_again, fewer_left}
use Rattle.printing.proofs.send_pages.Goals as goal

-- what a turn says of its answer
abbrev Turned : Sent → ControlFlow Sent Sent → Type 0
Turned sent turn = MatchControlFlow turn (SentFurther sent) (SentLast sent)

pub loop-further-init : goal.loop-further-init
loop-further-init c = (([], under_way_first _ c.requires.0.fine), refl)

pub send_page-requires : goal.send_page-requires
send_page-requires c =
    under_way_turn _ c.requires.1 c.loop-further.invariant.0.1 _ _ c.requires.0 c.loop-further.invariant.1

pub returns-in-Break : goal.returns-in-Break
returns-in-Break c =
    last_turn _ c.requires.1 c.loop-further.invariant.0.1 _ (subst (Turned c.loop-further.sent) c.in-Break.is c.send_page.ensures)

pub loop-further-smaller : goal.loop-further-smaller
loop-further-smaller c =
    fewer_left _ c.requires.1 c.loop-further.invariant.0.1 _ (subst (Turned c.loop-further.sent) c.in-Continue.is c.send_page.ensures)

pub loop-further-preserved : goal.loop-further-preserved
loop-further-preserved c = (
  (_, under_way_again _ c.requires.1 c.loop-further.invariant.0.1 _ (subst (Turned c.loop-further.sent) c.in-Continue.is c.send_page.ensures)),
  c.send_page.auto.buffer ∙ c.loop-further.invariant.1,
)
