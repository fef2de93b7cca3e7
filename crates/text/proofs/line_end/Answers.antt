-- `text::line_end` meets its contract: the search ends where the line does (proofs/LineEnds.antt). Assumes nothing.
use mathlib.Core.Path.{sym, ◌∙◌}
use Rattle.std.proofs.Common.{rules, tests}
use Rattle.std.proofs.lemmas.Iterator.{YieldsList-from_slice}
use Rattle.std.proofs.lemmas.Iterator.Search.{position_from_yields_List}
use Rattle.text.specs.Lines.{LF}
use Rattle.std.proofs.Common.{nat_eq}
use Rattle.text.proofs.Fields.{part_rest}
use Rattle.text.proofs.LineEnds.{ends_at, ends_last}
use Rattle.text.proofs.line_end.Goals as goal

pub returns-in-Some : goal.returns-in-Some
returns-in-Some c =
    let found = position_from_yields_List (λ x. nat_eq x LF) _ _ _ c.position.ensures.ran (YieldsList-from_slice _ c.iter.ensures.rest) (λ x b q k. search (rules, tests)) in
    ends_at c.args.text.now _ c.args.at (part_rest c.args.text.now c.args.at) _ (sym found ∙ c.in-Some.is)

pub returns-in-None : goal.returns-in-None
returns-in-None c =
    let found = position_from_yields_List (λ x. nat_eq x LF) _ _ _ c.position.ensures.ran (YieldsList-from_slice _ c.iter.ensures.rest) (λ x b q k. search (rules, tests)) in
    ends_last c.args.text.now _ c.args.at (part_rest c.args.text.now c.args.at) c.requires (sym found ∙ c.in-None.is)
