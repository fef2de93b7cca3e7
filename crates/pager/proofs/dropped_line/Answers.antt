-- `pager::dropped_line`: the number of implied edges (crate book), in a line.
use borrow.Author.Rules.{rules}
use native.Mathlib.Omega.{arith}
use mathlib.Core.Path.{ap, ◌∙◌}
use mathlib.Core.List.{[], ◌∷◌}
use Prim.Native.Nat.{ℕ}
use Rattle.text.specs.Lines.{line}
use Rattle.text.proofs.Overwrites.{writes_as}
use Rattle.reports.specs.Keys.{key_dropped}
use Rattle.pager.proofs.Rooms.{number_line_room}
use Rattle.pager.proofs.dropped_line.Goals as goal

pub number_line-requires : goal.number_line-requires
number_line-requires c = number_line_room key_dropped c.from.result _ (omega arith) (search rules) (search rules)

pub returns : goal.returns
returns c = writes_as (ap (λ (n : ℕ). line key_dropped (n ∷ [])) (c.from.ensures ∙ c.implied_of-implied.ensures)) c.number_line.ensures
