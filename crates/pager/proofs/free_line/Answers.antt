-- `pager::free_line`: the freedom of the book (crate book), in a line.
use borrow.Author.Rules.{rules}
use native.Mathlib.Omega.{arith}
use mathlib.Core.Path.{ap, ◌∙◌}
use mathlib.Core.List.{[], ◌∷◌}
use Prim.Native.Nat.{ℕ}
use Rattle.text.specs.Lines.{line}
use Rattle.text.proofs.Overwrites.{writes_as}
use Rattle.reports.specs.Keys.{key_free}
use Rattle.pager.proofs.Rooms.{number_line_room}
use Rattle.pager.proofs.free_line.Goals as goal

pub number_line-requires : goal.number_line-requires
number_line-requires c = number_line_room key_free c.from.result _ (omega arith) (search rules) (search rules)

pub returns : goal.returns
returns c = writes_as (ap (λ (n : ℕ). line key_free (n ∷ [])) (c.from.ensures ∙ c.free_of-free.ensures)) c.number_line.ensures
