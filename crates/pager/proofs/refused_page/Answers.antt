-- `pager::refused_page`: check 7, and then the one line, or none any more (Answers.antt).
use borrow.Author.Rules.{rules}
use native.Mathlib.Omega.{arith}
use mathlib.Core.Path.{ap}
use mathlib.Core.List.{[], ◌∷◌}
use Prim.Native.Nat.{ℕ}
use Rattle.text.specs.Lines.{line}
use Rattle.text.proofs.Overwrites.{writes_as}
use Rattle.reports.specs.Keys.{key_refused}
use Rattle.reports.specs.Reports.{refused_line}
use Rattle.pager.specs.Kinds.{form_of}
use Rattle.pager.proofs.Rooms.{pair_line_room}
use Rattle.pager.proofs.Answers.{none_to_read, short_refused, refused_over, refused_line_lem}
use Rattle.pager.proofs.refused_page.Goals as goal

pub returns-then-buffer-lt2048 : goal.returns-then-buffer-lt2048
returns-then-buffer-lt2048 c kind =
    short_refused (form_of kind) c.args.state c.args.buffer.now
    (none_to_read c.args.state c.args.refusal c.requires) (omega (arith, c.if-buffer-lt2048.true))
    c.short.result c.short.ensures

-- ---- check 7 passed

pub returns-then-first-gt0 : goal.returns-then-first-gt0
returns-then-first-gt0 c kind =
    refused_over (form_of kind) c.args.state c.args.buffer.now (omega (arith, c.if-buffer-lt2048.false)) c.args.refusal c.requires
    c.if-first-gt0.true

pub pair_line-end-requires : goal.pair_line-end-requires
pair_line-end-requires c =
    pair_line_room key_refused c.from.result c.args.refusal.line _ (omega arith) (search rules) (search rules)
    (omega (arith, c.if-buffer-lt2048.false))

pub returns : goal.returns
unfolding refused_line
returns c kind =
    refused_line_lem (form_of kind) c.args.state c.args.buffer.now (omega (arith, c.if-buffer-lt2048.false)) c.args.refusal c.requires
    (omega (arith, c.if-first-gt0.false)) c.pair_line-end.new.buffer c.pair_line-end.result
    (writes_as (ap (λ (n : ℕ). line key_refused (n ∷ c.args.refusal.line ∷ [])) c.from.ensures) c.pair_line-end.ensures)
    c.further.result c.further.ensures
