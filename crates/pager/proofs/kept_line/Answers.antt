-- `pager::kept_line`: k·(n−1) less the edges kept before and this one (Tallies.antt).
use borrow.Author.Rules.{rules}
use native.Mathlib.Omega.{arith}
use mathlib.Core.Path.{ap}
use mathlib.Core.List.{[], ◌∷◌}
use Prim.Native.Nat.{ℕ}
use native.Mathlib.Nat.{le_trans}
use Rattle.theory.proofs.Legal.Sound.{sound_head}
use Rattle.text.specs.Lines.{line}
use Rattle.text.proofs.Overwrites.{writes_as}
use Rattle.reports.specs.Keys.{key_kept}
use Rattle.pager.proofs.Rooms.{number_line_room}
use Rattle.pager.proofs.Tallies.{kept_fits, is_freedom_after, sound_full, left_fits}
use Rattle.pager.proofs.kept_line.Goals as goal

pub overflow_add-full : goal.overflow_add-full
overflow_add-full c =
    let head = sound_head c.args.place.source.book.now c.args.place.source.sound in
    record { fits = omega (arith, c.from-a.ensures, c.from-b.ensures, head.profile.0.high, head.profile.1.high) }

pub overflow_sub-full : goal.overflow_sub-full
overflow_sub-full c =
    let source = c.args.place.source in omega (arith, c.from-n.ensures, (sound_head source.book.now source.sound).bodies.low)

pub overflow_mul-full : goal.overflow_mul-full
overflow_mul-full c =
    let source = c.args.place.source in
    record { fits = rw (c.from-a.ensures, c.from-b.ensures, c.from-n.ensures) (omega (arith, sound_full source.book.now source.sound)) }

pub overflow_sub-full-2 : goal.overflow_sub-full-2
overflow_sub-full-2 c =
    let place = c.args.place in
    rw (c.from-a.ensures, c.from-b.ensures, c.from-n.ensures, c.from-kept.ensures)
    (le_trans (omega arith)
    (kept_fits place.source.book.now place.line place.kept place.tally place.source.sound c.requires.edge c.requires.has_forest))

pub number_line-requires : goal.number_line-requires
number_line-requires c =
    let source = c.args.place.source in
    rw (c.from-a.ensures, c.from-b.ensures, c.from-n.ensures)
    (number_line_room key_kept _ _ (omega arith) (left_fits _ _ (sound_full source.book.now source.sound)) (search rules))

pub returns : goal.returns
returns c =
    let place = c.args.place in
    writes_as
    (ap (λ (n : ℕ). line key_kept (n ∷ []))
    (is_freedom_after place.source.book.now place.line place.kept place.tally place.source.sound c.requires.edge c.requires.has_forest))
    (rw (c.from-a.ensures, c.from-b.ensures, c.from-n.ensures, c.from-kept.ensures) at c.number_line.ensures)
