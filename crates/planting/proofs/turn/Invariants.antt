-- What `turn` keeps true from turn to turn.
use borrow.Rule.Slice.PartMut.{put_mid}
use Prim.Native.Nat.{◌+◌, ◌-◌}
use Rattle.planting.specs.Calls.{turned_by}
use Rattle.planting.proofs.Places.{Passed}
use Rattle.planting.proofs.turn.Given as goal

abbrev pub invariant-loop-word : goal.invariant-loop-word
invariant-loop-word l =
    Passed (turned_by l.j l.c) l.base l.fn.way (put_mid l.base (l.base + 64 - l.base) l.fn.way l.word-items) l.word-index
