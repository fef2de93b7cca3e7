-- `lines::pair_line`: the key, the two numbers and the LF are written one after another (Adding.antt). Where there is room for all of
-- them there is room for those up to each.
use native.Mathlib.Omega.{arith}
use mathlib.Core.Path.{sym, ap}
use mathlib.Core.List.{List, [], ◌∷◌, ◌++◌}
use Prim.Native.Nat.{ℕ, ◌≤◌}
use lib.ListN.{length}
use Rattle.text.specs.Lines.{LF, line}
use Rattle.text.proofs.Overwrites.{writes_as}
use Rattle.lines.specs.Adding.{item}
use Rattle.lines.proofs.Adding.{writes_adds, writes_left, fits_front}
use Rattle.lines.proofs.Listing.{pair_parts}
use Rattle.lines.proofs.pair_line.Goals as goal

module _ (key : List ℕ) (one other : ℕ) (s : List ℕ) (h : length (line key (one ∷ other ∷ [])) ≤ length s) where
  room_all : length (((key ++ item 0 one) ++ item 1 other) ++ LF ∷ []) ≤ length s
  room_all = omega (arith, ap length (pair_parts key one other))

  room_both : length ((key ++ item 0 one) ++ item 1 other) ≤ length s
  room_both = fits_front ((key ++ item 0 one) ++ item 1 other) (LF ∷ []) s room_all

  room_one : length (key ++ item 0 one) ≤ length s
  room_one = fits_front (key ++ item 0 one) (item 1 other) s room_both

  room_key : length key ≤ length s
  room_key = fits_front key (item 0 one) s room_one

pub bytes-first-requires : goal.bytes-first-requires
bytes-first-requires c = let a = c.args in room_key a.key.now a.one a.other a.buffer.now c.requires

pub add_item-second-requires : goal.add_item-second-requires
add_item-second-requires c =
    let a = c.args in
    writes_left (item 0 a.one) c.bytes-first.ensures (room_one a.key.now a.one a.other a.buffer.now c.requires)

pub add_item-end-requires : goal.add_item-end-requires
add_item-end-requires c =
    let a = c.args in
    writes_left (item 1 a.other) (writes_adds c.bytes-first.ensures c.add_item-second.ensures)
    (room_both a.key.now a.one a.other a.buffer.now c.requires)

pub add_byte-requires : goal.add_byte-requires
add_byte-requires c =
    let a = c.args in
    let so_far = writes_adds (writes_adds c.bytes-first.ensures c.add_item-second.ensures) c.add_item-end.ensures in
    let more = writes_left (LF ∷ []) so_far (room_all a.key.now a.one a.other a.buffer.now c.requires) in
    omega arith

pub returns : goal.returns
returns c =
    let a = c.args in
    let so_far = writes_adds (writes_adds c.bytes-first.ensures c.add_item-second.ensures) c.add_item-end.ensures in
    writes_as (sym (pair_parts a.key.now a.one a.other)) (writes_adds so_far c.add_byte.ensures)
