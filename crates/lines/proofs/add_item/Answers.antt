-- `lines::add_item`: the comma and the number are added one after the other.
use native.Mathlib.Omega.{arith}
use mathlib.Core.Path.{sym, ap}
use mathlib.Core.Logic.{◌≢◌}
use mathlib.Core.List.{List, [], ◌∷◌}
use Prim.Native.Nat.{ℕ, ◌+◌, ◌≤◌}
use lib.ListN.{length}
use Rattle.text.specs.Lines.{comma, numeral}
use Rattle.lines.specs.Adding.{Appends, item}
use Rattle.lines.proofs.Adding.{adds_as, adds_adds, adds_left, adds_part, adds_room}
use Rattle.lines.proofs.Listing.{item_first, item_later}
use Rattle.lines.proofs.add_item.Goals as goal

pub number-requires : goal.number-requires
number-requires c =
    adds_room (numeral c.args.x) c.args.buffer.now c.args.at
    (omega (arith, c.requires, ap length (item_first c.args.i c.args.x (omega arith))))

pub returns-then-i-eq0 : goal.returns-then-i-eq0
returns-then-i-eq0 c =
    let a = c.args in
    adds_as (sym (item_first a.i a.x (omega arith))) (adds_part _ _ (omega arith) c.number.ensures)

pub add_byte-next-requires : goal.add_byte-next-requires
add_byte-next-requires c = omega (arith, c.requires, ap length (item_later c.args.i c.args.x (omega arith)))

-- behind the comma there is room for the number
after_comma : (i x at : ℕ) (s : List ℕ) {after : List ℕ} {next : ℕ} → i ≢ 0 → at + length (item i x) ≤ length s
    → Appends (comma ∷ []) s after at next → next + length (numeral x) ≤ length after
after_comma i x at s later h a = adds_left (numeral x) a (omega (arith, ap length (item_later i x later)))

pub number-requires-2 : goal.number-requires-2
number-requires-2 c =
    let a = c.args in
    adds_room (numeral a.x) c.add_byte-next.new.buffer c.add_byte-next.result
    (after_comma a.i a.x a.at a.buffer.now (omega arith) c.requires c.add_byte-next.ensures)

pub returns : goal.returns
returns c =
    let a = c.args in
    let left = after_comma a.i a.x a.at a.buffer.now (omega arith) c.requires c.add_byte-next.ensures in
    adds_as (sym (item_later a.i a.x (omega arith)))
    (adds_adds c.add_byte-next.ensures (adds_part _ _ (omega (arith, left)) c.number-2.ensures))
