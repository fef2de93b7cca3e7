-- `text::put::number_line` meets its contract: the key, the digits and the LF are written one after another (proofs/Overwrites.antt).
-- Assumes nothing.
use native.Mathlib.Omega.{arith}
use mathlib.Core.Path.{◌≡◌, sym, ap, ◌∙◌}
use mathlib.Core.List.{List, [], ◌∷◌, ◌++◌}
use Prim.Native.Nat.{ℕ, ◌+◌, ◌-◌, ◌≤◌, ◌<◌}
use lib.ListN.{length, take, drop, length-append, length-set}
use Rattle.text.specs.Lines.{LF, numeral, line}
use Rattle.text.specs.Puts.{Writes}
use Rattle.text.proofs.LineReads.{line_written}
use Rattle.text.proofs.Overwrites.{writes_as, writes_length, writes_room, writes_more, writes_then, writes_rest, rest}
use Rattle.text.proofs.put.number_line.Goals as goal

-- what the room for the whole line leaves for its parts
parts : (key : List ℕ) (n : ℕ) → length (line key (n ∷ [])) ≡ length (key ++ numeral n) + 1
parts key n = ap length (line_written key n) ∙ length-append (key ++ numeral n) (LF ∷ [])

key_within : (key : List ℕ) (n : ℕ) → length key ≤ length (line key (n ∷ []))
key_within key n = omega (arith, parts key n, length-append key (numeral n))

-- the key and the digits stand in front, and there is room for the LF
key_and_number : (key : List ℕ) (n : ℕ) {before s part : List ℕ} {k j : ℕ} → Writes key before s k → Writes (numeral n) (rest s k) part j
    → length (line key (n ∷ [])) ≤ length before
    → Writes (key ++ numeral n) before (take k s ++ (part ++ drop (length s - k) (drop k s))) (k + j) × (length (key ++ numeral n) < length before)
key_and_number key n w v h = (writes_then w v, omega (arith, h, parts key n))

pub bytes-end-requires : goal.bytes-end-requires
bytes-end-requires c = omega (arith, c.requires, key_within c.args.key.now c.args.n)

pub slice_bounds-number-count : goal.slice_bounds-number-count
slice_bounds-number-count c =
    let fits = key_within c.args.key.now c.args.n in
    omega (arith, c.bytes-end.ensures.number, writes_length c.bytes-end.ensures (omega (arith, c.requires, fits)), c.requires, fits)

pub slice_bounds-number-start : goal.slice_bounds-number-start
slice_bounds-number-start c =
    let fits = key_within c.args.key.now c.args.n in
    omega (arith, c.bytes-end.ensures.number, writes_length c.bytes-end.ensures (omega (arith, c.requires, fits)), c.requires, fits)

pub number-more-requires : goal.number-more-requires
number-more-requires c =
    writes_rest (numeral c.args.n) c.bytes-end.ensures (omega (arith, c.requires, parts c.args.key.now c.args.n))

pub overflow_add-at : goal.overflow_add-at
overflow_add-at c =
    let w = key_and_number c.args.key.now c.args.n c.bytes-end.ensures c.number-more.ensures c.requires in
    omega (arith, w.0.number, w.1)

pub bounds-buffer-at : goal.bounds-buffer-at
bounds-buffer-at c =
    let w = key_and_number c.args.key.now c.args.n c.bytes-end.ensures c.number-more.ensures c.requires in
    writes_room w.0 w.1

pub overflow_add-result : goal.overflow_add-result
overflow_add-result c =
    let w = key_and_number c.args.key.now c.args.n c.bytes-end.ensures c.number-more.ensures c.requires in
    omega (arith, w.0.number, w.1)

pub shape_of-buffer : goal.shape_of-buffer
shape_of-buffer c =
    let w = key_and_number c.args.key.now c.args.n c.bytes-end.ensures c.number-more.ensures c.requires in
    simp length-set (writes_length w.0 (omega (arith, w.1)))

pub returns : goal.returns
returns c =
    let w = key_and_number c.args.key.now c.args.n c.bytes-end.ensures c.number-more.ensures c.requires in
    writes_as (sym (line_written c.args.key.now c.args.n)) (writes_more w.0 LF w.1)
