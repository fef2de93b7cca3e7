-- `text::put::number` meets its contract, by its call of itself: the digits of n are those of n / 10, and then the last one. The measure
-- is n. Assumes nothing.
use native.Mathlib.Omega.{arith}
use mathlib.Core.Path.{◌≡◌, sym, ap, ◌∙◌}
use mathlib.Core.List.{[], ◌∷◌}
use Prim.Native.Nat.{ℕ, ◌+◌, ◌/◌, ◌%◌, ◌<◌, ◌≤◌}
use lib.ListN.{length, length-append}
use Rattle.text.specs.Lines.{digit, numeral}
use Rattle.text.proofs.Numerals.{numeral_small, numeral_step, numeral_not_empty}
use Rattle.text.proofs.Overwrites.{writes_as, writes_one, writes_more, writes_room}
use Rattle.text.proofs.put.+number.Goals as goal

-- one digit more than n / 10 has
one_more : (n : ℕ) → 9 < n → length (numeral n) ≡ length (numeral (n / 10)) + 1
one_more n h = ap length (numeral_step n h) ∙ length-append (numeral (n / 10)) (digit (n % 10) ∷ [])

-- where there is room for all digits, there is room for the last one after those of n / 10
room : (n size : ℕ) → 9 < n → length (numeral n) ≤ size → length (numeral (n / 10)) < size
room n size h r = omega (arith, r, one_more n h)

pub bounds-buffer-0 : goal.bounds-buffer-0
bounds-buffer-0 t c = omega (arith, numeral_not_empty c.args.n, c.requires)

pub returns-then-n-lt10 : goal.returns-then-n-lt10
returns-then-n-lt10 t c =
    let a = c.args in
    writes_as (sym (numeral_small a.n c.if-n-lt10.true))
    (writes_one a.buffer.now (digit a.n) (omega (arith, numeral_not_empty a.n, c.requires)))

pub number-at-requires : goal.number-at-requires
number-at-requires t c = (omega arith, omega (arith, c.requires, one_more c.args.n (omega arith)))

pub bounds-buffer-at : goal.bounds-buffer-at
bounds-buffer-at t c = writes_room c.number-at.ensures (room c.args.n _ (omega arith) c.requires)

pub returns : goal.returns
returns t c =
    writes_as (sym (numeral_step c.args.n (omega arith)))
    (writes_more c.number-at.ensures _ (room c.args.n _ (omega arith) c.requires))
