-- How long numbers and lines are, for callers that ask for room. The line of an edge is in crate text (proofs/Sizes.antt there).
--
-- A number below 1000 has at most three digits, so with its comma it takes at most four bytes; a number of 64 bits has at most 20.
-- Assumes nothing.
use mathlib.Core.List.{List, [], ◌∷◌}
use Prim.Native.Nat.{ℕ, suc, ◌+◌, ◌*◌, ◌^◌, ◌≤◌, ◌<◌}
use native.Mathlib.Omega.{arith}
use lib.ListN.{length, get_or, length-append}
use Rattle.text.specs.Lines.{comma, numeral, Number, listed, line}
use Rattle.text.proofs.Numerals.{numeral_few}
use Rattle.text.proofs.Sizes.{line_length, number_line_length}

-- ---- numbers

pub numeral_at_most_3 : (n : ℕ) → Number n → length (numeral n) ≤ 3
numeral_at_most_3 n h = numeral_few 2 n (omega arith)

pub numeral_at_most_20 : (n : ℕ) → n < 2 ^ 64 → length (numeral n) ≤ 20
numeral_at_most_20 n h = numeral_few 19 n (omega arith)

-- ---- lines

pub line_not_empty : (key values : List ℕ) → 1 ≤ length (line key values)
line_not_empty key values = omega (arith, line_length key values)

pub number_line_at_most : (key : List ℕ) (n : ℕ) → n < 2 ^ 64 → length (line key (n ∷ [])) ≤ length key + 21
number_line_at_most key n h = number_line_length key n 20 (numeral_at_most_20 n h)

pub pair_line_at_most : (key : List ℕ) (one other : ℕ) → one < 2 ^ 64 → other < 2 ^ 64 → length (line key (one ∷ other ∷ [])) ≤ length key + 42
unfolding listed
pair_line_at_most key one other h l =
    omega (
      arith,
      line_length key (one ∷ other ∷ []),
      length-append (numeral one) (comma ∷ numeral other),
      numeral_at_most_20 one h,
      numeral_at_most_20 other l,
    )

-- each number of a list is below 1000
abbrev pub Numbers : List ℕ → Type 0
Numbers list = (i : ℕ) → i < length list → Number (get_or list i 0)

listed_at_most : (list : List ℕ) → Numbers list → length (listed list) ≤ 4 * length list
unfolding listed
listed_at_most [] h = omega arith
listed_at_most (n ∷ []) h = omega (arith, numeral_at_most_3 n (h 0 (omega arith)))
listed_at_most (n ∷ m ∷ rest) h =
    omega (
      arith,
      length-append (numeral n) (comma ∷ listed (m ∷ rest)),
      numeral_at_most_3 n (h 0 (omega arith)),
      listed_at_most (m ∷ rest) (λ i l. h (suc i) (omega arith)),
    )

pub line_at_most : (key list : List ℕ) → Numbers list → length (line key list) ≤ length key + 4 * length list + 1
line_at_most key list h = omega (arith, line_length key list, listed_at_most list h)
