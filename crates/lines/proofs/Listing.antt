-- The numbers of a line, one after another: what `add_item` adds, and what the rounds of `add_list` make (Rounds.antt).
--
-- With the first i numbers of a list written, the next one adds `item i` (specs/Adding.antt).
-- Assumes nothing.
use mathlib.Core.Path.{◌≡◌, refl, sym, ap, ◌∙◌}
use mathlib.Core.Logic.{◌≢◌}
use mathlib.Core.List.{List, [], ◌∷◌, ◌++◌, append_assoc}
use Prim.Native.Nat.{ℕ, zero, suc, ◌+◌, ◌≤◌, ◌<◌}
use native.Mathlib.Omega.{arith}
use lib.ListN.{length, get_or, take}
use lib.Seq.{take-length}
use Rattle.text.specs.Lines.{LF, comma, numeral, listed, line}
use Rattle.lines.specs.Adding.{item}
use Rattle.lines.proofs.Rounds.{Pieces}

-- ---- one number

pub item_first : (i x : ℕ) → i ≡ 0 → item i x ≡ numeral x
unfolding item
item_first i x e = ap (λ (j : ℕ). item j x) e

pub item_later : (i x : ℕ) → i ≢ 0 → item i x ≡ (comma ∷ []) ++ numeral x
unfolding item
item_later zero x n = absurd (n refl)
item_later (suc i) x n = refl

-- ---- the numbers of a line

-- a line of two as it is written
pub pair_parts : (key : List ℕ) (one other : ℕ) → line key (one ∷ other ∷ []) ≡ ((key ++ item 0 one) ++ item 1 other) ++ LF ∷ []
unfolding line listed item
pair_parts key one other = simp append_assoc

listed_more : (xs : List ℕ) (i : ℕ) → i < length xs → listed (take (suc i) xs) ≡ listed (take i xs) ++ item i (get_or xs i 0)
unfolding listed item
listed_more [] i h = absurd (omega arith)
listed_more (x ∷ xs) zero h = refl
listed_more (x ∷ []) (suc i) h = absurd (omega arith)
listed_more (x ∷ y ∷ ys) (suc zero) h = refl
listed_more (x ∷ y ∷ ys) (suc (suc i)) h =
    ap (λ (s : List ℕ). numeral x ++ comma ∷ s) (listed_more (y ∷ ys) (suc i) (omega arith))
    ∙ sym (append_assoc (numeral x) (comma ∷ listed (y ∷ take i ys)) (item (suc (suc i)) (get_or ys i 0)))

pub numbers_pieces : (list : List ℕ) → Pieces (λ i. listed (take i list)) (λ i. item i (get_or list i 0)) (length list)
unfolding listed
numbers_pieces list = record { none = refl; step = listed_more list }

-- with as many numbers as there are, all are written
pub numbers_room : (list : List ℕ) (at places : ℕ) → at + length (listed list) ≤ places → at + length (listed (take (length list) list)) ≤ places
numbers_room list at places h = omega (arith, ap (λ (xs : List ℕ). length (listed xs)) (take-length list))
