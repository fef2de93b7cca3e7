-- A loop that adds one piece a round from a place on: the numbers of a list, the lines of a book's edges.
--
-- What has been added after i rounds is `text i`, and round i adds `piece i`. So what the first i rounds add is no longer than what all
-- n add, and where there is room for all there is room for each piece.
-- Assumes nothing.
use mathlib.Core.Path.{◌≡◌, sym, ap, ◌∙◌}
use mathlib.Core.List.{List, [], ◌++◌}
use Prim.Native.Nat.{ℕ, zero, suc, ◌+◌, ◌≤◌, ◌<◌}
use native.Mathlib.Omega.{arith}
use native.Mathlib.Numerals.{add-one}
use lib.ListN.{length, length-append}
use Rattle.rule.proofs.Tests.{by_le}
use Rattle.lines.specs.Adding.{Appends}
use Rattle.lines.proofs.Adding.{adds_none, adds_as, adds_adds, adds_length, adds_left}

-- n rounds make the texts out of the pieces
pub record Pieces (text piece : ℕ → List ℕ) (n : ℕ) : Type 0 where
  pub none : text 0 ≡ []
  pub step : (i : ℕ) → i < n → text (suc i) ≡ text i ++ piece i

-- i of n rounds are done
pub record Rounds (text : ℕ → List ℕ) (n : ℕ) (before after : List ℕ) (at next i : ℕ) : Type 0 where
  pub within : i ≤ n
  pub adds : Appends (text i) before after at next

module _ {text piece : ℕ → List ℕ} {n : ℕ} (pieces : Pieces text piece n) where
  pub rounds_none : {before : List ℕ} {at : ℕ} → at ≤ length before → Rounds text n before before at at 0
  rounds_none {before} {at} h = record { within = omega arith; adds = adds_as (sym pieces.none) (adds_none before at h) }

  first_within : (i j : ℕ) → i ≤ j → j ≤ n → length (text i) ≤ length (text j)
  first_within i zero h l = let none : i ≡ 0 = omega arith in omega (arith, ap (λ (k : ℕ). length (text k)) none)
  first_within i (suc j) h l =
      by_le i j
      (λ k. omega (arith, first_within i j k (omega arith), ap length (pieces.step j l), length-append (text j) (piece j)))
      (λ k. let last : i ≡ suc j = omega arith in omega (arith, ap (λ (k : ℕ). length (text k)) last))

  module _ {before after : List ℕ} {at next i : ℕ} (g : Rounds text n before after at next i) (room : at + length (text n) ≤ length before) where
    pub rounds_length : length after ≡ length before
    rounds_length = adds_length g.adds (omega (arith, first_within i n g.within (omega arith)))

    one_more : i < n → (u : List ℕ) → u ≡ piece i → text i ++ u ≡ text (i + 1)
    one_more h u e = ap (λ (s : List ℕ). text i ++ s) e ∙ sym (pieces.step i h) ∙ ap text (sym (add-one i))

    pub rounds_room : i < n → (u : List ℕ) → u ≡ piece i → next + length u ≤ length after
    rounds_room h u e =
        adds_left u g.adds (omega (arith, ap length (one_more h u e), first_within (i + 1) n (omega arith) (omega arith)))

    pub rounds_more : i < n → (u : List ℕ) → u ≡ piece i → {now : List ℕ} {end : ℕ} → Appends u after now next end
        → Rounds text n before now at end (i + 1)
    rounds_more h u e a = record { within = omega arith; adds = adds_as (one_more h u e) (adds_adds g.adds a) }

    pub rounds_all : n ≤ i → Appends (text n) before after at next
    rounds_all h = let last : i ≡ n = omega (arith, g.within) in adds_as (ap text last) g.adds
