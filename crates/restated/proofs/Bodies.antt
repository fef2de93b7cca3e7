-- Lists of different bodies and sets of bodies are the same thing.
--
-- A list holds a set, whose count is the list's length since no number comes twice; and a set of bodies is written as the list of its numbers,
-- smallest first, whose length is the set's count (crate rule).
-- Not here: plain lists, which are in Members.antt.
-- Assumes nothing.
use mathlib.Core.Path.{◌≡◌, sym, ap, ◌∙◌, subst}
use mathlib.Core.Logic.{inl, inr, ⊎_elim}
use mathlib.Core.Bool.{false}
use mathlib.Core.List.{List, [], ◌∷◌}
use Prim.Native.Nat.{ℕ, suc}
use native.Mathlib.Omega.{arith}
use lib.ListN.{length}
use Rattle.rule.specs.Sets.{Is, Set, ◌with◌, count, numbers}
use Rattle.rule.proofs.Tests.{never, with_self, with_old, with_elim}
use Rattle.rule.proofs.Counting.{count_with, count_none}
use Rattle.restated.specs.Bars.{Member, DifferentBodies}
use Rattle.restated.proofs.Members.{ascending_different, member_numbers, numbers_ascending}

-- the set that a list holds
unfoldable pub held_by : List ℕ → Set
held_by [] i = false
held_by (x ∷ l) i = (held_by l with x) i

pub held_member : (l : List ℕ) (i : ℕ) → Is (held_by l i) → Member i l
unfolding held_by
held_member [] i h = never h
held_member (x ∷ l) i h = ⊎_elim (λ q. inl q) (λ k. inr (held_member l i k)) (with_elim (held_by l) x i h)

pub member_held : (l : List ℕ) (i : ℕ) → Member i l → Is (held_by l i)
unfolding held_by
member_held [] i h = absurd h
member_held (x ∷ l) i (inl q) = subst (λ (z : ℕ). Is ((held_by l with x) z)) (sym q) (with_self (held_by l) x)
member_held (x ∷ l) i (inr k) = with_old (held_by l) x i (member_held l i k)

pub held_count : (n : ℕ) (l : List ℕ) → DifferentBodies n l → count (held_by l) n ≡ length l
unfolding held_by
held_count n [] h = count_none (λ i. false) n (λ i k f. never f)
held_count n (x ∷ l) h =
    count_with (held_by l) n x (omega (arith, h.0, h.1)) (λ k. h.2 (held_member l x k)) ∙ ap suc (held_count n l h.3)

-- the list of a set of bodies
pub numbers_different : (w : Set) (n : ℕ) → DifferentBodies n (numbers w n)
numbers_different w n = ascending_different n (numbers w n) (numbers_ascending w n) (λ y h. (member_numbers w n y h).0)
