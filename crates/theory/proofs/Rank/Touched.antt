-- The rank is the bodies touched less the connected pieces, as request #111 words it: a body that is not the smallest of those
-- joined to it is touched, and the touched ones that are the smallest are one for each piece.
-- Assumes nothing.
use mathlib.Core.Path.{◌≡◌, ap, ◌∙◌}
use mathlib.Core.Logic.{◌⊎◌, ⊎_elim}
use Prim.Native.Nat.{ℕ, ◌+◌, ◌≤◌}
use native.Mathlib.Omega.{arith}
use Rattle.rule.specs.Sets.{Is, ◌and◌, isnt, ◌=?◌, ◌<?◌, Set, In, count}
use Rattle.rule.specs.Legal.{Design}
use Rattle.rule.proofs.Tests.{same_test, and_make, and_r, or_l, or_r, eq_self, lt_of}
use Rattle.rule.proofs.Counting.{count_eq, count_split}
use Rattle.theory.specs.Joined.{joined}
use Rattle.theory.specs.Rank.{leader, rank_of, rank, touched, pieces}
use Rattle.theory.proofs.Numbers.Smallest.{some_make}
use Rattle.theory.proofs.Joined.Laws.{joined_both}
use Rattle.theory.proofs.Rank.Leaders.{leader_near}
use Rattle.theory.proofs.Rank.Laws.{joined_equivalence}

module _ (d : Design) (s : Set) where
  touched_one : (e : ℕ) → In d.m e → Is (s e) → Is (touched d s (d.one e))
  unfolding touched
  touched_one e h i = some_make _ d.m e h (and_make _ _ i (or_l _ _ (eq_self (d.one e))))

  touched_other : (e : ℕ) → In d.m e → Is (s e) → Is (touched d s (d.other e))
  unfolding touched
  touched_other e h i = some_make _ d.m e h (and_make _ _ i (or_r (d.one e =? d.other e) _ (eq_self (d.other e))))

  -- bodies that are joined are the same, or both are touched
  pub joined_touched : (x y : ℕ) → Is (joined d s x y) → (x ≡ y) ⊎ (Is (touched d s x) × Is (touched d s y))
  joined_touched = joined_both d s (λ v. Is (touched d s v)) (λ e h i. (touched_one e h i, touched_other e h i))

  lower_touched : (v : ℕ) → 1 ≤ v → Is (leader (joined d s) v <? v) → Is (touched d s v)
  lower_touched v l i =
      ⊎_elim (λ q. absurd (omega (arith, lt_of _ _ i))) (λ p. p.1)
      (joined_touched (leader (joined d s) v) v (leader_near (joined d s) (joined_equivalence d s) v l))

  pub rank_touched : rank d s + pieces d s ≡ count (touched d s) d.n
  unfolding rank rank_of pieces
  rank_touched =
      ap (λ (z : ℕ). z + count (λ v. touched d s v and isnt (leader (joined d s) v <? v)) d.n)
      (count_eq _ _ d.n (λ v h. same_test _ _ (λ i. and_make _ _ (lower_touched v h.low i) i) (λ i. and_r (touched d s v) _ i)))
      ∙ count_split (touched d s) (λ v. leader (joined d s) v <? v) d.n
