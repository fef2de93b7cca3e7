-- The edges of a word come to wait, bit by bit: those of the bits passed wait already, in number order, and those of the bits that are
-- left are still to come (`Reaching`).
-- Assumes nothing.
use mathlib.Core.Path.{◌≡◌, sym, ap, ap₂, ◌∙◌, subst, subst₂}
use mathlib.Core.Logic.{⊎_elim}
use mathlib.Core.Bool.{Bool, true, false, false≢true}
use mathlib.Core.List.{List}
use Prim.Native.Nat.{ℕ, suc, ◌+◌, ◌≤◌, ◌<◌}
use native.Mathlib.Omega.{arith}
use lib.ListN.{length, set, replicate}
use Rattle.rule.specs.Sets.{Is, ◌or◌, Set, In, ◌with◌, ◌without◌, count, numbers}
use Rattle.rule.proofs.Tests.{never, same_test, by_eq, or_l, or_r, or_elim, put_other, with_self, with_elim, without_old, without_ne}
use Rattle.rule.proofs.Counting.{count_pos, count_with, count_without, numbers_eq, length_numbers}
use Rattle.words.specs.Bits.{Lowest, Without}
use Rattle.reaching.specs.Laid.{Laid, TakesIn}
use Rattle.reaching.specs.Words.{Carries, CameToWait}
use Rattle.reaching.proofs.Laid.{laid_none, laid_length, laid_repeat}
use Rattle.reaching.proofs.Numbers.{numbers_none}
use Rattle.reaching.proofs.Bits.{carries_none, carries_without}

pub record Reaching (of : ℕ → ℕ) (edges : Set) (most size place : ℕ) (queue₀ from₀ queue from : List ℕ) (left n : ℕ) : Type 0 where
  pub done : Set
  pub todo : Set
  pub carried : Carries of left todo most
  pub either : (y : ℕ) → In most y → edges y ≡ (done y or todo y)
  pub apart : (y : ℕ) → Is (todo y) → ¬ (Is (done y))
  pub came : CameToWait (numbers done most) size place queue₀ from₀ queue from n
  pub room : n + count todo most ≤ 379

pub reaching_begins : (of : ℕ → ℕ) (edges : Set) (most size place word : ℕ) (queue from : List ℕ) → Carries of word edges most → size + count edges most ≤ 379
    → length queue ≡ 379 → length from ≡ 379 → Reaching of edges most size place queue from queue from word size
reaching_begins of edges most size place word queue from c room lq lf =
    record {
      done = λ _. false;
      todo = edges;
      carried = c;
      either = λ y _. same_test _ _ (λ t. or_r false _ t) (λ t. ⊎_elim never (λ k. k) (or_elim _ _ t));
      apart = λ y _ t. false≢true t;
      came =
          subst (λ (l : List ℕ). CameToWait l size place queue from queue from size) (sym (numbers_none (λ _. false) most (λ _ _ t. false≢true t)))
          (record { waits = laid_none queue size (omega arith); reached = laid_none from size (omega arith); counts = omega arith });
      room = room;
    }

module _ {of : ℕ → ℕ} {edges : Set} {most size place : ℕ} {queue₀ from₀ queue from : List ℕ} {left n : ℕ}
    (r : Reaching of edges most size place queue₀ from₀ queue from left n) where
  -- a bit that is left has room
  pub reaching_room : {t : ℕ} → Lowest left t → n < 379
  reaching_room {t} low =
      let k = r.carried.number t low.small low.is_set in
      omega (arith, r.room, count_pos r.todo most (of t) k.0 k.1)

  -- nothing is left
  pub reaching_ends : left ≡ 0 → CameToWait (numbers edges most) size place queue₀ from₀ queue from n
  reaching_ends z =
      subst (λ (l : List ℕ). CameToWait l size place queue₀ from₀ queue from n)
      (numbers_eq r.done edges most
      (λ y h.
      same_test _ _ (λ t. r.either y h ∙ or_l _ _ t)
      (λ t. ⊎_elim (λ k. k) (λ k. absurd (carries_none of r.todo most left r.carried z y h k)) (or_elim _ _ (sym (r.either y h) ∙ t)))))
      r.came

  -- the queue is as long as it was
  pub reaching_long : {t : ℕ} {queue' : List ℕ} → Lowest left t → TakesIn (of t) size n queue queue' → length queue' ≡ length queue₀
  reaching_long {t} low takes =
      let k = r.carried.number t low.small low.is_set in
      laid_length (takes.in_order queue₀ r.done most k.0 (r.apart (of t) k.1) r.came.counts r.came.waits)

  -- the edge of a bit comes to wait
  module _ {t rest : ℕ} {queue' : List ℕ} (low : Lowest left t) (w : Without left t rest) (enough : length from₀ ≡ 379)
      (takes : TakesIn (of t) size n queue queue') where
    one_more : CameToWait (numbers (r.done with of t) most) size place queue₀ from₀ queue' (set from n place) (n + 1)
    one_more =
        let k = r.carried.number t low.small low.is_set in
        let new = r.apart (of t) k.1 in
        let long : length (numbers (r.done with of t) most) ≡ suc (length (numbers r.done most)) =
        length_numbers (r.done with of t) most ∙ count_with r.done most (of t) k.0 new ∙ ap suc (sym (length_numbers r.done most)) in
        record {
          waits = takes.in_order queue₀ r.done most k.0 new r.came.counts r.came.waits;
          reached =
              subst₂ (λ (j p : ℕ). Laid from₀ size (replicate j place) (set from p place)) (sym long) (sym r.came.counts)
              (laid_repeat (length (numbers r.done most)) place r.came.reached (omega (arith, r.came.counts, reaching_room low)));
          counts = omega (arith, r.came.counts);
        }

    pub reaching_next : Reaching of edges most size place queue₀ from₀ queue' (set from n place) rest (n + 1)
    reaching_next =
        let k = r.carried.number t low.small low.is_set in
        record {
          done = r.done with of t;
          todo = r.todo without of t;
          carried = carries_without of r.todo most left t rest r.carried low.small low.is_set w;
          either =
              λ y h.
              by_eq y (of t)
              (λ q.
              subst (λ (z : ℕ). edges z ≡ ((r.done with of t) z or (r.todo without of t) z)) (sym q)
              (r.either (of t) k.0 ∙ or_r (r.done (of t)) _ k.1 ∙ sym (or_l _ ((r.todo without of t) (of t)) (with_self r.done (of t)))))
              (λ ne. r.either y h ∙ ap₂ (λ (a b : Bool). a or b) (sym (put_other r.done (of t) true y ne)) (sym (put_other r.todo (of t) false y ne)));
          apart =
              λ y h d.
              ⊎_elim (λ q. without_ne r.todo (of t) y h q) (λ o. r.apart y (without_old r.todo (of t) y h) o) (with_elim r.done (of t) y d);
          came = one_more;
          room = omega (arith, r.room, count_without r.todo most (of t) k.0 k.1);
        }
