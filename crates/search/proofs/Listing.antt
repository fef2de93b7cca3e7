-- Numbers listed bit by bit, smallest first: what is written, with the numbers of the bits that are left behind it, is the whole list (`Listing`).
-- The lowest bit has the smallest number.
-- Assumes nothing.
use mathlib.Core.Path.{◌≡◌, refl, sym, ap, ◌∙◌, subst}
use mathlib.Core.List.{List, [], ◌∷◌, ◌++◌, append-nil}
use Prim.Native.Nat.{ℕ, ◌+◌, ◌<◌}
use native.Mathlib.Omega.{arith}
use lib.ListN.{length, set, length-append}
use lib.Seq.{append_snoc}
use Rattle.rule.specs.Sets.{Set, ◌without◌, numbers}
use Rattle.rule.proofs.Tests.{by_le}
use Rattle.rule.proofs.Counting.{length_numbers}
use Rattle.words.specs.Bits.{Lowest, Without}
use Rattle.reaching.specs.Laid.{Laid}
use Rattle.reaching.specs.Words.{Carries, Coming}
use Rattle.search.specs.Marks.{MarksWritten}
use Rattle.reaching.proofs.Laid.{laid_none, laid_more}
use Rattle.reaching.proofs.Numbers.{numbers_none}
use Rattle.search.proofs.Numbers.{numbers_first}
use Rattle.reaching.proofs.Bits.{carries_none, carries_without}

lowest_first : (base left t : ℕ) (s : Set) (m : ℕ) → Carries (λ j. base + j) left s m → Lowest left t
    → numbers s m ≡ (base + t) ∷ numbers (s without (base + t)) m
lowest_first base left t s m c low =
    let k = c.number t low.small low.is_set in
    numbers_first s m (base + t) k.0 k.1
    (λ y h i.
    let at = c.bit_of y h i in
    by_le t at.0 (λ l. omega (arith, at.1.1.1)) (λ l. absurd (low.lowest at.0 l at.1.1.0)))

pub record Listing (base : ℕ) (edges : Set) (most size : ℕ) (before now : List ℕ) (left n : ℕ) : Type 0 where
  pub done : List ℕ
  pub todo : Set
  pub carried : Carries (λ j. base + j) left todo most
  pub all : done ++ numbers todo most ≡ numbers edges most
  pub written : MarksWritten before size done now n

module _ {base size word : ℕ} {before : List ℕ} (t : Coming (λ j. base + j) word size (length before)) where
  pub listing_begins : Listing base t.edges t.most size before before word size
  listing_begins =
      record {
        done = [];
        todo = t.edges;
        carried = t.carried;
        all = refl;
        written = record { laid = laid_none before size (omega (arith, t.room)); counts = omega arith };
      }

  module _ {now : List ℕ} {left n : ℕ} (r : Listing base t.edges t.most size before now left n) where
    pub listing_ends : left ≡ 0 → MarksWritten before size (numbers t.edges t.most) now n
    listing_ends z =
        subst (λ (l : List ℕ). MarksWritten before size l now n)
        (sym (append-nil r.done) ∙ ap (λ (l : List ℕ). r.done ++ l) (sym (numbers_none r.todo t.most (carries_none (λ j. base + j) r.todo t.most left r.carried z))) ∙ r.all)
        r.written

    module _ {b : ℕ} (low : Lowest left b) where
      abbrev rest : Set
      rest = r.todo without (base + b)

      first : numbers r.todo t.most ≡ (base + b) ∷ numbers rest t.most
      first = lowest_first base left b r.todo t.most r.carried low

      pub listing_room : n < length before
      listing_room =
          omega (
            arith,
            r.written.counts,
            ap length first,
            ap length r.all,
            length-append r.done (numbers r.todo t.most),
            length_numbers t.edges t.most,
            t.room,
          )

      pub listing_next : {left' : ℕ} → Without left b left' → Listing base t.edges t.most size before (set now n (base + b)) left' (n + 1)
      listing_next {left' = left'} w =
          record {
            done = r.done ++ ((base + b) ∷ []);
            todo = rest;
            carried = carries_without (λ j. base + j) r.todo t.most left b left' r.carried low.small low.is_set w;
            all = append_snoc r.done (base + b) (numbers rest t.most) ∙ ap (λ (l : List ℕ). r.done ++ l) (sym first) ∙ r.all;
            written =
                record {
                  laid =
                      subst (λ (j : ℕ). Laid before size (r.done ++ ((base + b) ∷ [])) (set now j (base + b))) (sym r.written.counts)
                      (laid_more r.written.laid (base + b) (omega (arith, listing_room, r.written.counts)));
                  counts = omega (arith, r.written.counts, length-append r.done ((base + b) ∷ []));
                };
          }
