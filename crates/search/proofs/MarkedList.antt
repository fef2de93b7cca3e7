-- The marked numbers listed word by word: those of the words passed stand in the list, and the numbers of the next word are all larger.
-- Assumes nothing.
use mathlib.Core.Path.{◌≡◌, refl, sym, ap, ◌∙◌, subst}
use mathlib.Core.Logic.{⊎_elim}
use mathlib.Core.List.{List, ◌++◌}
use Prim.Native.Nat.{ℕ, ◌+◌, ◌*◌, ◌/◌, ◌%◌, ◌≤◌}
use native.Mathlib.Omega.{arith}
use lib.ListN.{length, get_or, length-append}
use Rattle.rule.specs.Sets.{Is, ◌and◌, ◌or◌, ◌=?◌, Set, below, count, numbers}
use Rattle.rule.proofs.Tests.{same_test, and_make, and_l, and_r, or_l, or_r, or_elim, eq_of, eq_is, by_le, below_in, below_lt, below_make}
use Rattle.rule.proofs.Counting.{count_mono, numbers_eq, length_numbers}
use Rattle.words.specs.Bits.{bit}
use Rattle.reaching.specs.Laid.{Laid}
use Rattle.reaching.specs.Words.{Carries, Coming}
use Rattle.search.specs.Marks.{MarksWritten, is_marked, Markings}
use Rattle.reaching.proofs.Laid.{laid_none, laid_then}
use Rattle.reaching.proofs.Numbers.{numbers_none}
use Rattle.search.proofs.Numbers.{numbers_split}

written_then : {a b c l k : List ℕ} {n n' : ℕ} → MarksWritten a 0 l b n → MarksWritten b n k c n' → MarksWritten a 0 (l ++ k) c n'
written_then {b = b} {c = c} {l = l} {k = k} f g =
    record {
      laid = laid_then f.laid (subst (λ (j : ℕ). Laid b j k c) f.counts g.laid);
      counts = omega (arith, f.counts, g.counts, length-append l k);
    }

module _ (marks : List ℕ) where
  -- what is marked in the words before word i, and in word i
  abbrev pub passed : ℕ → Set
  passed i = below (is_marked marks) (i * 64)

  abbrev pub in_word : ℕ → Set
  in_word i y = is_marked marks y and y / 64 =? i

  in_word_lem : (i y : ℕ) → Is (in_word i y) → y / 64 ≡ i
  in_word_lem i y t = eq_of (y / 64) i (and_r (is_marked marks y) _ t)

  one_word_more : (m i : ℕ) → numbers (passed (i + 1)) m ≡ numbers (passed i) m ++ numbers (in_word i) m
  one_word_more m i =
      numbers_eq (passed (i + 1)) (λ y. passed i y or in_word i y) m
      (λ y _.
      same_test _ _
      (λ t.
      let s = below_in (is_marked marks) ((i + 1) * 64) y t in
      let l = below_lt (is_marked marks) ((i + 1) * 64) y t in
      by_le (i * 64) y (λ h. or_r (passed i y) _ (and_make _ _ s (eq_is (y / 64) i (omega arith)))) (λ h. or_l _ _ (below_make (is_marked marks) (i * 64) y s h)))
      (λ t.
      ⊎_elim
      (λ o. let l = below_lt (is_marked marks) (i * 64) y o in below_make (is_marked marks) ((i + 1) * 64) y (below_in (is_marked marks) (i * 64) y o) (omega arith))
      (λ o. let l = in_word_lem i y o in below_make (is_marked marks) ((i + 1) * 64) y (and_l _ _ o) (omega arith))
      (or_elim _ _ t)))
      ∙ numbers_split (passed i) (in_word i) m
      (λ y z _ _ p q.
      let l = below_lt (is_marked marks) (i * 64) y p in
      let k = in_word_lem i z q in
      omega arith)

  module _ {places : ℕ} (t : Markings marks places) (i : ℕ) where
    pub word_carries : Carries (λ j. i * 64 + j) (get_or marks i 0) (in_word i) t.m
    word_carries =
        record {
          number =
              λ j l h.
              let y = i * 64 + j in
              let same : y / 64 ≡ i = omega arith in
              let rest : y % 64 ≡ j = omega arith in
              let s : Is (is_marked marks y) = subst (λ (z : ℕ). Is (bit (get_or marks z 0) (y % 64))) (sym same) (subst (λ (z : ℕ). Is (bit (get_or marks i 0) z)) (sym rest) h) in
              (t.within y s, and_make _ _ s (eq_is (y / 64) i same));
          bit_of =
              λ y _ s.
              let same = in_word_lem i y s in
              (y % 64, (omega arith, (subst (λ (z : ℕ). Is (bit (get_or marks z 0) (y % 64))) same (and_l _ _ s), omega arith)));
          once = λ p q _ _ _ _ e. omega arith;
        }

    pub enough : (n : ℕ) → n ≡ 0 + length (numbers (passed i) t.m) → n + count (in_word i) t.m ≤ places
    enough n counts =
        omega (
          arith,
          ap length (one_word_more t.m i),
          length-append (numbers (passed i) t.m) (numbers (in_word i) t.m),
          length_numbers (in_word i) t.m,
          length_numbers (passed (i + 1)) t.m,
          count_mono (passed (i + 1)) (is_marked marks) t.m (λ y _ s. below_in (is_marked marks) ((i + 1) * 64) y s),
          t.room,
        )

    abbrev pub word_comes : {n places' : ℕ} → places' ≡ places → n ≡ 0 + length (numbers (passed i) t.m)
        → Coming (λ j. i * 64 + j) (get_or marks i 0) n places'
    word_comes {n = n} {places' = places'} same counts =
        record {
          edges = in_word i;
          most = t.m;
          carried = word_carries;
          room = subst (λ (p : ℕ). n + count (in_word i) t.m ≤ p) (sym same) (enough n counts);
        }

  module _ {places : ℕ} (t : Markings marks places) {before : List ℕ} where
    pub no_word : MarksWritten before 0 (numbers (passed 0) t.m) before 0
    no_word =
        subst (λ (l : List ℕ). MarksWritten before 0 l before 0)
        (sym (numbers_none (passed 0) t.m (λ y _ s. absurd (omega (arith, below_lt (is_marked marks) 0 y s)))))
        (record { laid = laid_none before 0 (omega arith); counts = refl })

    pub next_word : {now after : List ℕ} {n n' : ℕ} (i : ℕ) → MarksWritten before 0 (numbers (passed i) t.m) now n → MarksWritten now n (numbers (in_word i) t.m) after n'
        → MarksWritten before 0 (numbers (passed (i + 1)) t.m) after n'
    next_word {after = after} {n' = n'} i f g = subst (λ (l : List ℕ). MarksWritten before 0 l after n') (sym (one_word_more t.m i)) (written_then f g)

    pub all_words : {now : List ℕ} {n : ℕ} (i : ℕ) → i ≡ 9 → MarksWritten before 0 (numbers (passed i) t.m) now n → MarksWritten before 0 (numbers (is_marked marks) t.m) now n
    all_words {now = now} {n = n} i nine f =
        subst (λ (l : List ℕ). MarksWritten before 0 l now n)
        (numbers_eq (passed i) (is_marked marks) t.m
        (λ y h. same_test _ _ (λ s. below_in (is_marked marks) (i * 64) y s) (λ s. below_make (is_marked marks) (i * 64) y s (omega (arith, h.high, t.small)))))
        f
