-- A split of the black edges of a set is a deal of its bars into two lists, both ways.
--
-- A split says of each edge whether it goes into the first part; a deal says so of each bar, from the last edge down. Given a split, the bars of
-- the two parts are a deal. Given a deal, the choice that it makes for the last edge is put in front of the choices for the others.
-- Not here: which parts are sparse, which is in Inside.antt.
-- Assumes nothing.
use mathlib.Core.Path.{◌≡◌, refl, sym, ap, ap₂, ◌∙◌}
use mathlib.Core.Bool.{Bool, true, false}
use mathlib.Core.List.{List}
use Prim.Native.Nat.{ℕ, zero, suc}
use native.Mathlib.Omega.{arith}
use Rattle.rule.specs.Sets.{◌and◌, ◌or◌, isnt, Set, put}
use Rattle.rule.specs.Legal.{Design, first_part, second_part}
use Rattle.rule.proofs.Tests.{or_r, put_same, put_other, in_one, in_last}
use Rattle.rule.proofs.Counting.{Agree}
use Rattle.restated.specs.Bars.{Bar, Dealt}
use Rattle.restated.specs.Bars.Dealt.{all_dealt, to_first, to_second}
use Rattle.restated.specs.BookBars.{front_if}
use Rattle.restated.proofs.Inside.{edge_bar, bars_of}

-- ---- one bar

-- the deal of one bar more, where the test t holds: to the first list if it is red or chosen
deal_one : (x : Bar) (bars first second : List Bar) (t r c : Bool) → x.red ≡ r → Dealt bars first second
    → Dealt (front_if t x bars) (front_if (t and (r or c)) x first) (front_if (t and isnt (r or c)) x second)
unfolding ◌and◌ ◌or◌ isnt
deal_one x bars first second true true c q h = to_first h
deal_one x bars first second true false true q h = to_first h
deal_one x bars first second true false false q h = to_second q h
deal_one x bars first second false r c q h = h

-- and every deal of one bar more is such a one
record DealOfOne (x : Bar) (bars first second : List Bar) (t : Bool) : Type 0 where
  chosen : Bool
  firsts : List Bar
  seconds : List Bar
  is_first : first ≡ front_if (t and (x.red or chosen)) x firsts
  is_second : second ≡ front_if (t and isnt (x.red or chosen)) x seconds
  rest : Dealt bars firsts seconds

dealt_one : (x : Bar) (bars first second : List Bar) (t : Bool) → Dealt (front_if t x bars) first second → DealOfOne x bars first second t
unfolding ◌and◌ ◌or◌ isnt
dealt_one x bars first second false h =
    record { chosen = true; firsts = first; seconds = second; is_first = refl; is_second = refl; rest = h }
dealt_one x bars first second true (to_first {first = firsts} h) =
    let q : x.red or true ≡ true = or_r x.red true refl in
    record {
      chosen = true;
      firsts = firsts;
      seconds = second;
      is_first = ap (λ (z : Bool). front_if z x firsts) (sym q);
      is_second = ap (λ (z : Bool). front_if (isnt z) x second) (sym q);
      rest = h;
    }
dealt_one x bars first second true (to_second {second = seconds} black h) =
    record {
      chosen = false;
      firsts = first;
      seconds = seconds;
      is_first = ap (λ (z : Bool). front_if (z or false) x first) (sym black);
      is_second = ap (λ (z : Bool). front_if (isnt (z or false)) x seconds) (sym black);
      rest = h;
    }

-- ---- all bars

pub split_dealt : (d : Design) (s first : Set) (m : ℕ) → Dealt (bars_of d s m) (bars_of d (first_part d s first) m) (bars_of d (second_part d s first) m)
unfolding bars_of edge_bar first_part second_part
split_dealt d s first zero = all_dealt
split_dealt d s first (suc m) = deal_one (edge_bar d (suc m)) (bars_of d s m) _ _ (s (suc m)) (d.red (suc m)) (first (suc m)) refl (split_dealt d s first m)

pub bars_agree : (d : Design) (s t : Set) (m : ℕ) → Agree m s t → bars_of d s m ≡ bars_of d t m
unfolding bars_of
bars_agree d s t zero f = refl
bars_agree d s t (suc m) f =
    ap₂ (λ (b : Bool) (l : List Bar). front_if b (edge_bar d (suc m)) l) (f (suc m) (in_last m)) (bars_agree d s t m (λ i h. f i (in_one m i h)))

-- a part of s by a choice, where side says which part, and the same with a choice for one edge more
module _ (d : Design) (s : Set) (side : Bool → Bool) where
  abbrev side_part : Set → Set
  side_part first e = s e and side (d.red e or first e)

  part_more : (m : ℕ) (first : Set) (c : Bool) (l : List Bar) → l ≡ bars_of d (side_part first) m
      → front_if (s (suc m) and side (d.red (suc m) or c)) (edge_bar d (suc m)) l ≡ bars_of d (side_part (put first (suc m) c)) (suc m)
  unfolding bars_of
  part_more m first c l q =
      let same : Agree m (side_part first) (side_part (put first (suc m) c)) =
      λ i h. ap (λ (z : Bool). s i and side (d.red i or z)) (sym (put_other first (suc m) c i (omega arith))) in
      ap₂ (λ (z : Bool) (k : List Bar). front_if (s (suc m) and side (d.red (suc m) or z)) (edge_bar d (suc m)) k) (sym (put_same first (suc m) c))
      (q ∙ bars_agree d (side_part first) (side_part (put first (suc m) c)) m same)

-- a deal of the bars of s comes from a split of its edges
pub record Split (d : Design) (s : Set) (m : ℕ) (firsts seconds : List Bar) : Type 0 where
  pub first : Set
  pub is_first : firsts ≡ bars_of d (first_part d s first) m
  pub is_second : seconds ≡ bars_of d (second_part d s first) m

pub dealt_split : (d : Design) (s : Set) (m : ℕ) (firsts seconds : List Bar) → Dealt (bars_of d s m) firsts seconds → Split d s m firsts seconds
unfolding bars_of edge_bar first_part second_part
dealt_split d s zero firsts seconds all_dealt = record { first = λ _. true; is_first = refl; is_second = refl }
dealt_split d s (suc m) firsts seconds h =
    let one = dealt_one (edge_bar d (suc m)) (bars_of d s m) firsts seconds (s (suc m)) h in
    let others = dealt_split d s m one.firsts one.seconds one.rest in
    record {
      first = put others.first (suc m) one.chosen;
      is_first = one.is_first ∙ part_more d s (λ z. z) m others.first one.chosen one.firsts others.is_first;
      is_second = one.is_second ∙ part_more d s isnt m others.first one.chosen one.seconds others.is_second;
    }
