-- What `read_field` (specs/Readings.antt) finds at a place of a text: a number and the byte that ends it, or that there is none.
--
-- In order: the parts of a text; the cases of `read_field`; it finds each number that is there, and nothing else; a number and the byte
-- that ends it are determined by what they begin.
-- Assumes nothing.
use mathlib.Core.Path.{◌≡◌, refl, sym, ap, ◌∙◌, subst}
use mathlib.Core.Logic.{◌≢◌}
use mathlib.Core.List.{List, [], ◌∷◌, ◌++◌}
use Prim.Native.Nat.{ℕ, zero, suc, ◌+◌, ◌-◌, ◌^◌, ◌≤◌, ◌<◌}
use native.Mathlib.Omega.{arith}
use lib.ListN.{length, get_or, take, drop, length-drop, length-append, drop_of_length-le}
use lib.Seq.{take_all, drop-drop, get_or-drop, drop-append_seam}
use Rattle.rule.specs.Sets.{◌=?◌}
use Rattle.rule.proofs.Tests.{by_le, by_eq}
use Rattle.std.specs.Prelude.{Option, Some, None}
use Rattle.std.proofs.lemmas.Option.{none-some, same_Some}
use Rattle.text.specs.declared.Reading.{Reading}
use Rattle.text.specs.Lines.{pick, numeral}
use Rattle.text.specs.Readings.{reads, digit_of, taken, scan, read_number, closed, read_field}
use Rattle.text.proofs.Picks.{pick_eq, pick_ne}
use Rattle.text.proofs.Scans.{number_complete, NumberAt, number_sound}

-- ---- parts

-- what a callee sees that is lent the text from a place on
pub part_rest : (text : List ℕ) (at : ℕ) → take (length text - at) (drop at text) ≡ drop at text
part_rest text at = take_all (length text - at) (drop at text) (omega (arith, length-drop at text))

-- what it then reads
pub read_told : {o p : Option Reading} (most : ℕ) (text : List ℕ) (at : ℕ) → o ≡ read_number most (take (length text - at) (drop at text)) → o ≡ p
    → read_number most (drop at text) ≡ p
read_told most text at e q = sym (e ∙ ap (read_number most) (part_rest text at)) ∙ q

-- what follows a front is what lies past its length
pub past_front : (text front more : List ℕ) (at : ℕ) → drop at text ≡ front ++ more → drop (at + length front) text ≡ more
past_front text front more at e = sym (drop-drop (length front) at text) ∙ ap (drop (length front)) e ∙ drop-append_seam front more

pub front_within : (text front more : List ℕ) (at : ℕ) → at ≤ length text → drop at text ≡ front ++ more → at + length front ≤ length text
front_within text front more at h e = omega (arith, ap length e, length-append front more, length-drop at text)

-- the digits of a number end within the text
pub used_within : (most : ℕ) (text : List ℕ) (at : ℕ) (r : Reading) → 1 ≤ most → read_number most (drop at text) ≡ Some r → at ≤ length text
    → at + r.next ≤ length text
used_within zero text at r some e h = absurd (omega arith)
used_within (suc w) text at r some e h =
    let found = number_sound w (drop at text) r e in
    omega (arith, found.uses, front_within text (numeral r.value) found.rest at h found.begins)

-- ---- the cases

none_past : (most : ℕ) → read_number most [] ≡ None
unfolding read_number scan taken pick ◌=?◌
none_past zero = refl
none_past (suc w) = refl

module _ (most stop : ℕ) (text : List ℕ) (at : ℕ) where
  pub field_past : length text < at → read_field most stop text at ≡ None
  unfolding read_field closed
  field_past h =
      ap (λ (s : List ℕ). closed stop text at (read_number most s)) (drop_of_length-le text {i = at} (omega arith))
      ∙ ap (closed stop text at) (none_past most)

  pub field_none : read_number most (drop at text) ≡ None → read_field most stop text at ≡ None
  unfolding read_field closed
  field_none e = ap (closed stop text at) e

  module _ (r : Reading) (e : read_number most (drop at text) ≡ Some r) where
    pub field_is : get_or text (at + r.next) 0 ≡ stop → read_field most stop text at ≡ reads r.value (at + r.next + 1)
    unfolding read_field closed
    field_is h = ap (closed stop text at) e ∙ pick_eq _ _ _ _ h

    pub field_other : get_or text (at + r.next) 0 ≢ stop → read_field most stop text at ≡ None
    unfolding read_field closed
    field_other h = ap (closed stop text at) e ∙ pick_ne _ _ _ _ h

pub ruleset fields = (part_rest, used_within, field_past, field_none, field_is, field_other)

-- ---- a number that is there is found

-- the byte after a front of k bytes is what follows it
byte_after : (text front more : List ℕ) (at : ℕ) → drop at text ≡ front ++ more → get_or text (at + length front) 0 ≡ get_or more 0 0
byte_after text front more at e =
    sym (get_or-drop at text (length front) 0) ∙ ap (λ (s : List ℕ). get_or s (length front) 0) e ∙ at_seam front more
  where
    at_seam : (xs ys : List ℕ) → get_or (xs ++ ys) (length xs) 0 ≡ get_or ys 0 0
    at_seam [] ys = refl
    at_seam (x ∷ xs) ys = at_seam xs ys

module _ (w stop : ℕ) (ends : digit_of stop ≡ None) where
  pub field_complete : (text : List ℕ) (at n : ℕ) (more : List ℕ) → n < 10 ^ suc w → drop at text ≡ numeral n ++ stop ∷ more
      → read_field (suc w) stop text at ≡ reads n (at + length (numeral n) + 1)
  field_complete text at n more small e =
      field_is (suc w) stop text at (record { value = n; next = length (numeral n) })
      (ap (read_number (suc w)) e ∙ number_complete w n (stop ∷ more) small ends)
      (byte_after text (numeral n) (stop ∷ more) at e)

  -- a number and the byte that ends it are determined by what they begin
  pub field_determined : (n m : ℕ) (r q : List ℕ) → n < 10 ^ suc w → m < 10 ^ suc w → numeral n ++ stop ∷ r ≡ numeral m ++ stop ∷ q → (n ≡ m) × (r ≡ q)
  field_determined n m r q hn hm e =
      let left = number_complete w n (stop ∷ r) hn ends in
      let right = number_complete w m (stop ∷ q) hm ends in
      let same : n ≡ m = ap (λ (r : Reading). r.value) (same_Some _ _ (sym left ∙ ap (read_number (suc w)) e ∙ right)) in
      let tails : stop ∷ r ≡ stop ∷ q =
      sym (drop-append_seam (numeral n) (stop ∷ r))
      ∙ ap (drop (length (numeral n))) e
      ∙ ap (λ (k : ℕ). drop (length (numeral k)) (numeral m ++ stop ∷ q)) same
      ∙ drop-append_seam (numeral m) (stop ∷ q) in
      (same, ap (drop 1) tails)

-- ---- what is found is there

pub record FieldAt (w stop : ℕ) (text : List ℕ) (at n next : ℕ) : Type 0 where
  pub small : n < 10 ^ suc w
  pub begins : drop at text ≡ numeral n ++ stop ∷ drop next text
  pub past : next ≡ at + length (numeral n) + 1
  pub within : next ≤ length text

-- a list whose first element is x, which is not the default
first_is : (s : List ℕ) (x : ℕ) → 1 ≤ x → get_or s 0 0 ≡ x → s ≡ x ∷ drop 1 s
first_is [] x h e = absurd (omega arith)
first_is (y ∷ s) x h e = ap (λ (z : ℕ). z ∷ s) e

field_there : (w stop : ℕ) (text : List ℕ) (at v k : ℕ) → 1 ≤ stop → at ≤ length text → get_or text (at + k) 0 ≡ stop
    → NumberAt w (drop at text) v k → FieldAt w stop text at v (at + k + 1)
field_there w stop text at v k h l b f =
    let place : at + k ≡ at + length (numeral v) = ap (λ (i : ℕ). at + i) f.uses in
    let first : get_or f.rest 0 0 ≡ stop =
    sym (byte_after text (numeral v) f.rest at f.begins) ∙ ap (λ (i : ℕ). get_or text i 0) (sym place) ∙ b in
    let rest = first_is f.rest stop h first in
    let left : drop (at + k) text ≡ f.rest = ap (λ (i : ℕ). drop i text) place ∙ past_front text (numeral v) f.rest at f.begins in
    let more = ap (drop 1) (sym left) ∙ drop-drop 1 (at + k) text in
    record {
      small = f.small;
      begins = f.begins ∙ ap (λ (s : List ℕ). numeral v ++ s) (rest ∙ ap (λ (s : List ℕ). stop ∷ s) more);
      past = ap (λ (i : ℕ). i + 1) place;
      within = omega (arith, f.uses, ap length rest, ap length f.begins, length-append (numeral v) f.rest, length-drop at text);
    }

pub field_sound : (w stop : ℕ) (text : List ℕ) (at : ℕ) (r : Reading) → 1 ≤ stop → read_field (suc w) stop text at ≡ Some r
    → FieldAt w stop text at r.value r.next
field_sound w stop text at r h e =
    by_le at (length text) (λ l. found l (read_number (suc w) (drop at text)) refl) (λ l. refuted (field_past (suc w) stop text at l))
  where
    refuted : {C : Type 0} → read_field (suc w) stop text at ≡ None → C
    refuted q = absurd (none-some r (sym q ∙ e))

    found : at ≤ length text → (o : Option Reading) → read_number (suc w) (drop at text) ≡ o → FieldAt w stop text at r.value r.next
    found l None q = refuted (field_none (suc w) stop text at q)
    found l (Some s) q =
        by_eq (get_or text (at + s.next) 0) stop
        (λ b.
        subst (λ (x : Reading). FieldAt w stop text at x.value x.next)
        (same_Some (record { value = s.value; next = at + s.next + 1 }) r (sym (field_is (suc w) stop text at s q b) ∙ e))
        (field_there w stop text at s.value s.next h l b (number_sound w (drop at text) s q)))
        (λ b. refuted (field_other (suc w) stop text at s q b))
