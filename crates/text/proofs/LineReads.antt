-- What `read_number_line` (specs/Readings.antt) finds at a place of a text: the line, if it is there, and nothing else. And a number line
-- that a text begins with is determined. Edge lines are in proofs/EdgeReads.antt.
--
-- In order: a line taken apart; a key; a number line.
-- Assumes nothing.
use mathlib.Core.Path.{◌≡◌, refl, sym, ap, ◌∙◌}
use mathlib.Core.Bool.{true, false}
use mathlib.Core.Logic.{◌≢◌}
use mathlib.Core.List.{List, [], ◌∷◌, ◌++◌, append_assoc}
use Prim.Native.Nat.{ℕ, ◌+◌, ◌≤◌, ◌<◌}
use native.Mathlib.Omega.{arith}
use lib.ListN.{length, take, drop, length-append}
use lib.Seq.{drop-drop, drop-append_seam, take-append_seam, take_at}
use Rattle.rule.specs.Sets.{Is}
use Rattle.rule.proofs.Tests.{cases}
use Rattle.std.specs.Prelude.{Some, None}
use Rattle.std.proofs.lemmas.Option.{none-some}
use Rattle.text.specs.declared.Reading.{Reading}
use Rattle.text.specs.Lines.{numeral, Number, LF, comma, listed, line}
use Rattle.text.specs.Readings.{digit_of, read_field, begins, begins_at, read_number_line}
use Rattle.text.proofs.Picks.{pick_is, pick_not, pick_false}
use Rattle.text.proofs.Numerals.{numeral_determined}
use Rattle.text.proofs.Scans.{no_digit}
use Rattle.text.proofs.Keys.{begins_of, begins_is, begins_at_in, begins_at_within}
use Rattle.text.proofs.Fields.{past_front, field_complete, field_determined, field_sound}

-- ---- a line taken apart

pub line_one : (key : List ℕ) (n : ℕ) (more : List ℕ) → line key (n ∷ []) ++ more ≡ key ++ (numeral n ++ LF ∷ more)
unfolding line listed
line_one key n more = simp append_assoc

pub line_two : (key : List ℕ) (n m : ℕ) (more : List ℕ)
    → line key (n ∷ m ∷ []) ++ more ≡ key ++ (numeral n ++ comma ∷ (numeral m ++ LF ∷ more))
unfolding line listed
line_two key n m more = simp append_assoc

-- a line as it is written: the key, the digits, the LF
pub line_written : (key : List ℕ) (n : ℕ) → line key (n ∷ []) ≡ (key ++ numeral n) ++ LF ∷ []
unfolding line listed
line_written key n = simp append_assoc

-- neither byte that ends a number is a digit
pub LF-ends : digit_of LF ≡ None
LF-ends = no_digit LF (λ h. absurd (omega (arith, h.low)))

pub comma_ends : digit_of comma ≡ None
comma_ends = no_digit comma (λ h. absurd (omega (arith, h.low)))

-- ---- a key

pub key_there : (key text : List ℕ) (at : ℕ) → Is (begins_at key text at) → drop at text ≡ key ++ drop (at + length key) text
key_there key text at h =
    let inside = begins_at_within key text at h in
    begins_of key (drop at text) (sym (begins_at_in key text at (omega arith)) ∙ h)
    ∙ ap (λ (s : List ℕ). key ++ s) (drop-drop (length key) at text)

pub key_found : (key text more : List ℕ) (at : ℕ) → at ≤ length text → drop at text ≡ key ++ more → Is (begins_at key text at)
key_found key text more at l e = begins_at_in key text at l ∙ ap (begins key) e ∙ begins_is key more

-- what follows equal keys
pub after_key : (key r q : List ℕ) → key ++ r ≡ key ++ q → r ≡ q
after_key key r q e = sym (drop-append_seam key r) ∙ ap (drop (length key)) e ∙ drop-append_seam key q

-- ---- a number line

module _ (key text : List ℕ) (at : ℕ) where
  pub line_keyed : true ≡ begins_at key text at → read_number_line key text at ≡ read_field 3 LF text (at + length key)
  unfolding read_number_line
  line_keyed h = pick_is _ _ _ (sym h)

  pub line_other : false ≡ begins_at key text at → read_number_line key text at ≡ None
  unfolding read_number_line
  line_other h = pick_false _ _ _ h refl

  -- past a key that stands there the text goes on
  pub key_room : true ≡ begins_at key text at → at + length key ≤ length text
  key_room h = begins_at_within key text at (sym h)

pub ruleset number_lines = (line_keyed, line_other, key_room)

-- a line of a key and one number is of one number, however many digits it has
pub line_number_determined : (key : List ℕ) (n m : ℕ) → line key (n ∷ []) ≡ line key (m ∷ []) → n ≡ m
line_number_determined key n m q =
    let rest : numeral n ++ LF ∷ [] ≡ numeral m ++ LF ∷ [] =
    after_key key _ _ (sym (line_one key n []) ∙ ap (λ (s : List ℕ). s ++ []) q ∙ line_one key m []) in
    let long : length (numeral n) ≡ length (numeral m) =
    omega (arith, ap length rest, length-append (numeral n) (LF ∷ []), length-append (numeral m) (LF ∷ [])) in
    numeral_determined n m
    (sym (take-append_seam (numeral n) (LF ∷ []))
    ∙ ap (take (length (numeral n))) rest
    ∙ take_at (numeral m) (LF ∷ []) (length (numeral n)) (sym long))

module _ (key : List ℕ) where
  pub number_line_determined : (n m : ℕ) (r q : List ℕ) → Number n → Number m → line key (n ∷ []) ++ r ≡ line key (m ∷ []) ++ q
      → (n ≡ m) × (r ≡ q)
  number_line_determined n m r q hn hm e =
      field_determined 2 LF LF-ends n m r q hn hm (after_key key _ _ (sym (line_one key n r) ∙ e ∙ line_one key m q))

  pub record NumberLineAt (text : List ℕ) (at n next : ℕ) : Type 0 where
    pub small : Number n
    pub begins : drop at text ≡ line key (n ∷ []) ++ drop next text
    pub past : at < next
    pub within : next ≤ length text

  pub number_line_sound : (text : List ℕ) (at : ℕ) (r : Reading) → read_number_line key text at ≡ Some r → NumberLineAt text at r.value r.next
  unfolding read_number_line
  number_line_sound text at r e =
      cases (begins_at key text at)
      (λ h.
      let f = field_sound 2 LF text (at + length key) r (omega arith) (sym (pick_is _ _ _ h) ∙ e) in
      record {
        small = f.small;
        begins = key_there key text at h ∙ ap (λ (s : List ℕ). key ++ s) f.begins ∙ sym (line_one key r.value (drop r.next text));
        past = omega (arith, f.past);
        within = f.within;
      })
      (λ h. absurd (none-some r (sym (pick_not _ _ _ h) ∙ e)))

  pub number_line_none : (text : List ℕ) (at : ℕ) → at ≤ length text → read_number_line key text at ≡ None → (n : ℕ) (more : List ℕ)
      → Number n → drop at text ≢ line key (n ∷ []) ++ more
  unfolding read_number_line
  number_line_none text at l e n more small q =
      let whole = q ∙ line_one key n more in
      let number = field_complete 2 LF LF-ends text (at + length key) n more small (past_front text key _ at whole) in
      let found = pick_is _ _ _ (key_found key text _ at l whole) ∙ number in
      absurd (none-some _ (sym e ∙ found))
