-- What the readers of src/ compute, as functions of lists. That they find exactly the lines of specs/Lines.antt is shown in proofs/:
-- Scans (a number), Fields (with the byte that ends it), LineReads and EdgeReads (a line).
--
-- In order: a digit; a number; a number and the byte that ends it; a key; a number line; an edge line.
use Rattle.std.specs.Prelude.{Bool, true, false, Option, Some, None, List, [], ◌∷◌, ℕ, zero, suc, ◌+◌, ◌*◌, ◌-◌, length, get_or, drop}
use Rattle.rule.specs.Sets.{◌and◌, ◌=?◌, ◌<?◌}
use Rattle.text.specs.declared.Reading.{Reading}
use Rattle.text.specs.declared.EdgeRead.{EdgeRead}
use Rattle.text.specs.declared.Key.{Key}
use Rattle.text.specs.Lines.{pick, digit, LF, comma, key_red, key_black}

-- a number is found, and the place past it
abbrev pub reads : (value next : ℕ) → Option Reading
reads value next = Some (record { value = value; next = next })

-- the digit that a byte is, where it is one
unfoldable pub digit_of : ℕ → Option ℕ
digit_of x = pick (x <? digit 0) None (pick (digit 9 <? x) None (Some (x - digit 0)))

-- what was taken: at least one digit is wanted
unfoldable pub taken : ℕ → ℕ → Option Reading
taken value used = pick (used =? 0) None (reads value used)

-- what follows of a digit, and what where there is none
abbrev pub with_digit : {A : Type 0} → Option ℕ → A → (ℕ → A) → A
with_digit None none some = none
with_digit (Some d) none some = some d

-- up to `most` digits more, after `used` digits of the given value
unfoldable pub scan : (most value used : ℕ) → List ℕ → Option Reading
scan zero value used s = taken value used
scan (suc most) value used [] = taken value used
scan (suc most) value used (x ∷ s) = with_digit (digit_of x) (taken value used) (λ d. scan most (10 * value + d) (used + 1) s)

-- the number of at most `most` digits that s begins with. After a leading zero no digit belongs to it
unfoldable pub read_number : ℕ → List ℕ → Option Reading
read_number most s = pick (get_or s 0 0 =? digit 0) (reads 0 1) (scan most 0 0 s)

-- ---- at a place of a text

-- the byte `stop` is to follow the number; what is used is then the place past that byte
unfoldable pub closed : ℕ → List ℕ → ℕ → Option Reading → Option Reading
closed stop text at (Some r) = pick (get_or text (at + r.next) 0 =? stop) (reads r.value (at + r.next + 1)) None
closed stop text at None = None

-- a number of a text, of at most `most` digits, and the byte that ends it
unfoldable pub read_field : (most stop : ℕ) → List ℕ → ℕ → Option Reading
read_field most stop text at = closed stop text at (read_number most (drop at text))

unfoldable pub begins : List ℕ → List ℕ → Bool
begins [] s = true
begins (k ∷ key) [] = false
begins (k ∷ key) (x ∷ s) = x =? k and begins key s

unfoldable pub begins_at : List ℕ → List ℕ → ℕ → Bool
begins_at key text at = pick (length text <? at) false (begins key (drop at text))

-- a line of a key and one number
unfoldable pub read_number_line : List ℕ → List ℕ → ℕ → Option Reading
read_number_line key text at = pick (begins_at key text at) (read_field 3 LF text (at + length key)) None

-- ---- an edge line

unfoldable pub other_end : (one colour : ℕ) → Option Reading → Option EdgeRead
other_end one colour (Some r) = Some (record { one = one; other = r.value; colour = colour; next = r.next })
other_end one colour None = None

unfoldable pub one_end : List ℕ → ℕ → Option Reading → Option EdgeRead
one_end text colour (Some r) = other_end r.value colour (read_field 3 LF text r.next)
one_end text colour None = None

-- the two numbers of an edge line, past its key
unfoldable pub read_ends : List ℕ → (at colour : ℕ) → Option EdgeRead
read_ends text at colour = one_end text colour (read_field 3 comma text at)

-- the colour whose key stands there, and the place past it
unfoldable pub read_key : List ℕ → ℕ → Option Key
read_key text at =
    pick (begins_at key_red text at) (Some (record { colour = 1; next = at + 4 }))
    (pick (begins_at key_black text at) (Some (record { colour = 2; next = at + 6 })) None)

unfoldable pub keyed : List ℕ → Option Key → Option EdgeRead
keyed text (Some k) = read_ends text k.next k.colour
keyed text None = None

unfoldable pub read_edge : List ℕ → ℕ → Option EdgeRead
read_edge text at = keyed text (read_key text at)
