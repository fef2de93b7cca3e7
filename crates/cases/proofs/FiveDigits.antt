-- A number of five digits at most is below 100,000. Assumes nothing.
use mathlib.Core.Path.{◌≡◌, sym, subst, ◌∙◌}
use mathlib.Core.Bool.{Bool, true, false}
use mathlib.Core.List.{List, [], ◌∷◌}
use Prim.Native.Nat.{ℕ, zero, suc, ◌+◌, ◌*◌, ◌-◌, ◌≤◌, ◌<◌}
use native.Mathlib.Omega.{arith}
use Rattle.std.specs.Prelude.{Option, Some, None}
use Rattle.rule.specs.Sets.{◌=?◌, ◌<?◌}
use Rattle.rule.proofs.Tests.{by_le}
use Rattle.text.proofs.Picks.{pick_lt, pick_ge}
use Rattle.text.specs.declared.Reading.{Reading}
use Rattle.text.specs.Lines.{pick, digit}
use Rattle.text.specs.Readings.{digit_of, taken, with_digit, scan, read_number}

abbrev pub Below : Option Reading → Type 0
Below None = Unit {0}
Below (Some r) = r.value < 100000

picked : (b : Bool) (x y : Option Reading) → Below x → Below y → Below (pick b x y)
unfolding pick
picked true x y h k = h
picked false x y h k = k

taken_below : (v u : ℕ) → v < 100000 → Below (taken v u)
unfolding taken
taken_below v u h = picked (u =? 0) _ _ tt h

-- what follows a byte, where a digit gives a number that is small still
turned : (x : ℕ) (none : Option Reading) (some : ℕ → Option Reading) → Below none → ((d : ℕ) → d < 10 → Below (some d)) → Below (with_digit (digit_of x) none some)
unfolding digit_of
turned x none some h k =
    by_le (digit 0) x
    (λ low. by_le x (digit 9)
    (λ high. subst (λ o. Below (with_digit o none some)) (sym (pick_ge x (digit 0) _ _ low ∙ pick_ge (digit 9) x _ _ high)) (k (x - digit 0) (omega arith)))
    (λ above. subst (λ o. Below (with_digit o none some)) (sym (pick_ge x (digit 0) _ _ low ∙ pick_lt (digit 9) x _ _ above)) h))
    (λ below. subst (λ o. Below (with_digit o none some)) (sym (pick_lt x (digit 0) _ _ below)) h)

-- one digit more, and the rest
further : (most limit : ℕ) → limit ≤ 100000 → ((v u : ℕ) (s : List ℕ) → v < 10 * limit → Below (scan most v u s))
    → (v u : ℕ) (s : List ℕ) → v < limit → Below (scan (suc most) v u s)
unfolding scan
further most limit l rest v u [] h = taken_below v u (omega arith)
further most limit l rest v u (x ∷ s) h =
    turned x _ _ (taken_below v u (omega arith)) (λ d small. rest (10 * v + d) (u + 1) s (omega arith))

last : (v u : ℕ) (s : List ℕ) → v < 100000 → Below (scan 0 v u s)
unfolding scan
last v u s h = taken_below v u h

pub number_below : (s : List ℕ) → Below (read_number 5 s)
unfolding read_number
number_below s =
    let one = further 0 10000 (omega arith) last in
    let two = further 1 1000 (omega arith) one in
    let three = further 2 100 (omega arith) two in
    let four = further 3 10 (omega arith) three in
    picked _ _ _ (omega arith) (further 4 1 (omega arith) four 0 0 s (omega arith))
