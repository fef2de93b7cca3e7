-- Laws of `Laid`: nothing is laid at first, a store behind the list makes it one longer, and a list behind a list is one list. What stood before
-- the place, with the list, is then the front of the array, which is as long as it was.
-- Assumes nothing.
use mathlib.Core.Path.{◌≡◌, sym, ap, ap₂, ◌∙◌, subst, subst₂}
use mathlib.Core.List.{List, [], ◌∷◌, ◌++◌, append_assoc, append-nil}
use Prim.Native.Nat.{ℕ, suc, ◌+◌, ◌≤◌, ◌<◌}
use native.Mathlib.Nat.{add-zero, zero-add}
use native.Mathlib.Numerals.{add-one}
use native.Mathlib.Omega.{arith}
use lib.ListN.{length, get_or, take, drop, set, replicate, length-append, length-replicate, replicate-append-replicate, length-drop, take-append-drop}
use lib.Seq.{length-take-le, drop-cons, append_snoc, drop-append-add, drop-drop, set_at, take_at}
use Rattle.rule.specs.Calls.{Filled}
use Rattle.reaching.specs.Laid.{Laid}

pub laid_none : (old : List ℕ) (place : ℕ) → place ≤ length old → Laid old place [] old
laid_none old place h =
    record { room = omega arith; over = sym (ap₂ (λ (l : List ℕ) (n : ℕ). l ++ drop n old) (append-nil (take place old)) (add-zero place) ∙ take-append-drop place old) }

module _ {old : List ℕ} {place : ℕ} {list now : List ℕ} (f : Laid old place list now) where
  front_length : length (take place old ++ list) ≡ place + length list
  front_length = omega (arith, length-append (take place old) list, length-take-le place old (omega (arith, f.room)))

  pub laid_length : length now ≡ length old
  laid_length =
      ap length f.over
      ∙ omega (arith, f.room, front_length, length-append (take place old ++ list) (drop (place + length list) old), length-drop (place + length list) old)

  pub laid_front : take (place + length list) now ≡ take place old ++ list
  laid_front = ap (take (place + length list)) f.over ∙ take_at (take place old ++ list) _ _ front_length

  pub laid_more : (x : ℕ) → place + length list < length old → Laid old place (list ++ (x ∷ [])) (set now (place + length list) x)
  laid_more x h =
      let n = place + length list in
      let one_more : suc n ≡ place + length (list ++ (x ∷ [])) = omega (arith, length-append list (x ∷ [])) in
      record {
        room = omega arith;
        over =
            ap (λ (l : List ℕ). set l n x) (f.over ∙ ap (λ (l : List ℕ). take place old ++ list ++ l) (drop-cons old n 0 h))
            ∙ set_at (take place old ++ list) (get_or old n 0) (drop (suc n) old) x n front_length
            ∙ sym (append_snoc (take place old ++ list) x (drop (suc n) old))
            ∙ ap₂ (λ (l : List ℕ) (j : ℕ). l ++ drop j old) (append_assoc (take place old) list (x ∷ [])) one_more;
      }

-- from the first place on: as crate rule says it
pub laid_first : {old list now : List ℕ} → Laid old 0 list now → Filled list old now
laid_first {old = old} {list = list} f = f.over ∙ ap (λ (n : ℕ). list ++ drop n old) (zero-add (length list))

-- the same number once more
pub laid_repeat : {old now : List ℕ} {place : ℕ} (n x : ℕ) → Laid old place (replicate n x) now → place + n < length old
    → Laid old place (replicate (suc n) x) (set now (place + n) x)
laid_repeat {old = old} {now = now} {place = place} n x f h =
    subst₂ (λ (l : List ℕ) (j : ℕ). Laid old place l (set now (place + j) x)) (replicate-append-replicate n 1 x ∙ ap (λ (j : ℕ). replicate j x) (add-one n))
    (length-replicate n x)
    (laid_more f x (omega (arith, length-replicate n x)))

-- one list, and then another behind it
pub laid_then : {old mid now l k : List ℕ} {place : ℕ} → Laid old place l mid → Laid mid (place + length l) k now → Laid old place (l ++ k) now
laid_then {old = old} {mid = mid} {now = now} {l = l} {k = k} {place = place} f g =
    let n = place + length l in
    let both : n + length k ≡ place + length (l ++ k) = omega (arith, length-append l k) in
    record {
      room = omega (arith, g.room, laid_length f);
      over =
          g.over
          ∙ ap₂ (λ (a b : List ℕ). a ++ k ++ b) (laid_front f) (ap (drop (n + length k)) f.over ∙ past)
          ∙ ap₂ (λ (a : List ℕ) (j : ℕ). a ++ drop j old) (append_assoc (take place old) l k) both;
    }
  where
    past : drop (place + length l + length k) (take place old ++ l ++ drop (place + length l) old) ≡ drop (place + length l + length k) old
    past =
        subst (λ (z : ℕ). drop (z + length k) (take place old ++ l ++ drop (place + length l) old) ≡ drop (place + length l + length k) old) (front_length f)
        (drop-append-add (take place old ++ l) (drop (place + length l) old) (length k) ∙ drop-drop (length k) (place + length l) old)
