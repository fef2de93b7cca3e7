-- The reasons for saying no, by the table of document 01, and the order in which the calls check.
--
-- In order: each reason's number and what comes with it; a check, and the first of a list that fails; the checks of each call.
use Rattle.std.specs.Prelude.{◌≡◌, ◌⊎◌, ◌≢◌, List, [], ◌∷◌, ◌++◌, ℕ, ◌≤◌, ◌<◌, length}
use Rattle.rule.specs.declared.Book.{Book}
use Rattle.rule.specs.declared.Reason.{Reason}
use Rattle.rule.specs.declared.Reason.TheVariants.{Profile, Bodies, Body, SameBody, Colour, Full, Short, Unsound, Line}
use Rattle.rule.specs.Sets.{In}
use Rattle.rule.specs.declared.Edge.{Edge}
use Rattle.rule.specs.Books.{ProfileRange, BodiesRange, ColourRange, capacity, Sound, FirstBad}

abbrev pub number_of : Reason → ℕ
number_of Profile = 1
number_of Bodies = 2
number_of Body = 3
number_of SameBody = 4
number_of Colour = 5
number_of Full = 6
number_of Short = 7
number_of (Unsound place) = 8
number_of Line = 9

-- the place that comes with reason 8. With the others comes nothing, here 0
abbrev pub place_of : Reason → ℕ
place_of Profile = 0
place_of Bodies = 0
place_of Body = 0
place_of SameBody = 0
place_of Colour = 0
place_of Full = 0
place_of Short = 0
place_of (Unsound place) = place
place_of Line = 0

-- what must hold, the number of the reason where it does not, and which place then comes with it
pub record Check : Type 1 where
  pub must : Type 0
  pub number : ℕ
  pub with_it : ℕ → Type 0

-- with it comes nothing
abbrev pub plain : ℕ → Type 0 → Check
plain number must = record { must = must; number = number; with_it = λ place. place ≡ 0 }

-- all of the checks pass
abbrev pub Pass : List Check → Type 0
Pass [] = Unit
Pass (c ∷ rest) = c.must × Pass rest

-- the first check that fails says this number, and this place comes with it
abbrev pub FailBy : List Check → (number place : ℕ) → Type 0
FailBy [] number place = ⊥
FailBy (c ∷ rest) number place = (¬ c.must × (number ≡ c.number) × c.with_it place) ⊎ (c.must × FailBy rest number place)

-- the reason is what the first check that fails says
abbrev pub Fail : List Check → Reason → Type 0
Fail checks reason = FailBy checks (number_of reason) (place_of reason)

-- ---- the checks by themselves

-- 8: the book is sound; with it comes the first place that breaks a rule
abbrev pub soundness : Book → Check
soundness B = record { must = Sound B; number = 8; with_it = FirstBad B }

-- 7: a lent list has at least so many places, whether or not they would be filled
abbrev pub room : ℕ → List ℕ → Check
room places list = plain 7 (places ≤ length list)

-- the places that a list lent for a circuit, and one for groups, must have
abbrev pub circuit_room : ℕ
circuit_room = 378

abbrev pub groups_room : ℕ
groups_room = 64

-- ---- the checks of each call, in order

-- opening checks 1, 2
abbrev pub opening_checks : (a b n : ℕ) → List Check
opening_checks a b n = plain 1 (ProfileRange a b) ∷ plain 2 (BodiesRange n) ∷ []

-- the question checks 8, 5, 3, 4, 7
abbrev pub question_checks : Book → Edge → List ℕ → List Check
question_checks B given list =
    soundness B
    ∷ plain 5 (ColourRange given.colour)
    ∷ plain 3 (In B.n given.one × In B.n given.other)
    ∷ plain 4 (given.one ≢ given.other)
    ∷ room circuit_room list
    ∷ []

-- an offer checks the same, and 6
abbrev pub offer_checks : Book → Edge → List ℕ → List Check
offer_checks B given list = question_checks B given list ++ plain 6 (B.count < capacity) ∷ []

-- every other call on a book checks 8, then 7 where a list is lent
abbrev pub book_checks : Book → List Check
book_checks B = soundness B ∷ []

abbrev pub groups_checks : Book → List ℕ → List Check
groups_checks B list = soundness B ∷ room groups_room list ∷ []
