-- The search, word for word the rule of request #105.
--
-- A waiting edge tries its permitted forests in number order, passing over its own. The first forest in which its ends are not
-- joined ends the search. Otherwise the edges on the joining path, not yet reached, wait behind the others, smallest number
-- first. When the search ends, its edge goes into the forest found, the edge that reached it takes the forest thus left, and so
-- on back to the new edge.
use Rattle.std.specs.Prelude.{ℕ, zero, suc, Bool, true, false, List, [], ◌∷◌, ◌++◌, length, get_or, replicate}
use Rattle.rule.specs.Sets.{◌and◌, ◌or◌, isnt, ◌=?◌, ◌<?◌, Set, numbers}
use Rattle.rule.specs.Legal.{Design}
use Rattle.rule.specs.Forests.{limit, in_forest}
use Rattle.theory.specs.Joined.{spans, on_path}
use Rattle.theory.specs.Exchange.{shifted}

-- What has been reached: the edges in the order in which they wait, places counted from 0, first the new one; for each of them
-- the place of the edge that reached it; and the same edges as a set.
pub record Waiting : Type 0 where
  pub queue : List ℕ
  pub from : List ℕ
  pub seen : Set

-- the edge at a place, and the place of the edge that reached it
abbrev pub edge_at : Waiting → ℕ → ℕ
edge_at w place = get_or w.queue place 0

abbrev pub from_at : Waiting → ℕ → ℕ
from_at w place = get_or w.from place 0

-- the search has ended at a place, in a forest where the edge there is free; or it goes on
pub data Result : Type 0 where
  found : (place forest : ℕ) → Waiting → Result
  going : Waiting → Result

-- what comes next, unless the search has ended
abbrev pub and_then : Result → (Waiting → Result) → Result
and_then (found place forest w) next = found place forest w
and_then (going w) next = next w

-- only the new edge waits
unfoldable pub begin : ℕ → Waiting
begin e = record { queue = e ∷ []; from = 0 ∷ []; seen = λ y. y =? e }

-- the edges on the path of x in forest i that are not yet reached
unfoldable pub fresh : Design → (ℕ → ℕ) → Waiting → (x i : ℕ) → Set
fresh d forest w x i y = on_path d (in_forest forest i) x y and isnt (w.seen y)

-- they wait behind the others, smallest number first
unfoldable pub reach : Design → (ℕ → ℕ) → (place x i : ℕ) → Waiting → Waiting
reach d forest place x i w =
    let new = numbers (fresh d forest w x i) d.m in
    record {
      queue = w.queue ++ new;
      from = w.from ++ replicate (length new) place;
      seen = λ y. w.seen y or on_path d (in_forest forest i) x y;
    }

abbrev pub pick_result : Bool → Result → Result → Result
pick_result true a b = a
pick_result false a b = b

-- the edge x, waiting at a place, tries forest i
unfoldable pub try_forest : Design → (ℕ → ℕ) → (place x i : ℕ) → Waiting → Result
try_forest d forest place x i w =
    pick_result (forest x =? i) (going w) (pick_result (spans d (in_forest forest i) x) (going (reach d forest place x i w)) (found place i w))

-- it tries the forests 1 to j
unfoldable pub try_forests : Design → (ℕ → ℕ) → (place x j : ℕ) → Waiting → Result
try_forests d forest place x zero w = going w
try_forests d forest place x (suc j) w = and_then (try_forests d forest place x j w) (try_forest d forest place x (suc j))

-- the turn of a place: nothing where no edge waits there
unfoldable pub turn : Design → (ℕ → ℕ) → (place : ℕ) → Waiting → Result
turn d forest place w =
    pick_result (place <? length w.queue) (try_forests d forest place (edge_at w place) (limit d (edge_at w place)) w) (going w)

-- the turns of the first places
unfoldable pub turns : Design → (ℕ → ℕ) → (e places : ℕ) → Result
turns d forest e zero = going (begin e)
turns d forest e (suc place) = and_then (turns d forest e place) (turn d forest place)

-- no edge waits twice, so that m turns are enough
unfoldable pub search : Design → (ℕ → ℕ) → ℕ → Result
search d forest e = turns d forest e d.m

-- the edges by which a place was reached, after the new one, in front of those of the list: at most `steps` of them
unfoldable pub trail : Waiting → (steps place : ℕ) → List ℕ → List ℕ
trail w zero place l = l
trail w (suc steps) zero l = l
trail w (suc steps) (suc place) l = trail w steps (from_at w (suc place)) (edge_at w (suc place) ∷ l)

-- the path from the new edge to a place, without the new edge
unfoldable pub path_to : Waiting → ℕ → List ℕ
path_to w place = trail w place place []

-- the forests after the search for e: shifted along the path where it ended, as they were where it did not
abbrev pub settled : (ℕ → ℕ) → ℕ → Result → ℕ → ℕ
settled forest e (found place i w) = shifted forest (e ∷ path_to w place) i
settled forest e (going w) = forest
