-- The search is run on designs of document 01, by computation, so that it is seen to do what it says: the forests after all offers, and
-- the circuits.
-- Assumes nothing.
use mathlib.Core.Path.{◌≡◌, refl}
use mathlib.Core.List.{List, [], ◌∷◌, ◌++◌}
use Prim.Native.Nat.{ℕ, zero, suc}
use lib.ListN.{length}
use Rattle.rule.specs.Sets.{◌and◌, ◌or◌, isnt, ◌=?◌, ◌<?◌, ◌≤?◌, put, ◌without◌, count, at, numbers}
use Rattle.rule.specs.Legal.{Design}
use Rattle.rule.specs.Forests.{limit, in_forest}
use Rattle.theory.specs.Joined.{linked, joined_up_to, joined, spans, on_path}
use Rattle.theory.specs.Exchange.{shifted}
use Rattle.theory.specs.Search.{Result, begin, fresh, reach, try_forest, try_forests, turn, turns, search, trail, path_to, settled}
use Rattle.theory.specs.Search.Result.{found, going}

-- f 1 to f m, as a list
table : (ℕ → ℕ) → ℕ → List ℕ
table f zero = []
table f (suc m) = table f m ++ (f (suc m) ∷ [])

-- what is said of an edge: nothing where it is kept, its circuit where it is implied
said : Design → ℕ → Result → List ℕ
said d e (found place i w) = []
said d e (going w) = numbers (w.seen without e) d.m

-- the edges offered so far have these forests, and these circuits were listed
record Run : Type 0 where
  forests : List ℕ
  circuits : List (List ℕ)

offer : Design → ℕ → Run → Run
offer d e run =
    let r = search d (at run.forests) e in
    record { forests = table (settled (at run.forests) e r) d.m; circuits = run.circuits ++ (said d e r ∷ []) }

offers : Design → ℕ → Run
offers d zero = record { forests = []; circuits = [] }
offers d (suc j) = offer d (suc j) (offers d j)

-- bodies, first ends, second ends, and the colours, 1 red and 2 black
design : (a b n : ℕ) (ones others colours : List ℕ) → Design
design a b n ones others colours =
    record { a = a; b = b; n = n; m = length ones; one = at ones; other = at others; red = λ e. at colours e =? 1 }

-- [1,2], 2 bodies: k r, both kept wherever the first was put. The black edge goes into forest 1 and makes way for the red one
black_then_red : Design
black_then_red = design 1 2 2 (1 ∷ 1 ∷ []) (2 ∷ 2 ∷ []) (2 ∷ 1 ∷ [])

-- P4 [1,2], 2 bodies: r k k k; last implied by 1,2,3
P4 : Design
P4 = design 1 2 2 (1 ∷ 1 ∷ 1 ∷ 1 ∷ []) (2 ∷ 2 ∷ 2 ∷ 2 ∷ []) (1 ∷ 2 ∷ 2 ∷ 2 ∷ [])

-- P5 [1,2], 3 bodies: r12 r13 k23 k23 k23; last implied by 1,2,3,4
P5 : Design
P5 = design 1 2 3 (1 ∷ 1 ∷ 2 ∷ 2 ∷ 2 ∷ []) (2 ∷ 3 ∷ 3 ∷ 3 ∷ 3 ∷ []) (1 ∷ 1 ∷ 2 ∷ 2 ∷ 2 ∷ [])

-- P7 [1,2], 3 bodies: r12 r23 r13; last implied by 1,2
P7 : Design
P7 = design 1 2 3 (1 ∷ 2 ∷ 1 ∷ []) (2 ∷ 3 ∷ 3 ∷ []) (1 ∷ 1 ∷ 1 ∷ [])

-- P8 [2,2], 2 bodies: r r k k; one more r implied by 1,2 alone
P8 : Design
P8 = design 2 2 2 (1 ∷ 1 ∷ 1 ∷ 1 ∷ 1 ∷ []) (2 ∷ 2 ∷ 2 ∷ 2 ∷ 2 ∷ []) (1 ∷ 1 ∷ 2 ∷ 2 ∷ 1 ∷ [])

-- the designs, with the forests and the circuits that they come to
runs : List (Design × Run)
runs =
    (black_then_red, record { forests = 2 ∷ 1 ∷ []; circuits = [] ∷ [] ∷ [] })
    ∷ (P4, record { forests = 1 ∷ 2 ∷ 3 ∷ 0 ∷ []; circuits = [] ∷ [] ∷ [] ∷ (1 ∷ 2 ∷ 3 ∷ []) ∷ [] })
    ∷ (P5, record { forests = 1 ∷ 1 ∷ 2 ∷ 3 ∷ 0 ∷ []; circuits = [] ∷ [] ∷ [] ∷ [] ∷ (1 ∷ 2 ∷ 3 ∷ 4 ∷ []) ∷ [] })
    ∷ (P7, record { forests = 1 ∷ 1 ∷ 0 ∷ []; circuits = [] ∷ [] ∷ (1 ∷ 2 ∷ []) ∷ [] })
    ∷ (P8, record { forests = 1 ∷ 2 ∷ 3 ∷ 4 ∷ 0 ∷ []; circuits = [] ∷ [] ∷ [] ∷ [] ∷ (1 ∷ 2 ∷ []) ∷ [] })
    ∷ []

abbrev AllRun : List (Design × Run) → Type 0
AllRun [] = Unit
AllRun (row ∷ rest) = (offers row.0 row.0.m ≡ row.1) × AllRun rest

search_runs : AllRun runs
unfolding runs black_then_red P4 P5 P7 P8 offers offer design table said search turns turn try_forests try_forest reach fresh begin trail path_to shifted
    on_path spans joined joined_up_to linked limit in_forest ◌and◌ ◌or◌ isnt ◌=?◌ ◌<?◌ ◌≤?◌ put count at numbers
search_runs = (refl, (refl, (refl, (refl, (refl, tt)))))
