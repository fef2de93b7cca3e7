-- The designs that document 01, "Small designs with known outcomes", marks P: one table, a row under each of 01's lines.
--
-- In order: the outcome of an offer; an offer; a row; the rows; the table. What a row states is specs/Holds.antt.
-- Every row also says what the report prints last. Where 01's line leaves that unsaid it is worked out by hand from the
-- definitions, and the comment under the line says how.
use Rattle.std.specs.Prelude.{List, [], ◌∷◌, ℕ}
use Rattle.rule.specs.declared.Verdict.{Verdict}
use Rattle.rule.specs.declared.Verdict.TheVariants.{Tight, Loose, OverTight, OverLoose}

-- an offered edge is kept, or implied by its circuit
pub data RowOutcome : Type 0 where
  kept : RowOutcome
  implied : List ℕ → RowOutcome

-- an edge offered between u and v, its colour (1 red, 2 black), and the outcome
pub record RowOffer : Type 0 where
  pub u : ℕ
  pub v : ℕ
  pub colour : ℕ
  pub outcome : RowOutcome

-- 01's letters: r red, k black, ends after
abbrev pub r : (u v : ℕ) → RowOutcome → RowOffer
r u v outcome = record { u = u; v = v; colour = 1; outcome = outcome }

abbrev pub k : (u v : ℕ) → RowOutcome → RowOffer
k u v outcome = record { u = u; v = v; colour = 2; outcome = outcome }

-- a profile [a,b], the number of bodies, and the offers in order to an empty book; then freedom, the number of implied edges,
-- the verdict and the group list after the last of them
pub record Row : Type 0 where
  pub a : ℕ
  pub b : ℕ
  pub bodies : ℕ
  pub offers : List RowOffer
  pub free : ℕ
  pub dropped : ℕ
  pub verdict : Verdict
  pub groups : List ℕ

infix 5 profile◌and◌bodies◌offers◌free◌dropped◌verdict◌groups◌
abbrev pub profile◌and◌bodies◌offers◌free◌dropped◌verdict◌groups◌ :
    (a b bodies : ℕ) (offers : List RowOffer) (free dropped : ℕ) (verdict : Verdict) (groups : List ℕ) → Row
profile a and b bodies n offers o free f dropped d verdict w groups g =
    record { a = a; b = b; bodies = n; offers = o; free = f; dropped = d; verdict = w; groups = g }

-- P1 [1,2], 2 bodies: r k k, all kept, tight.
-- By hand: all of 3·(2−1) = 3 edges are kept, so free is 0; they lie inside the two bodies, which are a group.
abbrev pub P1 : Row
P1 =
    profile 1 and 2 bodies 2
    offers r 1 2 kept ∷ k 1 2 kept ∷ k 1 2 kept ∷ []
    free 0 dropped 0 verdict Tight groups 1 ∷ 1 ∷ []

-- P2 [1,2], 2 bodies: r r; second implied by 1.
-- By hand: 1 edge of 3 is kept, so free is 2; a group of the two bodies would hold 3, so each is alone.
abbrev pub P2 : Row
P2 =
    profile 1 and 2 bodies 2
    offers r 1 2 kept ∷ r 1 2 (implied (1 ∷ [])) ∷ []
    free 2 dropped 1 verdict OverLoose groups 1 ∷ 2 ∷ []

-- P3 [1,2], 2 bodies: k k k r; r implied by 1,2,3.
-- By hand: 3 edges of 3 are kept, so free is 0, and the two bodies are a group.
abbrev pub P3 : Row
P3 =
    profile 1 and 2 bodies 2
    offers k 1 2 kept ∷ k 1 2 kept ∷ k 1 2 kept ∷ r 1 2 (implied (1 ∷ 2 ∷ 3 ∷ [])) ∷ []
    free 0 dropped 1 verdict OverTight groups 1 ∷ 1 ∷ []

-- P4 [1,2], 2 bodies: r k k k; last implied by 1,2,3.
-- By hand: as P3.
abbrev pub P4 : Row
P4 =
    profile 1 and 2 bodies 2
    offers r 1 2 kept ∷ k 1 2 kept ∷ k 1 2 kept ∷ k 1 2 (implied (1 ∷ 2 ∷ 3 ∷ [])) ∷ []
    free 0 dropped 1 verdict OverTight groups 1 ∷ 1 ∷ []

-- P5 [1,2], 3 bodies: r12 r13 k23 k23 k23; last implied by 1,2,3,4 (document 004, Figure 1(b), with one edge more).
-- 01 says free 2 (under P6) and that no group of two bodies exists ("Errors a good programmer makes here").
-- By hand: no two bodies hold 3 kept edges (2 and 3 hold 2), and all three hold 4 of 6, so each body is alone.
abbrev pub P5 : Row
P5 =
    profile 1 and 2 bodies 3
    offers r 1 2 kept ∷ r 1 3 kept ∷ k 2 3 kept ∷ k 2 3 kept ∷ k 2 3 (implied (1 ∷ 2 ∷ 3 ∷ 4 ∷ [])) ∷ []
    free 2 dropped 1 verdict OverLoose groups 1 ∷ 2 ∷ 3 ∷ []

-- P6 the same edges as k23 k23 k23 r12 r13; last implied by 1,2,3,4. Freedom 2 in both.
-- By hand: here 2 and 3 hold 3 kept edges of 3 and are a group.
abbrev pub P6 : Row
P6 =
    profile 1 and 2 bodies 3
    offers k 2 3 kept ∷ k 2 3 kept ∷ k 2 3 kept ∷ r 1 2 kept ∷ r 1 3 (implied (1 ∷ 2 ∷ 3 ∷ 4 ∷ [])) ∷ []
    free 2 dropped 1 verdict OverLoose groups 1 ∷ 2 ∷ 2 ∷ []

-- P7 [1,2], 3 bodies: r12 r23 r13; last implied by 1,2.
-- By hand: 2 edges of 6 are kept, so free is 4; no two bodies hold 3, and all three hold 2 of 6, so each is alone.
abbrev pub P7 : Row
P7 =
    profile 1 and 2 bodies 3
    offers r 1 2 kept ∷ r 2 3 kept ∷ r 1 3 (implied (1 ∷ 2 ∷ [])) ∷ []
    free 4 dropped 1 verdict OverLoose groups 1 ∷ 2 ∷ 3 ∷ []

-- P8 [2,2], 2 bodies: r r k k, tight (Example 3.2);
-- By hand: all of 4·(2−1) = 4 edges are kept, so free is 0, and the two bodies are a group.
abbrev pub P8 : Row
P8 =
    profile 2 and 2 bodies 2
    offers r 1 2 kept ∷ r 1 2 kept ∷ k 1 2 kept ∷ k 1 2 kept ∷ []
    free 0 dropped 0 verdict Tight groups 1 ∷ 1 ∷ []

-- P8, the same line's end: one more r implied by 1,2 alone.
-- By hand: the same edges are kept, so free and the groups are as before.
abbrev pub P8-more : Row
P8-more =
    profile 2 and 2 bodies 2
    offers r 1 2 kept ∷ r 1 2 kept ∷ k 1 2 kept ∷ k 1 2 kept ∷ r 1 2 (implied (1 ∷ 2 ∷ [])) ∷ []
    free 0 dropped 1 verdict OverTight groups 1 ∷ 1 ∷ []

-- P9 [1,2], 3 bodies: r12 k12 r13 k13 k23 k23, tight (Figure 2).
-- By hand: all of 3·(3−1) = 6 edges are kept, so free is 0, and the three bodies are a group.
abbrev pub P9 : Row
P9 =
    profile 1 and 2 bodies 3
    offers r 1 2 kept ∷ k 1 2 kept ∷ r 1 3 kept ∷ k 1 3 kept ∷ k 2 3 kept ∷ k 2 3 kept ∷ []
    free 0 dropped 0 verdict Tight groups 1 ∷ 1 ∷ 1 ∷ []

-- P10 1 body, no edges: freedom 0, tight, groups=1.
-- 01 names no profile here, so there is a row for each.
abbrev pub P10 : (a b : ℕ) → Row
P10 a b =
    profile a and b bodies 1
    offers []
    free 0 dropped 0 verdict Tight groups 1 ∷ []

-- the table
unfoldable pub table : List Row
table =
    P1 ∷ P2 ∷ P3 ∷ P4 ∷ P5 ∷ P6 ∷ P7 ∷ P8 ∷ P8-more ∷ P9
    ∷ P10 1 1 ∷ P10 1 2 ∷ P10 1 3 ∷ P10 2 1 ∷ P10 2 2 ∷ P10 2 3 ∷ P10 3 1 ∷ P10 3 2 ∷ P10 3 3 ∷ []
