-- The published rule once more, in lists: what document 01, "The published rule", says of sparse and legal, sentence by sentence. Edges are a
-- list of bars, a set of m bodies is a list of m different numbers, and a split in two is two lists. No set is a test on numbers here,
-- nothing is counted by a function, and nothing of crates/rule/specs/Legal.antt is used: whoever prefers lists reads this file in place of
-- that one, and BookBars.antt next. That the two say the same is proved: proofs/Theorems.antt.
--
-- In order: bars; members of a list; different bodies; how many bars are inside; (c,c)-sparse; a split; legal.
-- Not here: the kept bars of a book, the circuit and the groups, which are in BookBars.antt.
use Rattle.std.specs.Prelude.{◌≡◌, Bool, false, ◌⊎◌, List, [], ◌∷◌, ℕ, suc, ◌*◌, ◌-◌, ◌≤◌, length}

-- "A graph has bodies 1 to n and edges, each red or black": a bar is an edge, its two bodies and whether it is red. Several bars of a list
-- may be alike: "several edges may join the same two bodies"
pub record Bar : Type 0 where
  pub one : ℕ
  pub other : ℕ
  pub red : Bool

-- x is one of the list
abbrev pub Member : ℕ → List ℕ → Type 0
Member x [] = ⊥
Member x (y ∷ rest) = (x ≡ y) ⊎ Member x rest

-- a "set of m bodies": a list of m numbers, each one of 1 to n and none twice
abbrev pub DifferentBodies : ℕ → List ℕ → Type 0
DifferentBodies n [] = Unit
DifferentBodies n (x ∷ rest) = (1 ≤ x) × (x ≤ n) × (¬ Member x rest) × DifferentBodies n rest

-- the bar has "both ends inside"
abbrev pub BothEnds : List ℕ → Bar → Type 0
BothEnds bodies x = Member x.one bodies × Member x.other bodies

-- so many of the bars, no more and no fewer, have both ends inside
pub data HoldInside (bodies : List ℕ) : List Bar → ℕ → Type 0 where
  no_bars : HoldInside bodies [] 0
  bar_inside : {x : Bar} {bars : List Bar} {number : ℕ} → BothEnds bodies x → HoldInside bodies bars number → HoldInside bodies (x ∷ bars) (suc number)
  bar_outside : {x : Bar} {bars : List Bar} {number : ℕ} → ¬ BothEnds bodies x → HoldInside bodies bars number → HoldInside bodies (x ∷ bars) number

-- "A set of edges is (c,c)-sparse when every nonempty set of m bodies holds at most c·(m−1) of its edges with both ends inside"
unfoldable pub SparseBars : (n c : ℕ) → List Bar → Type 0
SparseBars n c bars =
    (bodies : List ℕ) → DifferentBodies n bodies → 1 ≤ length bodies → (number : ℕ) → HoldInside bodies bars number → number ≤ c * (length bodies - 1)

-- "its black edges can be split in two": the bars are dealt out in order, a red one to the first list, a black one to either
pub data Dealt : (bars first second : List Bar) → Type 0 where
  all_dealt : Dealt [] [] []
  to_first : {x : Bar} {bars first second : List Bar} → Dealt bars first second → Dealt (x ∷ bars) (x ∷ first) second
  to_second : {x : Bar} {bars first second : List Bar} → x.red ≡ false → Dealt bars first second → Dealt (x ∷ bars) first (x ∷ second)

-- "A set of edges is legal when its black edges can be split in two so that all red edges with the first black part are (a,a)-sparse and the
-- second black part is (b,b)-sparse"
pub record LegalBars (a b n : ℕ) (bars : List Bar) : Type 0 where
  pub first : List Bar
  pub second : List Bar
  pub dealt : Dealt bars first second
  pub reds_with_first : SparseBars n a first
  pub second_sparse : SparseBars n b second
