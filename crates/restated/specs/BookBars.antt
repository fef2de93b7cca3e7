-- Kept, implied, the circuit and the rigid groups of a book, in lists: what document 01, "The published rule", says of them, sentence by
-- sentence, of the book's arrays and the lent lists. The words sparse and legal are those of Bars.antt; nothing of
-- crates/rule/specs/Legal.antt is used.
--
-- In order: the bars of a book's kept edges; legal with the new bar; smallest first; the circuit; what an answer says; the rigid groups.
use Rattle.std.specs.Prelude.{◌≡◌, ◌⊎◌, ◌↔◌, Bool, true, false, not, ◌&&◌, List, [], ◌∷◌, ℕ, zero, suc, ◌+◌, ◌*◌, ◌-◌, ◌≤◌, ◌<◌, eqb, ltb, length, get_or, take, drop}
use Rattle.rule.specs.declared.Book.{Book}
use Rattle.rule.specs.declared.Answer.{Answer}
use Rattle.rule.specs.declared.Answer.TheVariants.{Kept, Implied, Refused}
use Rattle.rule.specs.declared.Edge.{Edge}
use Rattle.restated.specs.Bars.{Bar, Member, DifferentBodies, HoldInside, LegalBars}

-- ---- the bars of a book

-- edge i + 1 of a book stands at place i of its arrays; colour 1 is red
abbrev pub place_bar : Book → ℕ → Bar
place_bar B i = record { one = get_or B.ones i 0; other = get_or B.others i 0; red = eqb (get_or B.colours i 0) 1 }

-- x in front of the list where the test holds
abbrev pub front_if : Bool → Bar → List Bar → List Bar
front_if true x bars = x ∷ bars
front_if false x bars = bars

-- of the first places, those that have a forest, edge y's left out; the newest first
unfoldable pub kept_up_to : Book → (y places : ℕ) → List Bar
kept_up_to B y zero = []
kept_up_to B y (suc i) = front_if (not (eqb (suc i) y) && ltb 0 (get_or B.forests i 0)) (place_bar B i) (kept_up_to B y i)

-- the kept bars without edge y
abbrev pub kept_but : Book → ℕ → List Bar
kept_but B y = kept_up_to B y B.count

-- the kept bars, all of them: no edge has number 0
abbrev pub kept_bars : Book → List Bar
kept_bars B = kept_but B 0

-- ---- an offered edge

abbrev pub new_bar : Edge → Bar
new_bar given = record { one = given.one; other = given.other; red = eqb given.colour 1 }

-- "the kept edges with it are legal"
abbrev pub LegalWith : Book → Edge → Type 0
LegalWith B given = LegalBars B.a B.b B.n (new_bar given ∷ kept_bars B)

-- one of "the set of kept edges y such that the kept edges without y, with the new edge added, are legal", "without the new edge's own" number
pub record CircuitEdge (B : Book) (given : Edge) (y : ℕ) : Type 0 where
  pub low : 1 ≤ y
  pub high : y ≤ B.count
  pub kept : 1 ≤ get_or B.forests (y - 1) 0
  pub legal_without : LegalBars B.a B.b B.n (new_bar given ∷ kept_but B y)

-- "smallest first"
abbrev pub Ascending : List ℕ → Type 0
Ascending [] = Unit
Ascending (x ∷ rest) = ((y : ℕ) → Member y rest → x < y) × Ascending rest

-- the list is the circuit, exactly
pub record CircuitOf (B : Book) (given : Edge) (circuit : List ℕ) : Type 0 where
  pub ascending : Ascending circuit
  pub members : (y : ℕ) → (Member y circuit ↔ CircuitEdge B given y)

-- the lent list holds the circuit in its first places, so many as the answer says; "places past the answer keep what they held"
pub record ExactCircuit (B : Book) (given : Edge) (list listed : List ℕ) (number : ℕ) : Type 0 where
  pub fits : number ≤ length list
  pub as_long : length listed ≡ length list
  pub is_circuit : CircuitOf B given (take number listed)
  pub past : drop number listed ≡ drop number list

-- "An offered edge is kept exactly when the kept edges with it are legal. Otherwise it is implied"; "a kept edge writes nothing to the lent
-- list", nor does a refusal
abbrev pub SaysInLists : Book → (given : Edge) (list listed : List ℕ) → Answer → Type 0
SaysInLists B given list listed (Kept moved) = LegalWith B given × (listed ≡ list)
SaysInLists B given list listed (Implied number) = (¬ LegalWith B given) × ExactCircuit B given list listed number
SaysInLists B given list listed (Refused reason) = listed ≡ list

-- ---- rigid groups

-- "some set of m bodies holding both has exactly k·(m−1) kept edges inside it"
pub record Rigid (B : Book) (u v : ℕ) : Type 0 where
  pub bodies : List ℕ
  pub different : DifferentBodies B.n bodies
  pub holds_one : Member u bodies
  pub holds_other : Member v bodies
  pub exact : HoldInside bodies (kept_bars B) ((B.a + B.b) * (length bodies - 1))

-- v is u itself or shares a group with it: "a body with no partner is alone"
abbrev pub Together : Book → (u v : ℕ) → Type 0
Together B u v = (v ≡ u) ⊎ Rigid B u v

-- "the smallest body number of its group"
pub record LeastTogether (B : Book) (u lead : ℕ) : Type 0 where
  pub low : 1 ≤ lead
  pub high : lead ≤ B.n
  pub in_group : Together B u lead
  pub least : (v : ℕ) → 1 ≤ v → v ≤ B.n → Together B u v → lead ≤ v

-- "The group list gives, for each body in order", at place i for body i + 1, that number; the places past it keep what they held
pub record ExactGroups (B : Book) (list listed : List ℕ) : Type 0 where
  pub fits : B.n ≤ length list
  pub as_long : length listed ≡ length list
  pub leads : (i : ℕ) → i < B.n → LeastTogether B (suc i) (get_or listed i 0)
  pub past : drop B.n listed ≡ drop B.n list
