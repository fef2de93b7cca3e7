-- The face of crate restated: that the lists of specs/ say what crate rule says, in words and as statements. Every other file here is beneath this one.
--
--  1 legal                            4 an offer and a question
--  2 kept                             5 one answer
--  3 the circuit                      6 the rigid groups
--
-- 1 to 3 are both ways, so whatever is proved of the words of crate rule holds of these; 4 to 6 are for every input that the contracts permit.
-- Assumes nothing.
use mathlib.Core.Path.{◌≡◌}
use mathlib.Core.Logic.{◌⊎◌, ◌↔◌}
use mathlib.Core.List.{List}
use Prim.Native.Nat.{ℕ, ◌≤◌}
use lib.ListN.{length}
use Rattle.std.specs.Prelude.{Ok}
use Rattle.rule.specs.declared.Book.{Book}
use Rattle.rule.specs.declared.Answer.{Answer}
use Rattle.rule.specs.declared.Answer.TheVariants.{Implied}
use Rattle.rule.specs.Sets.{Set, In}
use Rattle.rule.specs.Legal.{Design, Ends, Legal, Keeps, Circuit}
use Rattle.rule.specs.Figures.{InGroup}
use Rattle.rule.specs.declared.Edge.{Edge}
use Rattle.rule.specs.Books.{design_of, kept_of, offered, next, Sound}
use Rattle.rule.specs.Reasons.{Pass, circuit_room, groups_checks}
use Rattle.rule.specs.Calls.{ImpliesIt, Offer, Question, Grouped}
use Rattle.rule.proofs.Outcomes.{AnswersAgree}
use Rattle.step.specs.Runs.{Taken}
use Rattle.promises.specs.Undo.{IsKept, IsImplied}
use Rattle.restated.specs.Bars.{LegalBars}
use Rattle.restated.specs.BookBars.{kept_bars, LegalWith, CircuitOf, ExactCircuit, SaysInLists, Together, ExactGroups}
use Rattle.restated.proofs.Inside.{bars_of}
use Rattle.restated.proofs.Same
use Rattle.restated.proofs.Kept as Keeping
use Rattle.restated.proofs.Circuits
use Rattle.restated.proofs.Exact
use Rattle.restated.proofs.Groups

-- ---- 1. Legal

-- a set of edges is legal exactly when the list of its bars is, in every design whose edges' ends are bodies
pub legal_in_lists : (d : Design) → Ends d → (s : Set) → (Legal d s ↔ LegalBars d.a d.b d.n (bars_of d s d.m))
legal_in_lists = Same.legal_iff_bars

-- the bars of a book's kept edges are those that its arrays give
pub kept_bars_of_book : (B : Book) → bars_of (design_of B) (kept_of B) B.count ≡ kept_bars B
kept_bars_of_book = Keeping.own_bars

module _ (B : Book) (given : Edge) (sound : Sound B) (hu : In B.n given.one) (hv : In B.n given.other) where
  -- ---- 2. Kept

  -- an edge offered to a sound book is kept exactly when the kept bars with the new one are legal
  pub kept_in_lists : Keeps (offered B given) (kept_of B) (next B) ↔ LegalWith B given
  kept_in_lists = Keeping.keeps_iff B given sound hu hv

  -- ---- 3. The circuit

  -- a list is the circuit exactly when it ascends and its members are the kept edges y such that the kept bars without y, with the new one, are legal
  pub circuit_in_lists : (circuit : List ℕ) → (Circuit (offered B given) (kept_of B) (next B) circuit ↔ CircuitOf B given circuit)
  circuit_in_lists = Circuits.circuit_iff B given sound hu hv

  -- what the contracts say of an implied edge is that the kept bars with the new one are not legal, and that the first places of the lent list
  -- are the circuit, and the others as they were
  pub implied_in_lists : (list listed : List ℕ) (number : ℕ) → circuit_room ≤ length list
      → (ImpliesIt B given list listed number ↔ ((¬ LegalWith B given) × ExactCircuit B given list listed number))
  implied_in_lists = Circuits.implied_iff_exact B given sound hu hv

-- ---- 4. An offer and a question

module _ (B : Book) (given : Edge) (list listed : List ℕ) where
  -- `step::offer`, whatever it answers: kept, and the kept bars with the new one are legal; implied, and they are not, and the lent list has the
  -- circuit, exactly; or refused, and the lent list is as it was
  pub offer_in_lists : (after : Book) (answer : Answer) → Offer B after given list listed answer → SaysInLists B given list listed answer
  offer_in_lists = Exact.offer_says B given list listed

  -- `step::question`, the same
  pub question_in_lists : (answer : Answer) → Question B given list listed answer → SaysInLists B given list listed answer
  question_in_lists = Exact.question_says B given list listed

  -- an offer that is not refused is kept, and its bars legal, or else implied, and they are not
  module _ (after : Book) (answer : Answer) (taken : Taken answer) (offer : Offer B after given list listed answer) where
    pub offer_kept_or_implied : (IsKept answer × LegalWith B given) ⊎ (IsImplied answer × (¬ LegalWith B given))
    offer_kept_or_implied = Exact.kept_or_implied B given list listed answer taken (offer_in_lists after answer offer)

    pub offer_kept_exactly : IsKept answer ↔ LegalWith B given
    offer_kept_exactly = Exact.kept_exactly B given list listed answer taken (offer_in_lists after answer offer)

    pub offer_implied_exactly : IsImplied answer ↔ (¬ LegalWith B given)
    offer_implied_exactly = Exact.implied_exactly B given list listed answer taken (offer_in_lists after answer offer)

  -- and so a question
  module _ (answer : Answer) (taken : Taken answer) (question : Question B given list listed answer) where
    pub question_kept_or_implied : (IsKept answer × LegalWith B given) ⊎ (IsImplied answer × (¬ LegalWith B given))
    question_kept_or_implied = Exact.kept_or_implied B given list listed answer taken (question_in_lists answer question)

    pub question_kept_exactly : IsKept answer ↔ LegalWith B given
    question_kept_exactly = Exact.kept_exactly B given list listed answer taken (question_in_lists answer question)

    pub question_implied_exactly : IsImplied answer ↔ (¬ LegalWith B given)
    question_implied_exactly = Exact.implied_exactly B given list listed answer taken (question_in_lists answer question)

  -- the list of an implied edge is its circuit: it ascends, and has exactly the edges of the circuit
  module _ (number : ℕ) where
    pub offer_circuit_exactly : (after : Book) → Offer B after given list listed (Implied number) → ExactCircuit B given list listed number
    offer_circuit_exactly after offer = (offer_in_lists after (Implied number) offer).1

    pub question_circuit_exactly : Question B given list listed (Implied number) → ExactCircuit B given list listed number
    question_circuit_exactly question = (question_in_lists (Implied number) question).1

-- ---- 5. One answer

-- what is said in lists leaves nothing open but moved: of two answers for one book, edge and lent list, both kept or both implied, the circuit, its
-- length and every place of the list are the same
pub says_determined : (B : Book) (given : Edge) (list listed lines : List ℕ) (x y : Answer) → Taken x → Taken y
    → SaysInLists B given list listed x → SaysInLists B given list lines y → AnswersAgree (listed ≡ lines) (listed ≡ lines) x y
says_determined = Exact.says_determined

-- ---- 6. The rigid groups

-- v is in the group of u exactly when it is u, or some list of m different bodies that has both holds exactly k·(m−1) kept bars
pub group_in_lists : (B : Book) → Sound B → (u v : ℕ) → In B.n u → In B.n v → (InGroup (design_of B) (kept_of B) u v ↔ Together B u v)
group_in_lists = Groups.together_iff

-- `groups::groups`, where it is not refused: the lent list has for each body the smallest that is together with it, and past them what it held. The
-- contract says that and nothing else
pub groups_exactly : (B : Book) (list listed : List ℕ) → (Grouped B list listed (Ok tt) ↔ (Pass (groups_checks B list) × ExactGroups B list listed))
groups_exactly = Groups.groups_iff
