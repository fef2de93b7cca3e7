-- What each call answers and leaves behind, for every input, refusals included.
--
-- In order: a book of zeros; opening; an offer; a question; freedom, dropped and the verdict; the group list. Each goes through the cases of its answer
-- as Answers.antt does.
-- The base leaves one thing open, the choice of forests and with it moved: an offer may choose any permitted forests.
use Rattle.std.specs.Prelude.{◌≡◌, ◌↔◌, Result, List, ◌++◌, ℕ, ◌≤◌, length, set, take, drop, replicate}
use Rattle.rule.specs.declared.Book.{Book}
use Rattle.rule.specs.declared.Answer.{Answer}
use Rattle.rule.specs.declared.Reason.{Reason}
use Rattle.rule.specs.declared.Verdict.{Verdict}
use Rattle.rule.specs.Sets.{In}
use Rattle.rule.specs.Legal.{Keeps, Implies, Circuit}
use Rattle.rule.specs.Forests.{Arranged, moved}
use Rattle.rule.specs.Figures.{freedom, dropped, verdict, Groups}
use Rattle.rule.specs.declared.Edge.{Edge}
use Rattle.rule.specs.Books.{design_of, forest_of, kept_of, offered, next}
use Rattle.rule.specs.Reasons.{Pass, FailBy, opening_checks, question_checks, offer_checks, book_checks, groups_checks}
use Rattle.rule.specs.Answers.{AnswerSays, DoneSays, FigureSays, JudgedSays}

-- ---- books

-- a book with this head, and zeros in every edge place
unfoldable pub new_book : (a b n : ℕ) → Book
new_book a b n =
    record {
      a = a;
      b = b;
      n = n;
      count = 0;
      ones = replicate 512 0;
      others = replicate 512 0;
      colours = replicate 512 0;
      forests = replicate 512 0;
    }

-- zeros throughout, head and places
abbrev pub zero_book : Book
zero_book = new_book 0 0 0

-- after is before with one edge more, between u and v, all but its forest: the other places are as they were
pub record Adds (before after : Book) (given : Edge) : Type 0 where
  pub a : after.a ≡ before.a
  pub b : after.b ≡ before.b
  pub n : after.n ≡ before.n
  pub count : after.count ≡ next before
  pub ones : after.ones ≡ set before.ones before.count given.one
  pub others : after.others ≡ set before.others before.count given.other
  pub colours : after.colours ≡ set before.colours before.count given.colour

-- the first places of the list hold the answer, the places past it what they held
abbrev pub Filled : List ℕ → List ℕ → List ℕ → Type 0
Filled answer list listed = listed ≡ answer ++ drop (length answer) list

-- ---- opening

abbrev pub Open : (a b n : ℕ) → Book → Result Unit Reason → Type 0
Open a b n book =
    DoneSays (Pass (opening_checks a b n) × (book ≡ new_book a b n))
    (λ number place. FailBy (opening_checks a b n) number place × (book ≡ zero_book))

-- ---- what is said of an offered edge

-- it is kept. Under the forests given, the earlier edges that were kept and no others are kept still, all stand as they may,
-- and so many of the earlier ones have another forest than before
pub record KeepsIt (B : Book) (given : Edge) (forest : ℕ → ℕ) (count : ℕ) : Type 0 where
  pub keeps : Keeps (offered B given) (kept_of B) (next B)
  pub arranged : Arranged (offered B given) forest
  pub new : 1 ≤ forest (next B)
  pub earlier : (e : ℕ) → In B.count e → ((1 ≤ forest e) ↔ (1 ≤ forest_of B e))
  pub moves : count ≡ moved (forest_of B) forest B.count

-- it is implied. So many edges are its circuit, and the first places of the list, which keeps its length, hold them
pub record ImpliesIt (B : Book) (given : Edge) (list listed : List ℕ) (count : ℕ) : Type 0 where
  pub implies : Implies (offered B given) (kept_of B) (next B)
  pub circuit : List ℕ
  pub is_circuit : Circuit (offered B given) (kept_of B) (next B) circuit
  pub number : count ≡ length circuit
  pub fills : Filled circuit list listed
  pub as_long : length listed ≡ length list

-- ---- an offer

pub record OfferKept (before after : Book) (given : Edge) (list listed : List ℕ) (count : ℕ) : Type 0 where
  pub checked : Pass (offer_checks before given list)
  pub says : KeepsIt before given (forest_of after) count
  pub adds : Adds before after given
  pub as_long : length after.forests ≡ length before.forests
  pub past : drop (next before) after.forests ≡ drop (next before) before.forests
  pub unwritten : listed ≡ list

pub record OfferImplied (before after : Book) (given : Edge) (list listed : List ℕ) (count : ℕ) : Type 0 where
  pub checked : Pass (offer_checks before given list)
  pub says : ImpliesIt before given list listed count
  pub adds : Adds before after given
  pub forests : after.forests ≡ set before.forests before.count 0

abbrev pub Offer : (before after : Book) (given : Edge) (list listed : List ℕ) → Answer → Type 0
Offer before after given list listed =
    AnswerSays (OfferKept before after given list listed) (OfferImplied before after given list listed)
    (λ number place. FailBy (offer_checks before given list) number place × (after ≡ before) × (listed ≡ list))

-- ---- a question: it answers as an offer would, may be asked of a full book, and changes nothing in the book

pub record QuestionKept (B : Book) (given : Edge) (list listed : List ℕ) (count : ℕ) : Type 0 where
  pub checked : Pass (question_checks B given list)
  pub forest : ℕ → ℕ
  pub says : KeepsIt B given forest count
  pub unwritten : listed ≡ list

pub record QuestionImplied (B : Book) (given : Edge) (list listed : List ℕ) (count : ℕ) : Type 0 where
  pub checked : Pass (question_checks B given list)
  pub says : ImpliesIt B given list listed count

abbrev pub Question : Book → (given : Edge) (list listed : List ℕ) → Answer → Type 0
Question B given list listed =
    AnswerSays (QuestionKept B given list listed) (QuestionImplied B given list listed)
    (λ number place. FailBy (question_checks B given list) number place × (listed ≡ list))

-- ---- freedom, dropped, verdict

abbrev pub Freedom : Book → Result ℕ Reason → Type 0
Freedom B = FigureSays (λ figure. Pass (book_checks B) × (figure ≡ freedom (design_of B) (kept_of B))) (FailBy (book_checks B))

abbrev pub Dropped : Book → Result ℕ Reason → Type 0
Dropped B = FigureSays (λ figure. Pass (book_checks B) × (figure ≡ dropped (design_of B) (kept_of B))) (FailBy (book_checks B))

abbrev pub Judge : Book → Result Verdict Reason → Type 0
Judge B = JudgedSays (λ judged. Pass (book_checks B) × (judged ≡ verdict (design_of B) (kept_of B))) (FailBy (book_checks B))

-- ---- the group list

abbrev pub Grouped : Book → (list listed : List ℕ) → Result Unit Reason → Type 0
Grouped B list listed =
    DoneSays
    (Pass (groups_checks B list)
    × Groups (design_of B) (kept_of B) (take B.n listed)
    × (drop B.n listed ≡ drop B.n list)
    × (length listed ≡ length list))
    (λ number place. FailBy (groups_checks B list) number place × (listed ≡ list))
