-- A book that was read: it came from opening and a run of offers, so it is sound, grown and whole; and its lists hold the edges of the sheet,
-- in order, and zeros past them.
--
-- By induction on the offers. A sheet in range passes the checks of opening. Each offer passed its checks, so none was refused, and each
-- added exactly its edge behind the others.
-- Assumes nothing.
use mathlib.Core.Path.{◌≡◌, refl, sym, ap, ap₂, ◌∙◌}
use mathlib.Core.List.{List, [], ◌∷◌, ◌++◌, map}
use Prim.Native.Nat.{ℕ, zero, suc, ◌≤◌, ◌<◌}
use native.Mathlib.Omega.{arith}
use native.Mathlib.Numerals.{add-one}
use lib.ListN.{length, get_or, set, take, drop, replicate, length-map, length-replicate, get_or-append, get_or-map}
use lib.Seq.{take-length, take-suc, drop-drop, drop-set-lt}
use Rattle.rule.specs.declared.Book.{Book}
use Rattle.rule.specs.declared.Answer.{Answer}
use Rattle.rule.specs.declared.Answer.TheVariants.{Kept, Implied, Refused}
use Rattle.rule.specs.Sets.{at}
use Rattle.rule.specs.declared.Edge.{Edge}
use Rattle.rule.specs.Books.{edge_of, next}
use Rattle.rule.specs.Reasons.{Pass, offer_checks}
use Rattle.rule.specs.Calls.{new_book, Adds, Offer}
use Rattle.rule.proofs.Passed.{passed_offer}
use Rattle.rule.proofs.Places.{at_suc}
use Rattle.rule.proofs.Determined.{pass_not_fail}
use Rattle.text.specs.EdgeLists.{blank}
use Rattle.text.specs.Puts.{Writes}
use Rattle.text.proofs.Overwrites.{writes_none, writes_more}
use Rattle.reports.specs.Reads.{edges_of, sheet_of, Offers, none, then, Reads}
use Rattle.step.specs.Runs.{Run}
use Rattle.step.specs.Runs.Run.{opened, offered}
use Rattle.step.proofs.Runs.{Grew, run_grew}

-- ---- opened and offered edges: sound, grown and whole

pub offers_run : {first B : Book} {edges : List Edge} → Offers first edges B → Run first → Run B
offers_run none r = r
offers_run (then e list listed answer run pass offer) r =
    offered e list listed answer (offers_run run r) offer

pub reads_run : {text : List ℕ} {B : Book} → Reads text B → Run B
reads_run r =
    offers_run r.offers (opened r.sheet.a r.sheet.b r.sheet.n ((r.range.profile, (r.range.bodies, tt)), refl))

pub reads_grew : {text : List ℕ} {B : Book} → Reads text B → Grew B
reads_grew r = run_grew (reads_run r)

-- ---- an offer that passed its checks adds its edge

-- and the forests of the places past it are as they were
offer_takes : {before after : Book} (given : Edge) (list listed : List ℕ) (answer : Answer) → Pass (offer_checks before given list)
    → Offer before after given list listed answer
    → Adds before after given × (drop (next before) after.forests ≡ drop (next before) before.forests)
offer_takes given list listed (Kept count) pass o = (o.adds, o.past)
offer_takes {before} given list listed (Implied count) pass o =
    (o.adds, ap (drop (next before)) o.forests ∙ drop-set-lt (next before) before.forests before.count 0 (omega arith))
offer_takes {before} given list listed (Refused reason) pass o =
    absurd (pass_not_fail (offer_checks before given list) reason pass o.0)

-- ---- what the lists of the book hold

abbrev pub zeros : List ℕ
zeros = replicate 512 0

-- the book holds these edges, in order, and past them zeros; of its forests only the latter is said
pub record Holds (a b n : ℕ) (edges : List Edge) (B : Book) : Type 0 where
  pub a_is : B.a ≡ a
  pub b_is : B.b ≡ b
  pub n_is : B.n ≡ n
  pub ones : Writes (map (λ e. e.one) edges) zeros B.ones B.count
  pub others : Writes (map (λ e. e.other) edges) zeros B.others B.count
  pub colours : Writes (map (λ e. e.colour) edges) zeros B.colours B.count
  pub past : drop B.count B.forests ≡ drop B.count zeros

new_holds : (a b n : ℕ) → Holds a b n [] (new_book a b n)
unfolding new_book
new_holds a b n =
    record {
      a_is = refl;
      b_is = refl;
      n_is = refl;
      ones = writes_none zeros;
      others = writes_none zeros;
      colours = writes_none zeros;
      past = refl;
    }

map_snoc : (f : Edge → ℕ) (edges : List Edge) (e : Edge) → map f (edges ++ e ∷ []) ≡ map f edges ++ f e ∷ []
map_snoc f [] e = refl
map_snoc f (x ∷ edges) e = ap (λ (l : List ℕ). f x ∷ l) (map_snoc f edges e)

-- a store behind what is written
stored : (f : Edge → ℕ) (edges : List Edge) (e : Edge) {old new : List ℕ} {k j : ℕ} → Writes (map f edges) zeros old k → k < 512
    → new ≡ set old k (f e) → j ≡ suc k → Writes (map f (edges ++ e ∷ [])) zeros new j
stored f edges e {old} {new} {k} {j} w room store more =
    let long : length zeros ≡ 512 = length-replicate {A = ℕ} 512 0 in
    let next = writes_more w (f e) (omega (arith, w.number)) in
    let said = map_snoc f edges e in
    record {
      number = omega (arith, next.number, ap length said);
      fills = store ∙ next.fills ∙ ap (λ (l : List ℕ). l ++ drop (length l) zeros) (sym said);
    }

drop_more : (l : List ℕ) (k : ℕ) → drop (suc k) l ≡ drop 1 (drop k l)
drop_more l k = ap (λ (i : ℕ). drop i l) (sym (add-one k)) ∙ sym (drop-drop 1 k l)

offers_hold : {a b n : ℕ} {edges : List Edge} {B : Book} → Offers (new_book a b n) edges B → Holds a b n edges B
offers_hold {a} {b} {n} none = new_holds a b n
offers_hold {B = B} (then {before} {edges = edges} e list listed answer run pass offer) =
    let h = offers_hold run in
    let takes = offer_takes e list listed answer pass offer in
    let adds = takes.0 in
    let room : before.count < 512 = (passed_offer before e list pass).space in
    record {
      a_is = adds.a ∙ h.a_is;
      b_is = adds.b ∙ h.b_is;
      n_is = adds.n ∙ h.n_is;
      ones = stored (λ e. e.one) edges e h.ones room adds.ones adds.count;
      others = stored (λ e. e.other) edges e h.others room adds.others adds.count;
      colours = stored (λ e. e.colour) edges e h.colours room adds.colours adds.count;
      past =
          ap (λ (k : ℕ). drop k B.forests) adds.count
          ∙ takes.1
          ∙ drop_more before.forests before.count
          ∙ ap (drop 1) h.past
          ∙ sym (drop_more zeros before.count)
          ∙ ap (λ (k : ℕ). drop k zeros) (sym adds.count);
    }

pub reads_hold : {text : List ℕ} {B : Book} (r : Reads text B) → Holds r.sheet.a r.sheet.b r.sheet.n r.sheet.edges B
reads_hold r = offers_hold r.offers

-- ---- its sheet

-- a number of edge i + 1, where the list holds that number of each edge
held : (f : Edge → ℕ) (edges : List Edge) {l : List ℕ} {k : ℕ} (d : Edge) → f d ≡ 0 → Writes (map f edges) zeros l k → (i : ℕ) → i < length edges
    → at l (suc i) ≡ f (get_or edges i d)
held f edges {l} d zero_there w i h =
    at_suc l i
    ∙ ap (λ (z : List ℕ). get_or z i 0) w.fills
    ∙ get_or-append (map f edges) (drop (length (map f edges)) zeros) 0 i (omega (arith, length-map edges f))
    ∙ ap (λ (z : ℕ). get_or (map f edges) i z) (sym zero_there)
    ∙ get_or-map f edges i d

module _ {a b n : ℕ} {edges : List Edge} {B : Book} (h : Holds a b n edges B) where
  pub holds_count : B.count ≡ length edges
  holds_count = h.ones.number ∙ length-map edges (λ e. e.one)

  holds_edge : (i : ℕ) → i < length edges → edge_of B (suc i) ≡ get_or edges i blank
  unfolding edge_of
  holds_edge i l =
      let one = held (λ e. e.one) edges blank refl h.ones i l in
      let other = held (λ e. e.other) edges blank refl h.others i l in
      let colour = held (λ e. e.colour) edges blank refl h.colours i l in
      λ j. record { one = one j; other = other j; colour = colour j }

  holds_edges : (m : ℕ) → m ≤ length edges → edges_of B m ≡ take m edges
  unfolding edges_of
  holds_edges zero l = refl
  holds_edges (suc m) l =
      ap₂ (λ (x : List Edge) (y : Edge). x ++ y ∷ []) (holds_edges m (omega arith)) (holds_edge m l) ∙ sym (take-suc edges m blank l)

  pub holds_sheet : sheet_of B ≡ record { a = a; b = b; n = n; edges = edges }
  unfolding sheet_of
  holds_sheet =
      let all = ap (edges_of B) holds_count ∙ holds_edges (length edges) (omega arith) ∙ take-length edges in
      λ i. record { a = h.a_is i; b = h.b_is i; n = h.n_is i; edges = all i }

-- the sheet that was read is that of the book
pub reads_sheet : {text : List ℕ} {B : Book} (r : Reads text B) → sheet_of B ≡ r.sheet
reads_sheet r = holds_sheet (reads_hold r)
