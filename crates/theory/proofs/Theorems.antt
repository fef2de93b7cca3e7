-- The face of crate theory: its main theorems, in words and as statements over the definitions of crate rule. Every other file here is
-- beneath this one. Profiles are any a and b, designs any whose edges' ends are bodies (`Ends`).
--
--  1 forests give legality            6 legal sets are a matroid
--  2 legal sets are small             7 the rank formula
--  3 closed sets are full             8 the four laws of undo
--  4 the shift                        9 circuits do not depend on later edges
--  5 the search                      10 groups, by themselves and in context
-- Assumes nothing.
use mathlib.Core.Path.{◌≡◌}
use mathlib.Core.Logic.{◌↔◌, ◌≢◌}
use mathlib.Core.Bool.{true}
use mathlib.Core.List.{List, ◌∷◌}
use Prim.Native.Nat.{ℕ, suc, ◌+◌, ◌*◌, ◌≤◌, ◌<◌}
use lib.ListN.{length}
use Rattle.rule.specs.declared.Book.{Book}
use Rattle.rule.specs.Sets.{Is, ◌or◌, Set, In, ◌with◌, ◌without◌, below, count, numbers}
use Rattle.rule.specs.Legal.{Design, Ends, k, Legal, Keeps, Implies, InCircuit, Circuit, Grown}
use Rattle.rule.specs.Forests.{limit, kept_in, Arranged, moved}
use Rattle.rule.specs.Figures.{freedom, InGroup}
use Rattle.rule.specs.declared.Edge.{Edge}
use Rattle.rule.specs.Books.{design_of, kept_of, Sound, plus}
use Rattle.rule.proofs.Counting.{Within}
use Rattle.rule.proofs.Legality.{legal_sub}
use Rattle.theory.specs.Rank.{rank, black, touched, pieces}
use Rattle.theory.specs.Closed.{covers, Closed, greatest}
use Rattle.theory.specs.Exchange.{Free, Each, end, shifted}
use Rattle.theory.specs.Search.{Waiting, search, path_to}
use Rattle.theory.specs.Search.Result.{found, going}
use Rattle.theory.specs.Order.{Renumbered, ImpliedBy}
use Rattle.theory.specs.Groups.{joined_in_all, rigid_core, core}
use Rattle.theory.proofs.Rank.Touched.{rank_touched}
use Rattle.theory.proofs.Legal.Count
use Rattle.theory.proofs.Legal.Forests
use Rattle.theory.proofs.Legal.Sound
use Rattle.theory.proofs.Closed.Laws
use Rattle.theory.proofs.Closed.Count as Full
use Rattle.theory.proofs.Exchange.Walk.{Start}
use Rattle.theory.proofs.Exchange.Shift
use Rattle.theory.proofs.Exchange.Moved
use Rattle.theory.proofs.Search.Reached.{size}
use Rattle.theory.proofs.Search.Outcome
use Rattle.theory.proofs.Search.Circuit as Circuits
use Rattle.theory.proofs.Matroid.Formula.{Least, Maximal}
use Rattle.theory.proofs.Matroid.Formula
use Rattle.theory.proofs.Matroid.Augment
use Rattle.theory.proofs.Laws.Grown as Growing
use Rattle.theory.proofs.Laws.Order
use Rattle.theory.proofs.Laws.Undo
use Rattle.theory.proofs.Laws.Circuits as Settled
use Rattle.theory.proofs.Groups.Share as Sharing
use Rattle.theory.proofs.Groups.Context

-- ---- 1. Forests give legality

-- kept edges that stand in permitted forests with no closed loop are legal
pub forests_legal : (d : Design) → Ends d → (forest : ℕ → ℕ) → Arranged d forest → Legal d (kept_in d forest)
forests_legal = Forests.forests_legal

-- so the kept edges of a sound book are legal
pub sound_legal : (B : Book) → Sound B → Legal (design_of B) (kept_of B)
sound_legal = Sound.sound_legal

-- ---- 2. Legal sets are small

-- of a legal set, any set x of edges has at most a·r(x) + b·s(x) edges, s(x) being r of the black ones
pub legal_count : (d : Design) → Ends d → (l x : Set) → Legal d l → Within d.m x l → count x d.m ≤ d.a * rank d x + d.b * rank d (black d x)
legal_count = Count.legal_count

-- r is the bodies touched less the connected pieces, as request #111 words it
pub rank_is_touched_less_pieces : (d : Design) (s : Set) → rank d s + pieces d s ≡ count (touched d s) d.n
rank_is_touched_less_pieces = rank_touched

-- ---- 3. Closed sets are full

module _ (d : Design) (ends : Ends d) (forest : ℕ → ℕ) (arr : Arranged d forest) where
  -- a set of kept edges that lies in u and covers every edge of u has exactly a·r(u) + b·s(u) edges
  pub closed_count : (c u : Set) → Within d.m c (kept_in d forest) → Within d.m c u
      → ((e : ℕ) → In d.m e → Is (u e) → Is (covers d forest (limit d) c e)) → count c d.m ≡ d.a * rank d u + d.b * rank d (black d u)
  closed_count = Full.closed_count d ends forest arr

  -- no legal set holds a closed set and an edge more that it covers
  pub closed_none : (c l : Set) (e : ℕ) → Within d.m c (kept_in d forest) → Closed d forest (limit d) c → In d.m e → ¬ (Is (c e))
      → Is (covers d forest (limit d) c e) → Legal d l → ¬ (Within d.m (c with e) l)
  closed_none = Full.closed_none d ends forest arr

-- unions of closed sets are closed, and there is a greatest one
pub closed_union : (d : Design) (forest lim : ℕ → ℕ) (c b : Set) → Closed d forest lim c → Closed d forest lim b → Closed d forest lim (λ e. c e or b e)
closed_union = Laws.closed_union

pub greatest_closed : (d : Design) (forest lim : ℕ → ℕ) → Closed d forest lim (greatest d forest lim)
greatest_closed = Laws.greatest_closed

pub greatest_holds : (d : Design) (forest lim : ℕ → ℕ) (c : Set) → Within d.m c (kept_in d forest) → Closed d forest lim c
    → Within d.m c (greatest d forest lim)
greatest_holds = Laws.greatest_holds

-- ---- 4. The shift

module _ (d : Design) (forest : ℕ → ℕ) (x : ℕ) (rest : List ℕ) (start : Start d forest x rest) where
  -- moving along a path of exchanges with no forward shortcut, ending free, gives an arrangement again
  pub shift_arranged : Arranged d forest → (f : ℕ) → Free d forest (end x rest) f → Arranged d (shifted forest (x ∷ rest) f)
  shift_arranged = Shift.shift_arranged d forest x rest start

  -- the number of earlier edges whose forest changes is the path's length
  pub shift_moves : (f m : ℕ) → Free d forest (end x rest) f → Each (In m) rest → m < x → moved forest (shifted forest (x ∷ rest) f) m ≡ length rest
  shift_moves f m free range past = Moved.shift_moves d forest x rest f m start free range past

-- ---- 5. The search, by the rule of request #105 (specs/Search.antt)

module _ (d : Design) (ends : Ends d) (forest : ℕ → ℕ) (arr : Arranged d forest) (e : ℕ) (he : In d.m e) (none : forest e ≡ 0) where
  -- found: the shifted forests are an arrangement, and the edge is kept
  pub found_arranged : (p i : ℕ) (w : Waiting) → search d forest e ≡ found p i w → Arranged d (shifted forest (e ∷ path_to w p) i)
  found_arranged = Outcome.found_arranged d ends forest arr e he none

  pub found_kept : (p i : ℕ) (w : Waiting) → search d forest e ≡ found p i w → Keeps d (kept_in d forest) e
  found_kept = Outcome.found_kept d ends forest arr e he none

  -- stuck: the edge is implied, and the reached edges are exactly its circuit
  pub stuck_implied : (w : Waiting) → search d forest e ≡ going w → Implies d (kept_in d forest) e
  stuck_implied = Outcome.stuck_implied d ends forest arr e he none

  pub stuck_circuit : (w : Waiting) → search d forest e ≡ going w → Circuit d (kept_in d forest) e (numbers (w.seen without e) d.m)
  stuck_circuit = Circuits.circuit_list d ends forest arr e he none

  pub stuck_circuit_length : (w : Waiting) → search d forest e ≡ going w → suc (length (numbers (w.seen without e) d.m)) ≡ size w
  stuck_circuit_length = Circuits.circuit_length d ends forest arr e he none

  -- so keeping is decided, and a circuit is never empty where a is at least 1
  pub keeps? : Dec (Keeps d (kept_in d forest) e)
  keeps? = Outcome.keeps? d ends forest arr e he none

  pub circuit_not_empty : (w : Waiting) → search d forest e ≡ going w → 1 ≤ d.a → d.one e ≢ d.other e
      → 1 ≤ length (numbers (w.seen without e) d.m)
  circuit_not_empty = Circuits.circuit_not_empty d ends forest arr e he none

-- ---- 6. Legal sets are a matroid

pub legal_subset : (d : Design) (s t : Set) → Within d.m s t → Legal d t → Legal d s
legal_subset = legal_sub

-- of two legal sets the smaller can take an edge of the larger
pub augmentation : (d : Design) → Ends d → (s t : Set) → Legal d s → Legal d t → count s d.m < count t d.m
    → (e : ℕ) × (In d.m e × (Is (t e) × (¬ (Is (s e)) × Legal d (s with e))))
augmentation = Augment.augment

-- all legal sets of edges of g to which no edge of g can be added are equally large
pub maximal_same_size : (d : Design) → Ends d → (g s t : Set) → Maximal d g s → Maximal d g t → count s d.m ≡ count t d.m
maximal_same_size = Formula.maximal_same_size

-- ---- 7. The rank formula

-- the number kept of a grown design is the least, over all choices x of its edges, of the edges outside x plus a·r(x) plus b·r of the black ones of x
pub rank_formula : (d : Design) → Ends d → (kept : Set) → Grown d kept → Least d (λ _. true) (count kept d.m)
rank_formula = Growing.grown_formula

-- ---- 8. The four laws of undo, over grown designs

-- the same edges in another order: the same freedom, and the same edges are implied
pub order_freedom : (d e : Design) (to fro : ℕ → ℕ) → Renumbered d e to fro → Ends d → Ends e → (s t : Set) → Grown d s → Grown e t
    → freedom d s ≡ freedom e t
order_freedom = Order.order_freedom

pub order_implies : (d e : Design) (to fro : ℕ → ℕ) → Renumbered d e to fro → Ends d → Ends e → (s t : Set) → Grown d s → Grown e t
    → (given : Edge) → In d.n given.one → In d.n given.other → (ImpliedBy d s given ↔ ImpliedBy e t given)
order_implies = Order.order_implies

module _ (d : Design) (x y : Edge) (s t : Set) (gs : Grown d s) (gt : Grown (plus d y) t) where
  -- adding an edge takes nothing out of what is implied
  pub more_implied : ImpliedBy d s x → ImpliedBy (plus d y) t x
  more_implied = Undo.more_implied d x y s t gs gt

  -- adding an implied edge puts nothing in
  pub implied_adds_none : ImpliedBy d s y → ImpliedBy (plus d y) t x → ImpliedBy d s x
  implied_adds_none = Undo.implied_adds_none d x y s t gs gt

  -- if x is not implied but is once y is added, then y is implied once x is added in its place
  pub exchange_law : (g : Set) → Grown (plus d x) g → ¬ (ImpliedBy d s x) → ImpliedBy (plus d y) t x
      → ImpliedBy (plus d x) g y
  exchange_law = Undo.exchange_law d x y s t gs gt

-- ---- 9. Circuits do not depend on later edges

pub circuit_settled : (d : Design) → Ends d → (kept : Set) → Grown d kept → (e : ℕ) → In d.m e → ¬ (Is (kept e)) → (y : ℕ) → In d.m y
    → (InCircuit d (below kept e) e y ↔ InCircuit d kept e y)
circuit_settled = Settled.circuit_settled

-- ---- 10. Groups

module _ (d : Design) (ends : Ends d) (forest : ℕ → ℕ) (arr : Arranged d forest) where
  -- two bodies are in one rigid group exactly when the greatest set closed with limit k joins them in each forest 1 to k
  pub group_iff : (u v : ℕ) → In d.n u → In d.n v → 1 ≤ k d
      → (InGroup d (kept_in d forest) u v ↔ Is (joined_in_all d forest (rigid_core d forest) (k d) u v))
  group_iff = Sharing.group_iff d ends forest arr

  -- in context: a black edge is implied exactly when the greatest closed set joins its ends in each forest 1 to k, a red one in 1 to a
  pub black_implied : (given : Edge) → In d.n given.one → In d.n given.other → given.colour ≢ 1
      → (Implies (plus d given) (kept_in d forest) (suc d.m) ↔ Is (joined_in_all d forest (core d forest) (k d) given.one given.other))
  black_implied = Context.black_implied d ends forest arr

  pub red_implied : (given : Edge) → In d.n given.one → In d.n given.other → given.colour ≡ 1
      → (Implies (plus d given) (kept_in d forest) (suc d.m) ↔ Is (joined_in_all d forest (core d forest) d.a given.one given.other))
  red_implied = Context.red_implied d ends forest arr

  -- all three are equivalences, since joined in each of some forests is one
  pub in_all_refl : (c : Set) (j u : ℕ) → Is (joined_in_all d forest c j u u)
  in_all_refl = Sharing.in_all_refl d forest

  pub in_all_sym : (c : Set) (j u v : ℕ) → Is (joined_in_all d forest c j u v) → Is (joined_in_all d forest c j v u)
  in_all_sym = Sharing.in_all_sym d forest

  pub in_all_trans : (c : Set) (j u v w : ℕ) → Is (joined_in_all d forest c j u v) → Is (joined_in_all d forest c j v w)
      → Is (joined_in_all d forest c j u w)
  in_all_trans = Sharing.in_all_trans d forest

  -- every rigid group lies in one class of each
  pub group_in_black : (u v : ℕ) → In d.n u → In d.n v → 1 ≤ k d → InGroup d (kept_in d forest) u v
      → Is (joined_in_all d forest (core d forest) (k d) u v)
  group_in_black = Context.group_in_black d ends forest arr

  pub group_in_red : (u v : ℕ) → In d.n u → In d.n v → 1 ≤ k d → InGroup d (kept_in d forest) u v
      → Is (joined_in_all d forest (core d forest) d.a u v)
  group_in_red = Context.group_in_red d ends forest arr
