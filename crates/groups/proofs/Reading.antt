-- What the labels of the forests say: which edges stay in a pass, and which bodies are together.
-- Assumes nothing.
use mathlib.Core.Path.{◌≡◌, sym, ap, ap₂, ◌∙◌, subst}
use mathlib.Core.Bool.{Bool, true, false, cond, false≢true}
use mathlib.Core.List.{List}
use Prim.Native.Nat.{ℕ, suc, ◌+◌, ◌-◌, ◌≤◌, ◌<◌}
use native.Mathlib.Omega.{arith}
use lib.ListN.{length, get_or}
use Rattle.std.specs.Bool.{MatchBool}
use Rattle.std.specs.List.{AllWithin, HoldsAt, range_with_len}
use Rattle.std.proofs.lemmas.List.FromFn.{length-range_with_len, get_or-range_with_len}
use Rattle.rule.specs.Sets.{Is, ◌=?◌, Set, In, at}
use Rattle.rule.specs.Legal.{Design}
use Rattle.rule.specs.Forests.{in_forest}
use Rattle.rule.proofs.Tests.{is_false, same_test}
use Rattle.theory.specs.Numbers.{every}
use Rattle.theory.specs.Joined.{joined, spans}
use Rattle.theory.specs.Closed.{standing}
use Rattle.theory.specs.Groups.{joined_in_all}
use Rattle.theory.proofs.Numbers.Smallest.{every_make, every_at}
use Rattle.theory.proofs.Joined.Laws.{joined_refl}
use Rattle.words.specs.Bits.{bit}
use Rattle.tables.specs.Tables.{label, crowd, Labels}
use Rattle.groups.specs.Lent.{Lent, Coloured, limits}
use Rattle.groups.specs.Passes.{Seated, same_labels, stays}
use Rattle.groups.specs.Classes.{together, ClassesListed}
use Rattle.groups.proofs.Thinning.{held}

every_same : (p q : Set) (j : ℕ) → ((i : ℕ) → In j i → p i ≡ q i) → every p j ≡ every q j
every_same p q j f =
    same_test _ _ (λ h. every_make q j (λ i r. sym (f i r) ∙ every_at p j i r h)) (λ h. every_make p j (λ i r. f i r ∙ every_at q j i r h))

-- either of two numbers, as a test says
pub either_most : (t : Bool) (x y most : ℕ) → x ≤ most → y ≤ most → cond t x y ≤ most
either_most true x y most p q = p
either_most false x y most p q = q

-- ---- labels, forest by forest

module _ (root : List ℕ) (u v : ℕ) where
  abbrev pub one_label : ℕ → Bool
  one_label i = label root i u =? label root i v

  -- what `all` answers of the first j numbers, each plus 1
  pub same_of : (j : ℕ) (r : Bool)
      → MatchBool r (AllWithin (λ i. Is (one_label (i + 1))) (range_with_len 0 j) 0 (length (range_with_len 0 j)))
      ((i : ℕ) × (i < length (range_with_len 0 j)) × HoldsAt (λ i. one_label (i + 1) ≡ false) (range_with_len 0 j) i) → r ≡ same_labels root j u v
  unfolding same_labels
  same_of j true all =
      sym (every_make one_label j
      (λ i h.
      subst (λ (z : ℕ). Is (one_label z)) (omega (arith, h.low, get_or-range_with_len 0 j (i - 1) 0 (omega (arith, h.low, h.high))))
      (all (i - 1) 0 (omega arith) (omega (arith, h.low, h.high, length-range_with_len 0 j)))))
  same_of j false apart =
      let i = apart.0 in
      let less : i < j = omega (arith, apart.1, length-range_with_len 0 j) in
      let here : one_label (i + 1) ≡ false = subst (λ (z : ℕ). one_label (z + 1) ≡ false) (omega (arith, get_or-range_with_len 0 j i 0 less)) (apart.2 0) in
      sym (is_false _ (λ h. false≢true (sym here ∙ every_at one_label j (i + 1) (omega arith) h)))

-- ---- the edges

-- where the code reads the limit and the ends of the edge at index e
pub stays_at : (root ones others colours : List ℕ) (red black e j u v : ℕ) → j ≡ cond (get_or colours e 0 =? 1) red black → u ≡ get_or ones e 0
    → v ≡ get_or others e 0 → same_labels root j u v ≡ stays root ones others colours red black (suc e)
unfolding stays at
stays_at root ones others colours red black e j u v p q r = λ i. same_labels root (p i) (q i) (r i)

-- the ends of the edges have places in the tables
pub ends_tabled : (d : Design) (m : ℕ) (ones others : List ℕ) → Lent d m ones others → (e : ℕ) → In m e → In 64 (at ones e) × In 64 (at others e)
ends_tabled d m ones others lent e h =
    let hd : In d.m e = omega (arith, lent.edges) in
    let one = subst (λ (f : ℕ → ℕ). In d.n (f e)) lent.one (lent.ends.one e hd) in
    let other = subst (λ (f : ℕ → ℕ). In d.n (f e)) lent.other (lent.ends.other e hd) in
    (omega (arith, one, lent.bodies), omega (arith, other, lent.bodies))

module _ (d : Design) (m : ℕ) (ones others colours : List ℕ) (lent : Lent d m ones others) (coloured : Coloured d colours) (red black : ℕ)
    (few_red : red ≤ 6) (few_black : black ≤ 6) (root who : List ℕ) (left : ℕ → ℕ)
    (labels : (i : ℕ) → In 6 i → Labels d (in_forest left i) i root who) where
  -- an edge stays exactly when what is left joins its ends in each of the forests 1 to its limit
  pub stays_held : (e : ℕ) → In m e → stays root ones others colours red black e ≡ held d left (limits d red black) e
  unfolding stays same_labels held limits spans
  stays_held e h =
      let ends = ends_tabled d m ones others lent e h in
      ap (λ (f : ℕ → Bool). every (λ i. label root i (at ones e) =? label root i (at others e)) (cond (f e) red black)) (sym coloured)
      ∙ every_same (λ i. label root i (at ones e) =? label root i (at others e)) (λ i. joined d (in_forest left i) (d.one e) (d.other e)) (cond (d.red e) red black)
      (λ i r.
      (labels i (omega (arith, either_most (d.red e) red black 6 few_red few_black))).same (at ones e) (at others e) ends.0 ends.1
      ∙ ap₂ (λ (f g : ℕ → ℕ). joined d (in_forest left i) (f e) (g e)) (sym lent.one) (sym lent.other))

-- ---- the bodies

pub labels_seated : (d : Design) (s : ℕ → Set) (root who : List ℕ) → ((i : ℕ) → In 6 i → Labels d (s i) i root who) → Seated root who
labels_seated d s root who labels =
    record {
      small = λ i v hi hv. (labels i hi).small v hv;
      own = λ i v hi hv. (labels i hi).bodies v v hv hv ∙ joined_refl d (s i) v;
    }

-- two bodies are together exactly when c joins them in each of the forests
pub together_joined : (d : Design) (forest : ℕ → ℕ) (c : Set) (root who : List ℕ) → ((i : ℕ) → In 6 i → Labels d (standing forest c i) i root who)
    → (j : ℕ) → j ≤ 6 → (v u : ℕ) → In 64 v → In 64 u → together root who j v u ≡ joined_in_all d forest c j v u
unfolding together joined_in_all
together_joined d forest c root who labels j few v u hv hu =
    every_same (λ i. bit (crowd who i (label root i v)) (u - 1)) (λ i. joined d (standing forest c i) v u) j (λ i r. (labels i (omega arith)).bodies v u hv hu)

-- so a list of the bodies that are together is one of the bodies that c joins
pub listed_joined : (d : Design) (forest : ℕ → ℕ) (c : Set) (root who : List ℕ) → ((i : ℕ) → In 6 i → Labels d (standing forest c i) i root who)
    → (j n : ℕ) → j ≤ 6 → n ≤ 64 → (before after : List ℕ) → ClassesListed (together root who j) n before after → ClassesListed (joined_in_all d forest c j) n before after
listed_joined d forest c root who labels j n few fits before after l =
    record {
      as_long = l.as_long;
      leads =
          λ v h.
          let lead = l.leads v h in
          record {
            body = lead.body;
            is_near = sym (same v (at after v) h lead.body) ∙ lead.is_near;
            smallest = λ u r t. lead.smallest u r (same v u h r ∙ t);
          };
      past = l.past;
    }
  where
    same : (v u : ℕ) → In n v → In n u → together root who j v u ≡ joined_in_all d forest c j v u
    same v u h r = together_joined d forest c root who labels j few v u (omega arith) (omega arith)
