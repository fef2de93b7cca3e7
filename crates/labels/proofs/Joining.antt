-- One edge more in forest f, between u and v, which stood in two trees: the labels after the tree of u has taken the label of v.
-- Read off Trees.antt, body x standing at place x - 1 of the forest's row.
-- Assumes nothing.
use mathlib.Core.Path.{◌≡◌, sym, ap, ap₂, ◌∙◌, subst₂, subst₃}
use mathlib.Core.Logic.{◌⊎◌, inl, inr, ⊎_elim}
use mathlib.Core.Bool.{Bool, cond}
use mathlib.Core.List.{List}
use Prim.Native.Nat.{ℕ, ◌+◌, ◌-◌, ◌<◌}
use native.Mathlib.Omega.{arith}
use lib.Bits.{bit_or}
use lib.ListN.{get_or, set, length-set}
use lib.Seq.{get_or-set_same, get_or-set_other}
use Rattle.rule.specs.Sets.{Is, ◌or◌, Set, In, ◌with◌}
use Rattle.rule.specs.Legal.{Design}
use Rattle.rule.proofs.Tests.{same_test, or_l, or_r, or_elim, with_self, with_old}
use Rattle.theory.specs.Joined.{joined, spans}
use Rattle.theory.proofs.Joined.Laws.{joined_mono, joined_split, spans_edge}
use Rattle.theory.proofs.Rank.Leaders.{Linked, linked_turned}
use Rattle.theory.proofs.Rank.Laws.{joined_equivalence}
use Rattle.words.specs.Bits.{bit}
use Rattle.words.proofs.Bits.{bit_or_lem}
use Rattle.tables.specs.Tables.{start, spot, label, crowd, Labels}
use Rattle.labels.specs.Rows.{Long, Applied}
use Rattle.labels.specs.Labels.{ReadyToUnite, Tree, United}
use Rattle.labels.proofs.Trees.{Renamed, named_renamed}

-- e links u and v
abbrev pub Links : Design → Set → (e u v : ℕ) → Type 0
Links d s e u v = Linked (joined d s) (joined d (s with e)) (joined_equivalence d s) (joined_equivalence d (s with e)) 64 u v

pub edge_links : (d : Design) (s : Set) (e u v : ℕ) → In d.m e → d.one e ≡ u → d.other e ≡ v → In 64 u → In 64 v
    → ¬ (Is (joined d s u v)) → Links d s e u v
unfolding spans
edge_links d s e u v h one other hu hv apart =
    record {
      one_body = hu;
      other_body = hv;
      apart = apart;
      grows = joined_mono d s (s with e) (λ f _ i. with_old s e f i);
      links = subst₂ (λ (x y : ℕ). Is (joined d (s with e) x y)) one other (spans_edge d (s with e) e h (with_self s e));
      only =
          λ x y p.
          subst₂ (λ (z w : ℕ). Is (joined d s x y) ⊎ ((Is (joined d s x z) × Is (joined d s w y)) ⊎ (Is (joined d s x w) × Is (joined d s z y)))) one
          other (joined_split d s e x y p);
    }

module _ (d : Design) (s : Set) (e f u v word : ℕ) (root who root' : List ℕ) (k : Links d s e u v) (long : Long who) (hf : In 6 f)
    (old : Labels d s f root who) (a : Applied (λ _. label root f v) (start f) (bit (crowd who f (label root f u))) root root')
    (both : (j : ℕ) → bit word j ≡ (bit (crowd who f (label root f u)) j or bit (crowd who f (label root f v)) j)) where
  abbrev who' : List ℕ
  who' = set who (start f + label root f v) word

  pub labels_joined : Labels d (s with e) f root' who'
  labels_joined =
      let new = named_renamed (joined d s) (joined d (s with e)) (joined_equivalence d s) (joined_equivalence d (s with e)) u v k (label root f)
      (crowd who f) (label root' f) (crowd who' f) (record { small = old.small; same = old.same; bodies = old.bodies }) renamed in
      record { small = new.small; same = new.same; bodies = new.bodies }
    where
      renamed : Renamed (joined d s) u v (label root f) (crowd who f) (label root' f) (crowd who' f)
      renamed =
          record {
            taken =
                λ x h.
                a.row (x - 1) (omega arith)
                ∙ ap (λ (b : Bool). cond b (label root f v) (label root f x)) (old.bodies u x k.one_body h);
            both =
                λ y h.
                ap (λ (w : ℕ). bit w (y - 1)) (get_or-set_same who (start f + label root f v) word 0 (omega (arith, old.small v k.other_body)))
                ∙ both (y - 1)
                ∙ ap₂ ◌or◌ (old.bodies u y k.one_body h) (old.bodies v y k.other_body h);
            others = λ l ne. get_or-set_other who (start f + label root f v) (start f + l) word 0 (omega arith);
          }

-- ---- what `unite` promises

or_turned : (a b : Bool) → (a or b) ≡ (b or a)
or_turned a b =
    same_test _ _ (λ h. ⊎_elim (λ p. or_r b a p) (λ p. or_l b a p) (or_elim a b h)) (λ h. ⊎_elim (λ p. or_r a b p) (λ p. or_l a b p) (or_elim b a h))

-- Either tree may take the other's label: p and q are u and v, or v and u.
module _ (f u v : ℕ) (root who : List ℕ) (r : ReadyToUnite f u v root) (root_long : Long root) (who_long : Long who) where
  -- the tree of p takes the label of q
  module _ (p q word : ℕ) (hp : In 64 p) (root' : List ℕ) (small : label root f q < 64)
      (a : Applied (λ _. label root f q) (start f) (bit (crowd who f (label root f p))) root root')
      (both : (j : ℕ) → bit word j ≡ (bit (crowd who f (label root f p)) j or bit (crowd who f (label root f q)) j))
      (turn : (d : Design) (s : Set) (e : ℕ) → Links d s e u v → Links d s e p q)
      (which : (d : Design) (s : Set) → Tree d s p (crowd who f (label root f p))
      → Tree d s u (crowd who f (label root f p)) ⊎ Tree d s v (crowd who f (label root f p))) where
    united_by : United f u v root who root' (set who (start f + label root f q) word) (crowd who f (label root f p))
    united_by =
        record {
          root_long = a.as_long ∙ root_long;
          who_long = length-set who (start f + label root f q) word ∙ who_long;
          root_else = a.else;
          who_else = λ i o. get_or-set_other who (start f + label root f q) i word 0 (o (label root f q) small);
          tree = λ d s old. which d s (λ x h. old.bodies p x hp h);
          labels =
              λ d s e h one other old apart.
              labels_joined d s e f p q word root who root' (turn d s e (edge_links d s e u v h one other r.one r.other apart)) who_long
              r.forest old a both;
        }

  -- where the code looks: the bodies, and their labels' words
  module _ (x y i j : ℕ) (at_x : x ≡ spot f u) (at_y : y ≡ spot f v) (at_i : i ≡ start f + get_or root x 0) (at_j : j ≡ start f + get_or root y 0)
      (root' : List ℕ) where
    label_i : i ≡ start f + label root f u
    label_i = at_i ∙ ap (λ (z : ℕ). start f + get_or root z 0) at_x

    label_j : j ≡ start f + label root f v
    label_j = at_j ∙ ap (λ (z : ℕ). start f + get_or root z 0) at_y

    pub one_renamed : Applied (λ _. get_or root y 0) (start f) (bit (get_or who i 0)) root root'
        → United f u v root who root' (set who j (bit_or (get_or who i 0) (get_or who j 0))) (get_or who i 0)
    one_renamed =
        subst₃
        (λ (y i j : ℕ).
        Applied (λ _. get_or root y 0) (start f) (bit (get_or who i 0)) root root'
        → United f u v root who root' (set who j (bit_or (get_or who i 0) (get_or who j 0))) (get_or who i 0))
        (sym at_y) (sym label_i) (sym label_j)
        (λ a. united_by u v _ r.one root' r.other_label a (bit_or_lem _ _) (λ d s e k. k) (λ d s t. inl t))

    pub other_renamed : Applied (λ _. get_or root x 0) (start f) (bit (get_or who j 0)) root root'
        → United f u v root who root' (set who i (bit_or (get_or who i 0) (get_or who j 0))) (get_or who j 0)
    other_renamed =
        subst₃
        (λ (x i j : ℕ).
        Applied (λ _. get_or root x 0) (start f) (bit (get_or who j 0)) root root'
        → United f u v root who root' (set who i (bit_or (get_or who i 0) (get_or who j 0))) (get_or who j 0))
        (sym at_x) (sym label_i) (sym label_j)
        (λ a.
        united_by v u _ r.other root' r.one_label a (λ n. bit_or_lem _ _ n ∙ or_turned _ _)
        (λ d s e k. linked_turned (joined d s) (joined d (s with e)) (joined_equivalence d s) (joined_equivalence d (s with e)) 64 u v k)
        (λ d s t. inr t))
