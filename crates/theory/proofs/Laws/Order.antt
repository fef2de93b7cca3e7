-- The first law: the same edges in another order. The number kept is the same, and so is what is implied.
--
-- The kept edges of the one, renumbered, are a legal set of the other to which nothing can be added; all such sets are equally
-- large. An edge more is kept exactly when the number kept grows, and that number is the same in both orders.
--
-- Not here: laws of the orders themselves, in Reorder.antt.
-- Assumes nothing.
use mathlib.Core.Path.{◌≡◌, refl, sym, ap, ◌∙◌, subst}
use mathlib.Core.Logic.{⊎_elim, ◌↔◌}
use mathlib.Core.Bool.{Bool, true, false}
use Prim.Native.Nat.{ℕ, suc, ◌+◌, ◌*◌, ◌-◌}
use native.Mathlib.Nat.{le_antisymm}
use native.Mathlib.Omega.{arith}
use Rattle.rule.specs.Sets.{Is, Set, In, ◌with◌, one_if, count}
use Rattle.rule.specs.Legal.{Design, Ends, Legal, Keeps, Grown}
use Rattle.rule.specs.Figures.{freedom}
use Rattle.rule.specs.declared.Edge.{Edge}
use Rattle.rule.specs.Books.{plus}
use Rattle.rule.proofs.Tests.{never, with_self, with_old, with_elim}
use Rattle.rule.proofs.Counting.{count_eq}
use Rattle.theory.specs.Order.{Renumbered, ImpliedBy}
use Rattle.theory.proofs.Matroid.Formula.{Maximal, maximal_same_size}
use Rattle.theory.proofs.Laws.Transport.{count_into, Carries, legal_carried}
use Rattle.theory.proofs.Laws.Plus.{plus_ends}
use Rattle.theory.proofs.Laws.Reorder.{renumbered_back, renumbered_plus}
use Rattle.theory.proofs.Laws.Grown.{grown_legal, grown_full, grown_maximal, grown_exists, old_kept, new_kept}

module _ (d e : Design) (to fro : ℕ → ℕ) (r : Renumbered d e to fro) where
  -- a set of edges of d goes into one of e
  carries : (s t : Set) → ((i : ℕ) → In d.m i → Is (s i) → Is (t (to i))) → Carries d e s t to
  carries s t f =
      record {
        a = r.a;
        b = r.b;
        n = r.n;
        into =
            record {
              range = λ i h _. r.to_range i h;
              goes = f;
              once = λ i j hi hj _ _ q. sym (r.there i hi) ∙ ap fro q ∙ r.there j hj;
            };
        one = λ i h _. r.one i h;
        other = λ i h _. r.other i h;
        red = λ i h _. r.red i h;
      }

  pub legal_renumbered : (s t : Set) → ((i : ℕ) → In d.m i → Is (s i) → Is (t (to i))) → Legal e t → Legal d s
  legal_renumbered s t f = legal_carried d e s t to (carries s t f)

module _ (d e : Design) (to fro : ℕ → ℕ) (r : Renumbered d e to fro) (k : Set) where
  -- the edges of k, as numbered in e
  abbrev image : Set
  image = λ j. k (fro j)

  image_count : count k d.m ≡ count image e.m
  image_count =
      let back = renumbered_back d e to fro r in
      le_antisymm
      (count_into d.m e.m k image to
      (carries d e to fro r k image (λ i h t. subst (λ (z : ℕ). Is (k z)) (sym (r.there i h)) t)).into)
      (count_into e.m d.m image k fro (carries e d fro to back image k (λ j h t. t)).into)

  image_maximal : Ends d → Grown d k → Maximal e (λ _. true) image
  image_maximal ends g =
      record {
        within = λ j h t. refl;
        legal = legal_renumbered e d fro to (renumbered_back d e to fro r) image k (λ j h t. t) (grown_legal d ends k g);
        full =
            λ j h _ n legal.
            grown_full d ends k g (fro j) (r.fro_range j h) n
            (legal_renumbered d e to fro r (k with fro j) (image with j)
            (λ i hi t.
            ⊎_elim
            (λ q. subst (λ (z : ℕ). Is ((image with j) z)) (sym (ap to q ∙ r.back j h)) (with_self image j))
            (λ o. with_old image j (to i) (subst (λ (z : ℕ). Is (k z)) (sym (r.there i hi)) o)) (with_elim k (fro j) i t))
            legal);
      }

-- the number kept does not depend on the order
pub order_count : (d e : Design) (to fro : ℕ → ℕ) → Renumbered d e to fro → Ends d → Ends e → (k h : Set) → Grown d k → Grown e h
    → count k d.m ≡ count h e.m
order_count d e to fro r ends_d ends_e k h gk gh =
    image_count d e to fro r k
    ∙ maximal_same_size e ends_e (λ _. true) (λ j. k (fro j)) h (image_maximal d e to fro r k ends_d gk) (grown_maximal e ends_e h gh)

pub order_freedom : (d e : Design) (to fro : ℕ → ℕ) → Renumbered d e to fro → Ends d → Ends e → (k h : Set) → Grown d k → Grown e h
    → freedom d k ≡ freedom e h
unfolding freedom
order_freedom d e to fro r ends_d ends_e k h gk gh =
    ap₄ r.a r.b r.n (order_count d e to fro r ends_d ends_e k h gk gh)
  where
    ap₄ : {a b n c a' b' n' c' : ℕ} → a ≡ a' → b ≡ b' → n ≡ n' → c ≡ c' → (a + b) * (n - 1) - c ≡ (a' + b') * (n' - 1) - c'
    ap₄ p q s t = λ i. (p i + q i) * (s i - 1) - t i

-- ---- one edge more in both orders

-- the edge more is counted exactly when it is kept
count_plus : (d : Design) (given : Edge) (k l : Set) → Grown d k → Grown (plus d given) l
    → count l (suc d.m) ≡ count k d.m + one_if (l (suc d.m))
unfolding count
count_plus d given k l gk gl =
    ap (λ (z : ℕ). z + one_if (l (suc d.m))) (count_eq l k d.m (λ i h. sym (old_kept d given k l gk gl i h)))

one_if_eq : (a b : Bool) → one_if a ≡ one_if b → Is a → Is b
one_if_eq true true q h = refl
one_if_eq true false q h = absurd (omega arith)
one_if_eq false b q h = never h

module _ (d e : Design) (to fro : ℕ → ℕ) (r : Renumbered d e to fro) (ends_d : Ends d) (ends_e : Ends e) (k h : Set) (gk : Grown d k)
    (gh : Grown e h) (given : Edge) (hu : In d.n given.one) (hv : In d.n given.other) where
  -- kept in the one, then kept in the other
  keeps_same : Keeps (plus d given) k (suc d.m) → Keeps (plus e given) h (suc e.m)
  unfolding plus
  keeps_same p =
      let ends_d' : Ends (plus d given) = plus_ends d given ends_d hu hv in
      let ends_e' : Ends (plus e given) =
      plus_ends e given ends_e (subst (λ (z : ℕ). In z given.one) r.n hu) (subst (λ (z : ℕ). In z given.other) r.n hv) in
      let l = grown_exists (plus d given) ends_d' in
      let g = grown_exists (plus e given) ends_e' in
      let same : count l.0 (suc d.m) ≡ count g.0 (suc e.m) =
      order_count (plus d given) (plus e given) _ _ (renumbered_plus d e to fro r given) ends_d' ends_e' l.0 g.0 l.1 g.1 in
      (new_kept e given h g.0 gh g.1).0
      (one_if_eq (l.0 (suc d.m)) (g.0 (suc e.m))
      (omega (
        arith,
        same,
        order_count d e to fro r ends_d ends_e k h gk gh,
        count_plus d given k l.0 gk l.1,
        count_plus e given h g.0 gh g.1,
      ))
      ((new_kept d given k l.0 gk l.1).1 p))

-- what is implied does not depend on the order
pub order_implies : (d e : Design) (to fro : ℕ → ℕ) → Renumbered d e to fro → Ends d → Ends e → (k h : Set) → Grown d k → Grown e h
    → (given : Edge) → In d.n given.one → In d.n given.other → (ImpliedBy d k given ↔ ImpliedBy e h given)
order_implies d e to fro r ends_d ends_e k h gk gh given hu hv = (
  (λ not p.
      not
      (keeps_same e d fro to (renumbered_back d e to fro r) ends_e ends_d h k gh gk given (subst (λ (z : ℕ). In z given.one) r.n hu)
      (subst (λ (z : ℕ). In z given.other) r.n hv) p)),
  (λ not p. not (keeps_same d e to fro r ends_d ends_e k h gk gh given hu hv p)),
)
