-- The forests of the first e edges of a design, the others standing nowhere: what the scan has built after e edges.
-- Assumes nothing.
use mathlib.Core.Path.{◌≡◌, sym, ap, ◌∙◌, subst, fun_ext}
use mathlib.Core.Bool.{Bool, cond}
use mathlib.Core.List.{List}
use Prim.Native.Nat.{ℕ, suc, ◌≤◌, ◌<◌}
use native.Mathlib.Omega.{arith}
use Rattle.rule.specs.Sets.{Is, ◌≤?◌, In, put, below}
use Rattle.rule.specs.Legal.{Design}
use Rattle.rule.specs.Forests.{in_forest}
use Rattle.rule.proofs.Tests.{is_false, eq_of, le_of, le_is, by_eq, by_le, put_same, put_other, below_in, below_lt, below_make}
use Rattle.rule.proofs.Counting.{Within}
use Rattle.theory.proofs.Legal.Kept.{forest_make, forest_is}
use Rattle.tables.specs.Tables.{word, Tabled}
use Rattle.tables.proofs.Agree.{tabled_agree}
use Rattle.labels.specs.Labels.{Empty, Begun}
use Rattle.labels.proofs.Single.{joined_none}
use Rattle.words.specs.Bits.{bit}
use Rattle.book.specs.Scan.{Cleared}

unfoldable pub up_to : (ℕ → ℕ) → (e : ℕ) → ℕ → ℕ
up_to forest e i = cond (i ≤? e) (forest i) 0

module _ (forest : ℕ → ℕ) (e : ℕ) where
  pub upto_in : (i : ℕ) → i ≤ e → up_to forest e i ≡ forest i
  unfolding up_to
  upto_in i l = ap (λ (t : Bool). cond t (forest i) 0) (le_is i e l)

  pub upto_past : (i : ℕ) → e < i → up_to forest e i ≡ 0
  unfolding up_to
  upto_past i l = ap (λ (t : Bool). cond t (forest i) 0) (is_false (i ≤? e) (λ h. omega (arith, le_of i e h)))

  -- who stands in a forest is one of them, and stands there
  module _ (f i : ℕ) (low : 1 ≤ f) (t : Is (in_forest (up_to forest e) f i)) where
    pub upto_most : i ≤ e
    upto_most = by_le i e (λ l. l) (λ l. absurd (omega (arith, upto_past i l, forest_is (up_to forest e) f i t)))

    pub upto_stands : forest i ≡ f
    upto_stands = sym (upto_in i upto_most) ∙ forest_is (up_to forest e) f i t

  -- in a forest these are the edges below e + 1
  pub upto_below : (m f : ℕ) → 1 ≤ f → Within m (in_forest (up_to forest e) f) (below (in_forest forest f) (suc e))
  upto_below m f low i _ t =
      below_make (in_forest forest f) (suc e) i (forest_make forest f i (upto_stands f i low t)) (omega (arith, upto_most f i low t))

  pub below_upto : (m f : ℕ) → Within m (below (in_forest forest f) (suc e)) (in_forest (up_to forest e) f)
  below_upto m f i _ t =
      forest_make (up_to forest e) f i
      (upto_in i (omega (arith, below_lt (in_forest forest f) (suc e) i t)) ∙ forest_is forest f i (below_in (in_forest forest f) (suc e) i t))

-- one edge more
pub upto_more : (forest : ℕ → ℕ) (e : ℕ) → up_to forest (suc e) ≡ put (up_to forest e) (suc e) (forest (suc e))
upto_more forest e =
    fun_ext
    (λ i.
    by_eq i (suc e)
    (λ q.
    subst (λ (z : ℕ). up_to forest (suc e) z ≡ put (up_to forest e) (suc e) (forest (suc e)) z) (sym q)
    (upto_in forest (suc e) (suc e) (omega arith) ∙ sym (put_same (up_to forest e) (suc e) (forest (suc e)))))
    (λ ne.
    by_le i e
    (λ l. upto_in forest (suc e) i (omega arith) ∙ sym (upto_in forest e i l))
    (λ l. upto_past forest (suc e) i (omega arith) ∙ sym (upto_past forest e i l))
    ∙ sym (put_other (up_to forest e) (suc e) (forest (suc e)) i ne)))

-- ---- the first and the last

module _ (d : Design) (forest : ℕ → ℕ) (root way who edge size : List ℕ) where
  none_yet : (f : ℕ) → In 6 f → Empty d (in_forest (up_to forest 0) f)
  none_yet f hf i h t = omega (arith, upto_most forest 0 f i hf.low t, h.low)

  -- where no slot is filled, the words may hold anything
  pub tabled_none : Begun root who → Cleared size → Tabled d (up_to forest 0) root way who edge size
  tabled_none begun clear =
      record {
        slots =
            λ f h.
            record {
              most = omega (arith, clear.none f h);
              edge_in = λ j l. absurd (omega (arith, l, clear.none f h));
              slot_of = λ i hi q. absurd (none_yet f h i hi (forest_make (up_to forest 0) f i q));
              once = λ i j l. absurd (omega (arith, l, clear.none f h));
            };
        labels = λ f h. begun.labels d (in_forest (up_to forest 0) f) (none_yet f h) f h;
        ways =
            λ f h.
            record {
              paths = λ u v j hu hv l. absurd (omega (arith, l, clear.none f h));
              rest =
                  λ u v j hu hv l p.
                  ap (λ (x : ℕ). bit (word way f x) j)
                  (eq_of u v (sym (joined_none d (in_forest (up_to forest 0) f) (none_yet f h) u v) ∙ p));
            };
      }

  pub tabled_all : (e : ℕ) → d.m ≤ e → Tabled d (up_to forest e) root way who edge size → Tabled d forest root way who edge size
  tabled_all e l t = tabled_agree d (up_to forest e) forest (λ i h. upto_in forest e i (omega arith)) root way who edge size t
