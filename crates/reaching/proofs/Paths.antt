-- What the tables say of an edge x and a forest f: whether f joins the ends of x, which slots of f are on the path between them, and that
-- the slots on the path, less those seen already, carry the edges that x reaches anew.
-- Assumes nothing.
use mathlib.Core.Path.{◌≡◌, refl, sym, ap, ◌∙◌, subst}
use mathlib.Core.Bool.{Bool, true, false}
use mathlib.Core.List.{List}
use Prim.Native.Nat.{ℕ, ◌<◌}
use native.Mathlib.Omega.{arith}
use lib.Bits.{bit_xor, bit_or}
use Rattle.rule.specs.Sets.{Is, ◌and◌, ◌or◌, isnt, ◌=?◌, In}
use Rattle.rule.specs.Legal.{Design}
use Rattle.rule.specs.Forests.{in_forest}
use Rattle.rule.proofs.Tests.{cases, same_test, and_make, and_l, and_r, by_le}
use Rattle.theory.specs.Joined.{spans, on_path}
use Rattle.theory.specs.Search.{Waiting, fresh}
use Rattle.theory.proofs.Exchange.Step.{path_in, path_needs, path_make}
use Rattle.theory.proofs.Legal.Kept.{forest_make, forest_is}
use Rattle.words.specs.Bits.{bit}
use Rattle.words.proofs.Bits.{◌differs◌, bit_xor_lem, bit_or_lem, differs_same, same_differs}
use Rattle.tables.specs.Tables.{start, label, word, slot, filled}
use Rattle.reaching.specs.Words.{Carries, standing_at}
use Rattle.reaching.specs.Setting.{Setting}

-- what is in one word and not in another
in_one_only : (a b : Bool) → ((b or a) differs b) ≡ (a and isnt b)
unfolding ◌or◌ ◌and◌ isnt ◌differs◌
in_one_only true true = refl
in_one_only true false = refl
in_one_only false true = refl
in_one_only false false = refl

pub fresh_bit : (on old j : ℕ) → bit (bit_xor (bit_or old on) old) j ≡ (bit on j and isnt (bit old j))
fresh_bit on old j = bit_xor_lem (bit_or old on) old j ∙ ap (λ (b : Bool). b differs bit old j) (bit_or_lem old on j) ∙ in_one_only (bit on j) (bit old j)

module _ {d : Design} {forest : ℕ → ℕ} {root way who edge sizes : List ℕ} (s : Setting d forest root way who edge sizes) (x f : ℕ) (hx : In d.m x)
    (hf : In 6 f) where
  pub joined_ends : (label root f (d.one x) =? label root f (d.other x)) ≡ spans d (in_forest forest f) x
  unfolding spans
  joined_ends = (s.tabled.labels f hf).same (d.one x) (d.other x) (s.one x hx) (s.other x hx)

  -- the edge in a slot
  slot_edge : (j : ℕ) → j < filled sizes f → In d.m (slot edge f j)
  slot_edge j h = ((s.tabled.slots f hf).edge_in j h).0

  slot_forest : (j : ℕ) → j < filled sizes f → Is (in_forest forest f (slot edge f j))
  slot_forest j h = forest_make forest f (slot edge f j) ((s.tabled.slots f hf).edge_in j h).1

  module _ (spanned : Is (spans d (in_forest forest f) x)) where
    -- the slots on the path between the ends of x, as a word
    abbrev between : ℕ
    between = bit_xor (word way f (d.one x)) (word way f (d.other x))

    pub is_on_path : (j : ℕ) → j < filled sizes f → bit between j ≡ on_path d (in_forest forest f) x (slot edge f j)
    unfolding spans
    is_on_path j h =
        let y = slot edge f j in
        let p = (s.tabled.ways f hf).paths (d.one x) (d.other x) j (s.one x hx) (s.other x hx) h spanned in
        bit_xor_lem (word way f (d.one x)) (word way f (d.other x)) j
        ∙ same_test _ _
        (λ t. path_make d (in_forest forest f) x y (slot_forest j h) spanned (λ around. same_differs _ _ (p.1 around) t))
        (λ t.
        cases (bit (word way f (d.one x)) j differs bit (word way f (d.other x)) j) (λ k. k)
        (λ n. absurd (path_needs d (in_forest forest f) x y t (p.0 (differs_same _ _ n)))))

    on_slot : (j : ℕ) → Is (bit between j) → j < filled sizes f
    unfolding spans
    on_slot j t =
        by_le (filled sizes f) j
        (λ past.
        absurd
        (same_differs _ _ ((s.tabled.ways f hf).rest (d.one x) (d.other x) j (s.one x hx) (s.other x hx) past spanned)
        (sym (bit_xor_lem (word way f (d.one x)) (word way f (d.other x)) j) ∙ t)))
        (λ l. l)

    module _ (w : Waiting) (old : ℕ) (marks : (j : ℕ) → j < filled sizes f → bit old j ≡ w.seen (slot edge f j)) where
      -- the slots on the path that are not yet seen
      abbrev news : ℕ
      news = bit_xor (bit_or old between) old

      new_on : (j : ℕ) → Is (bit news j) → Is (bit between j)
      new_on j t = and_l _ _ (sym (fresh_bit between old j) ∙ t)

      new_fresh : (j : ℕ) → Is (bit news j) → Is (fresh d forest w x f (slot edge f j))
      unfolding fresh
      new_fresh j t =
          let h = on_slot j (new_on j t) in
          and_make _ _ (sym (is_on_path j h) ∙ new_on j t) (subst (λ (b : Bool). Is (isnt b)) (marks j h) (and_r (bit between j) _ (sym (fresh_bit between old j) ∙ t)))

      fresh_new : (j : ℕ) → j < filled sizes f → Is (fresh d forest w x f (slot edge f j)) → Is (bit news j)
      unfolding fresh
      fresh_new j h t =
          fresh_bit between old j
          ∙ and_make _ _ (is_on_path j h ∙ and_l _ _ t) (subst (λ (b : Bool). Is (isnt b)) (sym (marks j h)) (and_r (on_path d (in_forest forest f) x (slot edge f j)) _ t))

      fresh_forest : (y : ℕ) → Is (fresh d forest w x f y) → forest y ≡ f
      unfolding fresh
      fresh_forest y t = forest_is forest f y (path_in d (in_forest forest f) x y (and_l _ _ t))

      pub carries_fresh : Carries (standing_at edge (start f)) news (fresh d forest w x f) d.m
      carries_fresh =
          record {
            number = λ j _ t. (slot_edge j (on_slot j (new_on j t)), new_fresh j t);
            bit_of =
                λ y h t.
                let at = (s.tabled.slots f hf).slot_of y h (fresh_forest y t) in (
                  at.0,
                  (
                    omega (arith, at.1.0, (s.tabled.slots f hf).most),
                    (fresh_new at.0 at.1.0 (subst (λ (z : ℕ). Is (fresh d forest w x f z)) (sym at.1.1) t), at.1.1),
                  ),
                );
            once = λ i j _ _ hi hj q. (s.tabled.slots f hf).once i j (on_slot i (new_on i hi)) (on_slot j (new_on j hj)) q;
          }
