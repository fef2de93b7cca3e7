-- The shift: each edge of a path moves into the forest of the next, the last into a forest where it is free. It is an
-- arrangement again, the same edges and the new one are kept, and as many earlier edges have moved as the path is long.
--
-- It is the walk (Walk.antt) with the last edge put in at the end (`shift_is_walk`): a forest that joins what it joined before
-- does not join the ends of that edge. An edge never moves into its own forest: there it joins its ends by itself.
-- Assumes nothing.
use mathlib.Core.Path.{◌≡◌, refl, sym, ap, ap₂, ◌∙◌, subst}
use mathlib.Core.Logic.Iff
use mathlib.Core.Logic.{◌↔◌, ◌≢◌}
use mathlib.Core.Bool.{Bool}
use mathlib.Core.List.{List, [], ◌∷◌}
use Prim.Native.Nat.{ℕ, ◌≤◌}
use native.Mathlib.Omega.{arith}
use Rattle.rule.specs.Sets.{Is, ◌=?◌, In, put}
use Rattle.rule.specs.Legal.{Design, k}
use Rattle.rule.specs.Forests.{limit, in_forest, Permitted, Arranged}
use Rattle.rule.proofs.Tests.{same_test, eq_of, eq_is, by_eq, put_same, put_other, put_put, put_comm, put_id}
use Rattle.theory.specs.Joined.{spans}
use Rattle.theory.specs.Exchange.{Free, Each, Distinct, Path, end, exchanged, walked, freed, shifted}
use Rattle.theory.proofs.Joined.Acyclic.{Acyclic, loopless_acyclic, acyclic_loopless, acyclic_add}
use Rattle.theory.proofs.Legal.Kept.{forest_is, forest_put}
use Rattle.theory.proofs.Exchange.Walk.{away, Start, walk_arranged, walk_joined, walk_end}

-- ---- the shift is the walk with the last edge put in

freed_put : (forest : ℕ → ℕ) (z v : ℕ) (l : List ℕ) (f : ℕ) → Each (λ y. y ≢ z) l → freed (put forest z v) l f ≡ freed forest l f
freed_put forest z v [] f h = refl
freed_put forest z v (y ∷ l) f h = put_other forest z v y h.0

shifted_put : (forest : ℕ → ℕ) (z v : ℕ) (l : List ℕ) (f : ℕ) → Each (λ y. y ≢ z) l → shifted (put forest z v) l f ≡ put (shifted forest l f) z v
unfolding shifted
shifted_put forest z v [] f h = refl
shifted_put forest z v (y ∷ l) f h =
    ap₂ (λ (g : ℕ → ℕ) (w : ℕ). put g y w) (shifted_put forest z v l f h.1) (freed_put forest z v l f h.1)
    ∙ put_comm (shifted forest l f) z y v (freed forest l f) (λ q. h.0 (sym q))

pub shift_is_walk : (forest : ℕ → ℕ) (x : ℕ) (rest : List ℕ) (f : ℕ) → Distinct x rest
    → shifted forest (x ∷ rest) f ≡ put (walked forest x rest) (end x rest) f
unfolding shifted walked
shift_is_walk forest x [] f h = refl
shift_is_walk forest x (y ∷ rest) f h =
    let s = shifted forest rest f in
    let g = freed forest rest f in
    let ny = away y rest h.1 in
    let moved_on : shifted (exchanged forest x y) rest f ≡ put (put s x (forest y)) y 0 =
    shifted_put (put forest x (forest y)) y 0 rest f ny ∙ ap (λ (r : ℕ → ℕ). put r y 0) (shifted_put forest x (forest y) rest f h.0.1) in
    let same_freed : freed (exchanged forest x y) rest f ≡ g =
    freed_put (put forest x (forest y)) y 0 rest f ny ∙ freed_put forest x (forest y) rest f h.0.1 in
    put_comm s y x g (forest y) h.0.0
    ∙ sym (put_put (put s x (forest y)) y 0 g)
    ∙ sym (ap₂ (λ (r : ℕ → ℕ) (w : ℕ). put r y w) moved_on same_freed)
    ∙ shift_is_walk (exchanged forest x y) y rest f h.1

module _ (d : Design) (forest : ℕ → ℕ) (x : ℕ) (rest : List ℕ) (start : Start d forest x rest) (arr : Arranged d forest) where
  -- ---- it is an arrangement

  module _ (f : ℕ) (free : Free d forest (end x rest) f) where
    -- the last edge is free in forest f still
    still_free : ¬ (Is (spans d (in_forest (walked forest x rest) f) (end x rest)))
    unfolding spans
    still_free h =
        free.not_joined (sym (walk_joined d forest x rest start f free.allowed.low (d.one (end x rest)) (d.other (end x rest))) ∙ h)

    put_in : Arranged d (put (walked forest x rest) (end x rest) f)
    unfolding Permitted
    put_in =
        let walk = walk_arranged d forest x rest start arr in
        record {
          permitted =
              λ e h.
              by_eq e (end x rest)
              (λ q.
              subst (λ (z : ℕ). put (walked forest x rest) (end x rest) f z ≤ limit d z) (sym q)
              (omega (arith, put_same (walked forest x rest) (end x rest) f, free.allowed.high)))
              (λ ne. omega (arith, put_other (walked forest x rest) (end x rest) f e ne, walk.permitted e h));
          loopless =
              λ i h.
              acyclic_loopless d (in_forest (put (walked forest x rest) (end x rest) f) i)
              (subst (Acyclic d) (sym (forest_put (walked forest x rest) (end x rest) f i))
              (by_eq f i (λ q. grows i h q) (λ ne. same i h ne)));
        }
      where
        old : (i : ℕ) → In (k d) i → Acyclic d (in_forest (walked forest x rest) i)
        old i h = loopless_acyclic d (in_forest (walked forest x rest) i) ((walk_arranged d forest x rest start arr).loopless i h)

        grows : (i : ℕ) → In (k d) i → f ≡ i → Acyclic d (put (in_forest (walked forest x rest) i) (end x rest) (f =? i))
        grows i h q =
            subst (λ (t : Bool). Acyclic d (put (in_forest (walked forest x rest) i) (end x rest) t)) (sym (eq_is f i q))
            (acyclic_add d (in_forest (walked forest x rest) i) (end x rest)
            (subst (λ (j : ℕ). ¬ (Is (spans d (in_forest (walked forest x rest) j) (end x rest)))) q still_free) (old i h))

        same : (i : ℕ) → In (k d) i → f ≢ i → Acyclic d (put (in_forest (walked forest x rest) i) (end x rest) (f =? i))
        same i h ne =
            subst (Acyclic d)
            (sym
            (put_id (in_forest (walked forest x rest) i) (end x rest) (f =? i)
            (same_test _ _ (λ t. absurd (omega (arith, h.low, walk_end d forest x rest start, forest_is (walked forest x rest) i (end x rest) t)))
            (λ t. absurd (ne (eq_of f i t))))))
            (old i h)

    pub shift_arranged : Arranged d (shifted forest (x ∷ rest) f)
    shift_arranged = subst (Arranged d) (sym (shift_is_walk forest x rest f start.distinct)) put_in

  -- ---- the same edges are kept, and the new one

  placed : (x : ℕ) (rest : List ℕ) → Path d forest x rest → Each (λ z. 1 ≤ forest z) rest
  placed x [] p = tt
  placed x (y ∷ rest) p = (p.0.placed, placed y rest p.1.1)

  freed_placed : (l : List ℕ) (f : ℕ) → 1 ≤ f → Each (λ z. 1 ≤ forest z) l → 1 ≤ freed forest l f
  freed_placed [] f h p = h
  freed_placed (z ∷ l) f h p = p.0

  shifted_placed : (l : List ℕ) (f : ℕ) → 1 ≤ f → Each (λ z. 1 ≤ forest z) l → (e : ℕ) → (1 ≤ shifted forest l f e) ↔ (1 ≤ forest e)
  unfolding shifted
  shifted_placed [] f h p e = Iff.rfl
  shifted_placed (z ∷ l) f h p e =
      by_eq e z
      (λ q.
      subst (λ (v : ℕ). (1 ≤ put (shifted forest l f) z (freed forest l f) v) ↔ (1 ≤ forest v)) (sym q)
      ((λ _. p.0), (λ _. omega (arith, put_same (shifted forest l f) z (freed forest l f), freed_placed l f h p.1))))
      (λ ne.
      let o = put_other (shifted forest l f) z (freed forest l f) e ne in
      let ih = shifted_placed l f h p.1 e in
      ((λ g. ih.0 (omega arith)), (λ g. let r = ih.1 g in omega arith)))

  pub shift_kept : (f e : ℕ) → 1 ≤ f → e ≢ x → (1 ≤ shifted forest (x ∷ rest) f e) ↔ (1 ≤ forest e)
  unfolding shifted
  shift_kept f e h ne =
      let o = put_other (shifted forest rest f) x (freed forest rest f) e ne in
      let ih = shifted_placed rest f h (placed x rest start.path) e in
      ((λ g. ih.0 (omega arith)), (λ g. let r = ih.1 g in omega arith))

  pub shift_new : (f : ℕ) → 1 ≤ f → 1 ≤ shifted forest (x ∷ rest) f x
  unfolding shifted
  shift_new f h = omega (arith, put_same (shifted forest rest f) x (freed forest rest f), freed_placed rest f h (placed x rest start.path))

  -- ---- the walk by itself: the new edge is kept and the last one is not

  walk_is_shift : walked forest x rest ≡ put (shifted forest (x ∷ rest) 1) (end x rest) 0
  walk_is_shift =
      sym (put_id (walked forest x rest) (end x rest) 0 (walk_end d forest x rest start))
      ∙ sym (put_put (walked forest x rest) (end x rest) 1 0)
      ∙ sym (ap (λ (g : ℕ → ℕ). put g (end x rest) 0) (shift_is_walk forest x rest 1 start.distinct))

  pub walk_kept : (e : ℕ) → e ≢ end x rest → 1 ≤ forest e → 1 ≤ walked forest x rest e
  walk_kept e ne h =
      let o = ap (λ (g : ℕ → ℕ). g e) walk_is_shift ∙ put_other (shifted forest (x ∷ rest) 1) (end x rest) 0 e ne in
      by_eq e x (λ q. absurd (omega (arith, start.unplaced, ap forest q))) (λ nx. let r = (shift_kept 1 e (omega arith) nx).1 h in omega arith)

  pub walk_new : x ≢ end x rest → 1 ≤ walked forest x rest x
  walk_new ne =
      omega
      (arith, ap (λ (g : ℕ → ℕ). g x) walk_is_shift, put_other (shifted forest (x ∷ rest) 1) (end x rest) 0 x ne, shift_new 1 (omega arith))
