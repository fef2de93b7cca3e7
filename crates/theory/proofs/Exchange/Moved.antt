-- How many edges the shift moves: as many as the path has after the new edge. No edge moves into its own forest, since there it
-- joins its own ends; so the edges whose forest changes are just those of the path, and no edge comes twice.
-- Assumes nothing.
use mathlib.Core.Path.{◌≡◌, sym, ap, ◌∙◌, subst}
use mathlib.Core.Logic.{⊎_elim, ◌≢◌}
use mathlib.Core.Bool.{true, false, false≢true}
use mathlib.Core.List.{List, [], ◌∷◌}
use Prim.Native.Nat.{ℕ, suc, ◌<◌}
use native.Mathlib.Omega.{arith}
use lib.ListN.{length}
use Rattle.rule.specs.Sets.{Is, isnt, ◌=?◌, Set, In, put, ◌with◌, ◌without◌, count}
use Rattle.rule.specs.Legal.{Design}
use Rattle.rule.specs.Forests.{in_forest, moved}
use Rattle.rule.proofs.Tests.{is_false, isnt_make, isnt_not, eq_of, eq_self, by_eq, put_same, put_other, with_self, with_elim, without_make}
use Rattle.rule.proofs.Counting.{count_eq, count_none, count_with}
use Rattle.theory.specs.Exchange.{Arc, Free, Each, Distinct, Path, end, freed, shifted}
use Rattle.theory.proofs.Joined.Laws.{spans_edge}
use Rattle.theory.proofs.Legal.Kept.{forest_make}
use Rattle.theory.proofs.Exchange.Step.{path_needs}
use Rattle.theory.proofs.Exchange.Walk.{away, Start}

-- the numbers of a list, as a set
listed : List ℕ → Set
listed [] = λ _. false
listed (z ∷ l) = listed l with z

not_listed : (l : List ℕ) (x : ℕ) → Each (λ z. z ≢ x) l → ¬ (Is (listed l x))
unfolding listed
not_listed [] x h t = false≢true t
not_listed (z ∷ l) x h t = ⊎_elim (λ q. h.0 (sym q)) (λ o. not_listed l x h.1 o) (with_elim (listed l) z x t)

-- a list with no number twice, of 1 to m, is as long as its set is large
count_listed : (l : List ℕ) (m x : ℕ) → Distinct x l → Each (In m) l → count (listed l) m ≡ length l
unfolding listed
count_listed [] m x h r = count_none (λ _. false) m (λ i _ t. false≢true t)
count_listed (z ∷ l) m x h r =
    count_with (listed l) m z r.0 (not_listed l z (away z l h.1)) ∙ ap suc (count_listed l m z h.1 r.1)

module _ (d : Design) (forest : ℕ → ℕ) where
  -- an edge does not take the place of one of its own forest
  own_forest : (z y : ℕ) → In d.m z → y ≢ z → Arc d forest z y → forest y ≢ forest z
  own_forest z y h ne arc q =
      path_needs d (in_forest forest (forest y)) z y arc.is_on_path
      (spans_edge d (in_forest forest (forest y) without y) z h
      (without_make (in_forest forest (forest y)) y z (forest_make forest (forest y) z (sym q)) (λ e. ne (sym e))))

  own_free : (z f : ℕ) → In d.m z → Free d forest z f → f ≢ forest z
  own_free z f h free q = free.not_joined (spans_edge d (in_forest forest f) z h (forest_make forest f z (sym q)))

  -- the forest that is freed for an edge of the path is not its own
  changes : (z : ℕ) (l : List ℕ) (f : ℕ) → In d.m z → Distinct z l → Path d forest z l → Free d forest (end z l) f → freed forest l f ≢ forest z
  changes z [] f h dis p free = own_free z f h free
  changes z (y ∷ l) f h dis p free = own_forest z y h dis.0.0 p.0

  -- the edges whose forest changes are those of the list
  changed : (z : ℕ) (l : List ℕ) (f : ℕ) → Each (In d.m) l → Distinct z l → Path d forest z l → Free d forest (end z l) f → (e : ℕ)
      → isnt (forest e =? shifted forest l f e) ≡ listed l e
  unfolding shifted listed
  changed z [] f h dis p free e =
      is_false _ (λ t. isnt_not _ t (eq_self (forest e)))
  changed z (y ∷ l) f h dis p free e =
      by_eq e y
      (λ q.
      subst (λ (v : ℕ). isnt (forest v =? put (shifted forest l f) y (freed forest l f) v) ≡ (listed l with y) v) (sym q)
      (isnt_make _ (λ t. changes y l f h.0 dis.1 p.1.1 free (sym (eq_of _ _ t ∙ put_same (shifted forest l f) y (freed forest l f)))) ∙ sym (with_self (listed l) y)))
      (λ ne.
      ap (λ (v : ℕ). isnt (forest e =? v)) (put_other (shifted forest l f) y (freed forest l f) e ne)
      ∙ changed y l f h.1 dis.1 p.1.1 free e
      ∙ sym (put_other (listed l) y true e ne))

  -- the number of edges up to m that move, where the new edge is past m and the path's are not
  pub shift_moves : (x : ℕ) (rest : List ℕ) (f m : ℕ) → Start d forest x rest → Free d forest (end x rest) f → Each (In m) rest → m < x
      → moved forest (shifted forest (x ∷ rest) f) m ≡ length rest
  unfolding moved shifted
  shift_moves x rest f m start free range past =
      count_eq _ (listed rest) m
      (λ e h.
      ap (λ (v : ℕ). isnt (forest e =? v)) (put_other (shifted forest rest f) x (freed forest rest f) e (omega arith))
      ∙ changed x rest f start.edges start.distinct start.path free e)
      ∙ count_listed rest m x start.distinct range
