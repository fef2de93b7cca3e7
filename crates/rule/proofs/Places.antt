-- Laws of `at`: what a list holds of number i, counted from 1; and of the edge that a book holds of a number.
-- Assumes nothing.
use mathlib.Core.Path.{◌≡◌, refl, sym, ap, ◌∙◌, subst, fun_ext}
use mathlib.Core.List.{List}
use Prim.Native.Nat.{ℕ, zero, suc, ◌+◌, ◌<◌}
use native.Mathlib.Numerals.{add-one}
use native.Mathlib.Omega.{arith}
use native.Mathlib.Nat.{suc_inj}
use lib.ListN.{length, get_or, set}
use lib.Seq.{get_or-set_same, get_or-set_other}
use Rattle.rule.specs.declared.Book.{Book}
use Rattle.rule.specs.Sets.{put, at}
use Rattle.rule.specs.Books.{the_edge, edge_of}
use Rattle.rule.proofs.Tests.{by_eq, put_same, put_other}

pub at_suc : (l : List ℕ) (i : ℕ) → at l (suc i) ≡ get_or l i 0
unfolding at
at_suc l i = refl

pub at_zero : (l : List ℕ) → at l 0 ≡ 0
unfolding at
at_zero l = refl

-- edge i + 1 is what the arrays hold at index i
pub edge_at_index : (B : Book) (i : ℕ) → edge_of B (i + 1) ≡ the_edge (get_or B.ones i 0) (get_or B.others i 0) (get_or B.colours i 0)
unfolding edge_of at
edge_at_index B i = ap (edge_of B) (add-one i)

-- a store changes one number
pub at_set : (l : List ℕ) (i v : ℕ) → i < length l → at (set l i v) ≡ put (at l) (suc i) v
at_set l i v h = fun_ext go
  where
    go : (e : ℕ) → at (set l i v) e ≡ put (at l) (suc i) v e
    go zero = at_zero (set l i v) ∙ sym (at_zero l) ∙ sym (put_other (at l) (suc i) v 0 (omega arith))
    go (suc e) =
        by_eq e i
        (λ q.
        subst (λ (z : ℕ). at (set l i v) (suc z) ≡ put (at l) (suc i) v (suc z)) (sym q)
        (at_suc (set l i v) i ∙ get_or-set_same l i v 0 h ∙ sym (put_same (at l) (suc i) v)))
        (λ ne.
        at_suc (set l i v) e ∙ get_or-set_other l i e v 0 ne ∙ sym (at_suc l e) ∙ sym (put_other (at l) (suc i) v (suc e) (λ q. ne (suc_inj q))))
