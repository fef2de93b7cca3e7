-- That a book is sound, and that tables hold its forests, has one proof at most, so that a struct may have it as a ghost field.
use Rattle.std.specs.Prelude.{◌≡◌, ℕ, zero, suc, List, ◌<◌}
use mathlib.Core.Logic.{inl, inr}
use Rattle.std.specs.Coded.{le_prop}
use mathlib.Core.Path.{sym, ◌∙◌}
use mathlib.Core.Bool.{Bool-set}
use mathlib.Core.HLevel.{Σ_prop_path}
use native.Mathlib.Nat.{ℕ_set}
use native.Mathlib.Omega.{arith}
use Rattle.rule.specs.declared.Book.{Book}
use Rattle.rule.specs.Sets.{In}
use Rattle.rule.specs.Legal.{Design}
use Rattle.rule.specs.Forests.{Permitted}
use Rattle.rule.specs.Books.{ColourRange, Obeys, Sound}
use Rattle.tables.specs.declared.Tables.{Tables}
use Rattle.tables.specs.Tables.{Slots, slot, filled}
use Rattle.book.specs.Checks.{HoldsForests}

Colour-prop : (c : ℕ) → IsProp (ColourRange c)
Colour-prop c (inl p) (inl q) = λ i. inl (ℕ_set c 1 p q i)
Colour-prop c (inl p) (inr q) = absurd (omega (arith, p, q))
Colour-prop c (inr p) (inl q) = absurd (omega (arith, p, q))
Colour-prop c (inr p) (inr q) = λ i. inr (ℕ_set c 2 p q i)

Obeys-prop : (B : Book) (place : ℕ) → IsProp (Obeys B place)
unfolding Obeys Permitted
Obeys-prop B zero = hlevel le_prop
Obeys-prop B (suc i) = hlevel (le_prop, Colour-prop)

pub Sound-prop : (B : Book) → IsProp (Sound B)
unfolding Sound
Sound-prop B = hlevel (Obeys-prop)

-- an edge has one slot, as no two slots have the same edge
Slots-prop : (d : Design) (forest : ℕ → ℕ) (f : ℕ) (edge size : List ℕ) → IsProp (Slots d forest f edge size)
Slots-prop d forest f edge size x y =
    let most : x.most ≡ y.most = le_prop x.most y.most in
    let edge_in : x.edge_in ≡ y.edge_in = in_prop x.edge_in y.edge_in in
    let once : x.once ≡ y.once = once_prop x.once y.once in
    λ i. record {
      most = most i;
      edge_in = edge_in i;
      slot_of = λ e h q. Σ_prop_path (has_prop e) {u = x.slot_of e h q} {v = y.slot_of e h q} (same e h q) i;
      once = once i;
    }
  where
    in_prop : IsProp ((j : ℕ) → j < filled size f → In d.m (slot edge f j) × (forest (slot edge f j) ≡ f))
    in_prop = hlevel (le_prop, ℕ_set)

    once_prop : IsProp ((i j : ℕ) → i < filled size f → j < filled size f → slot edge f i ≡ slot edge f j → i ≡ j)
    once_prop = hlevel ℕ_set

    has_prop : (e j : ℕ) → IsProp ((j < filled size f) × (slot edge f j ≡ e))
    has_prop e = hlevel (le_prop, ℕ_set)

    same : (e : ℕ) (h : In d.m e) (q : forest e ≡ f) → (x.slot_of e h q).0 ≡ (y.slot_of e h q).0
    same e h q =
        let a = x.slot_of e h q in
        let b = y.slot_of e h q in
        x.once a.0 b.0 a.1.0 b.1.0 (a.1.1 ∙ sym b.1.1)

pub HoldsForests-prop : (B : Book) (T : Tables) → IsProp (HoldsForests B T)
HoldsForests-prop B T = hlevel (le_prop, ℕ_set, Bool-set, Slots-prop)
