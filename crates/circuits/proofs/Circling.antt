-- The circuit of an edge e in no forest, from the search for a place of its twin: an edge offered anew between the same bodies and of the same
-- colour. Where the search is stuck, what the list holds is the twin's circuit, and so that of e. Where it is not, the kept edges take the twin, and
-- so every kept edge is in the circuit of e.
-- Assumes nothing.
use mathlib.Core.Path.{◌≡◌, sym, ap, ◌∙◌, subst}
use mathlib.Core.List.{List}
use Prim.Native.Nat.{ℕ, ◌-◌}
use native.Mathlib.Omega.{arith}
use lib.ListN.{length, get_or, take, drop, length-append}
use lib.Seq.{take_at}
use Rattle.rule.specs.declared.Book.{Book}
use Rattle.rule.specs.Sets.{Is, ◌=?◌, In, at, numbers}
use Rattle.rule.specs.Legal.{Circuit}
use Rattle.rule.specs.declared.Edge.{Edge}
use Rattle.rule.specs.Books.{edge_of, the_edge, design_of, forest_of, kept_of, next}
use Rattle.rule.specs.Calls.{Filled}
use Rattle.rule.proofs.Counting.{numbers_eq}
use Rattle.theory.proofs.Legal.Kept.{kept_has, kept_most}
use Rattle.theory.proofs.Legal.Sound.{sound_edge}
use Rattle.theory.proofs.Laws.Twin.{twin_circuit, free_circuit}
use Rattle.book.proofs.Figures.{placed, kept_placed}
use Rattle.moving.proofs.Walking.{at_place}
use Rattle.reaching.proofs.Laid.{laid_first}
use Rattle.search.specs.Marks.{MarksWritten}
use Rattle.engine.specs.Seek.{Seekable, EndsIn, Fails}
use Rattle.engine.proofs.Says.{found_says, stuck_says}
use Rattle.circuits.specs.Listable.{Listable, HoldsCircuit}

module _ (B : Book) (e : ℕ) {root way edge : List ℕ} (l : Listable B e root way edge) where
  -- edge e as it stands at its place
  abbrev given : Edge
  given = the_edge (get_or B.ones (e - 1) 0) (get_or B.others (e - 1) 0) (get_or B.colours (e - 1) 0)

  at_index : (list : List ℕ) → at list e ≡ get_or list (e - 1) 0
  at_index list = sym (at_place list e l.place.low)

  pub asks : Seekable B (get_or B.ones (e - 1) 0) (get_or B.others (e - 1) 0) root way edge
  unfolding edge_of
  asks =
      let rule = (sound_edge B l.sound e l.place).range in
      record {
        sound = l.sound;
        one = subst (In B.n) (at_index B.ones) rule.one;
        other = subst (In B.n) (at_index B.others) rule.other;
        who = l.who;
        size = l.size;
        tabled = l.tabled;
      }

  not_kept : ¬ (Is (kept_of B e))
  not_kept t = omega (arith, l.implied, kept_has (design_of B) (forest_of B) e t)

  none_past : ¬ (Is (kept_of B (next B)))
  unfolding design_of
  none_past t = omega (arith, kept_most (design_of B) (forest_of B) (next B) t)

  -- a list of which the first places hold the circuit
  filled_holds : (list listed circuit : List ℕ) (n : ℕ) → n ≡ length circuit → Filled circuit list listed → Circuit (design_of B) (kept_of B) e circuit
      → HoldsCircuit B e listed n
  filled_holds list listed circuit n counts fills c =
      record {
        within = omega (arith, ap length fills, length-append circuit (drop (length circuit) list));
        is_circuit =
            subst (Circuit (design_of B) (kept_of B) e)
            (sym (ap (take n) fills ∙ take_at circuit (drop (length circuit) list) n (sym counts))) c;
      }

  pub found_holds : (path : List ℕ) (p f : ℕ) → EndsIn B (the_edge (get_or B.ones (e - 1) 0) (get_or B.others (e - 1) 0) (get_or B.colours (e - 1) 0)) path p f
      → (list listed : List ℕ) (n : ℕ) → MarksWritten list 0 (numbers (placed B.forests) B.count) listed n → HoldsCircuit B e listed n
  unfolding design_of
  found_holds path p f ended list listed n w =
      let s = asks in
      let says = found_says B given s.sound s.one s.other ended.place f ended.waiting ended.is_found in
      filled_holds list listed (numbers (placed B.forests) B.count) n (omega (arith, w.counts)) (laid_first w.laid)
      (subst (Circuit (design_of B) (kept_of B) e) (numbers_eq (kept_of B) (placed B.forests) B.count (kept_placed B))
      (free_circuit (design_of B) given e l.place (at_index B.ones) (at_index B.others) (ap (λ (z : ℕ). z =? 1) (at_index B.colours))
      (kept_of B) not_kept says.keeps))

  pub stuck_holds : (list listed : List ℕ) (n : ℕ)
      → Fails B (the_edge (get_or B.ones (e - 1) 0) (get_or B.others (e - 1) 0) (get_or B.colours (e - 1) 0)) list listed n → HoldsCircuit B e listed n
  unfolding design_of
  stuck_holds list listed n fails =
      let s = asks in
      let says = stuck_says B given s.sound s.one s.other fails.waiting fails.is_stuck list listed fails.fills fails.as_long in
      filled_holds list listed says.circuit n (fails.counts ∙ says.number) says.fills
      (twin_circuit (design_of B) given e l.place (at_index B.ones) (at_index B.others) (ap (λ (z : ℕ). z =? 1) (at_index B.colours))
      (kept_of B) not_kept none_past says.circuit says.is_circuit)
