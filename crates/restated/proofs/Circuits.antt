-- The circuit of crate rule and the circuit in lists are one: a list is the one exactly when it is the other; and what the contracts say of an implied
-- edge and of the lent list is what specs/BookBars.antt says.
--
-- Edge by edge, in the circuit means the same (Kept.antt). The circuit of crate rule is the list of a set's numbers, which ascends and has just
-- those members; and a list that ascends is the list of the set that it holds, since two such lists with the same members are equal. The lent
-- list has room because a circuit is some of the kept edges, at most 378.
-- Not here: the calls, which are in Exact.antt.
-- Assumes nothing.
use mathlib.Core.Path.{◌≡◌, sym, ap, ap₂, ◌∙◌, subst}
use mathlib.Core.Logic.{◌↔◌}
use mathlib.Core.List.{List, ◌++◌}
use Prim.Native.Nat.{ℕ, zero, suc, ◌-◌, ◌≤◌}
use native.Mathlib.Omega.{arith}
use lib.ListN.{length, get_or, take, drop, take-append-drop}
use lib.Seq.{length-take-le, take-append_seam, drop-append_seam}
use Rattle.rule.specs.declared.Book.{Book}
use Rattle.rule.specs.Sets.{Is, In, one_if, count, at, numbers}
use Rattle.rule.specs.Legal.{InCircuit, Circuit}
use Rattle.rule.specs.declared.Edge.{Edge}
use Rattle.rule.specs.Books.{design_of, forest_of, kept_of, offered, plus, next, Sound}
use Rattle.rule.specs.Calls.{ImpliesIt}
use Rattle.rule.proofs.Tests.{is_false}
use Rattle.rule.proofs.Counting.{count_mono, length_numbers}
use Rattle.theory.proofs.Legal.Kept.{kept_make, kept_has, kept_most}
use Rattle.promises.proofs.Sizes.{at_most_378}
use Rattle.restated.specs.BookBars.{LegalWith, CircuitEdge, CircuitOf, ExactCircuit}
use Rattle.restated.proofs.Members.{ascending_same, numbers_member, member_numbers, numbers_ascending}
use Rattle.restated.proofs.Bodies.{held_by, held_member, member_held}
use Rattle.restated.proofs.Kept.{keeps_iff, without_iff}

-- ---- one list

-- the circuit in lists is one list
pub circuit_one_list : (B : Book) (given : Edge) (circuit other : List ℕ) → CircuitOf B given circuit → CircuitOf B given other
    → circuit ≡ other
circuit_one_list B given circuit other p q =
    ascending_same circuit other p.ascending q.ascending (λ y h. (q.members y).1 ((p.members y).0 h)) (λ y h. (p.members y).1 ((q.members y).0 h))

-- so the answer and the lent list are determined
pub exact_circuit_determined : (B : Book) (given : Edge) (list listed lines : List ℕ) (number count : ℕ)
    → ExactCircuit B given list listed number → ExactCircuit B given list lines count → (number ≡ count) × (listed ≡ lines)
exact_circuit_determined B given list listed lines number count p q =
    let same : take number listed ≡ take count lines = circuit_one_list B given _ _ p.is_circuit q.is_circuit in
    let size : number ≡ count =
    sym (length-take-le number listed (omega (arith, p.fits, p.as_long)))
    ∙ ap length same
    ∙ length-take-le count lines (omega (arith, q.fits, q.as_long)) in (
      size,
      sym (take-append-drop number listed)
          ∙ ap₂ (λ (s t : List ℕ). s ++ t) same (p.past ∙ ap (λ (z : ℕ). drop z list) size ∙ sym q.past)
          ∙ take-append-drop count lines,
    )

-- ---- the same circuit

forest_at : (B : Book) (y : ℕ) → 1 ≤ y → forest_of B y ≡ get_or B.forests (y - 1) 0
unfolding at
forest_at B zero h = absurd (omega arith)
forest_at B (suc y) h = ap (λ (z : ℕ). get_or B.forests z 0) (omega arith)

module _ (B : Book) (given : Edge) (sound : Sound B) (hu : In B.n given.one) (hv : In B.n given.other) where
  edge_iff : (y : ℕ) → 1 ≤ y → (InCircuit (offered B given) (kept_of B) (next B) y ↔ CircuitEdge B given y)
  unfolding design_of
  edge_iff y low = (
    λ c.
        record {
          low = low;
          high = kept_most (design_of B) (forest_of B) y c.0;
          kept = subst (λ (z : ℕ). 1 ≤ z) (forest_at B y low) (kept_has (design_of B) (forest_of B) y c.0);
          legal_without = (without_iff B given sound hu hv y).0 c.1;
        },
    λ c. (
      kept_make (design_of B) (forest_of B) y c.high (subst (λ (z : ℕ). 1 ≤ z) (sym (forest_at B y low)) c.kept),
      (without_iff B given sound hu hv y).1 c.legal_without,
    ),
  )

  edge_in : (y : ℕ) → CircuitEdge B given y → In (next B) y
  edge_in y c = omega (arith, c.low, c.high)

  circuit_listed : (circuit : List ℕ) → Circuit (offered B given) (kept_of B) (next B) circuit → CircuitOf B given circuit
  unfolding plus design_of
  circuit_listed circuit c =
      subst (CircuitOf B given) (sym c.in_order)
      (record {
        ascending = numbers_ascending c.chosen (next B);
        members =
            λ y. (
              λ h. let w = member_numbers c.chosen (next B) y h in (edge_iff y w.0.low).0 ((c.exactly y w.0).0 w.1),
              λ e.
                  let h = edge_in y e in
                  numbers_member c.chosen (next B) y h ((c.exactly y h).1 ((edge_iff y e.low).1 e)),
            );
      })

  listed_circuit : (circuit : List ℕ) → CircuitOf B given circuit → Circuit (offered B given) (kept_of B) (next B) circuit
  unfolding plus design_of
  listed_circuit circuit c =
      let held = held_by circuit in
      record {
        chosen = held;
        exactly =
            λ y h. (
              λ k. (edge_iff y h.low).1 ((c.members y).0 (held_member circuit y k)),
              λ k. member_held circuit y ((c.members y).1 ((edge_iff y h.low).0 k)),
            );
        in_order =
            ascending_same circuit (numbers held (next B)) c.ascending (numbers_ascending held (next B))
            (λ y m. numbers_member held (next B) y (edge_in y ((c.members y).0 m)) (member_held circuit y m))
            (λ y m. held_member circuit y (member_numbers held (next B) y m).1);
      }

  pub circuit_iff : (circuit : List ℕ) → (Circuit (offered B given) (kept_of B) (next B) circuit ↔ CircuitOf B given circuit)
  circuit_iff circuit = (circuit_listed circuit, listed_circuit circuit)

  -- ---- room in the lent list

  circuit_short : (circuit : List ℕ) → Circuit (offered B given) (kept_of B) (next B) circuit → length circuit ≤ 378
  unfolding plus design_of count
  circuit_short circuit c =
      let past : ¬ (Is (kept_of B (next B))) = λ k. absurd (omega (arith, kept_most (design_of B) (forest_of B) (next B) k)) in
      omega (
        arith,
        ap length c.in_order,
        length_numbers c.chosen (next B),
        count_mono c.chosen (kept_of B) (next B) (λ y h k. ((c.exactly y h).0 k).0),
        ap one_if (is_false (kept_of B (next B)) past),
        at_most_378 B sound,
      )

  -- ---- what is said of an implied edge

  module _ (list listed : List ℕ) (number : ℕ) (room : 378 ≤ length list) where
    said_exact : ImpliesIt B given list listed number → ExactCircuit B given list listed number
    said_exact says =
        let l : List ℕ = says.circuit in
        let front : take number listed ≡ l =
        ap₂ (λ (k : ℕ) (z : List ℕ). take k z) says.number says.fills ∙ take-append_seam l (drop (length l) list) in
        let short : length l ≤ 378 = circuit_short l says.is_circuit in
        record {
          fits = omega (arith, says.number);
          as_long = says.as_long;
          is_circuit = subst (CircuitOf B given) (sym front) ((circuit_iff l).0 says.is_circuit);
          past =
              ap₂ (λ (k : ℕ) (z : List ℕ). drop k z) says.number says.fills
              ∙ drop-append_seam l (drop (length l) list)
              ∙ ap (λ (k : ℕ). drop k list) (sym says.number);
        }

    exact_said : ¬ LegalWith B given → ExactCircuit B given list listed number → ImpliesIt B given list listed number
    exact_said implied e =
        let size : number ≡ length (take number listed) = sym (length-take-le number listed (omega (arith, e.fits, e.as_long))) in
        record {
          implies = λ keeps. implied ((keeps_iff B given sound hu hv).0 keeps);
          circuit = take number listed;
          is_circuit = (circuit_iff (take number listed)).1 e.is_circuit;
          number = size;
          fills =
              sym (take-append-drop number listed)
              ∙ ap (λ (z : List ℕ). take number listed ++ z) (e.past ∙ ap (λ (k : ℕ). drop k list) size);
          as_long = e.as_long;
        }

    pub implied_iff_exact : ImpliesIt B given list listed number ↔ ((¬ LegalWith B given) × ExactCircuit B given list listed number)
    implied_iff_exact = (
      λ says. ((λ legal. says.implies ((keeps_iff B given sound hu hv).1 legal)), said_exact says),
      λ e. exact_said e.0 e.1,
    )
