-- Edges that stand in lists, in front of what the lists held (`EdgesEntered`, specs/EdgeLists.antt).
--
-- An edge entered behind those that stand there is one edge more, and the lists keep their length. Read back, the edges are those entered, and each is in range where all are;
-- so the sheet of the lists is that of the text. At the end: a refused line with its number.
-- Not here: the walk that enters them (Walks.antt).
-- Assumes nothing.
use mathlib.Core.Path.{◌≡◌, refl, sym, ap, ap₂, ◌∙◌, subst}
use mathlib.Core.List.{List, [], ◌∷◌, ◌++◌, map, map-append}
use Prim.Native.Nat.{ℕ, zero, suc, ◌≤◌, ◌<◌}
use native.Mathlib.Omega.{arith}
use lib.ListN.{length, get_or, take, drop, set, length-map, length-append, get_or-append, get_or-map}
use lib.Seq.{take-suc, take-length}
use Rattle.rule.specs.declared.Reason.{Reason}
use Rattle.rule.specs.declared.Edge.{Edge}
use Rattle.rule.specs.Books.{EdgeRange, capacity}
use Rattle.rule.specs.Calls.{Filled}
use Rattle.rule.proofs.Tests.{by_le}
use Rattle.std.specs.Prelude.{Result, Ok, Err}
use Rattle.text.specs.declared.edges.Edges.{Edges}
use Rattle.text.specs.declared.Head.{Head}
use Rattle.text.specs.declared.Refusal.{Refusal}
use Rattle.text.specs.Judging.{lined}
use Rattle.text.specs.Puts.{Writes}
use Rattle.text.specs.Sheets.{Sheet, EdgesRange}
use Rattle.text.specs.Faults.{RefusedAt}
use Rattle.text.specs.EdgeLists.{EdgeLists, lists_of, Roomy, EdgeEntered, EdgesEntered, blank, edge_in, edges_in, sheet_in}
use Rattle.text.specs.Judgements.{IsSheet, Enters}
use Rattle.text.proofs.Results.{same_ok, same_err, ok_err}
use Rattle.text.proofs.Answers.{same_sheet, never_both}
use Rattle.text.proofs.Overwrites.{writes_as, writes_more, writes_length}

-- ---- entered

-- the lists of a value `Edges` are long
pub roomy : (e : Edges) → Roomy (lists_of e)
roomy e = record { ones_long = e.ones_long; others_long = e.others_long; colours_long = e.colours_long }

pub entered_none : {l : EdgeLists} → EdgesEntered [] l l
entered_none = record { ones = refl; others = refl; colours = refl }

-- one edge more stands in the lists
pub entered_more : {edges : List Edge} {before after last : EdgeLists} {i : ℕ} {e : Edge} → EdgesEntered edges before after → Roomy before → length edges ≡ i
    → i < capacity → EdgeEntered i e after last → EdgesEntered (edges ++ e ∷ []) before last
entered_more {edges} {i = i} {e} l room count h new =
    record {
      ones = one_more (λ x. x.one) _ _ _ l.ones (omega (arith, room.ones_long)) new.one;
      others = one_more (λ x. x.other) _ _ _ l.others (omega (arith, room.others_long)) new.other;
      colours = one_more (λ x. x.colour) _ _ _ l.colours (omega (arith, room.colours_long)) new.colour;
    }
  where
    one_more : (f : Edge → ℕ) (before after stored : List ℕ) → Filled (map f edges) before after → i < length before → stored ≡ set after i (f e)
        → Filled (map f (edges ++ e ∷ [])) before stored
    one_more f before after stored w h s =
        let so_far : Writes (map f edges) before _ i = record { number = sym (length-map edges f ∙ count); fills = w } in
        s ∙ (writes_as (sym (map-append f edges (e ∷ []))) (writes_more so_far (f e) (omega (arith, length-map edges f, count)))).fills

-- the lists are as long as they were
pub entered_roomy : {edges : List Edge} {before after : EdgeLists} → EdgesEntered edges before after → Roomy before → length edges ≤ capacity → Roomy after
entered_roomy {edges} l room h =
    record {
      ones_long = as_long (λ x. x.one) _ _ l.ones room.ones_long;
      others_long = as_long (λ x. x.other) _ _ l.others room.others_long;
      colours_long = as_long (λ x. x.colour) _ _ l.colours room.colours_long;
    }
  where
    as_long : (f : Edge → ℕ) (before after : List ℕ) → Filled (map f edges) before after → length before ≡ capacity → length after ≡ capacity
    as_long f before after w long =
        let so_far : Writes (map f edges) before _ _ = record { number = refl; fills = w } in
        writes_length so_far (omega (arith, length-map edges f)) ∙ long

-- ---- read back

entered_at : (f : Edge → ℕ) (edges : List Edge) (before after : List ℕ) (i : ℕ) → f blank ≡ 0 → i < length edges
    → Filled (map f edges) before after → get_or after i 0 ≡ f (get_or edges i blank)
entered_at f edges before after i none h w =
    ap (λ (l : List ℕ). get_or l i 0) w
    ∙ get_or-append (map f edges) (drop (length (map f edges)) before) 0 i (omega (arith, length-map edges f))
    ∙ ap (get_or (map f edges) i) (sym none)
    ∙ get_or-map f edges i blank

module _ {edges : List Edge} {before after : EdgeLists} (l : EdgesEntered edges before after) where
  entered_edge : (i : ℕ) → i < length edges → edge_in after i ≡ get_or edges i blank
  entered_edge i h =
      let one = entered_at (λ x. x.one) edges _ _ i refl h l.ones in
      let other = entered_at (λ x. x.other) edges _ _ i refl h l.others in
      let colour = entered_at (λ x. x.colour) edges _ _ i refl h l.colours in
      λ k. record { one = one k; other = other k; colour = colour k }

  entered_take : (i : ℕ) → i ≤ length edges → edges_in after i ≡ take i edges
  unfolding edges_in
  entered_take zero h = refl
  entered_take (suc i) h =
      ap₂ (λ (es : List Edge) (e : Edge). es ++ e ∷ []) (entered_take i (omega arith)) (entered_edge i (omega arith))
      ∙ sym (take-suc edges i blank (omega arith))

  entered_edges : edges_in after (length edges) ≡ edges
  entered_edges = entered_take (length edges) (omega arith) ∙ take-length edges

-- ---- in range, and how many

range_last : (n : ℕ) (es : List Edge) (e : Edge) → EdgesRange n (es ++ e ∷ []) → EdgesRange n es × EdgeRange n e
range_last n [] e r = (tt, r.0)
range_last n (x ∷ es) e r = let rest = range_last n es e r.1 in ((r.0, rest.0), rest.1)

module _ (l : EdgeLists) where
  -- each edge of the lists is in range
  pub edge_in_range : (n m i : ℕ) → EdgesRange n (edges_in l m) → i < m → EdgeRange n (edge_in l i)
  unfolding edges_in
  edge_in_range n zero i r h = absurd (omega arith)
  edge_in_range n (suc m) i r h =
      let both = range_last n (edges_in l m) (edge_in l m) r in
      by_le m i (λ h'. let last : m ≡ i = omega arith in subst (λ (k : ℕ). EdgeRange n (edge_in l k)) last both.1)
      (λ h'. edge_in_range n m i both.0 (omega arith))

  pub edges_in_length : (m : ℕ) → length (edges_in l m) ≡ m
  unfolding edges_in
  edges_in_length zero = refl
  edges_in_length (suc m) = omega (arith, length-append (edges_in l m) (edge_in l m ∷ []), edges_in_length m)

-- ---- the text

-- one that is refused is that of no sheet, and another of one only
pub enters_refused : {text : List ℕ} {before after : EdgeLists} {r : Refusal} → RefusedAt text r.reason r.line → Enters text before after (Err r)
enters_refused {text} p = record { judges = p; entered = λ s range is. never_both text s p.0 range is p.1 }

-- so where a refusal is answered with its line
pub enters_as : {text : List ℕ} {before after : EdgeLists} {o : Result Head Refusal} {d : Refusal} {reason : Reason} {line : ℕ} → RefusedAt text reason line
    → d ≡ record { reason = reason; line = line } → o ≡ Err d → Enters text before after o
enters_as {text} {before} {after} p is q = subst (Enters text before after) (sym (q ∙ ap Err is)) (enters_refused p)

pub enters_sheet : {text : List ℕ} {before after : EdgeLists} {h : Head} (p : IsSheet text h.a h.b h.n h.edges) → EdgesEntered p.sheet.edges before after
    → Enters text before after (Ok h)
enters_sheet {text} {before} {after} p l =
    record {
      judges = p;
      entered = λ s range is.
          subst (λ (t : Sheet). EdgesEntered t.edges before after) (same_sheet text p.sheet s p.range range p.is_text is) l;
    }

pub entered_sheet : {text : List ℕ} {a b n m : ℕ} {before after : EdgeLists} (p : IsSheet text a b n m) → EdgesEntered p.sheet.edges before after
    → sheet_in a b n m after ≡ p.sheet
entered_sheet {after = after} p l =
    let edges = ap (edges_in after) p.edges_is ∙ entered_edges l in
    λ i. record { a = p.a_is i; b = p.b_is i; n = p.n_is i; edges = edges i }

-- ---- a refusal with the number of its line

module _ {T : Type 0} (line : ℕ) where
  -- a refused line: why, and what is answered
  pub lined_err : (r : Result T Reason) {o : Result T Refusal} {d : Refusal} → o ≡ lined line r → o ≡ Err d
      → (reason : Reason) × (r ≡ Err reason) × (d ≡ record { reason = reason; line = line })
  lined_err (Ok x) e q = absurd (ok_err (sym e ∙ q))
  lined_err (Err reason) e q = (reason, refl, same_err (sym q ∙ e))

  pub lined_ok : (r : Result T Reason) {o : Result T Refusal} {x : T} → o ≡ lined line r → o ≡ Ok x → r ≡ Ok x
  lined_ok (Ok y) e q = ap Ok (same_ok (sym e ∙ q))
  lined_ok (Err reason) e q = absurd (ok_err (sym q ∙ e))
