-- A book that grows from lists of edges. Each edge of the sheet is in range, so it passes the checks of an offer; when it has been taken, the
-- book has been offered one edge more. At first no edge has been offered, and the lists of a text that is a sheet hold its edges.
-- Not here: that the lists hold them (crate text, proofs/Lists.antt).
-- Assumes nothing.
use mathlib.Core.Path.{◌≡◌, sym, ap, ◌∙◌, subst}
use mathlib.Core.List.{List}
use Prim.Native.Nat.{ℕ, suc, ◌≤◌, ◌<◌}
use native.Mathlib.Omega.{arith}
use lib.ListN.{length}
use Rattle.rule.specs.declared.Book.{Book}
use Rattle.rule.specs.declared.Answer.{Answer}
use Rattle.rule.specs.declared.Edge.{Edge}
use Rattle.rule.specs.Books.{ProfileRange, BodiesRange, capacity}
use Rattle.rule.specs.Reasons.{Pass, offer_checks}
use Rattle.rule.specs.Calls.{new_book, Adds}
use Rattle.rule.proofs.Passed.{offer_passes}
use Rattle.text.specs.Sheets.{Sheet, SheetRange, text_of}
use Rattle.text.specs.EdgeLists.{EdgeLists, Roomy, EdgesEntered, edge_in, edges_in, sheet_in}
use Rattle.text.specs.Judgements.{IsSheet}
use Rattle.text.proofs.Lists.{entered_roomy, edge_in_range, edges_in_length, entered_sheet}
use Rattle.reports.specs.Reads.{Offers, Reads}
use Rattle.reports.specs.Reads.Offers.{none, then}
use Rattle.tables.specs.declared.Tables.{Tables}
use Rattle.planting.proofs.Sizes.{sized}
use Rattle.labels.specs.Labels.{Begun}
use Rattle.book.specs.Scan.{Cleared}
use Rattle.book.proofs.Scanning.{scanning_none, scanned_all}
use Rattle.engine.specs.Take.{TakesIn, TakeableIn}
use Rattle.step.proofs.Runs.{Grew, new_grew, offer_grew}
use Rattle.reader.specs.Growing.{Growing}

-- a sheet has no more edges than a list has places
pub lists_few : {a b n : ℕ} (m : ℕ) (given : EdgeLists) → SheetRange (sheet_in a b n m given) → m ≤ capacity
lists_few m given r = omega (arith, r.few, edges_in_length given m)

-- a book with one edge more was opened as before
pub same_opened : {before after : Book} {given : Edge} → Adds before after given
    → new_book after.a after.b after.n ≡ new_book before.a before.b before.n
same_opened adds i = new_book (adds.a i) (adds.b i) (adds.n i)

module _ {given : EdgeLists} {m : ℕ} {B : Book} {T : Tables} (r : SheetRange (sheet_in B.a B.b B.n m given))
    (g : Growing given B T) (more : B.count < m) where
  -- the edge that is due
  abbrev due : Edge
  due = edge_in given B.count

  due_passes : (list : List ℕ) → 378 ≤ length list → Pass (offer_checks B due list)
  due_passes list long =
      offer_passes B due list
      (record {
        asked = record { sound = g.sound; range = edge_in_range given B.n m B.count r.edges more; room = long };
        space = omega (arith, more, lists_few m given r);
      })

  pub due_takeable : (list : List ℕ) → 378 ≤ length list → TakeableIn B due list T
  due_takeable list long = record { checked = due_passes list long; ready = g.ready }

  -- it has been taken
  pub grows : (after : Book) (list listed : List ℕ) (T' : Tables) (answer : Answer) → 378 ≤ length list → Adds B after due
      → TakesIn B after due list listed T' answer → Growing given after T'
  unfolding edges_in
  grows after list listed T' answer long adds t =
      let old : Grew B = record { sound = g.sound; grown = g.grown; full = g.ready.full } in
      let new = offer_grew due list listed answer t.offer old in
      let one_more : Offers (new_book B.a B.b B.n) (edges_in given (suc B.count)) after =
      then due list listed answer g.offers (due_passes list long) t.offer in
      record {
        offers =
            subst (λ (k : ℕ). Offers (new_book after.a after.b after.n) (edges_in given k) after) (sym adds.count)
            (subst (λ (C : Book). Offers C (edges_in given (suc B.count)) after) (sym (same_opened adds)) one_more);
        sound = new.sound;
        grown = new.grown;
        ready = t.ready;
      }

-- ---- the head, which stays

pub record HasHead (B : Book) (a b n : ℕ) : Type 0 where
  pub a_is : B.a ≡ a
  pub b_is : B.b ≡ b
  pub n_is : B.n ≡ n

pub same_head : {B after : Book} {given : Edge} {a b n : ℕ} → Adds B after given → HasHead B a b n → HasHead after a b n
same_head adds h = record { a_is = adds.a ∙ h.a_is; b_is = adds.b ∙ h.b_is; n_is = adds.n ∙ h.n_is }

pub same_range : {B : Book} {a b n : ℕ} (m : ℕ) (given : EdgeLists) → HasHead B a b n → SheetRange (sheet_in a b n m given)
    → SheetRange (sheet_in B.a B.b B.n m given)
same_range {B} {a} {b} {n} m given h r =
    let e : sheet_in B.a B.b B.n m given ≡ sheet_in a b n m given = λ i. sheet_in (h.a_is i) (h.b_is i) (h.n_is i) m given in
    subst SheetRange (sym e) r

pub same_offers : {B : Book} {a b n m : ℕ} {given : EdgeLists} {T : Tables} → HasHead B a b n → B.count ≡ m → Growing given B T
    → Offers (new_book a b n) (edges_in given m) B
same_offers {B} {a} {b} {n} {m} {given} h q g =
    let e : new_book B.a B.b B.n ≡ new_book a b n = λ i. new_book (h.a_is i) (h.b_is i) (h.n_is i) in
    subst (λ (C : Book). Offers C (edges_in given m) B) e (subst (λ (k : ℕ). Offers (new_book B.a B.b B.n) (edges_in given k) B) q g.offers)

-- no edge has been offered, and no table holds any
pub grows_none : {given : EdgeLists} {a b n : ℕ} (T : Tables) → ProfileRange a b → BodiesRange n → Begun T.labels.root T.labels.who → Cleared T.size
    → Growing given (new_book a b n) T
unfolding new_book edges_in
grows_none {a = a} {b} {n} T profile bodies begun clear =
    let B = new_book a b n in
    let grew = new_grew a b n profile bodies in
    record {
      offers = none;
      sound = grew.sound;
      grown = grew.grown;
      ready =
          record {
            tabled = (scanned_all B 0 T (scanning_none B T begun clear) (omega arith)).1;
            sized = sized T;
            full = grew.full;
          };
    }

-- ---- the lists of a text

module _ {text : List ℕ} {a b n m : ℕ} {before given : EdgeLists} (p : IsSheet text a b n m) (l : EdgesEntered p.sheet.edges before given) where
  pub lists_roomy : Roomy before → Roomy given
  lists_roomy room = entered_roomy l room p.range.few

  pub lists_range : SheetRange (sheet_in a b n m given)
  lists_range = subst SheetRange (sym (entered_sheet p l)) p.range

  -- when all edges have been offered the text has been read
  pub all_offered : {B : Book} → Offers (new_book a b n) (edges_in given m) B → Reads text B
  all_offered o = record { sheet = sheet_in a b n m given; range = lists_range; is_text = p.is_text ∙ ap text_of (sym (entered_sheet p l)); offers = o }
