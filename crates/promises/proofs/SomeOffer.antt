-- Whatever a question may answer of a book that is not full, some offer may answer: the way back from AsOffer.antt. So the moved that a
-- question names is the moved of an offer that the contract permits.
--
-- Where the question keeps the edge, it names forests. Written into the book's places, with the edge behind the others, they are what an
-- offer leaves. Where it implies the edge, an offer adds the edge in no forest; where it refuses it, an offer refuses it, for the same
-- reason.
-- Assumes nothing.
use mathlib.Core.Path.{◌≡◌, refl, sym, ap, ◌∙◌, subst}
use mathlib.Core.Logic.{◌↔◌}
use mathlib.Core.List.{List}
use Prim.Native.Nat.{ℕ, zero, suc, ◌≤◌, ◌<◌}
use native.Mathlib.Omega.{arith}
use lib.ListN.{length, set, drop, length-set}
use lib.Seq.{drop-set-lt}
use Rattle.rule.specs.declared.Book.{Book}
use Rattle.rule.specs.declared.Answer.{Answer}
use Rattle.rule.specs.declared.Answer.TheVariants.{Kept, Implied, Refused}
use Rattle.rule.specs.Sets.{isnt, ◌=?◌, In, put, at}
use Rattle.rule.specs.Legal.{Design}
use Rattle.rule.specs.Forests.{in_forest, limit, Permitted, Arranged, moved}
use Rattle.rule.specs.declared.Edge.{Edge}
use Rattle.rule.specs.Books.{design_of, forest_of, offered, plus, next, capacity}
use Rattle.rule.specs.Reasons.{question_checks}
use Rattle.rule.specs.Calls.{Adds, OfferKept, OfferImplied, Offer, QuestionKept, QuestionImplied, Question}
use Rattle.rule.proofs.Tests.{in_one, in_last, in_split, put_same, put_other}
use Rattle.rule.proofs.Counting.{count_eq}
use Rattle.rule.proofs.Places.{at_set}
use Rattle.theory.proofs.Joined.Acyclic.{loopless_acyclic, acyclic_loopless, acyclic_sub}
use Rattle.theory.proofs.Legal.Kept.{forest_make, forest_is}
use Rattle.engine.specs.Take.{Full}
use Rattle.promises.proofs.AsOffer.{six, pass_longer, fail_longer}

-- ---- forests written into a list

-- f, written into the places of 1 to m
unfoldable spread : (ℕ → ℕ) → ℕ → List ℕ → List ℕ
spread f zero list = list
spread f (suc m) list = set (spread f m list) m (f (suc m))

spread_length : (f : ℕ → ℕ) (m : ℕ) (list : List ℕ) → length (spread f m list) ≡ length list
unfolding spread
spread_length f zero list = refl
spread_length f (suc m) list = length-set (spread f m list) m (f (suc m)) ∙ spread_length f m list

spread_past : (f : ℕ → ℕ) (m n : ℕ) (list : List ℕ) → m ≤ n → drop n (spread f m list) ≡ drop n list
unfolding spread
spread_past f zero n list h = refl
spread_past f (suc m) n list h = drop-set-lt n (spread f m list) m (f (suc m)) h ∙ spread_past f m n list (omega arith)

spread_at : (f : ℕ → ℕ) (m : ℕ) (list : List ℕ) → m ≤ length list → (i : ℕ) → In m i → f i ≡ at (spread f m list) i
unfolding spread
spread_at f zero list h i r = absurd (omega (arith, r.low, r.high))
spread_at f (suc m) list h i r =
    let before = at (spread f m list) in
    let stored = at_set (spread f m list) m (f (suc m)) (omega (arith, spread_length f m list)) in
    in_split m i r (λ k. spread_at f m list (omega arith) i k ∙ sym (put_other before (suc m) (f (suc m)) i (omega arith)))
    (λ q. ap f q ∙ sym (put_same before (suc m) (f (suc m))) ∙ ap (put before (suc m) (f (suc m))) (sym q))
    ∙ sym (ap (λ (g : ℕ → ℕ). g i) stored)

-- forests that agree are arranged alike
arranged_agree : (d : Design) (f g : ℕ → ℕ) → ((e : ℕ) → In d.m e → f e ≡ g e) → Arranged d f → Arranged d g
unfolding Permitted
arranged_agree d f g same arr =
    record {
      permitted = λ e h. subst (λ (z : ℕ). z ≤ limit d e) (same e h) (arr.permitted e h);
      loopless =
          λ i h.
          acyclic_loopless d (in_forest g i)
          (acyclic_sub d (in_forest g i) (in_forest f i) (λ e he t. forest_make f i e (same e he ∙ forest_is g i e t))
          (loopless_acyclic d (in_forest f i) (arr.loopless i h)));
    }

-- ---- the offer

module _ (B : Book) (given : Edge) (list listed : List ℕ) where
  -- the book with the edge behind the others, and these forests
  abbrev added : List ℕ → Book
  added forests =
      record {
        a = B.a;
        b = B.b;
        n = B.n;
        count = next B;
        ones = set B.ones B.count given.one;
        others = set B.others B.count given.other;
        colours = set B.colours B.count given.colour;
        forests = forests;
      }

  adds : (forests : List ℕ) → Adds B (added forests) given
  adds forests = record { a = refl; b = refl; n = refl; count = refl; ones = refl; others = refl; colours = refl }

  module _ (full : Full B) (less : B.count < capacity) where
    kept_so : (c : ℕ) (q : QuestionKept B given list listed c)
        → OfferKept B (added (spread q.forest (next B) B.forests)) given list listed c
    unfolding plus design_of moved
    kept_so c q =
        let forests = spread q.forest (next B) B.forests in
        let same : (e : ℕ) → In (next B) e → q.forest e ≡ at forests e =
        spread_at q.forest (next B) B.forests (omega (arith, full.forests)) in
        let s = q.says in
        record {
          checked = pass_longer (six B given list) (question_checks B given list) q.checked less;
          says =
              record {
                keeps = s.keeps;
                arranged = arranged_agree (offered B given) q.forest (at forests) same s.arranged;
                new = subst (λ (z : ℕ). 1 ≤ z) (same (next B) (in_last B.count)) s.new;
                earlier = λ e h. subst (λ (z : ℕ). (1 ≤ z) ↔ (1 ≤ forest_of B e)) (same e (in_one B.count e h)) (s.earlier e h);
                moves =
                    s.moves
                    ∙ count_eq _ _ B.count (λ e h. ap (λ (z : ℕ). isnt (forest_of B e =? z)) (same e (in_one B.count e h)));
              };
          adds = adds forests;
          as_long = spread_length q.forest (next B) B.forests;
          past = spread_past q.forest (next B) (next B) B.forests (omega arith);
          unwritten = q.unwritten;
        }

    implied_so : (c : ℕ) → QuestionImplied B given list listed c
        → OfferImplied B (added (set B.forests B.count 0)) given list listed c
    implied_so c q =
        record {
          checked = pass_longer (six B given list) (question_checks B given list) q.checked less;
          says = q.says;
          adds = adds (set B.forests B.count 0);
          forests = refl;
        }

    -- (A book of the program is `Full`: its arrays have 512 places.)
    pub question_as_some_offer : (said : Answer) → Question B given list listed said → (after : Book) × Offer B after given list listed said
    question_as_some_offer (Kept c) q = (added (spread q.forest (next B) B.forests), kept_so c q)
    question_as_some_offer (Implied c) q = (added (set B.forests B.count 0), implied_so c q)
    question_as_some_offer (Refused r) q =
        (B, (fail_longer (six B given list) (question_checks B given list) r q.0, refl, q.1))
