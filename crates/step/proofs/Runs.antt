-- A book that came from opening and any run of offers is sound and grown, and its arrays have 512 places. By induction on the run.
-- Assumes nothing.
use mathlib.Core.Path.{◌≡◌, refl, sym, ap, ◌∙◌, subst}
use mathlib.Core.List.{List}
use Prim.Native.Nat.{ℕ, zero, suc, ◌≤◌}
use native.Mathlib.Omega.{arith}
use lib.ListN.{length, set, replicate, length-set, length-replicate}
use Rattle.rule.specs.declared.Book.{Book}
use Rattle.rule.specs.declared.Answer.{Answer}
use Rattle.rule.specs.declared.Answer.TheVariants.{Kept, Implied, Refused}
use Rattle.rule.specs.declared.Edge.{Edge}
use Rattle.rule.specs.Books.{design_of, ProfileRange, BodiesRange, HeadRule, Obeys, Sound, GrownBook}
use Rattle.rule.specs.Calls.{new_book, Adds, Offer}
use Rattle.step.specs.Runs.{Run}
use Rattle.step.specs.Runs.Run.{opened, offered}
use Rattle.engine.specs.Take.{Full}
use Rattle.engine.proofs.Offers.{kept_sound, kept_grown, implied_sound, implied_grown}

-- sound, grown, and whole
pub record Grew (B : Book) : Type 0 where
  pub sound : Sound B
  pub grown : GrownBook B
  pub full : Full B

-- ---- a newly opened book

new_full : (a b n : ℕ) → Full (new_book a b n)
unfolding new_book
new_full a b n =
    let long : length (replicate {A = ℕ} 512 0) ≡ 512 = length-replicate {A = ℕ} 512 0 in
    record { ones = long; others = long; colours = long; forests = long }

new_head : (a b n : ℕ) → ProfileRange a b → BodiesRange n → HeadRule (new_book a b n)
unfolding new_book
new_head a b n profile bodies = record { profile = profile; bodies = bodies; edges = omega arith }

no_edges : (a b n : ℕ) → (new_book a b n).count ≡ 0
unfolding new_book
no_edges a b n = refl

pub new_grew : (a b n : ℕ) → ProfileRange a b → BodiesRange n → Grew (new_book a b n)
unfolding Sound Obeys design_of
new_grew a b n profile bodies = record { sound = sound; grown = λ e h. absurd (omega (arith, h.low, h.high, no_edges a b n)); full = new_full a b n }
  where
    sound : (p : ℕ) → p ≤ (new_book a b n).count → Obeys (new_book a b n) p
    sound zero l = new_head a b n profile bodies
    sound (suc p) l = absurd (omega (arith, l, no_edges a b n))

-- ---- an offer

-- a store leaves an array as long as it was
stored : (l k : List ℕ) (i v : ℕ) → k ≡ set l i v → length l ≡ 512 → length k ≡ 512
stored l k i v q h = ap length q ∙ length-set l i v ∙ h

adds_full : {before after : Book} {given : Edge} → Adds before after given → length after.forests ≡ length before.forests → Full before → Full after
adds_full {before} {after} {given} a long full =
    record {
      ones = stored before.ones after.ones before.count given.one a.ones full.ones;
      others = stored before.others after.others before.count given.other a.others full.others;
      colours = stored before.colours after.colours before.count given.colour a.colours full.colours;
      forests = long ∙ full.forests;
    }

pub offer_grew : {before after : Book} (given : Edge) (list listed : List ℕ) (answer : Answer) → Offer before after given list listed answer
    → Grew before → Grew after
offer_grew {before} {after} given list listed (Kept c) o g =
    record {
      sound = kept_sound before after given list listed c g.full o;
      grown = kept_grown before after given list listed c g.full o g.grown;
      full = adds_full o.adds o.as_long g.full;
    }
offer_grew {before} {after} given list listed (Implied c) o g =
    record {
      sound = implied_sound before after given list listed c g.full o;
      grown = implied_grown before after given list listed c g.full o g.grown;
      full = adds_full o.adds (ap length o.forests ∙ length-set before.forests before.count 0) g.full;
    }
offer_grew given list listed (Refused r) o g = subst Grew (sym o.1) g

-- ---- a run

pub run_grew : {B : Book} → Run B → Grew B
run_grew (opened a b n o) = subst Grew (sym o.1) (new_grew a b n o.0.0 o.0.1.0)
run_grew (offered given list listed answer r o) = offer_grew given list listed answer o (run_grew r)
