-- The head of a text, line by line: what `text::find` knows where it stands.
--
-- In order: a number line in range, and one that is at fault, for any line of one number and one check; a place that is reached; the
-- four lines of the head; where the head stands past each of them.
-- Assumes nothing.
use mathlib.Core.Path.{◌≡◌, refl, sym, ap, ◌∙◌, subst}
use mathlib.Core.Logic.{inl}
use mathlib.Core.List.{List, [], ◌∷◌}
use Prim.Native.Nat.{ℕ, ◌≤◌}
use native.Mathlib.Omega.{arith}
use lib.ListN.{length, drop}
use Rattle.rule.specs.declared.Reason.{Reason}
use Rattle.rule.specs.declared.Reason.TheVariants.{Profile, Bodies, Full}
use Rattle.rule.specs.Sets.{Is, In}
use Rattle.rule.specs.Books.{ProfileRange, BodiesRange, capacity}
use Rattle.rule.specs.Reasons.{number_of, place_of, Check, plain}
use Rattle.rule.proofs.Tests.{cases}
use Rattle.std.specs.Prelude.{Option, Some, None, Ok, Err}
use Rattle.text.specs.declared.Reading.{Reading}
use Rattle.text.specs.Lines.{key_a, key_b, key_bodies, key_edges}
use Rattle.text.specs.Due.{Said, nothing, to_a, to_b, to_bodies, to_edges, lines_said, number_line, FirstRange, due, book_text}
use Rattle.grammar.specs.Grammar.{NextIs, AtFault}
use Rattle.grammar.specs.Grammar.AtFault.{other, fails}
use Rattle.grammar.proofs.Runs.{stands_first, stands_on, stands_refused}
use Rattle.grammar.proofs.Runs as runs
use Rattle.text.specs.Faults.{RefusedAt}
use Rattle.text.specs.Readings.{read_number_line}
use Rattle.text.specs.Judging.{within, ranged, read_numbered}
use Rattle.text.proofs.Picks.{pick_is, pick_not}
use Rattle.text.proofs.Results.{same_ok, same_err, ok_err}
use Rattle.text.proofs.Ranges.{within_of, within_is, in_within, first_within, within_first, second_within, within_profile}
use Rattle.text.proofs.LineReads.{NumberLineAt, number_line_sound, number_line_none}

-- ---- a number line

module _ (key : List ℕ) (low high : ℕ) (why : Reason) where
  pub record NumberedAt (text : List ℕ) (at n next : ℕ) : Type 0 where
    pub there : NumberLineAt key text at n next
    pub from : low ≤ n
    pub to : n ≤ high

  pub numbered_sound : (text : List ℕ) (at : ℕ) (r : Reading) → read_numbered key low high why text at ≡ Ok r → NumberedAt text at r.value r.next
  unfolding read_numbered ranged
  numbered_sound text at r e = go (read_number_line key text at) refl e
    where
      go : (o : Option Reading) → read_number_line key text at ≡ o → ranged low high why o ≡ Ok r → NumberedAt text at r.value r.next
      go None q h = absurd (ok_err (sym h))
      go (Some v) q h =
          cases (within low high v.value)
          (λ i.
          let range = within_of low high v.value i in
          subst (λ (x : Reading). NumberedAt text at x.value x.next) (same_ok (sym (pick_is _ _ _ i) ∙ h))
          (record { there = number_line_sound key text at v q; from = range.0; to = range.1 }))
          (λ i. absurd (ok_err (sym h ∙ pick_not _ _ _ i)))

  -- where the line that is due has this key, and one check, which asks for the range
  module _ (then : ℕ → Said) (must : ℕ → Type 0) (asks : (v : ℕ) → must v → Is (within low high v)) (none : place_of why ≡ 0) where
    numbered_fault : (text : List ℕ) (at : ℕ) (reason : Reason) (ended : Type 0) → at ≤ length text → ¬ ended
        → read_numbered key low high why text at ≡ Err reason
        → AtFault (number_line key then (λ v. plain (number_of why) (must v) ∷ [])) ended (drop at text) reason
    unfolding read_numbered ranged
    numbered_fault text at reason ended l going e = go (read_number_line key text at) refl e
      where
        go : (o : Option Reading) → read_number_line key text at ≡ o → ranged low high why o ≡ Err reason
            → AtFault (number_line key then (λ v. plain (number_of why) (must v) ∷ [])) ended (drop at text) reason
        go None q h =
            let absent = number_line_none key text at l q in
            subst (AtFault _ ended (drop at text)) (same_err h) (other (λ n more next. absent n more next.allowed next.begins) going)
        go (Some v) q h =
            cases (within low high v.value) (λ i. absurd (ok_err (sym (pick_is _ _ _ i) ∙ h)))
            (λ i.
            let is : why ≡ reason = same_err (sym (pick_not _ _ _ i) ∙ h) in
            let f = number_line_sound key text at v q in
            fails v.value (drop v.next text) (record { allowed = f.small; begins = f.begins })
            (inl ((λ m. i (asks v.value m)), sym (ap number_of is), sym (ap place_of is) ∙ none)))

numbered_in : {key : List ℕ} {high : ℕ} {why : Reason} {text : List ℕ} {at n next : ℕ} → NumberedAt key 1 high why text at n next → In high n
numbered_in f = record { low = f.from; high = f.to }

numbered_next : {key : List ℕ} {low high : ℕ} {why : Reason} {text : List ℕ} {at n next : ℕ} {then : ℕ → Said} {checks : ℕ → List Check}
    → NumberedAt key low high why text at n next → NextIs (number_line key then checks) (drop at text) n (drop next text)
numbered_next f = record { allowed = f.there.small; begins = f.there.begins }

-- ---- a place that is reached

abbrev pub Stands : List ℕ → ℕ → Said → Type 0
Stands text at said = runs.Stands book_text text at said

-- ---- the four lines

module _ {text : List ℕ} {at : ℕ} where
  pub line_a : (r : Reading) → Stands text at nothing → read_numbered key_a 1 3 Profile text at ≡ Ok r
      → FirstRange r.value × Stands text r.next (to_a r.value)
  unfolding due
  line_a r s e =
      let f = numbered_sound key_a 1 3 Profile text at r e in
      let range = within_first f.from f.to in
      (range, stands_on s r.value r.next (numbered_next f) f.there.within (range, tt))

  pub fault_a : (reason : Reason) → Stands text at nothing → read_numbered key_a 1 3 Profile text at ≡ Err reason
      → RefusedAt text reason 1
  unfolding due lines_said
  fault_a reason s e =
      stands_refused reason s (numbered_fault key_a 1 3 Profile _ _ first_within refl text at reason _ s.within (λ end. end) e)

  pub line_b : (a : ℕ) (r : Reading) → FirstRange a → Stands text at (to_a a) → read_numbered key_b 1 3 Profile text at ≡ Ok r
      → ProfileRange a r.value × Stands text r.next (to_b a r.value)
  unfolding due
  line_b a r ra s e =
      let f = numbered_sound key_b 1 3 Profile text at r e in
      let range = within_profile ra f.from f.to in
      (range, stands_on s r.value r.next (numbered_next f) f.there.within (range, tt))

  pub fault_b : (a : ℕ) (reason : Reason) → Stands text at (to_a a) → read_numbered key_b 1 3 Profile text at ≡ Err reason
      → RefusedAt text reason 2
  unfolding due lines_said
  fault_b a reason s e =
      stands_refused reason s (numbered_fault key_b 1 3 Profile _ _ second_within refl text at reason _ s.within (λ end. end) e)

  pub line_bodies : (a b : ℕ) (r : Reading) → Stands text at (to_b a b) → read_numbered key_bodies 1 64 Bodies text at ≡ Ok r
      → BodiesRange r.value × Stands text r.next (to_bodies a b r.value)
  unfolding due
  line_bodies a b r s e =
      let f = numbered_sound key_bodies 1 64 Bodies text at r e in
      (numbered_in f, stands_on s r.value r.next (numbered_next f) f.there.within (numbered_in f, tt))

  pub fault_bodies : (a b : ℕ) (reason : Reason) → Stands text at (to_b a b) → read_numbered key_bodies 1 64 Bodies text at ≡ Err reason
      → RefusedAt text reason 3
  unfolding due lines_said
  fault_bodies a b reason s e =
      stands_refused reason s
      (numbered_fault key_bodies 1 64 Bodies _ _ (in_within 64) refl text at reason _ s.within (λ end. end) e)

  pub line_edges : (a b n : ℕ) (r : Reading) → Stands text at (to_bodies a b n) → read_numbered key_edges 0 capacity Full text at ≡ Ok r
      → (r.value ≤ capacity) × Stands text r.next (to_edges a b n r.value [])
  unfolding due
  line_edges a b n r s e =
      let f = numbered_sound key_edges 0 capacity Full text at r e in
      (f.to, stands_on s r.value r.next (numbered_next f) f.there.within (f.to, tt))

  pub fault_edges : (a b n : ℕ) (reason : Reason) → Stands text at (to_bodies a b n)
      → read_numbered key_edges 0 capacity Full text at ≡ Err reason
      → RefusedAt text reason 4
  unfolding due lines_said
  fault_edges a b n reason s e =
      stands_refused reason s
      (numbered_fault key_edges 0 capacity Full _ _ (λ v h. within_is 0 capacity v (omega arith) h) refl text at reason _ s.within (λ end. end) e)

-- ---- where the head stands past each of its lines

module _ {text : List ℕ} {a : Reading} (one : read_numbered key_a 1 3 Profile text 0 ≡ Ok a) where
  pub after_a : FirstRange a.value × Stands text a.next (to_a a.value)
  after_a = line_a a stands_first one

  module _ {b : Reading} (two : read_numbered key_b 1 3 Profile text a.next ≡ Ok b) where
    pub after_b : ProfileRange a.value b.value × Stands text b.next (to_b a.value b.value)
    after_b = line_b a.value b after_a.0 after_a.1 two

    module _ {n : Reading} (three : read_numbered key_bodies 1 64 Bodies text b.next ≡ Ok n) where
      pub after_bodies : BodiesRange n.value × Stands text n.next (to_bodies a.value b.value n.value)
      after_bodies = line_bodies a.value b.value n after_b.1 three

      pub after_edges : {m : Reading} → read_numbered key_edges 0 capacity Full text n.next ≡ Ok m
          → (m.value ≤ capacity) × Stands text m.next (to_edges a.value b.value n.value m.value [])
      after_edges {m} four = line_edges a.value b.value n.value m after_bodies.1 four
