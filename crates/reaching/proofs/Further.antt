-- The edge x, waiting at a place, tries forest f: it is free there, or the edges on its path come to wait, and the arrays hold what the model has
-- then. The queue holds the new edges behind the others, and the word of f has the slots on the path besides; the words of other forests
-- stay, since no edge of theirs is on the path.
-- Assumes nothing.
use mathlib.Core.Path.{◌≡◌, sym, ap, ap₂, ◌∙◌, subst}
use mathlib.Core.Logic.{◌≢◌}
use mathlib.Core.Bool.{Bool}
use mathlib.Core.List.{List, ◌++◌}
use Prim.Native.Nat.{ℕ, ◌+◌, ◌-◌, ◌≤◌, ◌<◌}
use native.Mathlib.Omega.{arith}
use lib.Bits.{bit_xor, bit_or}
use lib.ListN.{length, get_or, take, set, replicate, length-append, length-replicate, length-set}
use lib.Seq.{get_or-set_same, get_or-set_other}
use Rattle.rule.specs.Sets.{Is, ◌or◌, In, count, numbers}
use Rattle.rule.specs.Legal.{Design}
use Rattle.rule.specs.Forests.{limit, in_forest}
use Rattle.rule.proofs.Tests.{is_false, eq_of, eq_is, by_eq}
use Rattle.rule.proofs.Counting.{length_numbers}
use Rattle.theory.specs.Joined.{spans}
use Rattle.theory.specs.Search.{Waiting, edge_at, fresh, reach, pick_result, try_forest}
use Rattle.theory.specs.Search.Result.{found, going}
use Rattle.theory.proofs.Exchange.Step.{path_in}
use Rattle.theory.proofs.Legal.Kept.{forest_is}
use Rattle.theory.proofs.Search.Reached.{size, Reached, Grows, reach_grows, reach_reached}
use Rattle.words.specs.Bits.{bit}
use Rattle.words.proofs.Bits.{bit_or_lem}
use Rattle.tables.specs.Tables.{word, slot, filled}
use Rattle.reaching.specs.Words.{CameToWait}
use Rattle.reaching.specs.Setting.{Setting, HoldsWaiting, SearchState}
use Rattle.reaching.specs.Trying.{Further}
use Rattle.reaching.proofs.Laid.{laid_length, laid_front}
use Rattle.reaching.proofs.Bits.{or_none}
use Rattle.reaching.proofs.Bound.{few_wait}
use Rattle.reaching.proofs.Paths.{is_on_path}

-- ---- the model

module _ (d : Design) (forest : ℕ → ℕ) (place x f : ℕ) (w : Waiting) where
  pub try_own : forest x ≡ f → try_forest d forest place x f w ≡ going w
  unfolding try_forest
  try_own q =
      ap (λ (b : Bool). pick_result b (going w) (pick_result (spans d (in_forest forest f) x) (going (reach d forest place x f w)) (found place f w))) (eq_is _ _ q)

  try_other : forest x ≢ f
      → try_forest d forest place x f w ≡ pick_result (spans d (in_forest forest f) x) (going (reach d forest place x f w)) (found place f w)
  unfolding try_forest
  try_other ne =
      ap (λ (b : Bool). pick_result b (going w) (pick_result (spans d (in_forest forest f) x) (going (reach d forest place x f w)) (found place f w)))
      (is_false _ (λ t. ne (eq_of _ _ t)))

  pub try_joined : forest x ≢ f → Is (spans d (in_forest forest f) x) → try_forest d forest place x f w ≡ going (reach d forest place x f w)
  try_joined ne t = try_other ne ∙ ap (λ (b : Bool). pick_result b (going (reach d forest place x f w)) (found place f w)) t

  pub try_free : forest x ≢ f → ¬ (Is (spans d (in_forest forest f) x)) → try_forest d forest place x f w ≡ found place f w
  try_free ne n = try_other ne ∙ ap (λ (b : Bool). pick_result b (going (reach d forest place x f w)) (found place f w)) (is_false _ n)

-- ---- the arrays

module _ {d : Design} {forest : ℕ → ℕ} {root way who edge sizes : List ℕ} (s : Setting d forest root way who edge sizes) (w : Waiting)
    (queue from seen : List ℕ) (state : SearchState d forest edge sizes queue from seen w) (place x f : ℕ) (here : place < size w) (is_x : edge_at w place ≡ x)
    (allowed : In (limit d x) f) where
  abbrev next : Waiting
  next = reach d forest place x f w

  abbrev news : List ℕ
  news = numbers (fresh d forest w x f) d.m

  next_grows : Grows w next
  next_grows =
      subst (λ (z : ℕ). Grows w (reach d forest place z f w)) is_x
      (reach_grows d forest d.m place f w state.sound here (subst (λ (z : ℕ). In (limit d z) f) (sym is_x) allowed))

  next_sound : Reached d forest d.m next
  next_sound =
      subst (λ (z : ℕ). Reached d forest d.m (reach d forest place z f w)) is_x
      (reach_reached d forest d.m place f w state.sound here (subst (λ (z : ℕ). In (limit d z) f) (sym is_x) allowed))

  next_size : size next ≡ size w + length news
  unfolding reach
  next_size = length-append w.queue news

  pub next_room : size w + count (fresh d forest w x f) d.m ≤ 379
  next_room = omega (arith, next_size, few_wait s next next_sound, length_numbers (fresh d forest w x f) d.m)

  next_holds : (queue' from' : List ℕ) (n : ℕ) → CameToWait news (size w) place queue from queue' from' n → HoldsWaiting next queue' from'
  unfolding reach
  next_holds queue' from' n c =
      record {
        queued =
            ap (λ (j : ℕ). take j queue') next_size
            ∙ laid_front c.waits
            ∙ ap (λ (l : List ℕ). l ++ news) state.holds.queued;
        reached =
            ap (λ (j : ℕ). take j from') (next_size ∙ ap (λ (j : ℕ). size w + j) (sym (length-replicate (length news) place)))
            ∙ laid_front c.reached
            ∙ ap (λ (l : List ℕ). l ++ replicate (length news) place) state.holds.reached;
        places = (laid_length c.waits ∙ state.holds.places.0, laid_length c.reached ∙ state.holds.places.1);
      }

  module _ (hx : In d.m x) (hf : In 6 f) (spanned : Is (spans d (in_forest forest f) x)) where
    -- the slots of f that are seen then
    abbrev both : ℕ
    both = bit_or (get_or seen (f - 1) 0) (bit_xor (word way f (d.one x)) (word way f (d.other x)))

    marked : (i j : ℕ) → In 6 i → j < filled sizes i → bit (get_or (set seen (f - 1) both) (i - 1) 0) j ≡ next.seen (slot edge i j)
    unfolding reach
    marked i j hi h =
        by_eq i f
        (λ q.
        subst (λ (z : ℕ). j < filled sizes z → bit (get_or (set seen (f - 1) both) (z - 1) 0) j ≡ next.seen (slot edge z j)) (sym q)
        (λ h'.
        ap (λ (v : ℕ). bit v j) (get_or-set_same seen (f - 1) both 0 (omega (arith, state.words)))
        ∙ bit_or_lem (get_or seen (f - 1) 0) _ j
        ∙ ap₂ (λ (a b : Bool). a or b) (state.marks f j hf h') (is_on_path s x f hx hf spanned j h'))
        h)
        (λ ne.
        ap (λ (v : ℕ). bit v j) (get_or-set_other seen (f - 1) (i - 1) both 0 (omega arith))
        ∙ state.marks i j hi h
        ∙ sym (or_none (w.seen (slot edge i j)) _ (λ t. ne (sym ((s.tabled.slots i hi).edge_in j h).1 ∙ forest_is forest f _ (path_in d (in_forest forest f) x _ t)))))

    pub reached_further : (queue' from' : List ℕ) (n : ℕ) → CameToWait news (size w) place queue from queue' from' n
        → (n ≡ size next) × Further d forest edge sizes w queue' from' (set seen (f - 1) both) next
    reached_further queue' from' n c = (
      c.counts ∙ sym next_size,
      record {
        state =
            record {
              sound = next_sound;
              holds = next_holds queue' from' n c;
              marks = marked;
              words = length-set seen (f - 1) both ∙ state.words;
            };
        grows = next_grows;
      },
    )
