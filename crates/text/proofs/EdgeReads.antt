-- What `read_edge` (specs/Readings.antt) finds at a place of a text: the edge line, if it is there, and nothing else. And an edge line
-- that a text begins with is determined.
--
-- In order: the two keys; determined; the two numbers; what the readers pick, case by case; what is found is there; what is there is found.
-- Assumes nothing.
use mathlib.Core.Path.{◌≡◌, refl, sym, ap, ◌∙◌, subst}
use mathlib.Core.Bool.{true, false}
use mathlib.Core.Logic.{inl, inr, ⊎_elim, ◌≢◌}
use mathlib.Core.List.{List, [], ◌∷◌, ◌++◌}
use Prim.Native.Nat.{ℕ, ◌+◌, ◌≤◌, ◌<◌}
use native.Mathlib.Omega.{arith}
use lib.ListN.{length, get_or, drop, length-append, length-drop}
use Rattle.rule.specs.Sets.{Is}
use Rattle.rule.specs.declared.Edge.{Edge}
use Rattle.rule.specs.Books.{ColourRange}
use Rattle.rule.proofs.Tests.{cases}
use Rattle.std.specs.Prelude.{Option, Some, None}
use Rattle.std.proofs.lemmas.Option.{none-some, same_Some}
use Rattle.text.specs.declared.Reading.{Reading}
use Rattle.text.specs.declared.EdgeRead.{EdgeRead}
use Rattle.text.specs.declared.Key.{Key}
use Rattle.text.specs.Lines.{numeral, Number, LF, comma, line, key_red, key_black}
use Rattle.text.specs.Sheets.{key_of, edge_text}
use Rattle.text.specs.Due.{Writable}
use Rattle.text.specs.Readings.{read_field, begins_at, other_end, one_end, read_ends, read_key, keyed, read_edge}
use Rattle.text.proofs.Picks.{pick_is, pick_not, pick_false, pick_eq, pick_ne}
use Rattle.text.proofs.Fields.{past_front, field_complete, field_determined, FieldAt, field_sound}
use Rattle.text.proofs.LineReads.{line_two, LF-ends, comma_ends, key_room, key_there, key_found, after_key}

-- ---- the two keys

pub key_of_red : (c : ℕ) → c ≡ 1 → key_of c ≡ key_red
key_of_red c h = pick_eq c 1 key_red key_black h

pub key_of_black : (c : ℕ) → c ≡ 2 → key_of c ≡ key_black
key_of_black c h = pick_ne c 1 key_red key_black (omega arith)

-- their first bytes differ
red_not_black : (r q : List ℕ) → key_red ++ r ≢ key_black ++ q
red_not_black r q e = let first = ap (λ (s : List ℕ). get_or s 0 0) e in absurd (omega arith)

-- an edge line, taken apart
edge_apart : (e : Edge) (key more : List ℕ) → key_of e.colour ≡ key
    → edge_text e ++ more ≡ key ++ (numeral e.one ++ comma ∷ (numeral e.other ++ LF ∷ more))
unfolding edge_text
edge_apart e key more k = ap (λ (s : List ℕ). line s (e.one ∷ e.other ∷ []) ++ more) k ∙ line_two key e.one e.other more

-- ---- determined

ends_determined : (u v x y : ℕ) (r q : List ℕ) → Number u → Number v → Number x → Number y
    → numeral u ++ comma ∷ (numeral v ++ LF ∷ r) ≡ numeral x ++ comma ∷ (numeral y ++ LF ∷ q) → (u ≡ x) × (v ≡ y) × (r ≡ q)
ends_determined u v x y r q hu hv hx hy e =
    let first = field_determined 2 comma comma_ends u x _ _ hu hx e in
    let second = field_determined 2 LF LF-ends v y r q hv hy first.1 in
    (first.0, second.0, second.1)

pub edge_determined : (e f : Edge) (r q : List ℕ) → Writable e → Writable f → edge_text e ++ r ≡ edge_text f ++ q → (e ≡ f) × (r ≡ q)
edge_determined e f r q we wf same =
    ⊎_elim
    (λ red.
    ⊎_elim (λ red'. alike key_red (key_of_red _ red) (key_of_red _ red') (red ∙ sym red'))
    (λ black'. absurd (red_not_black _ _ (sym (edge_apart e _ r (key_of_red _ red)) ∙ same ∙ edge_apart f _ q (key_of_black _ black'))))
    wf.colour)
    (λ black.
    ⊎_elim
    (λ red'. absurd (red_not_black _ _ (sym (edge_apart f _ q (key_of_red _ red')) ∙ sym same ∙ edge_apart e _ r (key_of_black _ black))))
    (λ black'. alike key_black (key_of_black _ black) (key_of_black _ black') (black ∙ sym black'))
    wf.colour)
    we.colour
  where
    alike : (key : List ℕ) → key_of e.colour ≡ key → key_of f.colour ≡ key → e.colour ≡ f.colour → (e ≡ f) × (r ≡ q)
    alike key ke kf c =
        let p = ends_determined e.one e.other f.one f.other r q we.one we.other wf.one wf.other
        (after_key key _ _ (sym (edge_apart e key r ke) ∙ same ∙ edge_apart f key q kf)) in
        (λ i. record { one = p.0 i; other = p.1 i; colour = c i }, p.2)

-- ---- the two numbers

-- an edge line is found: its numbers, its colour and the place past it
abbrev pub joins : (u v c next : ℕ) → EdgeRead
joins u v c next = record { one = u; other = v; colour = c; next = next }

record EndsAt (text : List ℕ) (at u v next : ℕ) : Type 0 where
  one : Number u
  other : Number v
  begins : drop at text ≡ numeral u ++ comma ∷ (numeral v ++ LF ∷ drop next text)
  past : at < next
  within : next ≤ length text

ends_complete : (text : List ℕ) (at colour u v : ℕ) (more : List ℕ) → Number u → Number v
    → drop at text ≡ numeral u ++ comma ∷ (numeral v ++ LF ∷ more)
    → (next : ℕ) × (read_ends text at colour ≡ Some (joins u v colour next))
unfolding read_ends one_end other_end
ends_complete text at colour u v more hu hv e =
    let middle : ℕ = at + length (numeral u) + 1 in
    let one = field_complete 2 comma comma_ends text at u _ hu e in
    let there = field_sound 2 comma text at _ (omega arith) one in
    let rest = ap (drop 1) (after_key (numeral u) _ _ (sym there.begins ∙ e)) in
    let other = field_complete 2 LF LF-ends text middle v more hv rest in
    (_, ap (one_end text colour) one ∙ ap (other_end u colour) other)

ends_sound : (text : List ℕ) (at colour : ℕ) (e : EdgeRead) → read_ends text at colour ≡ Some e
    → EndsAt text at e.one e.other e.next × (e.colour ≡ colour)
unfolding read_ends one_end other_end
ends_sound text at colour e q = first (read_field 3 comma text at) refl q
  where
    second : (a : Reading) → FieldAt 2 comma text at a.value a.next → (o : Option Reading) → read_field 3 LF text a.next ≡ o
        → other_end a.value colour o ≡ Some e → EndsAt text at e.one e.other e.next × (e.colour ≡ colour)
    second a f None p h = absurd (none-some e h)
    second a f (Some b) p h =
        let g = field_sound 2 LF text a.next b (omega arith) p in
        let at_ends : EndsAt text at a.value b.value b.next =
        record {
          one = f.small;
          other = g.small;
          begins = f.begins ∙ ap (λ (s : List ℕ). numeral a.value ++ comma ∷ s) g.begins;
          past = omega (arith, f.past, g.past);
          within = g.within;
        } in
        subst (λ (x : EdgeRead). EndsAt text at x.one x.other x.next × (x.colour ≡ colour)) (same_Some (joins a.value b.value colour b.next) e h)
        (at_ends, refl)

    first : (o : Option Reading) → read_field 3 comma text at ≡ o → one_end text colour o ≡ Some e → EndsAt text at e.one e.other e.next × (e.colour ≡ colour)
    first None p h = absurd (none-some e h)
    first (Some a) p h = second a (field_sound 2 comma text at a (omega arith) p) (read_field 3 LF text a.next) refl h

-- ---- what the readers pick, case by case

module _ (text : List ℕ) (at colour : ℕ) where
  pub ends_none : read_field 3 comma text at ≡ None → read_ends text at colour ≡ None
  unfolding read_ends one_end
  ends_none e = ap (one_end text colour) e

  module _ (a : Reading) (e : read_field 3 comma text at ≡ Some a) where
    pub ends_one : read_field 3 LF text a.next ≡ None → read_ends text at colour ≡ None
    unfolding read_ends one_end other_end
    ends_one f = ap (one_end text colour) e ∙ ap (other_end a.value colour) f

    pub ends_both : (b : Reading) → read_field 3 LF text a.next ≡ Some b → read_ends text at colour ≡ Some (joins a.value b.value colour b.next)
    unfolding read_ends one_end other_end
    ends_both b f = ap (one_end text colour) e ∙ ap (other_end a.value colour) f

pub ruleset two_ends = (ends_none, ends_one, ends_both)

-- a key: its colour and the place past it
abbrev opens : (colour next : ℕ) → Key
opens colour next = record { colour = colour; next = next }

module _ (text : List ℕ) (at : ℕ) where
  pub key_is_red : true ≡ begins_at key_red text at → read_key text at ≡ Some (opens 1 (at + 4))
  unfolding read_key
  key_is_red h = pick_is _ _ _ (sym h)

  module _ (red : false ≡ begins_at key_red text at) where
    pub key_is_black : true ≡ begins_at key_black text at → read_key text at ≡ Some (opens 2 (at + 6))
    unfolding read_key
    key_is_black h = pick_false _ _ _ red refl ∙ pick_is _ _ _ (sym h)

    pub key_is_none : false ≡ begins_at key_black text at → read_key text at ≡ None
    unfolding read_key
    key_is_none h = pick_false _ _ _ red refl ∙ pick_false _ _ _ h refl

pub ruleset keys = (key_room, key_is_red, key_is_black, key_is_none)

module _ (text : List ℕ) (at : ℕ) where
  pub edge_other : read_key text at ≡ None → read_edge text at ≡ None
  unfolding read_edge keyed
  edge_other e = ap (keyed text) e

  pub edge_keyed : (k : Key) → read_key text at ≡ Some k → read_edge text at ≡ read_ends text k.next k.colour
  unfolding read_edge keyed
  edge_keyed k e = ap (keyed text) e

pub ruleset edges = (edge_other, edge_keyed)

-- ---- what is found is there

pub record EdgeAt (text : List ℕ) (at : ℕ) (e : Edge) (next : ℕ) : Type 0 where
  pub written : Writable e
  pub begins : drop at text ≡ edge_text e ++ drop next text
  pub past : at < next
  pub within : next ≤ length text

-- the edge that was read
abbrev pub edge : EdgeRead → Edge
edge e = record { one = e.one; other = e.other; colour = e.colour }

edge_there : (key text : List ℕ) (at colour : ℕ) (e : EdgeRead) → key_of colour ≡ key → ColourRange colour → Is (begins_at key text at)
    → read_ends text (at + length key) colour ≡ Some e → EdgeAt text at (edge e) e.next
edge_there key text at colour e k range h q =
    let f = ends_sound text (at + length key) colour e q in
    let g = f.0 in
    record {
      written = record { one = g.one; other = g.other; colour = subst ColourRange (sym f.1) range };
      begins =
          key_there key text at h
          ∙ ap (λ (s : List ℕ). key ++ s) g.begins
          ∙ sym (edge_apart (edge e) key (drop e.next text) (ap key_of f.1 ∙ k));
      past = omega (arith, g.past);
      within = g.within;
    }

pub edge_sound : (text : List ℕ) (at : ℕ) (e : EdgeRead) → read_edge text at ≡ Some e → EdgeAt text at (edge e) e.next
unfolding read_edge read_key keyed
edge_sound text at e q =
    cases (begins_at key_red text at)
    (λ h. edge_there key_red text at 1 e (key_of_red 1 refl) (inl refl) h (sym (ap (keyed text) (pick_is _ _ _ h)) ∙ q))
    (λ h.
    cases (begins_at key_black text at)
    (λ b. edge_there key_black text at 2 e (key_of_black 2 refl) (inr refl) b
    (sym (ap (keyed text) (pick_not _ _ _ h ∙ pick_is _ _ _ b)) ∙ q))
    (λ b. absurd (none-some e (sym (ap (keyed text) (pick_not _ _ _ h ∙ pick_not _ _ _ b)) ∙ q))))

-- ---- what is there is found

edge_found : (text : List ℕ) (at : ℕ) (e : Edge) (more : List ℕ) → at ≤ length text → Writable e → drop at text ≡ edge_text e ++ more
    → (next : ℕ) × (read_edge text at ≡ Some (joins e.one e.other e.colour next))
unfolding read_edge read_key keyed
edge_found text at e more l w q =
    ⊎_elim
    (λ red.
    let apart = q ∙ edge_apart e key_red more (key_of_red _ red) in
    let f = ends_complete text (at + 4) 1 e.one e.other more w.one w.other (past_front text key_red _ at apart) in
    (f.0, ap (keyed text) (pick_is _ _ _ (key_found key_red text _ at l apart)) ∙ f.1 ∙ ap (λ (c : ℕ). Some (joins e.one e.other c f.0)) (sym red)))
    (λ black.
    let apart = q ∙ edge_apart e key_black more (key_of_black _ black) in
    let f = ends_complete text (at + 6) 2 e.one e.other more w.one w.other (past_front text key_black _ at apart) in (
      f.0,
      ap (keyed text)
          (pick_not _ _ _ (λ h. red_not_black _ _ (sym (key_there key_red text at h) ∙ apart))
          ∙ pick_is _ _ _ (key_found key_black text _ at l apart))
          ∙ f.1
          ∙ ap (λ (c : ℕ). Some (joins e.one e.other c f.0)) (sym black),
    ))
    w.colour

-- with the place past it
pub edge_complete : (text : List ℕ) (at : ℕ) (e : Edge) (more : List ℕ) → at ≤ length text → Writable e → drop at text ≡ edge_text e ++ more
    → read_edge text at ≡ Some (joins e.one e.other e.colour (at + length (edge_text e)))
edge_complete text at e more l w q =
    let f = edge_found text at e more l w q in
    let there = edge_sound text at _ f.1 in
    let place : f.0 ≡ at + length (edge_text e) =
    omega (
      arith,
      ap length there.begins,
      length-append (edge_text e) (drop f.0 text),
      length-drop at text,
      length-drop f.0 text,
      there.within,
    ) in
    f.1 ∙ ap (λ (next : ℕ). Some (joins e.one e.other e.colour next)) place

pub edge_none : (text : List ℕ) (at : ℕ) → at ≤ length text → read_edge text at ≡ None → (e : Edge) (more : List ℕ) → Writable e
    → drop at text ≢ edge_text e ++ more
edge_none text at l none e more w q =
    absurd (none-some _ (sym none ∙ edge_complete text at e more l w q))
