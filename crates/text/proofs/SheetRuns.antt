-- A sheet in range and a text that is read to its end are the same thing.
--
-- In order: what lines say is in range, and their text is the front of the text; so a text read to its end is the text of a sheet in
-- range; the text of a sheet in range is read to its end.
-- Assumes nothing.
use mathlib.Core.Path.{◌≡◌, refl, sym, ap, ◌∙◌, subst}
use mathlib.Core.List.{List, [], ◌∷◌, ◌++◌, append_assoc, append-nil}
use Prim.Native.Nat.{ℕ, ◌+◌, ◌≤◌}
use native.Mathlib.Omega.{arith}
use lib.ListN.{length, length-append}
use Rattle.rule.specs.declared.Edge.{Edge}
use Rattle.rule.specs.Books.{EdgeRange, ProfileRange, BodiesRange, capacity}
use Rattle.rule.specs.Reasons.{Pass}
use Rattle.text.specs.Lines.{line, key_a, key_b, key_bodies, key_edges}
use Rattle.text.specs.Sheets.{Sheet, EdgesRange, SheetRange, edge_text, edges_text, head_text, text_of}
use Rattle.text.specs.Due.{Said, nothing, to_a, to_b, to_bodies, to_edges, FirstRange, due, Ended}
use Rattle.text.proofs.Ranges.{first_small, second_small, profile_first}
use Rattle.grammar.specs.Grammar.{NextIs}
use Rattle.grammar.specs.Grammar.Leads.{here, one_line}
use Rattle.grammar.proofs.Runs.{leads_trans}
use Rattle.text.specs.Faults.{Leads}

-- ---- lists of edges

pub edges_text_append : (es fs : List Edge) → edges_text (es ++ fs) ≡ edges_text es ++ edges_text fs
unfolding edges_text
edges_text_append [] fs = refl
edges_text_append (e ∷ es) fs =
    ap (λ (s : List ℕ). edge_text e ++ s) (edges_text_append es fs) ∙ sym (append_assoc (edge_text e) (edges_text es) (edges_text fs))

pub edges_text_snoc : (es : List Edge) (e : Edge) → edges_text (es ++ e ∷ []) ≡ edges_text es ++ edge_text e
unfolding edges_text
edges_text_snoc es e = edges_text_append es (e ∷ []) ∙ ap (λ (s : List ℕ). edges_text es ++ s) (append-nil (edge_text e))

pub edges_range_snoc : (n : ℕ) (es : List Edge) (e : Edge) → EdgesRange n es → EdgeRange n e → EdgesRange n (es ++ e ∷ [])
edges_range_snoc n [] e r h = (h, tt)
edges_range_snoc n (x ∷ es) e r h = (r.0, edges_range_snoc n es e r.1 h)

-- ---- what has been said

-- the text of the lines
said_text : Said → List ℕ
said_text nothing = []
said_text (to_a a) = line key_a (a ∷ [])
said_text (to_b a b) = line key_a (a ∷ []) ++ line key_b (b ∷ [])
said_text (to_bodies a b n) = line key_a (a ∷ []) ++ (line key_b (b ∷ []) ++ line key_bodies (n ∷ []))
said_text (to_edges a b n m es) = head_text a b n m ++ edges_text es

said_text_lem : (said : Said) (rest : List ℕ) (value : (due said).Value) (more : List ℕ) → NextIs (due said) rest value more
    → said_text said ++ rest ≡ said_text ((due said).then value) ++ more
unfolding said_text due head_text edges_text
said_text_lem nothing rest a more h = h.begins
said_text_lem (to_a a) rest b more h = ap (λ (s : List ℕ). said_text (to_a a) ++ s) h.begins ∙ simp append_assoc
said_text_lem (to_b a b) rest n more h = ap (λ (s : List ℕ). said_text (to_b a b) ++ s) h.begins ∙ simp append_assoc
said_text_lem (to_bodies a b n) rest m more h =
    ap (λ (s : List ℕ). said_text (to_bodies a b n) ++ s) h.begins ∙ simp (append_assoc, append-nil)
said_text_lem (to_edges a b n m es) rest e more h =
    ap (λ (s : List ℕ). said_text (to_edges a b n m es) ++ s) h.begins ∙ simp (edges_text_snoc es e, append_assoc)

-- it is in range
SaidRange : Said → Type 0
SaidRange nothing = Unit
SaidRange (to_a a) = FirstRange a
SaidRange (to_b a b) = ProfileRange a b
SaidRange (to_bodies a b n) = ProfileRange a b × BodiesRange n
SaidRange (to_edges a b n m es) = ProfileRange a b × BodiesRange n × (m ≤ capacity) × EdgesRange n es

said_range : (said : Said) (rest : List ℕ) (value : (due said).Value) (more : List ℕ) → NextIs (due said) rest value more
    → Pass ((due said).checks value) → SaidRange said → SaidRange ((due said).then value)
unfolding SaidRange due
said_range nothing rest a more h p r = p.0
said_range (to_a a) rest b more h p r = p.0
said_range (to_b a b) rest n more h p r = (r, p.0)
said_range (to_bodies a b n) rest m more h p r = (r.0, r.1, p.0, tt)
said_range (to_edges a b n m es) rest e more h p r = (
  r.0,
  r.1,
  r.2,
  edges_range_snoc n es e r.3
      (record { one = p.0.0; other = p.0.1; different = p.1.0; colour = h.allowed.1.colour }),
)

-- lines that are due and in range keep both
leads_said : {said last : Said} {rest left : List ℕ} → Leads said rest last left → SaidRange said
    → SaidRange last × (said_text said ++ rest ≡ said_text last ++ left)
leads_said here r = (r, refl)
leads_said {said} {last} {rest} {left} (one_line {more = more} value next pass l) r =
    let go = leads_said l (said_range said rest value more next pass r) in
    (go.0, said_text_lem said rest value more next ∙ go.1)

pub edges_few : {text rest : List ℕ} {a b n m : ℕ} {es : List Edge} → Leads nothing text (to_edges a b n m es) rest → m ≤ capacity
unfolding SaidRange
edges_few leads = (leads_said leads tt).0.2

-- ---- a text that is read to its end

pub ended_sheet : (text : List ℕ) (a b n m : ℕ) (es : List Edge) (rest : List ℕ) → Leads nothing text (to_edges a b n m es) rest
    → Ended (to_edges a b n m es) rest
    → SheetRange (record { a = a; b = b; n = n; edges = es }) × (text ≡ text_of (record { a = a; b = b; n = n; edges = es }))
unfolding SaidRange said_text text_of
ended_sheet text a b n m es rest leads end =
    let said = leads_said leads tt in
    let r = said.0 in (
      record { profile = r.0; bodies = r.1; few = omega (arith, r.2, end.0); edges = r.3 },
      said.1
          ∙ ap (λ (s : List ℕ). (head_text a b n m ++ edges_text es) ++ s) end.1
          ∙ append-nil _
          ∙ ap (λ (k : ℕ). head_text a b n k ++ edges_text es) (sym end.0),
    )

-- ---- the text of a sheet

-- the four lines of the head
head_apart : (a b n m : ℕ) (rest : List ℕ) →
    head_text a b n m ++ rest
    ≡ line key_a (a ∷ []) ++ (line key_b (b ∷ []) ++ (line key_bodies (n ∷ []) ++ (line key_edges (m ∷ []) ++ rest)))
unfolding head_text
head_apart a b n m rest = simp append_assoc

head_leads : (a b n m : ℕ) (rest : List ℕ) → ProfileRange a b → BodiesRange n → m ≤ capacity
    → Leads nothing (head_text a b n m ++ rest) (to_edges a b n m []) rest
unfolding due
head_leads a b n m rest p q h =
    let first = profile_first p in
    subst (λ (text : List ℕ). Leads nothing text (to_edges a b n m []) rest) (sym (head_apart a b n m rest))
    (one_line {said = nothing} a (record { allowed = omega (arith, first_small first); begins = refl }) (first, tt)
    (one_line {said = to_a a} b (record { allowed = omega (arith, second_small p); begins = refl }) (p, tt)
    (one_line {said = to_b a b} n (record { allowed = omega (arith, q.high); begins = refl }) (q, tt)
    (one_line {said = to_bodies a b n} m (record { allowed = omega arith; begins = refl }) (h, tt) here))))

-- the edge lines, after those that have come
edges_lead : (a b n m : ℕ) (before after : List Edge) → BodiesRange n → length before + length after ≤ m → EdgesRange n after
    → Leads (to_edges a b n m before) (edges_text after) (to_edges a b n m (before ++ after)) []
unfolding due edges_text
edges_lead a b n m before [] q h r =
    subst (λ (es : List Edge). Leads (to_edges a b n m before) [] (to_edges a b n m es) []) (sym (append-nil before)) here
edges_lead a b n m before (e ∷ after) q h r =
    let edge = r.0 in
    one_line {said = to_edges a b n m before} e
    (record {
      allowed = (
        omega arith,
        record { one = omega (arith, edge.one.high, q.high); other = omega (arith, edge.other.high, q.high); colour = edge.colour },
      );
      begins = refl;
    })
    ((edge.one, edge.other), (edge.different, tt))
    (subst (λ (es : List Edge). Leads (to_edges a b n m (before ++ e ∷ [])) (edges_text after) (to_edges a b n m es) [])
    (append_assoc before (e ∷ []) after)
    (edges_lead a b n m (before ++ e ∷ []) after q (omega (arith, length-append before (e ∷ []))) r.1))

pub sheet_leads : (s : Sheet) → SheetRange s → Leads nothing (text_of s) (to_edges s.a s.b s.n (length s.edges) s.edges) []
unfolding text_of
sheet_leads s r =
    leads_trans (head_leads s.a s.b s.n (length s.edges) (edges_text s.edges) r.profile r.bodies r.few)
    (edges_lead s.a s.b s.n (length s.edges) [] s.edges r.bodies (omega arith) r.edges)

pub sheet_ended : (s : Sheet) → Ended (to_edges s.a s.b s.n (length s.edges) s.edges) []
sheet_ended s = (refl, refl)
