-- Where a line begins: the loop of `text::line_start`.
--
-- A line that is due ends with its only LF, so where one begins the next begins past the first LF. The lines before a first fault are due, and it has the number of them and
-- one: past so many lines the loop stands where the fault begins.
-- Not here: where a line ends (LineEnds.antt).
-- Assumes nothing.
use mathlib.Core.Path.{◌≡◌, refl, sym, ap, ◌∙◌, subst}
use mathlib.Core.Bool.{Bool, true, false}
use mathlib.Core.List.{List, [], ◌∷◌, ◌++◌, append_assoc, append-nil}
use Prim.Native.Nat.{ℕ, suc, ◌+◌, ◌≤◌, ◌<◌}
use native.Mathlib.Omega.{arith}
use lib.ListN.{length, drop, length-append, length-drop}
use lib.Seq.{drop-drop, drop_at}
use Rattle.rule.specs.Sets.{◌=?◌}
use Rattle.grammar.specs.Grammar.Leads.{here, one_line}
use Rattle.text.specs.Lines.{pick, LF, comma, first_line, numeral, listed, line, key_a, key_b, key_bodies, key_edges, key_red, key_black}
use Rattle.text.specs.Words.{Digits}
use Rattle.text.specs.Sheets.{key_of, edge_text}
use Rattle.text.specs.Due.{Said, nothing, to_a, to_b, to_bodies, to_edges, lines_said, due}
use Rattle.text.specs.Faults.{Leads, Fault, FirstFault}
use Rattle.text.specs.Judgements.{LineRefused, LineBegins}
use Rattle.text.proofs.Numerals.{numeral_digits}
use Rattle.text.proofs.Steps.{line_counted}
use Rattle.text.proofs.LineEnds.{first_line_lf, first_line_more}

-- ---- bytes with no LF among them

abbrev NoLF : List ℕ → Type 0
NoLF s = (t : List ℕ) → first_line (s ++ t) ≡ s ++ first_line t

no_lf_append : (s t : List ℕ) → NoLF s → NoLF t → NoLF (s ++ t)
no_lf_append s t p q r =
    ap first_line (append_assoc s t r) ∙ p (t ++ r) ∙ ap (λ (l : List ℕ). s ++ l) (q r) ∙ sym (append_assoc s t (first_line r))

digits_no_lf : (s : List ℕ) → Digits s → NoLF s
digits_no_lf [] d t = refl
digits_no_lf (x ∷ s) d t =
    first_line_more x (s ++ t) (λ q. absurd (omega (arith, d.0.low))) ∙ ap (λ (l : List ℕ). x ∷ l) (digits_no_lf s d.1 t)

numeral_no_lf : (n : ℕ) → NoLF (numeral n)
numeral_no_lf n = digits_no_lf (numeral n) (numeral_digits n)

comma_no_lf : NoLF (comma ∷ [])
unfolding first_line pick ◌=?◌
comma_no_lf t = refl

listed_no_lf : (values : List ℕ) → NoLF (listed values)
unfolding listed
listed_no_lf [] = λ t. refl
listed_no_lf (n ∷ []) = numeral_no_lf n
listed_no_lf (n ∷ m ∷ rest) =
    no_lf_append (numeral n) (comma ∷ listed (m ∷ rest)) (numeral_no_lf n)
    (no_lf_append (comma ∷ []) (listed (m ∷ rest)) comma_no_lf (listed_no_lf (m ∷ rest)))

key_of_no_lf : (red : Bool) → NoLF (pick red key_red key_black)
unfolding first_line pick ◌=?◌
key_of_no_lf true t = refl
key_of_no_lf false t = refl

-- ---- a line ends with its LF

-- up to there it is the first line of what it begins
abbrev OneLine : List ℕ → Type 0
OneLine bytes = (more : List ℕ) → length bytes ≡ suc (length (first_line (bytes ++ more)))

line_one_line : (key values : List ℕ) → NoLF key → OneLine (line key values)
unfolding line
line_one_line key values none more =
    let front : List ℕ = key ++ listed values in
    let apart : line key values ++ more ≡ front ++ LF ∷ more = simp append_assoc in
    let first : first_line (line key values ++ more) ≡ front =
    ap first_line apart
    ∙ no_lf_append key (listed values) none (listed_no_lf values) (LF ∷ more)
    ∙ ap (λ (l : List ℕ). front ++ l) (first_line_lf LF more refl)
    ∙ append-nil front in
    omega (arith, ap length first, ap length apart, length-append (line key values) more, length-append front (LF ∷ more))

due_one_line : (said : Said) (value : (due said).Value) → OneLine ((due said).bytes value)
unfolding due edge_text first_line pick ◌=?◌
due_one_line nothing a = line_one_line key_a (a ∷ []) (λ t. refl)
due_one_line (to_a a) b = line_one_line key_b (b ∷ []) (λ t. refl)
due_one_line (to_b a b) n = line_one_line key_bodies (n ∷ []) (λ t. refl)
due_one_line (to_bodies a b n) m = line_one_line key_edges (m ∷ []) (λ t. refl)
due_one_line (to_edges a b n m es) e = line_one_line (key_of e.colour) (e.one ∷ e.other ∷ []) (key_of_no_lf (e.colour =? 1))

-- ---- from line to line

-- one line on, where lines are left
next_line : {said last : Said} {rest left : List ℕ} → Leads said rest last left → lines_said said < lines_said last
    → (next : Said) × (lines_said next ≡ suc (lines_said said)) × (suc (length (first_line rest)) ≤ length rest)
    × Leads next (drop (suc (length (first_line rest))) rest) last left
next_line here h = absurd (omega arith)
next_line {said} {last} {rest} {left} (one_line {more = more} value next pass l) h =
    let bytes : List ℕ = (due said).bytes value in
    let size : length bytes ≡ suc (length (first_line rest)) =
    due_one_line said value more ∙ ap (λ (s : List ℕ). suc (length (first_line s))) (sym next.begins) in
    let past : drop (suc (length (first_line rest))) rest ≡ more =
    ap (drop (suc (length (first_line rest)))) next.begins ∙ drop_at bytes more (suc (length (first_line rest))) size in (
      (due said).then value,
      line_counted said value,
      omega (arith, size, ap length next.begins, length-append bytes more),
      subst (λ (s : List ℕ). Leads ((due said).then value) s last left) (sym past) l,
    )

leads_lines : {said last : Said} {rest left : List ℕ} → Leads said rest last left → lines_said said ≤ lines_said last
leads_lines here = omega arith
leads_lines {said} (one_line value next pass l) = omega (arith, leads_lines l, line_counted said value)

no_line_left : {said last : Said} {rest left : List ℕ} → Leads said rest last left → lines_said last ≤ lines_said said → rest ≡ left
no_line_left here h = refl
no_line_left {said} (one_line value next pass l) h = absurd (omega (arith, leads_lines l, line_counted said value))

-- ---- the loop stands where line i begins

pub record Reached (text : List ℕ) (line at i : ℕ) : Type 0 where
  pub fault : Fault
  pub first : FirstFault text fault
  pub number : line ≡ fault.line
  pub said : Said
  pub counts : i ≡ suc (lines_said said)
  pub within : at ≤ length text
  pub leads : Leads said (drop at text) first.said (drop fault.start text)

pub reached_first : {text : List ℕ} {line : ℕ} → LineRefused text line → Reached text line 0 1
unfolding lines_said
reached_first (f, first, number) =
    record { fault = f; first = first; number = number; said = nothing; counts = refl; within = omega arith; leads = first.before }

module _ {text : List ℕ} {line at i : ℕ} (r : Reached text line at i) where
  pub reached_next : {end : ℕ} → i < line → end ≡ at + length (first_line (drop at text)) → Reached text line (end + 1) (i + 1)
  reached_next {end} more e =
      let next = next_line r.leads (omega (arith, r.counts, r.number, r.first.number)) in
      let place : at + suc (length (first_line (drop at text))) ≡ end + 1 = omega arith in
      record {
        fault = r.fault;
        first = r.first;
        number = r.number;
        said = next.0;
        counts = omega (arith, r.counts, next.1);
        within = omega (arith, next.2, length-drop at text);
        leads =
            subst (λ (s : List ℕ). Leads next.0 s r.first.said (drop r.fault.start text))
            (drop-drop (suc (length (first_line (drop at text)))) at text ∙ ap (λ (k : ℕ). drop k text) place) next.3;
      }

  pub reached_all : line ≤ i → LineBegins text line at
  reached_all all =
      let same = no_line_left r.leads (omega (arith, r.counts, r.number, r.first.number)) in (
        r.fault,
        r.first,
        r.number,
        omega (arith, ap length same, length-drop at text, length-drop r.fault.start text, r.within, r.first.within),
      )
