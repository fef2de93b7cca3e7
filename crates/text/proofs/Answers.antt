-- The answers of `judge` and `fault` are determined, since a text has one outcome (Outcomes.antt): one sheet, or one first fault.
-- Not here: the edges of the lists that `find` leaves (Lists.antt).
-- Assumes nothing.
use mathlib.Core.Path.{◌≡◌, refl, sym, ap, ap₂, ◌∙◌, subst}
use mathlib.Core.Logic.{inl, inr}
use mathlib.Core.List.{List}
use Prim.Native.Nat.{ℕ, ◌+◌}
use lib.ListN.{length, take, drop}
use denote.Ref.{Bor}
use Rattle.std.specs.Prelude.{Result, Ok, Err}
use Rattle.text.specs.declared.Head.{Head}
use Rattle.text.specs.declared.Refusal.{Refusal}
use Rattle.text.specs.Sheets.{Sheet, SheetRange, text_of}
use Rattle.text.specs.Faults.{Fault, FirstFault}
use Rattle.text.specs.Judgements.{IsSheet, Judges, PartOf, Hands}
use Rattle.text.proofs.Outcomes.{fault_determined, sheet_determined, sheet_no_fault}

-- ---- judge

-- two sheets of one text are one
pub same_sheet : (text : List ℕ) (s t : Sheet) → SheetRange s → SheetRange t → text ≡ text_of s → text ≡ text_of t → s ≡ t
same_sheet text s t p q e f = sheet_determined s t p q (sym e ∙ f)

pub never_both : {C : Type 0} (text : List ℕ) (s : Sheet) (f : Fault) → SheetRange s → text ≡ text_of s → FirstFault text f → C
never_both text s f p e q = absurd (sheet_no_fault s f p (subst (λ (t : List ℕ). FirstFault t f) e q))

-- the head of a sheet
head_of : Sheet → Head
head_of s = record { a = s.a; b = s.b; n = s.n; edges = length s.edges }

named : {text : List ℕ} (h : Head) (p : IsSheet text h.a h.b h.n h.edges) → h ≡ head_of p.sheet
unfolding head_of
named h p = λ i. record { a = p.a_is i; b = p.b_is i; n = p.n_is i; edges = p.edges_is i }

pub judge_determined : (text : List ℕ) (x y : Result Head Refusal) → Judges text x → Judges text y → x ≡ y
judge_determined text (Ok h) (Ok k) p q =
    ap Ok (named h p ∙ ap head_of (same_sheet text p.sheet q.sheet p.range q.range p.is_text q.is_text) ∙ sym (named k q))
judge_determined text (Ok h) (Err r) p q = never_both text p.sheet q.0 p.range p.is_text q.1
judge_determined text (Err r) (Ok h) p q = never_both text q.sheet p.0 q.range q.is_text p.1
judge_determined text (Err r) (Err s) p q =
    let f = fault_determined text p.0 q.0 p.1 q.1 in
    let reason : r.reason ≡ s.reason = p.2 ∙ ap (λ (g : Fault). g.reason) f ∙ sym q.2 in
    let line : r.line ≡ s.line = p.3 ∙ ap (λ (g : Fault). g.line) f ∙ sym q.3 in
    λ i. Err (record { reason = reason i; line = line i })

-- ---- fault

parts_agree : {text p q : Bor (List ℕ)} {start size from long : ℕ} → PartOf text p start size → PartOf text q from long → start ≡ from
    → size ≡ long → (p.ref_ptr ≡ q.ref_ptr) × (p.now ≡ q.now)
parts_agree {text} {p} {q} x y s l =
    let block : p.ref_ptr.0 ≡ q.ref_ptr.0 = x.block ∙ sym y.block in
    let offset : p.ref_ptr.1 ≡ q.ref_ptr.1 = x.offset ∙ ap (λ (k : ℕ). text.ref_ptr.1 + k) s ∙ sym y.offset in
    (λ i. (block i, offset i), x.bytes ∙ ap₂ (λ (k j : ℕ). take k (drop j text.now)) l s ∙ sym y.bytes)

-- the part handed back is one place of the text
pub hands_determined : (text p q : Bor (List ℕ)) → Hands text p → Hands text q → (p.ref_ptr ≡ q.ref_ptr) × (p.now ≡ q.now)
hands_determined text p q (inl x) (inl y) =
    let f = fault_determined text.now x.0 y.0 x.1 y.1 in
    parts_agree x.2 y.2 (ap (λ (g : Fault). g.start) f) (ap (λ (g : Fault). g.size) f)
hands_determined text p q (inl x) (inr y) = never_both text.now y.0 x.0 y.1 y.2 x.1
hands_determined text p q (inr x) (inl y) = never_both text.now x.0 y.0 x.1 x.2 y.1
hands_determined text p q (inr x) (inr y) = parts_agree x.3 y.3 refl refl
