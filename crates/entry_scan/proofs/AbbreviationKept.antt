-- What was read stays as it is, while attributes are added behind.
use Rattle.std.proofs.Common.{◌≡◌, ◌-◌, ◌≤◌, ℕ, zero, suc, List, [], ◌∷◌, ◌++◌, length, length-drop, map, take, drop, All, refl, sym, subst, ap, ◌∙◌, arith}
use Rattle.std.proofs.lemmas.List.{take-append-drop, take-append-le, drop-append-le, map-append}
use Rattle.std.proofs.lemmas.List.Elements.{All-head, All-tail, All-append}
use Rattle.entry_scan.specs.declared.abbreviation.Spec.{Spec}
use Rattle.entry_scan.specs.declared.abbreviation.AbbrevHead.{AbbrevHead}
use Rattle.index_model.specs.Abbreviations.{Abbrev}
use Rattle.entry_scan.specs.SeenAbbreviations.{spec_seen}
use Rattle.entry_scan.proofs.AbbreviationFronts.{begins_within}
use Rattle.entry_scan.specs.AbbreviationTables.{own, head_seen, heads_seen, IsWithin, Extends}
use Rattle.entry_scan.specs.Fronts.{IsFront}
use Rattle.entry_scan.specs.Marks.{AreMarks}
use Rattle.entry_scan.specs.Jumps.{AreJumps}

part_kept : (old more : List Spec) (start end : ℕ) → start ≤ end → end ≤ length old → take (end - start) (drop start (old ++ more)) ≡ take (end - start) (drop start old)
part_kept old more start end up within =
    let begin : start ≤ length old = omega arith in
    let fits : end - start ≤ length (drop start old) = omega (arith, length-drop start old) in
    rw drop-append-le (take-append-le (end - start) (drop start old) more fits)

own_kept : (old new : List Spec) (h : AbbrevHead) → IsWithin old h → Extends old new → own new h ≡ own old h
own_kept old new h within kept =
    let split : new ≡ old ++ drop (length old) new = sym (take-append-drop (length old) new) ∙ ap (λ (front : List Spec). front ++ drop (length old) new) kept in
    ap (λ (all : List Spec). own all h) split ∙ part_kept old (drop (length old) new) h.start h.end within.start within.end

within_kept : (old new : List Spec) (h : AbbrevHead) → IsWithin old h → Extends old new → IsWithin new h
within_kept old new h within kept = record {
  start = within.start;
  end = omega (arith, within.end, begins_within old new kept);
  front = subst (λ (specs : List Spec). IsFront specs h.front) (sym (own_kept old new h within kept)) within.front;
  marks = subst (λ (specs : List Spec). AreMarks specs h.marks) (sym (own_kept old new h within kept)) within.marks;
  jumps = subst (λ (specs : List Spec). AreJumps specs h.jumps) (sym (own_kept old new h within kept)) within.jumps;
}

one : (P : AbbrevHead → Type 0) (h : AbbrevHead) → P h → All P (h ∷ [])
one P h p zero d lt = p
one P h p (suc k) d lt = absurd (omega arith)

pub all_kept : (old new : List Spec) (heads : List AbbrevHead) → All (IsWithin old) heads → Extends old new → All (IsWithin new) heads
all_kept old new heads within kept = λ k d lt. within_kept old new _ (within k d lt) kept

pub all_added : (old new : List Spec) (heads : List AbbrevHead) (h : AbbrevHead) → All (IsWithin old) heads → Extends old new → IsWithin new h → All (IsWithin new) (heads ++ h ∷ [])
all_added old new heads h within kept own = All-append (IsWithin new) heads (h ∷ []) (all_kept old new heads within kept) (one (IsWithin new) h own)

head_kept : (old new : List Spec) (h : AbbrevHead) → IsWithin old h → Extends old new → head_seen new h ≡ head_seen old h
head_kept old new h within kept =
    ap (λ (specs : List Spec). let a : Abbrev = record { code = h.code; tag = h.tag; children = h.children; specs = map spec_seen specs } in a) (own_kept old new h within kept)

pub heads_kept : (old new : List Spec) (heads : List AbbrevHead) → All (IsWithin old) heads → Extends old new → heads_seen new heads ≡ heads_seen old heads
heads_kept old new [] within kept = refl
heads_kept old new (h ∷ hs) within kept =
    let first = head_kept old new h (All-head (IsWithin old) h hs within) kept in
    let others = heads_kept old new hs (All-tail (IsWithin old) h hs within) kept in
    cc

pub head_added : (old new : List Spec) (heads : List AbbrevHead) (h : AbbrevHead) → All (IsWithin old) heads → Extends old new → heads_seen new (heads ++ h ∷ []) ≡ heads_seen old heads ++ head_seen new h ∷ []
head_added old new heads h within kept =
    map-append (head_seen new) heads (h ∷ []) ∙ ap (λ (front : List Abbrev). front ++ head_seen new h ∷ []) (heads_kept old new heads within kept)
