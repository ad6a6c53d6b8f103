use Rattle.std.proofs.Common.{◌≡◌, ◌<◌, ◌⊎◌, sym, inl, inr, arith}
use Rattle.entry_scan.specs.AbbreviationTables.{in_front}
use Rattle.entry_scan.proofs.AbbreviationLookup.{front_found, none_past, none_equal, found}
use Rattle.entry_scan.proofs.abbreviations.Abbrevs.index_of.Goals as goal

pub returns-then-code-in_front : goal.returns-then-code-in_front
returns-then-code-in_front c =
    let f = front_found c.self.inside.specs.items c.self.inside.heads.items c.self.inside.others.items c.args.code c.self.invariant.1 (omega arith) (omega (arith, c.len.ensures, c.len-2.ensures)) in
    rw (← c.self.view_is) (sym f)

pub lower_codes-first-requires : goal.lower_codes-first-requires
lower_codes-first-requires c = rw c.deref.ensures.value c.self.invariant.1.sorted

pub returns-in_err-place : goal.returns-in_err-place
returns-in_err-place c =
    let past : ((c.args.code ≡ 0) ⊎ (in_front c.self.inside.heads.items c.self.inside.others.items < c.args.code)) = elim c.else-code-ne0.either [ inl w ↦ inr (omega (arith, w.1, c.len.ensures, c.len-2.ensures)) | inr w ↦ inl w ] in
    let cut = rw c.deref.ensures.value at c.lower_codes-first.ensures in
    let all : c.deref-2.result.now ≡ c.self.inside.others.items = c.deref-2.ensures.value in
    let end = rw all at c.in_err-place.ensures.lookup.3 in
    rw (c.from_residual.ensures, ← c.self.view_is) (sym (none_past c.self.inside.specs.items c.self.inside.heads.items c.self.inside.others.items c.args.code c.lower_codes-first.result c.self.invariant.1 past cut end))

pub returns-then-place-code : goal.returns-then-place-code
returns-then-place-code c =
    let past : ((c.args.code ≡ 0) ⊎ (in_front c.self.inside.heads.items c.self.inside.others.items < c.args.code)) = elim c.else-code-ne0.either [ inl w ↦ inr (omega (arith, w.1, c.len.ensures, c.len-2.ensures)) | inr w ↦ inl w ] in
    let cut = rw c.deref.ensures.value at c.lower_codes-first.ensures in
    let all : c.deref-2.result.now ≡ c.self.inside.others.items = c.deref-2.ensures.value in
    let at = rw all at c.in_ok-place.ensures.lookup.3 in
    rw (← c.self.view_is) (sym (found c.self.inside.specs.items c.self.inside.heads.items c.self.inside.others.items c.args.code c.lower_codes-first.result c.in_ok-place.place.now c.self.invariant.1 past cut at.0 at.1 c.if-place-code.true))

pub returns-else-place-code : goal.returns-else-place-code
returns-else-place-code c =
    let past : ((c.args.code ≡ 0) ⊎ (in_front c.self.inside.heads.items c.self.inside.others.items < c.args.code)) = elim c.else-code-ne0.either [ inl w ↦ inr (omega (arith, w.1, c.len.ensures, c.len-2.ensures)) | inr w ↦ inl w ] in
    let cut = rw c.deref.ensures.value at c.lower_codes-first.ensures in
    let all : c.deref-2.result.now ≡ c.self.inside.others.items = c.deref-2.ensures.value in
    let at = rw all at c.in_ok-place.ensures.lookup.3 in
    rw (← c.self.view_is) (sym (none_equal c.self.inside.specs.items c.self.inside.heads.items c.self.inside.others.items c.args.code c.lower_codes-first.result c.in_ok-place.place.now c.self.invariant.1 past cut at.0 at.1 c.if-place-code.false))
