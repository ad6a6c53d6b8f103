use Rattle.std.proofs.Common.{◌≡◌, ◌+◌, ◌<◌, ℕ, List, Option, Some, None, get_or, length, ap, sym, subst, ◌∙◌, arith}
use Rattle.std.proofs.lemmas.List.{get_or_default, length_push}
use Rattle.gdbindex_read.specs.declared.homes.PathStart.{PathStart}
use Rattle.gdbindex_read.specs.Slots.{slots_seen}
use Rattle.gdbindex_read.proofs.SlotsRead.{length-slots}
use Rattle.gdbindex_read.proofs.WalkLaws.{homes_more}
use Rattle.string_ends.specs.declared.formula.Formula.TheVariants.{GdbIndex}
use Rattle.string_ends.specs.Tails.{IsHashed}
use Rattle.gdbindex_read.proofs.symbols.SymbolTable.homes.Goals as goal

pub home-requires-clause-name : goal.home-requires-clause-name
home-requires-clause-name c slot h is known =
    let k = c.loop-place.place in
    let hashes = c.in_ok-hashes.hashes.items in
    let all = c.in_ok-hashes.ensures in
    let within : k < length hashes = omega (arith, all.size, ap length c.deref.ensures.value, c.in_ok-offsets.ensures.size, c.len-place-end.ensures, c.loop-place-test.true) in
    let there : get_or hashes k None ≡ Some h = get_or_default hashes k None c.index.result.now within ∙ sym c.index.ensures ∙ known in
    let offset = ap (λ (xs : List ℕ). get_or xs k 0) c.deref.ensures.value ∙ c.in_ok-offsets.ensures.names k slot (omega (arith, c.len-place-end.ensures, c.loop-place-test.true)) is in
    subst (λ (o : ℕ). IsHashed GdbIndex c.args.self.now.pool.now o h) offset (all.each k h there)

pub loop-place-preserved : goal.loop-place-preserved
loop-place-preserved c =
    let inv = c.loop-place.invariant in
    let old = c.loop-place.homes.items in
    let items = c.in-Ok.ensures.items in
    record {
      size = ap (λ (xs : List (Option PathStart)). length xs) items ∙ length_push old c.home.result ∙ ap (λ (m : ℕ). m + 1) inv.size;
      each = λ k h is. homes_more (slots_seen c.args.self.now) old c.home.result c.loop-place.place inv.size inv.each c.home.ensures k h (sym (ap (λ (xs : List (Option PathStart)). get_or xs k None) items) ∙ is);
    }

pub returns : goal.returns
returns c =
    let all : c.loop-place.place ≡ c.len-place-end.result = omega arith in
    record {
      size = c.loop-place.invariant.size ∙ all ∙ c.len-place-end.ensures ∙ sym (length-slots c.args.self.now);
      each = c.loop-place.invariant.each;
    }
