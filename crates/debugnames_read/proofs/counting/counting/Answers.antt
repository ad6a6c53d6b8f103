use Rattle.std.proofs.Common.{◌≡◌, ℕ, ◌+◌, ◌-◌, ◌<◌, suc, List, ◌∷◌, ◌++◌, length, map, true, false, Some, None, refl, ap, sym, subst, ◌∙◌, arith}
use Rattle.std.specs.Prelude.{IsOk}
use Rattle.ix_base.specs.Reading.{Input}
use Rattle.index_model.specs.NameAbbreviations.{Spec, specs_at}
use Rattle.debugnames_read.specs.Specs.{first_in, is_last, spec_at, spec_seen, specs_in}
use Rattle.debugnames_read.specs.Values.{kept_seen}
use Rattle.debugnames_read.proofs.Readings.{first_goes, ok_goes, specs_end}
use Rattle.debugnames_read.proofs.CountingLaws.{SameValues, counted, left_out, same_more, stands_first, stands_seen}
use Rattle.debugnames_read.proofs.counting.counting.Goals as goal

pub attributes-init : goal.attributes-init
attributes-init c =
    let all : length c.rest.result.now + 1 - 0 ≡ length c.args.specs.rest + 1 = omega (arith, ap length c.rest.ensures) in
    record {
      ok = rw all c.requires;
      same = rw (all, c.new-list.ensures.items) (λ wide i. refl);
      found = rw (c.new-list.ensures.items) (stands_first (kept_seen c.none-found.result) c.none-found.ensures);
    }

pub returns-then-is_last : goal.returns-then-is_last
returns-then-is_last c =
    let n : ℕ = length c.rest.result.now in
    let less : n + 1 - c.attributes.counter ≡ suc (n - c.attributes.counter) = omega (arith, c.attributes-test.true) in
    let same = rw less at c.attributes.invariant.same in
    let last : is_last (spec_seen c.in_ok-spec.spec) ≡ true = sym c.is_last.ensures ∙ c.if-is_last.true in
    let end = ap first_in (specs_end 0 (n - c.attributes.counter) c.attributes.specs (spec_seen c.in_ok-spec.spec) c.read.new.cursor c.in_ok-spec.ensures.value last) in
    counted (map spec_seen c.attributes.list.items) _ (specs_in c.args.specs) end same

-- what is left behind an attribute that isn't the last
record Left (n k : ℕ) (next : Input) (s : Spec) (listed all : List Spec) : Type 0 where
  ok : IsOk (specs_at 0 (n + 1 - (k + 1)) next)
  same : SameValues (listed ++ s ∷ first_in (specs_at 0 (n + 1 - (k + 1)) next)) all

left_behind : (n k : ℕ) → k < n + 1 → (i next : Input) (s : Spec) (listed all : List Spec) → spec_at i ≡ Some (s, next) → is_last s ≡ false → IsOk (specs_at 0 (n + 1 - k) i) → SameValues (listed ++ first_in (specs_at 0 (n + 1 - k) i)) all → Left n k next s listed all
left_behind n k lt i next s listed all read on ok same =
    let less : n + 1 - k ≡ suc (n - k) = omega (arith, lt) in
    let behind : n + 1 - (k + 1) ≡ n - k = omega arith in
    let sound = rw less at ok in
    let first = first_goes 0 (n - k) i s next read on sound in
    record {
      ok = rw behind (ok_goes 0 (n - k) i s next read on sound);
      same = rw behind (subst (λ (r : List Spec). SameValues (listed ++ r) all) first (rw less at same));
    }

pub attributes-preserved-then-not-wants : goal.attributes-preserved-then-not-wants
attributes-preserved-then-not-wants c =
    let s : Spec = spec_seen c.in_ok-spec.spec in
    let listed : List Spec = map spec_seen c.attributes.list.items in
    let inv = c.attributes.invariant in
    let left = left_behind (length c.rest.result.now) c.attributes.counter c.attributes-test.true c.attributes.specs c.read.new.cursor s listed (specs_in c.args.specs) c.in_ok-spec.ensures.value (sym c.is_last.ensures ∙ c.if-is_last.false) inv.ok inv.same in
    record {
      ok = left.ok;
      same = left_out (kept_seen c.attributes.found) listed s _ (specs_in c.args.specs) inv.found c.if-spec-eq-DW_FORM_flag_present.true (sym c.wants.ensures ∙ c.if-not-wants.true) left.same;
      found = inv.found;
    }

pub attributes-preserved : goal.attributes-preserved
attributes-preserved c =
    let s : Spec = spec_seen c.in_ok-spec.spec in
    let inv = c.attributes.invariant in
    let left = left_behind (length c.rest.result.now) c.attributes.counter c.attributes-test.true c.attributes.specs c.read.new.cursor s (map spec_seen c.attributes.list.items) (specs_in c.args.specs) c.in_ok-spec.ensures.value (sym c.is_last.ensures ∙ c.if-is_last.false) inv.ok inv.same in
    record {
      ok = left.ok;
      same = rw c.in-Ok.ensures.items (same_more c.attributes.list.items c.in_ok-spec.spec _ (specs_in c.args.specs) left.same);
      found = rw (c.in-Ok.ensures.items, c.keep.ensures) (stands_seen (kept_seen c.attributes.found) c.attributes.list.items c.in_ok-spec.spec None inv.found);
    }
