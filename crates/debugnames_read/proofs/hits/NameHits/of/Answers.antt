use Rattle.std.proofs.Common.{◌≡◌, ◌<◌, ◌+◌, ℕ, List, ◌++◌, ap, sym, subst, ◌∙◌, arith}
use Rattle.index_model.specs.NameIndexRead.{NameHit, name_index_hits}
use Rattle.debugnames_read.specs.declared.hits.Left.{Left}
use Rattle.debugnames_read.specs.Hits.{hits_left}
use Rattle.debugnames_read.specs.Names.{hits_between, index_seen, is_named, tables_of, IsHashBy}
use Rattle.debugnames_read.proofs.Counted.{few_names}
use Rattle.debugnames_read.proofs.HitLaws.{all_hits, found, has_text, list_of, no_hits, one_hit, same_name}
use Rattle.debugnames_read.proofs.hits.NameHits.of.Goals as goal

pub returns-in_default : goal.returns-in_default
returns-in_default c =
    let n = c.args.names.now in
    let asked = c.sought-asked.result.name.now in
    let all : name_index_hits (index_seen n) c.args.name.now ≡ hits_between n asked c.span-span.result.from c.span-span.result.to = ap (name_index_hits (index_seen n)) (sym c.sought-asked.ensures.name) ∙ all_hits n c.requires asked c.span-span.result c.span-span.ensures.within.0 c.span-span.ensures.within.1 c.span-span.ensures.covers in
    c.none.ensures ∙ sym (all ∙ no_hits n c.requires asked c.span-span.result.from c.span-span.result.to (sym c.in_default.ensures))

pub string-requires : goal.string-requires
string-requires c =
    let n = c.args.names.now in
    let f = found (is_named n c.sought-asked.result.name.now) c.span-span.result.from c.span-span.result.to c.in-Some.first (sym c.in-Some.ensures) in
    omega (arith, f.to, c.span-span.ensures.within.1)

pub returns-in_default-string : goal.returns-in_default-string
returns-in_default-string c =
    let n = c.args.names.now in
    let f = found (is_named n c.sought-asked.result.name.now) c.span-span.result.from c.span-span.result.to c.in-Some.first (sym c.in-Some.ensures) in
    absurd (has_text n c.requires c.in-Some.first (omega (arith, f.to, c.span-span.ensures.within.1)) c.in_default-string.ensures)

pub entries_of-requires : goal.entries_of-requires
entries_of-requires c =
    let n = c.args.names.now in
    let f = found (is_named n c.sought-asked.result.name.now) c.span-span.result.from c.span-span.result.to c.in-Some.first (sym c.in-Some.ensures) in
    omega (arith, f.to, c.span-span.ensures.within.1)

pub overflow_add-left : goal.overflow_add-left
overflow_add-left c =
    let n = c.args.names.now in
    let f = found (is_named n c.sought-asked.result.name.now) c.span-span.result.from c.span-span.result.to c.in-Some.first (sym c.in-Some.ensures) in
    omega (arith, f.to, c.span-span.ensures.within.1, few_names n.tables)

pub invariant_of-result : goal.invariant_of-result
invariant_of-result c =
    let n = c.args.names.now in
    let asked = c.sought-asked.result.name.now in
    let hash = c.sought-asked.result.hash in
    let first = c.in-Some.first in
    let f = found (is_named n asked) c.span-span.result.from c.span-span.result.to first (sym c.in-Some.ensures) in
    let lt : first < n.tables.counts.names = omega (arith, f.to, c.span-span.ensures.within.1) in
    let kept = same_name n c.requires asked first c.in-Some-string.name.now (sym c.in-Some-string.ensures) f.passes in
    let list = list_of n c.requires first lt c.entries_of.result c.entries_of.ensures in
    record {
      opened = c.requires;
      hash = subst (λ (x : List ℕ). IsHashBy (tables_of n) x hash) (sym kept) c.sought-asked.ensures.hash;
      left = record { list = list.ok; names = c.span-span.ensures.within.1 };
    }

pub returns : goal.returns
returns c =
    let n = c.args.names.now in
    let asked = c.sought-asked.result.name.now in
    let first = c.in-Some.first in
    let from = c.span-span.result.from in
    let to = c.span-span.result.to in
    let f = found (is_named n asked) from to first (sym c.in-Some.ensures) in
    let lt : first < n.tables.counts.names = omega (arith, f.to, c.span-span.ensures.within.1) in
    let kept = same_name n c.requires asked first c.in-Some-string.name.now (sym c.in-Some-string.ensures) f.passes in
    let list = list_of n c.requires first lt c.entries_of.result c.entries_of.ensures in
    let left : Left = record { entries = c.entries_of.result; names = record { from = first + 1; to = to } } in
    let all : name_index_hits (index_seen n) c.args.name.now ≡ hits_between n asked from to = ap (name_index_hits (index_seen n)) (sym c.sought-asked.ensures.name) ∙ all_hits n c.requires asked c.span-span.result c.span-span.ensures.within.0 c.span-span.ensures.within.1 c.span-span.ensures.covers in
    ap (λ (x : List ℕ). hits_left n x left) kept
    ∙ ap (λ (hs : List NameHit). hs ++ hits_between n asked (first + 1) to) list.hits
    ∙ sym (all ∙ one_hit n c.requires asked from to first (sym c.in-Some.ensures))
