use Rattle.std.proofs.Common.{◌≡◌, ◌<◌, ◌+◌, List, [], ◌++◌, refl, ap, sym, ◌∙◌, arith}
use Rattle.index_model.specs.NameIndexRead.{NameHit}
use Rattle.debugnames_read.specs.Names.{hits_between, is_named}
use Rattle.debugnames_read.proofs.Counted.{few_names}
use Rattle.debugnames_read.proofs.HitLaws.{found, list_of, no_hits, one_hit}
use Rattle.debugnames_read.proofs.names.IndexTables.next_hit.Goals as goal

both_empty : (xs ys : List NameHit) → xs ≡ [] → ys ≡ [] → xs ++ ys ≡ []
both_empty xs ys e f = rw (e, f) refl

pub returns-in_err-first-clause-value : goal.returns-in_err-first-clause-value
returns-in_err-first-clause-value c =
    let n = c.args.self.now in
    let name = c.args.sought.now.name.now in
    let none = no_hits n c.requires.opened name c.names.left.names.from c.names.left.names.to (sym c.in_err-first.ensures) in
    let list = c.in_default.ensures.value in
    rw c.from_residual.ensures (sym c.names.invariant.value ∙ both_empty _ _ list.0 none, both_empty _ _ list.1 none)

pub overflow_add-left : goal.overflow_add-left
overflow_add-left c =
    let n = c.args.self.now in
    let f = found (is_named n c.args.sought.now.name.now) c.names.left.names.from c.names.left.names.to c.in_ok-first.first (sym c.in_ok-first.ensures) in
    omega (arith, f.to, c.names.invariant.left.names, few_names n.tables)

pub entries_of-left-requires : goal.entries_of-left-requires
entries_of-left-requires c =
    let n = c.args.self.now in
    let f = found (is_named n c.args.sought.now.name.now) c.names.left.names.from c.names.left.names.to c.in_ok-first.first (sym c.in_ok-first.ensures) in
    omega (arith, f.to, c.names.invariant.left.names)

pub names-smaller : goal.names-smaller
names-smaller c =
    let n = c.args.self.now in
    let f = found (is_named n c.args.sought.now.name.now) c.names.left.names.from c.names.left.names.to c.in_ok-first.first (sym c.in_ok-first.ensures) in
    omega (arith, f.from, f.to)

pub names-preserved : goal.names-preserved
names-preserved c =
    let n = c.args.self.now in
    let name = c.args.sought.now.name.now in
    let from = c.names.left.names.from in
    let to = c.names.left.names.to in
    let first = c.in_ok-first.first in
    let f = found (is_named n name) from to first (sym c.in_ok-first.ensures) in
    let lt : first < n.tables.counts.names = omega (arith, f.to, c.names.invariant.left.names) in
    let list = list_of n c.requires.opened first lt c.entries_of-left.result c.entries_of-left.ensures in
    let before = c.in_default.ensures.value in
    record {
      value =
          ap (λ (hs : List NameHit). hs ++ hits_between n name (first + 1) to) list.hits
          ∙ sym (one_hit n c.requires.opened name from to first (sym c.in_ok-first.ensures))
          ∙ ap (λ (hs : List NameHit). hs ++ hits_between n name from to) (sym before.0)
          ∙ c.names.invariant.value;
      left = record { list = list.ok; names = c.names.invariant.left.names };
    }
