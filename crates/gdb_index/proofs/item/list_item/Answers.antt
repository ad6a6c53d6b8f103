use Rattle.std.proofs.Common.{◌≡◌, ℕ, ◌++◌, List, flat_map, Ok, Some, None, append-nil, sym, ap, subst, ◌∙◌, arith}
use Rattle.std.specs.Prelude.{OnOk}
use Rattle.file_image.specs.Images.{Image}
use Rattle.index_model.specs.declared.entry.Entry.{Entry}
use Rattle.index_model.specs.Faults.{program_of}
use Rattle.gdb_entries.specs.Kinds.{kinds_of}
use Rattle.gdb_scopes.proofs.WalkLaws.{told_tag}
use Rattle.gdb_index.specs.declared.entries.ItemEntries.{ItemEntries}
use Rattle.gdb_index.specs.Items.{entries_under, texts_of}
use Rattle.gdb_index.proofs.ItemLaws.{all_listed, common_of, common_told, none_listed}
use Rattle.gdb_index.proofs.TagLaws.{tag_fits}
use Rattle.gdb_index.proofs.item.list_item.Goals as goal

pub overflow_cast-common : goal.overflow_cast-common
overflow_cast-common c = omega (arith, tag_fits c.args.seen.now.item.facts.tag c.in-Some.kinds (sym c.kinds_of.ensures ∙ c.in-Some.is))

pub returns-in_default-clause-value : goal.returns-in_default-clause-value
returns-in_default-clause-value c p is owner d number looked =
    let old = c.args.entries.now.items in
    let tag = told_tag p.sections d c.args.seen.now.item looked.seen.item in
    let none : kinds_of d.item.tag ≡ None = ap (λ (t : ℕ). kinds_of t) (sym tag) ∙ sym c.kinds_of.ensures ∙ c.in_default.is in
    sym (append-nil old) ∙ ap (λ (es : List Entry). old ++ es) (sym (none_listed p owner c.args.reading.class d none))

pub returns-clause-value : goal.returns-clause-value
returns-clause-value c p is owner d number looked =
    let i = c.args.seen.now.item in
    let class = c.args.reading.class in
    let kinds = c.in-Some.kinds in
    let here : program_of c.chain.new.self.file ≡ Ok p = ap (λ (e : Image). program_of e.file) c.chain.ensures.kept ∙ is in
    let after : program_of c.is_static.new.self.file ≡ Ok p = ap (λ (e : Image). program_of e.file) c.is_static.ensures.kept ∙ here in
    let own = looked.seen.item in
    let told = c.in_ok-chain.ensures.value p is d own in
    let tag = told_tag p.sections d i own in
    let some : kinds_of d.item.tag ≡ Some kinds = ap (λ (t : ℕ). kinds_of t) (sym tag) ∙ sym c.kinds_of.ensures ∙ c.in-Some.is in
    let local = c.in_ok-local.ensures.value p here d looked.there own looked.class_is told in
    let texts = c.in_ok-listed.ensures.value p after d looked.there looked.seen looked.class_is told in
    let common = common_told p owner class d kinds c.args.reading.owner i.offset i.facts.tag c.in_ok-local.local number own.offset tag local in
    let same =
    ap (λ (x : ItemEntries). flat_map (entries_under x) (texts_of c.in_ok-listed.listed)) common
    ∙ ap (λ (ts : List (List ℕ)). flat_map (entries_under (common_of p owner class d kinds)) ts) texts
    ∙ all_listed p owner class d kinds some in
    subst (λ (es : List Entry). OnOk c.add_names.result (c.add_names.new.entries.items ≡ c.args.entries.now.items ++ es)) same c.add_names.ensures
