use Rattle.std.proofs.Common.{◌≡◌, ℕ, ◌<◌, length, List, Some, Ok, sym, ap, subst, ◌∙◌}
use Rattle.std.specs.Prelude.{slice_get, codes}
use Rattle.index_model.specs.Abbreviations.{table}
use Rattle.index_model.specs.Faults.{program_of}
use Rattle.index_model.specs.Program.{Program}
use Rattle.index_model.specs.Sections.{Section, section_bytes}
use Rattle.file_image.specs.Images.{image_of, unit_bytes}
use Rattle.entry_scan.specs.declared.abbrev_table.AbbrevTable.{AbbrevTable}
use Rattle.std.proofs.lemmas.Option.{same_Some}
use Rattle.shard_build.specs.declared.units_again.UnitsAgain.{UnitsAgain}
use Rattle.shard_build.specs.Again.{AreOfUnit, AreOfUnits}
use Rattle.entry_scan.specs.TablesAtOffsets.{IsAtOffset}
use Rattle.shard_build.specs.Entries.{EntriesOf}
use Rattle.shard_build.specs.Found.{IsWithin}
use Rattle.shard_build.proofs.FoundSpans.{span_number}
use Rattle.shard_build.proofs.AgainUnits.{number_within, some_table, sound, in_spans, span_of_parent, node_there, nodes_there}
use Rattle.shard_build.proofs.UnitNodes.{unit_rises, node_in_unit, home_of_span}
use Rattle.shard_build.proofs.entries.Entries.again.Goals as goal

pub of-home-requires : goal.of-home-requires
of-home-requires c =
    let im = c.self.inside.image.now in
    let file : im.file ≡ c.args.self.now.image.file = ap (λ (e : EntriesOf). e.image.file) c.self.view_is in
    let image : image_of im.file ≡ Ok im = c.sections.ensures.of_file in
    let of = c.self.invariant.0 in
    let p : Program = of.program in
    let is : program_of im.file ≡ Ok p = of.is in
    let h : IsWithin p c.args.offset c.args.span.now = c.requires p (sym (ap program_of file) ∙ is) in
    let number : c.args.span.now.unit ≡ h.home.number = span_number h.home c.args.span.now h.span in
    subst (λ (n : ℕ). n < length im.units) (sym number) (number_within im image p is h.home h.unit)

pub of_sound-requires-clause-sound : goal.of_sound-requires-clause-sound
of_sound-requires-clause-sound c =
    let im = c.self.inside.image.now in
    let file : im.file ≡ c.args.self.now.image.file = ap (λ (e : EntriesOf). e.image.file) c.self.view_is in
    let image : image_of im.file ≡ Ok im = c.sections.ensures.of_file in
    let of = c.self.invariant.0 in
    let p : Program = of.program in
    let is : program_of im.file ≡ Ok p = of.is in
    let h : IsWithin p c.args.offset c.args.span.now = c.requires p (sym (ap program_of file) ∙ is) in
    let number : c.args.span.now.unit ≡ h.home.number = span_number h.home c.args.span.now h.span in
    let home = c.of-home.result in
    let unit = subst (λ (n : ℕ). slice_get im.units n ≡ Some home.unit) number c.of-home.ensures.unit in
    let section : c.debug_abbrev-section.result.now ≡ section_bytes im.sections (codes ".debug_abbrev") = c.debug_abbrev-section.ensures.value ∙ ap (λ (ss : List Section). section_bytes ss (codes ".debug_abbrev")) c.sections.ensures.value in
    some_table im image p is h.home h.unit home c.of-home.ensures.sections (c.of-home.ensures.number ∙ number) unit c.debug_abbrev-section.result.now section

pub node_within-requires-clause-sound : goal.node_within-requires-clause-sound
node_within-requires-clause-sound c =
    let im = c.self.inside.image.now in
    let file : im.file ≡ c.args.self.now.image.file = ap (λ (e : EntriesOf). e.image.file) c.self.view_is in
    let image : image_of im.file ≡ Ok im = c.sections.ensures.of_file in
    let of = c.self.invariant.0 in
    let p : Program = of.program in
    let is : program_of im.file ≡ Ok p = of.is in
    let h : IsWithin p c.args.offset c.args.span.now = c.requires p (sym (ap program_of file) ∙ is) in
    let number : c.args.span.now.unit ≡ h.home.number = span_number h.home c.args.span.now h.span in
    let home = c.of-home.result in
    let unit = subst (λ (n : ℕ). slice_get im.units n ≡ Some home.unit) number c.of-home.ensures.unit in
    let section : c.debug_abbrev-section.result.now ≡ section_bytes im.sections (codes ".debug_abbrev") = c.debug_abbrev-section.ensures.value ∙ ap (λ (ss : List Section). section_bytes ss (codes ".debug_abbrev")) c.sections.ensures.value in
    let own : home.bytes.now ≡ unit_bytes home.sections.now home.unit = c.of-home.ensures.own ∙ ap (λ (ss : List Section). unit_bytes ss home.unit) (sym c.of-home.ensures.sections) in
    let t = c.insert-table.result.now in
    let read = subst (λ (x : AbbrevTable). table c.debug_abbrev-section.result.now home.unit.«abbrev» ≡ Some x.abbrevs) (sym c.insert-table.ensures.value) c.in_ok-table.ensures.value in
    sound im image p is h.home h.unit home c.of-home.ensures.sections (c.of-home.ensures.number ∙ number) unit own c.of-home.ensures.header c.debug_abbrev-section.result.now section t.abbrevs read

pub node_within-requires-clause-span : goal.node_within-requires-clause-span
node_within-requires-clause-span c =
    let im = c.self.inside.image.now in
    let file : im.file ≡ c.args.self.now.image.file = ap (λ (e : EntriesOf). e.image.file) c.self.view_is in
    let image : image_of im.file ≡ Ok im = c.sections.ensures.of_file in
    let of = c.self.invariant.0 in
    let p : Program = of.program in
    let is : program_of im.file ≡ Ok p = of.is in
    let h : IsWithin p c.args.offset c.args.span.now = c.requires p (sym (ap program_of file) ∙ is) in
    let number : c.args.span.now.unit ≡ h.home.number = span_number h.home c.args.span.now h.span in
    let home = c.of-home.result in
    let unit = subst (λ (n : ℕ). slice_get im.units n ≡ Some home.unit) number c.of-home.ensures.unit in
    let section : c.debug_abbrev-section.result.now ≡ section_bytes im.sections (codes ".debug_abbrev") = c.debug_abbrev-section.ensures.value ∙ ap (λ (ss : List Section). section_bytes ss (codes ".debug_abbrev")) c.sections.ensures.value in
    let own : home.bytes.now ≡ unit_bytes home.sections.now home.unit = c.of-home.ensures.own ∙ ap (λ (ss : List Section). unit_bytes ss home.unit) (sym c.of-home.ensures.sections) in
    let t = c.insert-table.result.now in
    let read = subst (λ (x : AbbrevTable). table c.debug_abbrev-section.result.now home.unit.«abbrev» ≡ Some x.abbrevs) (sym c.insert-table.ensures.value) c.in_ok-table.ensures.value in
    in_spans im image p is h.home h.unit home c.of-home.ensures.sections (c.of-home.ensures.number ∙ number) unit own c.of-home.ensures.header c.debug_abbrev-section.result.now section t.abbrevs read c.args.span.now h.span

pub node_within-requires-clause-parent : goal.node_within-requires-clause-parent
node_within-requires-clause-parent c =
    let im = c.self.inside.image.now in
    let file : im.file ≡ c.args.self.now.image.file = ap (λ (e : EntriesOf). e.image.file) c.self.view_is in
    let image : image_of im.file ≡ Ok im = c.sections.ensures.of_file in
    let of = c.self.invariant.0 in
    let p : Program = of.program in
    let is : program_of im.file ≡ Ok p = of.is in
    let h : IsWithin p c.args.offset c.args.span.now = c.requires p (sym (ap program_of file) ∙ is) in
    let number : c.args.span.now.unit ≡ h.home.number = span_number h.home c.args.span.now h.span in
    let home = c.of-home.result in
    let unit = subst (λ (n : ℕ). slice_get im.units n ≡ Some home.unit) number c.of-home.ensures.unit in
    let section : c.debug_abbrev-section.result.now ≡ section_bytes im.sections (codes ".debug_abbrev") = c.debug_abbrev-section.ensures.value ∙ ap (λ (ss : List Section). section_bytes ss (codes ".debug_abbrev")) c.sections.ensures.value in
    let own : home.bytes.now ≡ unit_bytes home.sections.now home.unit = c.of-home.ensures.own ∙ ap (λ (ss : List Section). unit_bytes ss home.unit) (sym c.of-home.ensures.sections) in
    let t = c.insert-table.result.now in
    let read = subst (λ (x : AbbrevTable). table c.debug_abbrev-section.result.now home.unit.«abbrev» ≡ Some x.abbrevs) (sym c.insert-table.ensures.value) c.in_ok-table.ensures.value in
    span_of_parent im image p is h.home h.unit home c.of-home.ensures.sections (c.of-home.ensures.number ∙ number) unit own c.of-home.ensures.header c.debug_abbrev-section.result.now section t.abbrevs read c.args.span.now c.args.offset h.parent

pub returns-then-not-whole-clause-value : goal.returns-then-not-whole-clause-value
returns-then-not-whole-clause-value c p given =
    let im = c.self.inside.image.now in
    let file : im.file ≡ c.args.self.now.image.file = ap (λ (e : EntriesOf). e.image.file) c.self.view_is in
    let image : image_of im.file ≡ Ok im = c.sections.ensures.of_file in
    let is : program_of im.file ≡ Ok p = ap program_of file ∙ given in
    let h : IsWithin p c.args.offset c.args.span.now = c.requires p given in
    let number : c.args.span.now.unit ≡ h.home.number = span_number h.home c.args.span.now h.span in
    let home = c.of-home.result in
    let unit = subst (λ (n : ℕ). slice_get im.units n ≡ Some home.unit) number c.of-home.ensures.unit in
    let section : c.debug_abbrev-section.result.now ≡ section_bytes im.sections (codes ".debug_abbrev") = c.debug_abbrev-section.ensures.value ∙ ap (λ (ss : List Section). section_bytes ss (codes ".debug_abbrev")) c.sections.ensures.value in
    let own : home.bytes.now ≡ unit_bytes home.sections.now home.unit = c.of-home.ensures.own ∙ ap (λ (ss : List Section). unit_bytes ss home.unit) (sym c.of-home.ensures.sections) in
    let t = c.insert-table.result.now in
    let read = subst (λ (x : AbbrevTable). table c.debug_abbrev-section.result.now home.unit.«abbrev» ≡ Some x.abbrevs) (sym c.insert-table.ensures.value) c.in_ok-table.ensures.value in
    node_there im image p is h.home h.unit home c.of-home.ensures.sections (c.of-home.ensures.number ∙ number) unit own c.of-home.ensures.header c.debug_abbrev-section.result.now section t.abbrevs read c.args.span.now c.args.offset h.same c.node_within.result c.node_within.ensures

pub nodes-requires-clause-sound : goal.nodes-requires-clause-sound
nodes-requires-clause-sound c =
    let im = c.self.inside.image.now in
    let file : im.file ≡ c.args.self.now.image.file = ap (λ (e : EntriesOf). e.image.file) c.self.view_is in
    let image : image_of im.file ≡ Ok im = c.sections.ensures.of_file in
    let of = c.self.invariant.0 in
    let p : Program = of.program in
    let is : program_of im.file ≡ Ok p = of.is in
    let h : IsWithin p c.args.offset c.args.span.now = c.requires p (sym (ap program_of file) ∙ is) in
    let number : c.args.span.now.unit ≡ h.home.number = span_number h.home c.args.span.now h.span in
    let home = c.of-home.result in
    let unit = subst (λ (n : ℕ). slice_get im.units n ≡ Some home.unit) number c.of-home.ensures.unit in
    let section : c.debug_abbrev-section.result.now ≡ section_bytes im.sections (codes ".debug_abbrev") = c.debug_abbrev-section.ensures.value ∙ ap (λ (ss : List Section). section_bytes ss (codes ".debug_abbrev")) c.sections.ensures.value in
    let own : home.bytes.now ≡ unit_bytes home.sections.now home.unit = c.of-home.ensures.own ∙ ap (λ (ss : List Section). unit_bytes ss home.unit) (sym c.of-home.ensures.sections) in
    let t = c.insert-table.result.now in
    let read = subst (λ (x : AbbrevTable). table c.debug_abbrev-section.result.now home.unit.«abbrev» ≡ Some x.abbrevs) (sym c.insert-table.ensures.value) c.in_ok-table.ensures.value in
    sound im image p is h.home h.unit home c.of-home.ensures.sections (c.of-home.ensures.number ∙ number) unit own c.of-home.ensures.header c.debug_abbrev-section.result.now section t.abbrevs read

pub returns-clause-value : goal.returns-clause-value
returns-clause-value c p given =
    let im = c.self.inside.image.now in
    let file : im.file ≡ c.args.self.now.image.file = ap (λ (e : EntriesOf). e.image.file) c.self.view_is in
    let image : image_of im.file ≡ Ok im = c.sections.ensures.of_file in
    let is : program_of im.file ≡ Ok p = ap program_of file ∙ given in
    let h : IsWithin p c.args.offset c.args.span.now = c.requires p given in
    let number : c.args.span.now.unit ≡ h.home.number = span_number h.home c.args.span.now h.span in
    let home = c.of-home.result in
    let unit = subst (λ (n : ℕ). slice_get im.units n ≡ Some home.unit) number c.of-home.ensures.unit in
    let section : c.debug_abbrev-section.result.now ≡ section_bytes im.sections (codes ".debug_abbrev") = c.debug_abbrev-section.ensures.value ∙ ap (λ (ss : List Section). section_bytes ss (codes ".debug_abbrev")) c.sections.ensures.value in
    let own : home.bytes.now ≡ unit_bytes home.sections.now home.unit = c.of-home.ensures.own ∙ ap (λ (ss : List Section). unit_bytes ss home.unit) (sym c.of-home.ensures.sections) in
    let t = c.insert-table.result.now in
    let read = subst (λ (x : AbbrevTable). table c.debug_abbrev-section.result.now home.unit.«abbrev» ≡ Some x.abbrevs) (sym c.insert-table.ensures.value) c.in_ok-table.ensures.value in
    let nodes = c.in_ok-nodes.nodes in
    let are = nodes_there im image p is h.home h.unit home c.of-home.ensures.sections (c.of-home.ensures.number ∙ number) unit own c.of-home.ensures.header c.debug_abbrev-section.result.now section t.abbrevs read nodes c.in_ok-nodes.ensures in
    let found = c.node_at-node.ensures (unit_rises im.file p is h.home h.unit nodes are) in
    node_in_unit im.file p is h.home h.unit nodes are c.args.offset (λ d e. home_of_span h.home c.args.span.now c.args.offset d (sym h.same ∙ e)) c.node_at-node.result found

pub invariant_of-self-2 : goal.invariant_of-self-2
invariant_of-self-2 c =
    let im = c.self.inside.image.now in
    let before = c.self.invariant in
    let section : c.debug_abbrev-section.result.now ≡ section_bytes im.sections (codes ".debug_abbrev") = c.debug_abbrev-section.ensures.value ∙ ap (λ (ss : List Section). section_bytes ss (codes ".debug_abbrev")) c.sections.ensures.value in
    let unit : AreOfUnit im.file c.args.span.now.unit c.in_ok-nodes.nodes = λ p is.
    let image : image_of im.file ≡ Ok im = c.sections.ensures.of_file in
    let file : im.file ≡ c.args.self.now.image.file = ap (λ (e : EntriesOf). e.image.file) c.self.view_is in
    let h : IsWithin p c.args.offset c.args.span.now = c.requires p (sym (ap program_of file) ∙ is) in
    let number : c.args.span.now.unit ≡ h.home.number = span_number h.home c.args.span.now h.span in
    let home = c.of-home.result in
    let at = subst (λ (n : ℕ). slice_get im.units n ≡ Some home.unit) number c.of-home.ensures.unit in
    let own : home.bytes.now ≡ unit_bytes home.sections.now home.unit = c.of-home.ensures.own ∙ ap (λ (ss : List Section). unit_bytes ss home.unit) (sym c.of-home.ensures.sections) in
    let t = c.insert-table.result.now in
    let read = subst (λ (x : AbbrevTable). table c.debug_abbrev-section.result.now home.unit.«abbrev» ≡ Some x.abbrevs) (sym c.insert-table.ensures.value) c.in_ok-table.ensures.value in
    record {
      home = h.home;
      member = h.unit;
      number = sym number;
      are = nodes_there im image p is h.home h.unit home c.of-home.ensures.sections (c.of-home.ensures.number ∙ number) at own c.of-home.ensures.header c.debug_abbrev-section.result.now section t.abbrevs read c.in_ok-nodes.nodes c.in_ok-nodes.ensures;
    }
    in
    let units = c.in_ok-with.ensures im.file (λ u e. before.2 u (sym c.take-2.ensures.value ∙ e)) unit in (
      before.0,
      λ x e. subst (λ (bytes : List ℕ). IsAtOffset bytes x) section (subst (IsAtOffset c.debug_abbrev-section.result.now) (sym c.insert-table.ensures.value ∙ same_Some c.insert-table.result.now x e) c.in_ok-table.ensures.place),
      λ x e. subst (λ (u : UnitsAgain). AreOfUnits im.file u.nodes) (same_Some c.in_ok-with.field-0 x e) units,
    )
