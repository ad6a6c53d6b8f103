-- Abbreviations as the definitions see them.
use Rattle.std.specs.Prelude.{ℕ, map}
use Rattle.entry_scan.specs.declared.abbreviation.Spec.{Spec}
use Rattle.entry_scan.specs.declared.abbreviations.Abbrev.{Abbrev}
use Rattle.index_model.specs.Abbreviations as meant

-- an attribute and its form
abbrev pub spec_seen : Spec → meant.Spec
spec_seen s = record { attribute = s.attribute; form = s.form; constant = s.constant }

-- the abbreviation of a code
abbrev pub abbrev_seen : ℕ → Abbrev → meant.Abbrev
abbrev_seen code a = record { code = code; tag = a.tag; children = a.children; specs = map spec_seen a.specs.now }
