-- What the root of a unit says of it.
use Rattle.std.proofs.Common.{◌≡◌, ℕ, ◌&&◌, ◌||◌, List, Option, Some, None, unwrap_or, Result, Ok, refl, ap}
use Rattle.std.specs.Prelude.{option_and_then, is_none}
use Rattle.index_model.specs.Meaning.{◌>>=◌}
use Rattle.index_model.specs.Sections.{Section}
use Rattle.index_model.specs.Attributes.{read_as, as_offset, language_value, name_value, linkage_value}
use Rattle.index_model.specs.Languages.{class_of, own_language}
use Rattle.index_model.specs.Program.{Walked, root_of}
use Rattle.index_model.specs.Rules.{is_ada}
use Rattle.index_model.specs.ShardParts.{is_partial, root_facts, may_be_ada}
use Rattle.index_model.specs.Strings.{Texts, base_of, texts_of}
use Rattle.index_model.specs.Walk.{Item}
use Rattle.shard_build.specs.declared.frame.UnitFacts.{UnitFacts}
use Rattle.shard_build.specs.Frames.{blank, frame_of}
use Rattle.shard_build.specs.Texts.{text_by, texts_by}

-- what is known of a unit with this root
abbrev pub frame_by : Option Item → UnitFacts
frame_by None = blank
frame_by (Some r) = frame_of r

-- what is known of a unit
abbrev pub unit_frame : Walked → UnitFacts
unit_frame w = frame_by (root_of w)

root_by : (o : Option Item) → (frame_by o).root ≡ record { language = option_and_then language_value o; addr_base = option_and_then (read_as as_offset 0x73) o; rnglists_base = option_and_then (read_as as_offset 0x74) o; partial = is_partial o }
unfolding frame_of
root_by None = refl
root_by (Some r) = refl

pub root_says : (w : Walked) → (unit_frame w).root ≡ root_facts w
unfolding root_facts own_language
root_says w = root_by (root_of w)

ada_by : (o : Option Item) → (frame_by o).ada ≡ is_ada (class_of (unwrap_or (option_and_then language_value o) 0)) || (is_partial o && is_none (option_and_then language_value o))
unfolding frame_of class_of
ada_by None = refl
ada_by (Some r) = refl

pub ada_says : (w : Walked) → (unit_frame w).ada ≡ may_be_ada w
unfolding may_be_ada own_language
ada_says w = ada_by (root_of w)

base_by : (o : Option Item) → (frame_by o).str_offsets_base ≡ option_and_then (read_as as_offset 0x72) o
unfolding frame_of
base_by None = refl
base_by (Some r) = refl

pub base_says : (w : Walked) → (unit_frame w).str_offsets_base ≡ base_of 0x72 w
base_says w = base_by (root_of w)

-- the texts of an entry are those by the base of its unit's root
pub texts_say : (ss : List Section) (w : Walked) (d : Item) → texts_by ss (unit_frame w).str_offsets_base w.unit.wide d ≡ texts_of ss (record { home = w; item = d })
unfolding texts_by texts_of
texts_say ss w d =
    ap (λ (base : Option ℕ). text_by ss base w.unit.wide (name_value d) >>= λ name. text_by ss base w.unit.wide (linkage_value d) >>= λ linkage. let made : Result Texts ℕ = Ok (record { name = name; linkage = linkage }) in made) (base_says w)
