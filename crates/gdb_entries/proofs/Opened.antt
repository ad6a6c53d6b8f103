-- One name that opens all that a computation of a file needs.
use Rattle.std.proofs.Common.{ℕ}
use Rattle.ix_base.specs.Reading.{unsigned_leb, signed_leb, initial_length}
use Rattle.index_model.specs.Sections.{field, header, header_at, section_count, names_index, headers_from, section_from, sections_from, none_compressed, ident, table_fits, sections_of}
use Rattle.index_model.specs.Abbreviations.{spec_at, specs_at, abbrev_with, abbrevs_at}
use Rattle.index_model.specs.Forms.{indirect, value_at}
use Rattle.index_model.specs.Walk.{values, entry_at, token_at, tail_of, walk_from}
use Rattle.index_model.specs.Program.{walked, item_with_offset}
use Rattle.index_model.specs.Strings.{bounded, string_at, str_offset, text_of, texts_of, own_name, own_linkage_name}
use Rattle.index_model.specs.References.{target_of, entry_named}
use Rattle.index_model.specs.Tiling.{up_to}
use Rattle.index_model.specs.Units.{fields_5, fields_4, ending, head, next_unit, units_of}
use Rattle.index_model.specs.Ordered.{distinct, with_item, ascending, bytes_lt}
use Rattle.index_model.specs.GdbIndex.{start_in_section, index_names, vector, pool_of, symbol_table, gdb_index_bytes}
use Rattle.index_model.specs.Languages.{own_language, imports_of}
use Rattle.index_model.specs.Faults.{scanned, scan_of, program_of}
use Rattle.cxx_spelling.specs.Spelling.{gdb_spelling, gdb_c_spelling}
use Rattle.cxx_spelling.specs.Translation.{translation, run}
use Rattle.gdb_entries.specs.Classes.{class_of}
use Rattle.gdb_entries.specs.Kinds.{kinds_of}
use Rattle.gdb_entries.specs.Owners.{imported_by, imports_through, owner_of, mentions, own_class, class_read}
use Rattle.gdb_entries.specs.Chains.{facts_of, next_of, targets_from, targets_of, name_of, linkage_of, is_external, is_scoped}
use Rattle.gdb_entries.specs.Reached.{is_open_from, below, reach_at, is_seen, is_open}
use Rattle.gdb_entries.specs.Scopes.{open_around_at, scope_in_place, scope_of, path_from, scope_path}
use Rattle.ada_spelling.specs.Ends.{without_digits, place_from, numbers_start, without_numbers, without_ends}
use Rattle.ada_spelling.specs.Marks.{ends_entry, behind_marks}
use Rattle.ada_spelling.specs.Parts.{part_at, parts_from, parts_of}
use Rattle.ada_spelling.specs.AdaNames.{decoded, encoded}
use Rattle.gdb_entries.specs.Names.{component, ada_pieces, full_name}
use Rattle.gdb_entries.specs.Entries.{is_item_static, names_of, entries_of_item, entries_of, gdb_entries}

unfoldable pub all_defs : ℕ
unfolding unsigned_leb signed_leb initial_length field header header_at section_count names_index headers_from section_from sections_from none_compressed ident table_fits sections_of spec_at specs_at abbrev_with abbrevs_at indirect value_at values entry_at token_at tail_of walk_from walked item_with_offset bounded string_at str_offset text_of texts_of own_name own_linkage_name target_of entry_named up_to fields_5 fields_4 ending head next_unit units_of distinct with_item ascending bytes_lt start_in_section index_names vector pool_of symbol_table gdb_index_bytes own_language imports_of scanned scan_of program_of gdb_spelling gdb_c_spelling translation run class_of kinds_of imported_by imports_through owner_of mentions own_class class_read facts_of next_of targets_from targets_of name_of linkage_of is_external is_scoped is_open_from below reach_at is_seen is_open open_around_at scope_in_place scope_of path_from scope_path without_digits place_from numbers_start without_numbers without_ends ends_entry behind_marks part_at parts_from parts_of decoded encoded component ada_pieces full_name is_item_static names_of entries_of_item entries_of gdb_entries
all_defs = 0
