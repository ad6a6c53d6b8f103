-- Written by tools/gen_vectors.py; not to be changed by hand.
-- One name that opens all that a computation of a file needs, so that each theorem names it alone.
use Rattle.std.proofs.Common.{ℕ}
use Rattle.std.specs.Fmt.{digits}
use Rattle.ix_base.specs.Reading.{unsigned_leb, signed_leb, initial_length}
use Rattle.index_model.specs.Sections.{field, header, header_at, section_count, names_index, headers_from, section_from, sections_from, none_compressed, ident, table_fits, sections_of}
use Rattle.index_model.specs.Queries.{hex_number, query_of}
use Rattle.index_model.specs.Abbreviations.{spec_at, specs_at, abbrev_with, abbrevs_at}
use Rattle.index_model.specs.Forms.{indirect, value_at}
use Rattle.index_model.specs.Walk.{values, entry_at, token_at, tail_of, walk_from}
use Rattle.index_model.specs.Program.{walked, item_with_offset}
use Rattle.index_model.specs.Strings.{bounded, string_at, str_offset, text_of, texts_of, own_name, own_linkage_name}
use Rattle.index_model.specs.References.{target_of, entry_named}
use Rattle.index_model.specs.Chains.{next_of, hops_from, chain_of, is_external, linkage_name_of, name_signed, name_by_signature, spelled_name, name_of}
use Rattle.index_model.specs.Rules.{is_visited_at}
use Rattle.index_model.specs.AdaNames.{without_number, pieces, is_coded, decoded, decoded_simple}
use Rattle.index_model.specs.Names.{step_to, path_from, component, scoped_name, qualified_name, simple_name}
use Rattle.index_model.specs.Languages.{own_language, imports_of, importing_language, language_by_import, language_of, class_of}
use Rattle.index_model.specs.Links.{facts_of, link_of, followed, links_in}
use Rattle.index_model.specs.Entries.{entry_of, linkage_entry_of, entries_of_link, entries_of}
use Rattle.index_model.specs.RangeLists.{indexed_address, address_of, pair_at, kind_at, list_from, list_at, list_offset, list_of}
use Rattle.index_model.specs.Ranges.{bounds, ranges_by, entry_ranges, entries_with_ranges, ranges_of, unit_ranges, ranges_in, unit_at}
use Rattle.index_model.specs.MainProgram.{is_named_main, main_in, main_of}
use Rattle.index_model.specs.Tiling.{up_to}
use Rattle.index_model.specs.Units.{fields_5, fields_4, ending, head, next_unit, units_of}
use Rattle.index_model.specs.Faults.{scanned, scan_of, links_of, all_ranges, program_of, built_of}
use Rattle.index_model.specs.Answers.{answer_to, reply_at}
use Rattle.index_model.specs.Texts.{text_of_entry, text_of_entries, text_of_answer, text_of_fault, text_of_reply, asked, text_of_ask, text_of_line}
use Rattle.index_model.specs.Hashes.{gdb_hash, name_hash, path}
use Rattle.index_model.specs.GdbAreas.{offsets_from, areas_at, version_of, areas}
use Rattle.index_model.specs.GdbIndexRead.{address, is_table_size, full_slot, places_before, is_found, shortcut_at, whole_items, gdb_index}
use Rattle.index_model.specs.NameAbbreviations.{specs_at as specs_at_nameabbreviations, abbreviations_at, values as values_nameabbreviations}
use Rattle.index_model.specs.NameTables.{numbers, counts, tables_behind}
use Rattle.index_model.specs.NameHeader.{tables}
use Rattle.index_model.specs.NameIndexRead.{string_of, is_in_bucket, is_hashed, hit, entry_with, entries_at, entries_of_name, name_at, name_index}
use Rattle.index_model.specs.LookTexts.{text_of_element, text_of_elements, text_of_hit, text_of_hits}
use Rattle.index_vectors.specs.LookTexts.{gdb_text, gdb_written, written_of_gdb, names_text, names_written, written_of_names}
use Rattle.reach_model.specs.AddressSets.{set_header, pairs, set_parts, unit_of_set, next_set, address_sets, aranges_unit_at}
use Rattle.index_model.specs.Ordered.{distinct, with_item, ascending, bytes_lt}
use Rattle.index_model.specs.Pieces.{before, between, pieces as pieces_pieces}
use Rattle.reach_model.specs.Differences.{difference_among, first_difference}
use Rattle.reach_model.specs.AddressTexts.{text_of_comparison, text_of_aranges_fault}
use Rattle.index_vectors.specs.Comparisons.{comparison_of, comparison_written, written_of_built}
use Rattle.index_model.specs.GdbSlots.{slot_count, slots_behind, slots_of}
use Rattle.index_model.specs.GdbIndex.{start_in_section, index_names, vector, pool_of, symbol_table, gdb_index_bytes}
use Rattle.index_model.specs.NameIndex.{indexed_entry, all_indexed, name_index_strings, uleb_in, name_index_bytes}
use Rattle.index_model.specs.Cache.{cache_of, cache_in, size_in}
use Rattle.index_model.specs.Transcripts.{lines_of, text_of_look, texts_at, transcript_of}
use Rattle.reach_model.specs.Added.{put, padded, with_pieces, with_bits, moved, first_header, new_header, new_headers, strings_index, new_sections, new_names, more_strings, grown_strings, grown_names, names_start, string_pieces, section_pieces, name_pieces, body, strings_at, new_sections_from, names_at, headers_at, old_header, old_headers, added}
use Rattle.reach_model.specs.BuildIds.{build_id_in, cache_name}
use Rattle.reach_model.specs.LineTables.{up_to_end, so_many, old_file_named, old_files, format_behind, formats, formats_at, layout_at, path_of, with_content, new_entry, entries_at as entries_at_linetables, new_files, behind_fields, own_bytes, version_at, header_at as header_at_linetables, files_behind, files_at, files_of, unit_hits, hits_of}
use Rattle.reach_model.specs.FileTexts.{text_of_hit as text_of_hit_filetexts, text_of_hits as text_of_hits_filetexts, text_of_files_fault, text_of_files}
use Rattle.reach_model.specs.KeptIndexes.{kept_bytes, kept_id, kept_index}

unfoldable pub all_defs : ℕ
unfolding digits unsigned_leb signed_leb initial_length field header header_at section_count names_index headers_from section_from sections_from none_compressed ident table_fits sections_of hex_number query_of spec_at specs_at abbrev_with abbrevs_at indirect value_at values entry_at token_at tail_of walk_from walked item_with_offset bounded string_at str_offset text_of texts_of own_name own_linkage_name target_of entry_named next_of hops_from chain_of is_external linkage_name_of name_signed name_by_signature spelled_name name_of is_visited_at without_number pieces is_coded decoded decoded_simple step_to path_from component scoped_name qualified_name simple_name own_language imports_of importing_language language_by_import language_of class_of facts_of link_of followed links_in entry_of linkage_entry_of entries_of_link entries_of indexed_address address_of pair_at kind_at list_from list_at list_offset list_of bounds ranges_by entry_ranges entries_with_ranges ranges_of unit_ranges ranges_in unit_at is_named_main main_in main_of up_to fields_5 fields_4 ending head next_unit units_of scanned scan_of links_of all_ranges program_of built_of answer_to reply_at text_of_entry text_of_entries text_of_answer text_of_fault text_of_reply asked text_of_ask text_of_line gdb_hash name_hash path offsets_from areas_at version_of areas address is_table_size full_slot places_before is_found shortcut_at whole_items gdb_index specs_at_nameabbreviations abbreviations_at values_nameabbreviations numbers counts tables_behind tables string_of is_in_bucket is_hashed hit entry_with entries_at entries_of_name name_at name_index text_of_element text_of_elements text_of_hit text_of_hits gdb_text gdb_written written_of_gdb names_text names_written written_of_names set_header pairs set_parts unit_of_set next_set address_sets aranges_unit_at distinct with_item ascending bytes_lt before between pieces_pieces difference_among first_difference text_of_comparison text_of_aranges_fault comparison_of comparison_written written_of_built slot_count slots_behind slots_of start_in_section index_names vector pool_of symbol_table gdb_index_bytes indexed_entry all_indexed name_index_strings uleb_in name_index_bytes cache_of cache_in size_in lines_of text_of_look texts_at transcript_of put padded with_pieces with_bits moved first_header new_header new_headers strings_index new_sections new_names more_strings grown_strings grown_names names_start string_pieces section_pieces name_pieces body strings_at new_sections_from names_at headers_at old_header old_headers added build_id_in cache_name up_to_end so_many old_file_named old_files format_behind formats formats_at layout_at path_of with_content new_entry entries_at_linetables new_files behind_fields own_bytes version_at header_at_linetables files_behind files_at files_of unit_hits hits_of text_of_hit_filetexts text_of_hits_filetexts text_of_files_fault text_of_files kept_bytes kept_id kept_index
all_defs = 0
