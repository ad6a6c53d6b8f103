use Rattle.std.proofs.Common.{◌≡◌, ◌++◌, length, ap, ◌∙◌, arith}
use Rattle.reach_model.specs.Added.{count_field, index_field, put}
use Rattle.elf_add.proofs.Puts.{settled}
use Rattle.elf_add.proofs.Whole.{IsJoined, joined_is, joined_long}
use Rattle.elf_add.proofs.parts.AddedProgram.joined.Goals as goal

pub set_table-requires : goal.set_table-requires
set_table-requires c =
    let end : c.len-strings_end.result ≡ length c.push_strings.new.bytes.items = omega (arith, c.len-strings_end.ensures) in
    let joined : IsJoined c.args.self.now c.extend_from_slice.new.self.items c.push_strings.new.bytes.items c.push_pieces.new.bytes.items c.push_names.new.bytes.items c.pad.new.bytes.items c.push_old_headers.new.bytes.items c.push_new_headers.new.bytes.items c.in_ok-strings.strings c.in_ok-names.names c.in_ok-count.count c.in_ok-first_name.first_name c.len-strings_end.result = record {
      of_file = c.in_ok-extend_from_slice.ensures.items ∙ ap (λ xs. xs ++ c.args.self.now.file.now) c.in_ok-bytes.ensures.items;
      of_strings = c.in_ok-strings.ensures.bytes;
      of_sections = c.in_ok-push_pieces.ensures;
      of_names = c.in_ok-names.ensures.bytes;
      of_zeros = c.in_ok-pad.ensures;
      of_old = c.in_ok-push_old_headers.ensures;
      of_new = c.in_ok-push_new_headers.ensures;
      strings_place = c.in_ok-strings.ensures.moved;
      names_place = c.in_ok-names.ensures.moved;
      count_is = c.in_ok-count.ensures;
      first_is = c.in_ok-first_name.ensures;
      end_is = end;
    } in
    let long = joined_long _ _ _ _ _ _ _ _ _ _ _ _ _ joined c.requires.long in
    omega (arith, long, ap length c.deref_mut.ensures.value)

pub returns : goal.returns
returns c = λ file sections addition is.
    let end : c.len-strings_end.result ≡ length c.push_strings.new.bytes.items = omega (arith, c.len-strings_end.ensures) in
    let joined : IsJoined c.args.self.now c.extend_from_slice.new.self.items c.push_strings.new.bytes.items c.push_pieces.new.bytes.items c.push_names.new.bytes.items c.pad.new.bytes.items c.push_old_headers.new.bytes.items c.push_new_headers.new.bytes.items c.in_ok-strings.strings c.in_ok-names.names c.in_ok-count.count c.in_ok-first_name.first_name c.len-strings_end.result = record {
      of_file = c.in_ok-extend_from_slice.ensures.items ∙ ap (λ xs. xs ++ c.args.self.now.file.now) c.in_ok-bytes.ensures.items;
      of_strings = c.in_ok-strings.ensures.bytes;
      of_sections = c.in_ok-push_pieces.ensures;
      of_names = c.in_ok-names.ensures.bytes;
      of_zeros = c.in_ok-pad.ensures;
      of_old = c.in_ok-push_old_headers.ensures;
      of_new = c.in_ok-push_new_headers.ensures;
      strings_place = c.in_ok-strings.ensures.moved;
      names_place = c.in_ok-names.ensures.moved;
      count_is = c.in_ok-count.ensures;
      first_is = c.in_ok-first_name.ensures;
      end_is = end;
    } in
    let place : c.len-headers_at.result ≡ length c.pad.new.bytes.items = omega (arith, c.len-headers_at.ensures) in
    let items = c.push_new_headers.new.bytes.items in
    settled c.push_new_headers.new.bytes.len c.set_table.new.bytes items (omega arith) (omega arith)
    ∙ joined_is _ _ _ _ _ _ _ _ _ _ _ _ _ joined file sections addition is c.len-headers_at.result c.set_table.new.bytes place (c.set_table.ensures ∙ ap (λ b. put 2 62 (index_field c.args.self.now.names_index) (put 2 60 (count_field c.in_ok-count.count) (put 8 40 c.len-headers_at.result b))) c.deref_mut.ensures.value)
