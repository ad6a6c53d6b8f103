use Rattle.std.proofs.Common.{◌≡◌, get_or, Ok}
use Rattle.entry_scan.proofs.JumpLaws.{str_read, read_there}
use Rattle.entry_scan.proofs.ValueLaws.{zero_spec}
use Rattle.index_model.specs.Forms.{Str, value_at}
use Rattle.entry_scan.proofs.written.Written.str_at.Goals as goal

pub returns : goal.returns
returns c =
    let me = c.args.self.now in
    let s = get_or me.specs.now c.in_ok-jump.jump.index zero_spec in
    let skipped = rw (c.from.ensures, c.copied-cursor.ensures) at c.in_ok-skip.ensures.value in
    let read : value_at me.format.version me.format.wide s.form s.constant c.skip.new.self ≡ Ok (Str c.in_ok-u32.field-0, c.u32.new.self) = rw c.if-self-jump-ne-DW_FORM_strp.false (str_read me.format.version me.format.wide s.constant c.skip.new.self c.u32.new.self _ c.in_ok-jump.ensures.narrow_ c.in_ok-u32.ensures.value) in
    rw c.from-2.ensures (read_there me.specs.now me.format c.args.number c.in_ok-jump.jump me.cursor c.requires.read c.in_ok-jump.ensures c.skip.new.self skipped (Str _) c.u32.new.self read)
