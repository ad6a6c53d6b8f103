use Rattle.std.proofs.Common.{◌+◌, [], ◌∷◌, ◌++◌, sym, ◌∙◌}
use Rattle.common_laws.proofs.Appended.{two_parts}
use Rattle.index_model.specs.Layout.{u32_bytes}
use Rattle.gdbindex_write.specs.Header.{offsets}
use Rattle.gdbindex_write.proofs.HeaderLaws.{sizes_9, sizes_other}
use Rattle.gdbindex_write.proofs.header.put_header.Goals as goal

pub returns-in_ok-put_offsets : goal.returns-in_ok-put_offsets
returns-in_ok-put_offsets c =
    let s = c.args.sizes.now in
    let version = c.from.ensures in
    let sizes = sym (sizes_9 c.args.version s c.if-version-eq9.true) in
    two_parts c.args.out.now.items (u32_bytes c.from.result) (offsets (s.units ∷ s.types ∷ s.addresses ∷ s.slots ∷ 8 ∷ (s.vectors + s.names) ∷ [])) c.in_ok-put_u32.ensures c.in_ok-put_offsets.ensures
    ∙ (λ i. c.args.out.now.items ++ (u32_bytes (version i) ++ offsets (sizes i)))

pub returns-in_ok-put_offsets-2 : goal.returns-in_ok-put_offsets-2
returns-in_ok-put_offsets-2 c =
    let s = c.args.sizes.now in
    let version = c.from.ensures in
    let sizes = sym (sizes_other c.args.version s c.if-version-eq9.false) in
    two_parts c.args.out.now.items (u32_bytes c.from.result) (offsets (s.units ∷ s.types ∷ s.addresses ∷ s.slots ∷ (s.vectors + s.names) ∷ [])) c.in_ok-put_u32.ensures c.in_ok-put_offsets-2.ensures
    ∙ (λ i. c.args.out.now.items ++ (u32_bytes (version i) ++ offsets (sizes i)))
