use Rattle.std.proofs.Common.{◌≡◌, ◌+◌, length, rules}
use Rattle.gdbindex_write.specs.declared.symbols.Symbol.{Symbol}
use Rattle.gdbindex_write.proofs.GroupLaws.{seen_push}
use Rattle.gdbindex_write.proofs.symbols.Symbols.push.Goals as goal

pub returns-clause-groups : goal.returns-clause-groups
returns-clause-groups c =
    let es = c.args.self.now.elements.items in
    let list = c.args.self.now.list.items in
    let vs = c.args.vector.now in
    let s : Symbol = record { name = c.args.name; start = c.len-start.result; end = c.len.result } in
    let first : c.len-start.result ≡ length es = search rules in
    let last : c.len.result ≡ length es + length vs = search rules in
    rw (c.in_ok-extend_from_slice.ensures.items, c.in_ok-push.ensures.items) (seen_push es vs list s c.requires first last)
