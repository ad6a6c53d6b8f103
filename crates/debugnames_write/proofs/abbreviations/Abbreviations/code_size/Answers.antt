use Rattle.std.proofs.Common.{◌≡◌, ◌+◌, ◌<◌, List, length, map, sym, ap, arith}
use Rattle.std.proofs.lemmas.List.{length-map}
use Rattle.index_model.specs.NameIndex.{Row as IndexRow, row_eq}
use Rattle.index_model.specs.Ordered.{place_of}
use Rattle.debugnames_write.specs.Rows.{row_seen}
use Rattle.debugnames_write.proofs.LebLaws.{one_byte}
use Rattle.debugnames_write.proofs.RowLaws.{place_low}
use Rattle.debugnames_write.proofs.abbreviations.Abbreviations.code_size.Goals as goal

pub returns-then-len-lt-LEAST_OF_TWO_BYTES-clause-size : goal.returns-then-len-lt-LEAST_OF_TWO_BYTES-clause-size
returns-then-len-lt-LEAST_OF_TWO_BYTES-clause-size c =
    let row = row_seen c.args.row in
    let low = place_low row c.args.self.now in
    let seen : length (map row_seen c.self.inside.rows.items) ≡ length c.args.self.now = ap (λ (rs : List IndexRow). length rs) c.self.view_is in
    let long = length-map c.self.inside.rows.items row_seen in
    let few : place_of row_eq row c.args.self.now + 1 < 128 = omega (arith, low, seen, long, c.len.ensures, c.if-len-lt-LEAST_OF_TWO_BYTES.true) in
    sym (one_byte (place_of row_eq row c.args.self.now + 1) few)
