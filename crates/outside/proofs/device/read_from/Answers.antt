use Rattle.std.proofs.Common.{◌≡◌, ◌<◌, ◌≤◌, length, take, arith}
use Rattle.outside.proofs.PlaceLaws.{front_copied}
use Rattle.outside.proofs.device.read_from.Goals as goal

pub returns-clause-bytes : goal.returns-clause-bytes
returns-clause-bytes g c =
    let same : c.copy_from_slice.new.self ≡ take c.in_ok-count.count c.read_some.new.into = search in
    let here : c.in_ok-count.count ≤ length c.read_some.new.into = grind (arith, c.read_some.auto.into, c.in_ok-count.ensures.within) in (
      c.seek_to.new.file,
      c.in_ok-seek_to.ensures,
      rw (front_copied _ _ c.args.into.now _ same here) c.in_ok-count.ensures.bytes.0,
      λ none room.
          let wide : 0 < length c.read_some.new.into = grind (arith, c.read_some.auto.into, c.min-room.ensures, room) in
          c.in_ok-count.ensures.bytes.1 none wide,
    )
