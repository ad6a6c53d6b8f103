use Rattle.std.proofs.Common.{◌*◌, ◌+◌, ◌^◌, ◌%◌, sym, ◌∙◌}
use Rattle.std.proofs.Math.Nat.{mod-add-mod}
use Rattle.string_ends.proofs.HashLaws.{hash_is}
use Rattle.string_ends.proofs.tail.Tail.hashed.Goals as goal

pub returns : goal.returns
returns c =
    let t = c.requires in
    record {
      text = t.text;
      there = t.there;
      hash = mod-add-mod (c.start.result * c.args.self.weight) (2 ^ 32) c.args.self.sum ∙ (λ i. (c.start.ensures i * t.weight i + t.sum i) % 2 ^ 32) ∙ sym (hash_is c.args.formula t.text);
      print = t.print;
      beyond = t.beyond;
    }
