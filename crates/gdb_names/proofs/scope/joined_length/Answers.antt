use Rattle.std.proofs.Common.{◌≡◌, ◌+◌, [], ℕ, length, min, ap, arith}
use Rattle.gdb_names.specs.Seen.{contents, joined_by}
use Rattle.gdb_names.proofs.JoinLaws.{joined_length}
use Rattle.gdb_names.proofs.scope.joined_length.Goals as goal

pub loop-component-init : goal.loop-component-init
loop-component-init c =
    let s = c.args.separator.now in
    let cs = contents c.args.components.now in
    let name = c.args.name.now in
    let all : length name + length (joined_by s cs []) ≡ length (joined_by s cs name) = omega (arith, joined_length s cs name) in
    record { range = omega arith; whole = ap (λ (n : ℕ). min 18446744073709551615 n) all }
