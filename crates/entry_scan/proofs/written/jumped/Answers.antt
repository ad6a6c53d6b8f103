use Rattle.std.proofs.Common.{ℕ, ◌+◌, drop, get_or, Option, option_map, ap, sym, ◌∙◌}
use Rattle.index_model.specs.Forms.{Value}
use Rattle.entry_scan.proofs.FirstLaws.{found}
use Rattle.entry_scan.proofs.JumpLaws.{room, leads}
use Rattle.entry_scan.proofs.ValueLaws.{no_fault, specs_from, zero_spec}
use Rattle.entry_scan.proofs.written.jumped.Goals as goal

abbrev text : Option (ℕ × Value) → Option Value
text o = option_map (λ (v : ℕ × Value). v.1) o

pub returns-in_err-skip : goal.returns-in_err-skip
returns-in_err-skip c = absurd (room c.args.specs.now c.args.format c.args.number c.args.jump c.args.cursor c.requires.read c.requires.leads (rw c.from.ensures at c.in_err-skip.ensures.value.0))

pub returns-in-Ok : goal.returns-in-Ok
returns-in-Ok c =
    let all = c.args.specs.now in
    let k = c.args.jump.index in
    let to = leads all c.args.format c.args.number c.args.jump c.args.cursor c.requires.read c.requires.leads c.skip.new.self (rw c.from.ensures at c.in_ok-skip.ensures.value) in
    let rest = rw (specs_from all k c.requires.leads.jump.within) at to in
    let here = found c.args.format c.args.number (get_or all k zero_spec) (drop (k + 1) all) c.skip.new.self rest.0 _ _ c.in-Ok.ensures.value (c.requires.leads.own zero_spec) in
    sym (ap text rest.1 ∙ here)

pub returns-in-Err : goal.returns-in-Err
returns-in-Err c =
    let all = c.args.specs.now in
    let k = c.args.jump.index in
    let to = leads all c.args.format c.args.number c.args.jump c.args.cursor c.requires.read c.requires.leads c.skip.new.self (rw c.from.ensures at c.in_ok-skip.ensures.value) in
    let rest = rw (specs_from all k c.requires.leads.jump.within) at to in
    absurd (no_fault c.args.format (get_or all k zero_spec) (drop (k + 1) all) c.skip.new.self _ c.in-Err.ensures.value rest.0)
