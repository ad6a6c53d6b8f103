use Rattle.std.proofs.Common.{ℕ, List, [], ◌∷◌, ◌++◌, get_or, sym, ap, ◌∙◌}
use Rattle.common_laws.proofs.Appended.{two_parts, no_part, more_parts, all_parts, flat_map-map}
use Rattle.index_model.specs.Layout.{ended}
use Rattle.gdbindex_write.specs.declared.symbols.Symbol.{Symbol}
use Rattle.gdbindex_write.proofs.PartLaws.{no_symbol}
use Rattle.gdbindex_write.proofs.names.put_names.Goals as goal

abbrev bytes : Symbol → List ℕ
bytes s = ended s.name.now

pub loop-symbol-init : goal.loop-symbol-init
loop-symbol-init c = no_part bytes c.args.symbols.now c.args.out.now.items

pub loop-symbol-preserved : goal.loop-symbol-preserved
loop-symbol-preserved c =
    let name = (get_or c.args.symbols.now c.loop-symbol.symbol-index no_symbol).name.now in
    more_parts bytes c.args.symbols.now c.loop-symbol.symbol-index no_symbol c.args.out.now.items c.loop-symbol-test.true c.loop-symbol.invariant (two_parts c.loop-symbol.out.items name (0 ∷ []) c.in_ok-extend_from_slice.ensures.items c.in_ok-push.ensures.items)

pub returns : goal.returns
returns c = all_parts bytes c.args.symbols.now c.loop-symbol.symbol-index c.args.out.now.items c.loop-symbol-test.false c.loop-symbol.invariant ∙ ap (λ (w : List ℕ). c.args.out.now.items ++ w) (sym (flat_map-map ended (λ (s : Symbol). s.name.now) c.args.symbols.now))
