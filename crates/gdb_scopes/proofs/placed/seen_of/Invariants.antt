use Rattle.std.proofs.Common.{◌≡◌, List, drop, length, map}
use Rattle.std.specs.List.{AllZip}
use Rattle.index_model.specs.Program.{Program, Located}
use Rattle.gdb_entries.specs.declared.language.LanguageClass.{LanguageClass}
use Rattle.gdb_items.specs.Items.{IsItemOf}
use Rattle.gdb_scopes.specs.Places.{place_of}
use Rattle.gdb_scopes.proofs.SeenLaws.{IsSeenTo}
use Rattle.gdb_scopes.proofs.placed.seen_of.Given as goal

-- for each list of items of which these were read and have these places, those so far that are seen were taken
abbrev pub invariant-loop-item : goal.invariant-loop-item
invariant-loop-item l =
    (p : Program) (class : LanguageClass) (ds : List Located) → AllZip (IsItemOf p.sections) l.items ds → l.places ≡ map (place_of p class) ds →
    IsSeenTo p class ds l.seen.items (drop (length l.yielded) l.items) (drop (length l.yielded) l.places)
