-- What gdb does of all items of a unit.
use Rattle.std.specs.Prelude.{◌≡◌, Bool, true, List, [], ◌∷◌, Some, option_map}
use Rattle.index_model.specs.Walk.{Item}
use Rattle.gdb_entries.specs.Reached.{is_open}
use Rattle.gdb_reach.specs.declared.run.ToldItem.{ToldItem}
use Rattle.gdb_reach.specs.declared.run.Answer.{Answer}
use Rattle.gdb_reach.specs.Around.{open_by}
use Rattle.gdb_reach.specs.Standing.{UnitRead, IsTold, IsNameTold, in_unit, look_of}

-- what is told of an item
pub record IsToldOf (r : UnitRead) (d : Item) (told : ToldItem) : Type 0 where
  pub item : IsTold d told.depth told.facts
  pub name : IsNameTold r d told.has_name
  pub token : told.token ≡ r.token (in_unit r.unit d)

-- what is told of these items, one after the other
abbrev pub AreTold : UnitRead → List Item → List ToldItem → Type 0
AreTold r [] [] = Unit {0}
AreTold r [] (t ∷ ts) = ⊥
AreTold r (d ∷ ds) [] = ⊥
AreTold r (d ∷ ds) (t ∷ ts) = IsToldOf r d t × AreTold r ds ts

-- what is kept of a unit has at least all items with children
abbrev pub KeepsParents : (Item → Bool) → Type 0
KeepsParents keep = (d : Item) → d.children ≡ true → keep d ≡ true

-- what gdb does of an item
abbrev pub answer_of : UnitRead → Item → Answer
answer_of r d =
    let here = in_unit r.unit d in
    record {
      look = look_of r d;
      is_open = is_open r.program r.class here;
      open_around = option_map r.token (open_by r.program (Some r.class) here);
    }
