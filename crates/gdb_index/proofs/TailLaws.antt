-- The entries of a file have no simple names.
use Rattle.std.proofs.Common.{◌≤◌, ℕ, Bool, List, [], ◌∷◌, length, map, flat_map, filter, All, Option, Some, None, arith}
use Rattle.std.proofs.lemmas.List.Elements.{All-append, All-map, All-nil}
use Rattle.index_model.specs.declared.entry.Entry.{Entry}
use Rattle.index_model.specs.Program.{Program, Walked, Located, located}
use Rattle.gdb_entries.specs.declared.language.LanguageClass.{LanguageClass}
use Rattle.gdb_entries.specs.Entries.{as_listed, entries_of, entries_of_item, entries_with, entry_as, is_item_static, listed, names_of}
use Rattle.gdb_entries.specs.Kinds.{kinds_in, kinds_of}
use Rattle.gdb_entries.specs.Owners.{owner_of, own_class}
use Rattle.gdb_entries.specs.Reached.{is_seen}
use Rattle.query_engine.specs.Asked.{TailsFit}

-- each member of lists that are put together is one of a list
all_parts : {A B : Type 0} (P : B → Type 0) (f : A → List B) (xs : List A) → ((x : A) → All P (f x)) → All P (flat_map f xs)
all_parts P f [] each = All-nil P
all_parts P f (x ∷ xs) each = All-append P (f x) (flat_map f xs) (each x) (all_parts P f xs each)

-- as it is listed, an entry has no tail above the length of its name
abbrev Fits : Entry → Type 0
Fits e = e.tail ≤ length (as_listed e).name

item_tails : (p : Program) (owner : Walked) (class : LanguageClass) (d : Located) → All Fits (entries_of_item p owner class d)
unfolding entries_of_item
item_tails p owner class d =
    let static = is_item_static p class d in
    all_parts Fits (λ (n : Bool × List ℕ). map (entry_as owner d static n.0 n.1) (kinds_in (kinds_of d.item.tag))) (names_of p class d)
    (λ n. All-map Fits (entry_as owner d static n.0 n.1) (kinds_in (kinds_of d.item.tag)) (λ k e lt. omega arith))

unit_tails : (p : Program) (owner : Option Walked) (w : Walked) → All Fits (entries_with p owner w)
unit_tails p (Some owner) w =
    let class = own_class p owner in
    all_parts Fits (entries_of_item p owner class) (filter (is_seen p class) (located w)) (item_tails p owner class)
unit_tails p None w = All-nil Fits

-- no tail is above the length of its name
pub listed_tails : (p : Program) → TailsFit (listed p)
unfolding entries_of
listed_tails p =
    All-map (λ (e : Entry). e.tail ≤ length e.name) as_listed (entries_of p) (all_parts Fits (λ w. entries_with p (owner_of p w) w) p.walks (λ w. unit_tails p (owner_of p w) w))
