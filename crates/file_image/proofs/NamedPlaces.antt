-- The first section of a name, by its index.
use Rattle.std.proofs.Common.{◌≡◌, ◌+◌, ◌<◌, ◌≤◌, ℕ, true, false, List, length, drop, get_or, Option, Some, None, bytes_eq, refl, drop-cons, add-one}
use Rattle.std.proofs.Math.ListN.{drop_of_length-le}
use Rattle.std.specs.Prelude.{map, find, option_map}
use Rattle.std.specs.List.{enumerate_from}
use Rattle.file_image.specs.declared.found.NamedSection.{NamedSection}
use Rattle.file_image.specs.Found.{section}

-- the index of the first of the sections from an index on
abbrev pub named_from : List NamedSection → List ℕ → ℕ → Option ℕ
named_from fs name i = option_map (λ e. e.0) (find (λ e. bytes_eq e.1.name name) (enumerate_from (i + 1) (map section (drop i fs))))

pub named_here : (fs : List NamedSection) (name : List ℕ) (i : ℕ) (f : NamedSection) → i < length fs → bytes_eq (get_or fs i f).name.now name ≡ true → named_from fs name i ≡ Some (i + 1)
named_here fs name i f lt e = rw (drop-cons fs i f lt, e) refl

pub named_later : (fs : List NamedSection) (name : List ℕ) (i : ℕ) (f : NamedSection) → i < length fs → bytes_eq (get_or fs i f).name.now name ≡ false → named_from fs name i ≡ named_from fs name (i + 1)
named_later fs name i f lt e = rw (drop-cons fs i f lt, e, add-one i) refl

pub none_named : (fs : List NamedSection) (name : List ℕ) (i : ℕ) → length fs ≤ i → named_from fs name i ≡ None
none_named fs name i le = rw (drop_of_length-le fs le) refl
