-- None of the sections is compressed.
use Rattle.std.proofs.Common.{◌≡◌, ◌+◌, ◌<◌, ◌≤◌, ℕ, true, false, List, length, drop, get_or, Result, Ok, Err, refl, drop-cons, add-one}
use Rattle.std.proofs.Math.ListN.{drop_of_length-le}
use Rattle.std.specs.Prelude.{map}
use Rattle.ix_base.specs.declared.code.TheConstants.{COMPRESSED}
use Rattle.index_model.specs.Meaning.{fault}
use Rattle.index_model.specs.Sections.{is_compressed, none_compressed}
use Rattle.file_image.specs.declared.found.NamedSection.{NamedSection}
use Rattle.file_image.specs.Found.{section}

-- the sections from an index on, with the index of the first of them
abbrev left : List NamedSection → ℕ → Result (record {}) Rattle.ix_base.specs.declared.fault.Fault.Fault
left fs i = none_compressed (i + 1) (map section (drop i fs))

pub compressed_here : (fs : List NamedSection) (i : ℕ) (f : NamedSection) → i < length fs → is_compressed (section (get_or fs i f)) ≡ true → left fs i ≡ Err (fault COMPRESSED (i + 1))
unfolding none_compressed
compressed_here fs i f lt e = rw (drop-cons fs i f lt, e) refl

pub compressed_later : (fs : List NamedSection) (i : ℕ) (f : NamedSection) → i < length fs → is_compressed (section (get_or fs i f)) ≡ false → left fs i ≡ left fs (i + 1)
unfolding none_compressed
compressed_later fs i f lt e = rw (drop-cons fs i f lt, e, add-one i) refl

pub none_left : (fs : List NamedSection) (i : ℕ) → length fs ≤ i → left fs i ≡ Ok (record {})
unfolding none_compressed
none_left fs i le = rw (drop_of_length-le fs le) refl
