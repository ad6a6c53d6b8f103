-- The main program (DWARF 5, 3.3.1 on main_subprogram; 3.3.1.1 on the calling convention of a program's main).
use Rattle.std.specs.Prelude.{ℕ, Bool, true, false, not, ◌&&◌, ◌==◌, List, [], filter, find, bytes_eq, codes, unwrap_or, Option, option_map}
use Rattle.std.specs.Option.{option_or}
use Rattle.index_model.specs.Attributes.{says_main}
use Rattle.index_model.specs.Program.{Program}
use Rattle.index_model.specs.declared.answer.Main.{Main}
use Rattle.index_model.specs.declared.rules.Class.{Class}
use Rattle.index_model.specs.declared.rules.Class.TheVariants.{C, Cxx, Ada, Plain}
use Rattle.index_model.specs.Languages.{language_of}
use Rattle.index_model.specs.Tags.{subprogram}
use Rattle.index_model.specs.Links.{Link, indexed_in, qualified_of}
use Rattle.index_model.specs.Entries.{is_link_static}

-- the class is C or C++
abbrev pub is_c_or_cxx : Class → Bool
is_c_or_cxx C = true
is_c_or_cxx Cxx = true
is_c_or_cxx Ada = false
is_c_or_cxx Plain = false

-- the qualified name of an indexed entry
abbrev pub full_name : Link → List ℕ
full_name k = unwrap_or (qualified_of k) []

-- a subprogram of class C or C++ that isn't static and has the qualified name `main`
unfoldable pub is_named_main : Link → Bool
is_named_main k = k.entry.item.tag == subprogram && is_c_or_cxx k.class && not (is_link_static k) && bytes_eq (full_name k) (codes "main")

-- the first that says that it is main; if none does, the first that is named so
unfoldable pub main_in : List Link → Option Link
main_in ks = option_or (find (λ k. says_main k.entry.item) ks) (find is_named_main ks)

-- main is sought among the indexed entries whose unit has a language other than 0: the first that says so itself, else the first named so
unfoldable pub main_of : Program → List Link → Option Main
main_of p ks = option_map (λ k. record { language = language_of p k.entry.home; name = full_name k }) (main_in (filter (λ k. not (language_of p k.entry.home == 0)) (indexed_in ks)))
