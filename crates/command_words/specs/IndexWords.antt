-- The words of the commands that store an index: `index --as KIND [--rules gdb] [--workers N] FILE OUT`, and `add` with such words.
use Rattle.std.specs.Prelude.{ℕ, ◌&&◌, ◌==◌, if◌then◌else◌, List, [], ◌∷◌, length, bytes_eq, codes, Option, Some, None, option_map, option_and_then}
use Rattle.index_model.specs.declared.job.CacheKind.{CacheKind}
use Rattle.index_model.specs.declared.job.CacheKind.TheVariants.{Gdb8, Gdb9, Names}
use Rattle.index_forms.specs.Forms.{by_gdb}
use Rattle.index_forms.specs.declared.form.IndexForm.{IndexForm}
use Rattle.index_forms.specs.declared.form.IndexForm.TheVariants.{ByDwarf}
use Rattle.command_words.specs.WordParts.{is_file_name, workers_and_others}

-- `index` and `add`: the form of the index, how many workers, the file's name, and the name under which the index is stored, or the
-- program with it
pub record Indexed : Type 0 where
  pub form : IndexForm
  pub workers : ℕ
  pub file : List ℕ
  pub out : List ℕ

-- the form of an index, and the words behind it
pub record Formed : Type 0 where
  pub form : IndexForm
  pub others : List (List ℕ)

-- the kinds of indexes
abbrev pub kind_named : List ℕ → Option CacheKind
kind_named word = if bytes_eq word (codes "gdb8") then Some Gdb8 else if bytes_eq word (codes "gdb9") then Some Gdb9 else if bytes_eq word (codes "names") then Some Names else None

-- the form of an index of this kind, where rules are named; those of gdb are the only ones that are
abbrev pub form_before : CacheKind → List (List ℕ) → Option Formed
form_before kind [] = None
form_before kind (word ∷ others) = if bytes_eq word (codes "gdb") then option_map (λ form. record { form = form; others = others }) (by_gdb kind) else None

-- the form of an index of this kind, and the words behind it
abbrev pub form_and_others : CacheKind → List (List ℕ) → Option Formed
form_and_others kind [] = Some (record { form = ByDwarf kind; others = [] })
form_and_others kind (word ∷ others) = if bytes_eq word (codes "--rules") then form_before kind others else Some (record { form = ByDwarf kind; others = word ∷ others })

-- two files' names and nothing behind them
abbrev pub files_of : IndexForm → ℕ → List (List ℕ) → Option Indexed
files_of form n [] = None
files_of form n (file ∷ []) = None
files_of form n (file ∷ out ∷ others) = if length others == 0 && is_file_name file && is_file_name out then Some (record { form = form; workers = n; file = file; out = out }) else None

-- the words behind the kind
abbrev pub index_behind : CacheKind → List (List ℕ) → Option Indexed
index_behind kind words = option_and_then (λ f. option_and_then (λ w. files_of f.form w.workers w.others) (workers_and_others f.others)) (form_and_others kind words)

-- the words behind `--as`
abbrev pub index_as : List (List ℕ) → Option Indexed
index_as [] = None
index_as (word ∷ others) = option_and_then (λ kind. index_behind kind others) (kind_named word)

-- the words behind `index` or `add`
abbrev pub index_of : List (List ℕ) → Option Indexed
index_of [] = None
index_of (word ∷ others) = if bytes_eq word (codes "--as") then index_as others else None
