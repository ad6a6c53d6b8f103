-- Entries by the names under which a `.debug_names` lists them (DWARF 5, 6.1.1.1).
use Rattle.std.specs.Prelude.{◌≡◌, ◌≢◌, ℕ, ◌<◌, ◌≤◌, Bool, false, if◌then◌else◌, nat_lt, bytes_eq, List, [], ◌∷◌, ◌++◌, length, map, flat_map, All, slice_index_or, Option, Some, None}
use Rattle.index_model.specs.declared.entry.Entry.{Entry}
use Rattle.index_model.specs.Answers.{places}
use Rattle.index_model.specs.NameIndex.{string_of_entry}
use Rattle.query_engine.specs.declared.listing.ListedName.{ListedName}
use Rattle.query_engine.specs.declared.listing.ListedNames.{ListedNames}
use Rattle.query_engine.specs.declared.names.SortedNames.{SortedNames}
use Rattle.query_engine.specs.declared.spelling.FrontedText.{FrontedText}
use Rattle.query_engine.specs.Marks.{text_with}
use Rattle.query_engine.specs.Pairs.{ComesBefore}
use Rattle.query_engine.specs.Ranks.{Ascend}
use Rattle.query_engine.specs.Sorted.{name_at}

-- whether the entry is listed by the text
abbrev pub is_listed : List ℕ → Entry → Bool
is_listed text e = bytes_eq (string_of_entry e) text

-- which entries are linkage entries
abbrev pub linkage_of : List Entry → List Bool
linkage_of es = map (λ e. e.linkage) es

-- whether the entry at a place is a linkage entry
abbrev pub IsMarkAt : List Entry → ℕ → Bool → Type 0
IsMarkAt es k mark = (d : Bool) → mark ≡ slice_index_or (linkage_of es) k d

-- the marks tell which entries are linkage entries
pub record AreMarked (es : List Entry) (marks : List Bool) : Type 0 where
  pub size : length marks ≡ length es
  pub each : (k : ℕ) (d : Bool) → k < length es → IsMarkAt es k (slice_index_or marks k d)

-- ---- ascending places put together

-- the first places, up to one that isn't below the end
unfoldable pub take_below : ℕ → List ℕ → List ℕ
take_below end [] = []
take_below end (p ∷ ps) = if nat_lt p end then p ∷ take_below end ps else []

-- those behind them
unfoldable pub drop_below : ℕ → List ℕ → List ℕ
drop_below end [] = []
drop_below end (p ∷ ps) = if nat_lt p end then drop_below end ps else p ∷ ps

-- the marked ones of some places, and the others before those that aren't below them
unfoldable pub merged : List Bool → List ℕ → List ℕ → List ℕ
merged marked [] plain = plain
merged marked (p ∷ named) plain =
    let behind = take_below p plain ++ p ∷ merged marked named (drop_below p plain) in
    if slice_index_or marked p false then behind else merged marked named plain

-- ---- names with their entries

-- the names that are listed
abbrev pub names_of : List ListedName → List (List ℕ)
names_of ns = map (λ n. n.name.now) ns

-- there are no names
pub record IsEmpty (l : ListedNames) : Type 0 where
  pub names : l.names.items ≡ []
  pub places : l.places.items ≡ []

-- a name is added with these places
pub record AddsName (name ps : List ℕ) (old new : ListedNames) : Type 0 where
  pub own : ListedName
  pub name_is : own.name.now ≡ name
  pub count_is : own.count ≡ length ps
  pub names : new.names.items ≡ old.names.items ++ own ∷ []
  pub places : new.places.items ≡ old.places.items ++ ps

-- Each name has as many places as the test finds entries under it, the ascending places of one name after those of another.
pub record HaveEntriesBy (test : List ℕ → Entry → Bool) (es : List Entry) (l : ListedNames) : Type 0 where
  pub counts : All (λ n. n.count ≡ length (places (test n.name.now) es)) l.names.items
  pub are : l.places.items ≡ flat_map (λ t. places (test t) es) (names_of l.names.items)

-- The names ascend, each with the places of its entries, and no entry has another name. The test says which entries stand under a
-- name.
pub record AreListedBy (test : List ℕ → Entry → Bool) (es : List Entry) (l : ListedNames) : Type 0 where
  pub ascending : Ascend (names_of l.names.items)
  pub all : (t : List ℕ) → ((k : ℕ) → k < length l.names.items → text_with (names_of l.names.items) k ≢ t) → places (test t) es ≡ []
  pub own : HaveEntriesBy test es l

-- ---- texts of both orders

-- these are the first k names and the first j simple names, in byte order
pub record AreTextsTo (es : List Entry) (names simple : SortedNames) (k j : ℕ) (texts : List (List ℕ)) : Type 0 where
  pub ascending : Ascend texts
  pub before_names : (i m : ℕ) → i < length texts → k ≤ m → m < length names.groups.items → ComesBefore (text_with texts i) (name_at es names m)
  pub before_simple : (i m : ℕ) → i < length texts → j ≤ m → m < length simple.groups.items → ComesBefore (text_with texts i) (name_at es simple m)
  pub has_names : (m : ℕ) → m < k → (i : ℕ) × (i < length texts) × (text_with texts i ≡ name_at es names m)
  pub has_simple : (m : ℕ) → m < j → (i : ℕ) × (i < length texts) × (text_with texts i ≡ name_at es simple m)

-- they are listed with their entries
pub record AreListedTo (es : List Entry) (names simple : SortedNames) (k j : ℕ) (l : ListedNames) : Type 0 where
  pub texts : AreTextsTo es names simple k j (names_of l.names.items)
  pub own : HaveEntriesBy is_listed es l

-- the end is the name at the index, or behind all names
abbrev pub EndsAt : List Entry → SortedNames → ℕ → Option FrontedText → Type 0
EndsAt es names k (Some text) = (k < length names.groups.items) × (text.bytes.now ≡ name_at es names k)
EndsAt es names k None = k ≡ length names.groups.items

-- the text comes before the end
abbrev pub ComesBeforeEnd : List ℕ → Option FrontedText → Type 0
ComesBeforeEnd t (Some text) = ComesBefore t text.bytes.now
ComesBeforeEnd t None = Unit {0}

-- no simple name from the index on comes before the end
abbrev pub IsAhead : List Entry → SortedNames → ℕ → Option FrontedText → Type 0
IsAhead es simple j end = j < length simple.groups.items → ComesBeforeEnd (name_at es simple j) end → ⊥

-- the simple name at the index is the text
pub record HasSimple (es : List Entry) (simple : SortedNames) (j : ℕ) (text : List ℕ) : Type 0 where
  pub within : j < length simple.groups.items
  pub same : name_at es simple j ≡ text
