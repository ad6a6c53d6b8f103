-- What sorted texts are for a list of entries.
use Rattle.std.specs.Prelude.{◌≡◌, ◌≢◌, ℕ, ◌<◌, ◌≤◌, List, [], length, slice_get, slice_index, slice_range, option_map, unwrap_or}
use Rattle.index_model.specs.declared.entry.Entry.{Entry}
use Rattle.index_model.specs.Answers.{places}
use Rattle.query_engine.specs.declared.way.Way.{Way}
use Rattle.query_engine.specs.declared.groups.Group.{Group}
use Rattle.query_engine.specs.declared.names.SortedNames.{SortedNames}
use Rattle.query_engine.specs.Asked.{text_of, is_asked}
use Rattle.query_engine.specs.Front.{IsFrontOf}
use Rattle.query_engine.specs.Pairs.{ComesBefore}
use Rattle.query_engine.specs.Groups.{group_at}

-- the text of the entry at a place
abbrev pub text_of_place : Way → List Entry → ℕ → List ℕ
text_of_place way es place = unwrap_or (option_map (text_of way) (slice_get es place)) []

-- the text of a group: that of its first entry
abbrev pub group_text : List Entry → SortedNames → Group → List ℕ
group_text es n g = text_of_place n.way es (slice_index n.places.items g.start)

-- the text at an index
abbrev pub name_at : List Entry → SortedNames → ℕ → List ℕ
name_at es n k = group_text es n (group_at n.groups.items k)

-- the group lies among the places, and is the ascending places of all entries with its text
pub record IsGroup (es : List Entry) (n : SortedNames) (g : Group) : Type 0 where
  pub some : g.start < g.end
  pub within : g.end ≤ length n.places.items
  pub place : slice_index n.places.items g.start < length es
  pub front : IsFrontOf g.front (group_text es n g)
  pub members : slice_range n.places.items g.start g.end ≡ places (is_asked n.way (group_text es n g)) es

-- the texts ascend, each with all of its entries, and no entry has another text
pub record AreNamesOf (es : List Entry) (n : SortedNames) : Type 0 where
  pub each : (k : ℕ) → k < length n.groups.items → IsGroup es n (group_at n.groups.items k)
  pub ascending : (i j : ℕ) → i < j → j < length n.groups.items → ComesBefore (name_at es n i) (name_at es n j)
  pub all : (text : List ℕ) → ((k : ℕ) → k < length n.groups.items → name_at es n k ≢ text) → places (is_asked n.way text) es ≡ []

-- they are asked for this way
pub record AreNamesBy (way : Way) (es : List Entry) (n : SortedNames) : Type 0 where
  pub way_is : n.way ≡ way
  pub own : AreNamesOf es n
