-- The names of groups, one after the other.
use Rattle.std.proofs.Common.{◌≡◌, ℕ, ◌+◌, ◌%◌, ◌<◌, List, [], ◌∷◌, ◌++◌, length, get_or, take, map, sym, ap, ◌∙◌, arith, length-append}
use Rattle.std.specs.Prelude.{flat_map}
use Rattle.std.proofs.lemmas.List.{get_or-map, length-map, map_push, map_more}
use Rattle.index_model.specs.Hashes.{name_hash}
use Rattle.index_model.specs.Layout.{ended}
use Rattle.index_model.specs.Ordered.{bytes_lt}
use Rattle.debugnames_write.specs.declared.groups.NameEntries.{NameEntries}
use Rattle.debugnames_write.specs.declared.name.Name.{Name}
use Rattle.debugnames_write.specs.Groups.{group_hashes, group_names}
use Rattle.debugnames_write.specs.Names.{kept_of_name, kept_of_group, IsNameOf}
use Rattle.index_model.specs.Order.{Rises}
use Rattle.debugnames_write.proofs.NameLaws.{string_is}
use Rattle.debugnames_write.proofs.PoolLaws.{flat_map_at, flat_map_up}

module _ (gs : List NameEntries) (k : ℕ) (d : NameEntries) (lt : k < length gs) where
  abbrev name : List ℕ
  name = (get_or gs k d).name.now

  many : length (group_names gs) ≡ length gs
  many = length-map gs (λ (g : NameEntries). g.name.now)

  own : (get_or gs k d).name.now ≡ get_or (group_names gs) k (get_or gs k d).name.now
  own = sym (get_or-map (λ (g : NameEntries). g.name.now) gs k d (get_or gs k d).name.now lt)

  within : k < length (group_names gs)
  within = omega (arith, many)

  -- the hash of the name, as it is read with any number for none
  pub hash_read : (hashes : List ℕ) (e : ℕ) → hashes ≡ group_hashes gs → get_or hashes k e ≡ name_hash (get_or gs k d).name.now
  hash_read hashes e are = ap (λ (w : List ℕ). get_or w k e) are ∙ get_or-map (λ (g : NameEntries). name_hash g.name.now) gs k d e lt

  pub name_right : Rises bytes_lt (group_names gs) → (old end : ℕ) (n : Name) → n.text.now ≡ (get_or gs k d).name.now → n.hash ≡ name_hash (get_or gs k d).name.now → n.bucket ≡ n.hash % length gs → n.string ≡ end
      → end ≡ old + length (flat_map ended (take k (group_names gs))) → IsNameOf (group_names gs) old n
  name_right rises old end n text hash bucket string is =
      let own_hash : n.hash ≡ name_hash n.text.now = hash ∙ ap name_hash (sym text) in
      let at : n.text.now ≡ get_or (group_names gs) k n.text.now = text ∙ own ∙ ap (get_or (group_names gs) k) (sym text) in
      record {
        hash = own_hash;
        bucket = bucket ∙ (λ i. own_hash i % sym many i);
        string = string ∙ is ∙ sym (string_is (group_names gs) rises k n.text.now within at old);
      }

  ended_long : length (ended (get_or gs k d).name.now) ≡ length (get_or gs k d).name.now + 1
  ended_long = length-append (get_or gs k d).name.now (0 ∷ [])

  -- behind one string more
  pub end_more : (old end next : ℕ) → end ≡ old + length (flat_map ended (take k (group_names gs))) → next ≡ end + (length (get_or gs k d).name.now + 1) → next ≡ old + length (flat_map ended (take (k + 1) (group_names gs)))
  end_more old end next is sum =
      let on : length (flat_map ended (take (k + 1) (group_names gs))) ≡ length (flat_map ended (take k (group_names gs))) + length (ended (get_or gs k d).name.now) =
      ap (λ (w : List ℕ). length w) (flat_map_at ended (group_names gs) k (get_or gs k d).name.now within own) ∙ length-append (flat_map ended (take k (group_names gs))) (ended (get_or gs k d).name.now) in
      omega (arith, on, ended_long)

  -- where that passes a limit, all do
  pub end_passes : (old end most : ℕ) → end ≡ old + length (flat_map ended (take k (group_names gs))) → most < end + (length (get_or gs k d).name.now + 1) → most < old + length (flat_map ended (group_names gs))
  end_passes old end most is pass =
      let up = flat_map_up ended (group_names gs) k (get_or gs k d).name.now within own in
      omega (arith, up, ended_long)

  pub kept_more : (names : List Name) (n : Name) → map kept_of_name names ≡ map kept_of_group (take k gs) → kept_of_name n ≡ kept_of_group (get_or gs k d) → map kept_of_name (names ++ n ∷ []) ≡ map kept_of_group (take (k + 1) gs)
  kept_more names n is one = map_push kept_of_name names n ∙ (λ i. is i ++ one i ∷ []) ∙ sym (map_more kept_of_group gs k d lt)
