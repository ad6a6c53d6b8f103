-- What an index means, or its first fault, step by step.
use Rattle.std.proofs.Common.{◌≡◌, ◌%◌, ℕ, Bool, true, false, eqb, List, length, Option, Some, None, Result, Ok, Err, refl, ap, sym, ◌∙◌}
use Rattle.std.specs.List.{enumerate_from}
use Rattle.std.proofs.lemmas.Bool.{eq-eqb, ne_eqb}
use Rattle.ix_base.specs.declared.fault.Fault.{Fault}
use Rattle.index_model.specs.declared.answer.Main.{Main}
use Rattle.index_model.specs.declared.index_code.TheConstants.{GDB_UNIT_LIST, GDB_ADDRESS_AREA}
use Rattle.index_model.specs.Meaning.{◌>>=◌, ◌>>◌, each, fault, holds_or, wrong_in}
use Rattle.index_model.specs.GdbAreas.{Areas, areas, areas_at, items, version_of}
use Rattle.index_model.specs.GdbIndexRead.{Address, Slot, GdbIndex, address, gdb_index, reached, shortcut_at, slot_at, whole_items}
use Rattle.gdbindex_read.specs.declared.header.Version.{Version}
use Rattle.gdbindex_read.specs.declared.header.Version.TheVariants.{Eight, Nine}
use Rattle.gdbindex_read.specs.Header.{version_number, offsets, checked_offsets}
use Rattle.gdbindex_read.specs.Areas.{checked_shortcut, whole_lists}
use Rattle.gdbindex_read.specs.Addresses.{checked_addresses}
use Rattle.gdbindex_read.specs.Slots.{checked_size, checked_slots}

-- ---- steps and their order

then-then : {A B : Type 0} (r : Result (record {}) Fault) (s : Result A Fault) (f : A → Result B Fault) → (r >> (s >>= f)) ≡ ((r >> s) >>= f)
then-then (Ok x) s f = refl
then-then (Err d) s f = refl

-- ---- the areas

module _ (bytes : List ℕ) where
  -- what comes behind the offsets
  abbrev behind_offsets : ℕ → List ℕ → Result Areas Fault
  behind_offsets n os = checked_shortcut n (areas_at bytes n os).shortcut >> Ok (areas_at bytes n os)

  areas_by : (v : Version) → version_of bytes ≡ Ok (version_number v) → areas bytes ≡ (checked_offsets bytes v >>= λ os. behind_offsets (version_number v) os)
  unfolding areas
  areas_by Eight e = rw e (then-then _ _ (behind_offsets 8))
  areas_by Nine e = rw e (then-then _ _ (behind_offsets 9))

  pub no_version : (d : Fault) → version_of bytes ≡ Err d → areas bytes ≡ Err d
  unfolding areas
  no_version d e = rw e refl

  module _ (v : Version) (version : version_of bytes ≡ Ok (version_number v)) where
    pub wrong_offset : (d : Fault) → checked_offsets bytes v ≡ Err d → areas bytes ≡ Err d
    wrong_offset d e = areas_by v version ∙ ap (λ (r : Result (List ℕ) Fault). r >>= λ os. behind_offsets (version_number v) os) e

    module _ (right : checked_offsets bytes v ≡ Ok (offsets bytes v)) (a : Areas) (are : a ≡ areas_at bytes (version_number v) (offsets bytes v)) where
      abbrev with_areas : Areas → Result Areas Fault
      with_areas a = checked_shortcut (version_number v) a.shortcut >> Ok a

      behind_areas : areas bytes ≡ with_areas a
      behind_areas = areas_by v version ∙ ap (λ (r : Result (List ℕ) Fault). r >>= λ os. behind_offsets (version_number v) os) right ∙ ap with_areas (sym are)

      pub short_shortcut : (d : Fault) → checked_shortcut (version_number v) a.shortcut ≡ Err d → areas bytes ≡ Err d
      short_shortcut d e = behind_areas ∙ ap (λ (r : Result (record {}) Fault). r >> Ok a) e

      pub areas_found : checked_shortcut (version_number v) a.shortcut ≡ Ok (record {}) → areas bytes ≡ Ok a
      areas_found e = behind_areas ∙ ap (λ (r : Result (record {}) Fault). r >> Ok a) e

-- ---- what the areas hold

module _ (a : Areas) where
  pub cut_list : (length a.cus.rest % 16 ≡ 0 → ⊥) → whole_lists a ≡ Err (fault GDB_UNIT_LIST a.cus.at)
  unfolding whole_lists
  cut_list ne = rw (ne_eqb (length a.cus.rest % 16) 0 ne) refl

  pub cut_types : length a.cus.rest % 16 ≡ 0 → (length a.types.rest % 24 ≡ 0 → ⊥) → whole_lists a ≡ Err (fault GDB_UNIT_LIST a.types.at)
  unfolding whole_lists
  cut_types e ne = rw (eq-eqb (length a.cus.rest % 16) 0 e, ne_eqb (length a.types.rest % 24) 0 ne) refl

  pub lists_whole : length a.cus.rest % 16 ≡ 0 → length a.types.rest % 24 ≡ 0 → whole_lists a ≡ Ok (record {})
  unfolding whole_lists
  lists_whole e f = rw (eq-eqb (length a.cus.rest % 16) 0 e, eq-eqb (length a.types.rest % 24) 0 f) refl

  pub cut_addresses : (length a.addresses.rest % 20 ≡ 0 → ⊥) → checked_addresses a ≡ Err (fault GDB_ADDRESS_AREA a.addresses.at)
  unfolding checked_addresses
  cut_addresses ne = rw (ne_eqb (length a.addresses.rest % 20) 0 ne) refl

  pub addresses_whole : length a.addresses.rest % 20 ≡ 0 → checked_addresses a ≡ each (address a) (items 20 a.addresses)
  unfolding checked_addresses
  addresses_whole e = rw (eq-eqb (length a.addresses.rest % 20) 0 e) refl

  abbrev types_end : Result (record {}) Fault
  types_end = holds_or (eqb (length a.types.rest % 24) 0) (fault GDB_UNIT_LIST a.types.at)

  abbrev addresses_end : Result (List Address) Fault
  addresses_end = holds_or (eqb (length a.addresses.rest % 20) 0) (fault GDB_ADDRESS_AREA a.addresses.at) >> each (address a) (items 20 a.addresses)

  lists_then : (b : Bool) → (holds_or b (fault GDB_UNIT_LIST a.cus.at) >> (types_end >> addresses_end)) ≡ ((holds_or b (fault GDB_UNIT_LIST a.cus.at) >> types_end) >> addresses_end)
  lists_then true = refl
  lists_then false = refl

  items_are : whole_items a ≡ (whole_lists a >> checked_addresses a)
  unfolding whole_items whole_lists checked_addresses
  items_are = lists_then (eqb (length a.cus.rest % 16) 0)

  -- what comes behind the symbol table
  abbrev behind_paths : List Address → List (Option Slot) → Option Main → Result GdbIndex Fault
  behind_paths addresses slots main = each (reached slots) (enumerate_from 0 slots) >> Ok (record { addresses = addresses; slots = slots; main = main })

  abbrev behind_slots : List Address → List (Option Slot) → Result GdbIndex Fault
  behind_slots addresses slots = shortcut_at a >>= λ main. behind_paths addresses slots main

  abbrev behind_addresses : List Address → Result GdbIndex Fault
  behind_addresses addresses = checked_slots a >>= λ slots. behind_slots addresses slots

module _ (bytes : List ℕ) where
  index_by : gdb_index bytes ≡ (areas bytes >>= λ a. (whole_lists a >> checked_addresses a) >>= λ addresses. behind_addresses a addresses)
  unfolding gdb_index checked_slots
  index_by = by (areas bytes)
    where
      by_lists : (a : Areas) (r : Result (List Address) Fault) → (r >>= λ addresses. checked_size a.table >> (each (slot_at a) (items 8 a.table) >>= λ slots. behind_slots a addresses slots)) ≡ (r >>= λ addresses. (checked_size a.table >> each (slot_at a) (items 8 a.table)) >>= λ slots. behind_slots a addresses slots)
      by_lists a (Ok addresses) = then-then (checked_size a.table) (each (slot_at a) (items 8 a.table)) (behind_slots a addresses)
      by_lists a (Err d) = refl

      by : (r : Result Areas Fault) → (r >>= λ a. whole_items a >>= λ addresses. checked_size a.table >> (each (slot_at a) (items 8 a.table) >>= λ slots. behind_slots a addresses slots)) ≡ (r >>= λ a. (whole_lists a >> checked_addresses a) >>= λ addresses. (checked_size a.table >> each (slot_at a) (items 8 a.table)) >>= λ slots. behind_slots a addresses slots)
      by (Ok a) = by_lists a (whole_items a) ∙ ap (λ (r : Result (List Address) Fault). r >>= λ addresses. (checked_size a.table >> each (slot_at a) (items 8 a.table)) >>= λ slots. behind_slots a addresses slots) (items_are a)
      by (Err d) = refl

  pub at_areas : (d : Fault) → areas bytes ≡ Err d → gdb_index bytes ≡ Err d
  at_areas d e = index_by ∙ rw e refl

  module _ (a : Areas) (found : areas bytes ≡ Ok a) where
    pub at_lists : (d : Fault) → whole_lists a ≡ Err d → gdb_index bytes ≡ Err d
    at_lists d e = index_by ∙ rw (found, e) refl

    module _ (lists : whole_lists a ≡ Ok (record {})) where
      pub at_addresses : (d : Fault) → checked_addresses a ≡ Err d → gdb_index bytes ≡ Err d
      at_addresses d e = index_by ∙ rw (found, lists, e) refl

      module _ (xs : List Address) (addresses : checked_addresses a ≡ Ok xs) where
        pub at_slots : (d : Fault) → checked_slots a ≡ Err d → gdb_index bytes ≡ Err d
        at_slots d e = index_by ∙ rw (found, lists, addresses, e) refl

        module _ (ss : List (Option Slot)) (slots : checked_slots a ≡ Ok ss) where
          pub at_shortcut : (d : Fault) → shortcut_at a ≡ Err d → gdb_index bytes ≡ Err d
          at_shortcut d e = index_by ∙ rw (found, lists, addresses, slots, e) refl

          module _ (m : Option Main) (main : shortcut_at a ≡ Ok m) where
            behind_main : gdb_index bytes ≡ behind_paths a xs ss m
            behind_main = index_by ∙ rw (found, lists, addresses, slots, main) refl

            refused : (r : Result (List (record {})) Fault) (d : Fault) (y : GdbIndex) → Some d ≡ wrong_in r → (r >> Ok y) ≡ Err d
            refused (Ok x) d y e = absurd cc
            refused (Err x) d y e = let same : d ≡ x = cc in ap (λ (z : Fault). Err z) (sym same)

            accepted : (r : Result (List (record {})) Fault) (y : GdbIndex) → None ≡ wrong_in r → (r >> Ok y) ≡ Ok y
            accepted (Ok x) y e = refl
            accepted (Err x) y e = absurd cc

            pub at_paths : (d : Fault) → Some d ≡ wrong_in (each (reached ss) (enumerate_from 0 ss)) → gdb_index bytes ≡ Err d
            at_paths d e = behind_main ∙ refused (each (reached ss) (enumerate_from 0 ss)) d (record { addresses = xs; slots = ss; main = m }) e

            pub opened : None ≡ wrong_in (each (reached ss) (enumerate_from 0 ss)) → gdb_index bytes ≡ Ok (record { addresses = xs; slots = ss; main = m })
            opened e = behind_main ∙ accepted (each (reached ss) (enumerate_from 0 ss)) (record { addresses = xs; slots = ss; main = m }) e
