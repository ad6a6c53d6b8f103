-- What a read of a shelf in memory gives, from what its steps found.
use Rattle.std.proofs.Common.{◌≡◌, ℕ, ◌-◌, List, Option, Some, None, Bool, true, false, length, min, nat_eq, sym, ap, ◌∙◌}
use Rattle.std.specs.List.{list_any}
use Rattle.outside.specs.MemShelves.{piece_count}

-- whether the next read is to fail, as the code finds it
is_planned : (planned : List ℕ) (number : ℕ) (failing : List ℕ) (call : ℕ) (fails b : Bool) → failing ≡ planned → call ≡ number → fails ≡ list_any (λ y. nat_eq y call) failing → fails ≡ b → list_any (λ y. nat_eq y number) planned ≡ b
is_planned planned number failing call fails b list same found is =
    let g = rw (list, same) at found in
    sym g ∙ is

-- a read that goes well
pub piece_count-some : (planned : List ℕ) (number : ℕ) (held : Option (List ℕ)) (bytes : List ℕ) (at room n : ℕ) (failing : List ℕ) (call : ℕ) (fails : Bool) → failing ≡ planned → call ≡ number → fails ≡ list_any (λ y. nat_eq y call) failing → fails ≡ false → held ≡ Some bytes → n ≡ min room (length bytes - at) → Some n ≡ piece_count planned number held at room
piece_count-some planned number held bytes at room n failing call fails list same found is there count =
    rw (there, is_planned planned number failing call fails false list same found is) (ap Some count)

-- a read of a name that isn't there
pub piece_count-none : (planned : List ℕ) (number : ℕ) (held : Option (List ℕ)) (at room : ℕ) → held ≡ None → None ≡ piece_count planned number held at room
piece_count-none planned number held at room there = rw there

-- a read that is to fail
pub piece_count-planned : (planned : List ℕ) (number : ℕ) (held : Option (List ℕ)) (bytes : List ℕ) (at room : ℕ) (failing : List ℕ) (call : ℕ) (fails : Bool) → failing ≡ planned → call ≡ number → fails ≡ list_any (λ y. nat_eq y call) failing → fails ≡ true → held ≡ Some bytes → None ≡ piece_count planned number held at room
piece_count-planned planned number held bytes at room failing call fails list same found is there =
    rw (there, is_planned planned number failing call fails true list same found is)
