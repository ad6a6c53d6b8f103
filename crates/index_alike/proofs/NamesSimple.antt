-- A simple name has no zero where the name has none.
use Rattle.std.proofs.Common.{◌≡◌, ℕ, zero, suc, Bool, true, false, cond, eqb, List, [], ◌∷◌, refl, ap, arith}
use Rattle.std.specs.List.{list_all, onto_first}
use mathlib.Core.Bool.{not, ◌&&◌}
use Rattle.std.proofs.lemmas.Bool.{and_parts, not-true, and_from}
use Rattle.std.proofs.lemmas.Bool.Decides.{nat_tests}
use Rattle.index_model.specs.declared.rules.Class.{Class}
use Rattle.index_model.specs.declared.rules.Class.TheVariants.{C, Cxx, Ada, Plain}
use Rattle.index_model.specs.AdaNames.{is_line, is_good_byte, is_good_piece, shortened, pieces, is_coded, last_of, decoded_simple}
use Rattle.index_model.specs.Names.{simple_name}
use Rattle.index_alike.proofs.NamesTexts.{HasNoZero}

-- the byte isn't zero
abbrev pub some_byte : ℕ → Bool
some_byte b = not (eqb b 0)

-- no byte is zero, as a test
pub tested : (text : List ℕ) → list_all some_byte text ≡ true → HasNoZero text
tested [] e k d lt = absurd (omega arith)
tested (b ∷ text) e zero d lt = not-true (eqb b 0) (and_parts (some_byte b) (list_all some_byte text) e).0
tested (b ∷ text) e (suc k) d lt = tested text (and_parts (some_byte b) (list_all some_byte text) e).1 k d (omega arith)

-- ---- pieces

abbrev all_some : List (List ℕ) → Bool
all_some ps = list_all (λ piece. list_all some_byte piece) ps

onto_some : (b : ℕ) (ps : List (List ℕ)) → some_byte b ≡ true → all_some ps ≡ true → all_some (onto_first b ps) ≡ true
onto_some b [] own all = rw own refl
onto_some b (p ∷ ps) own all =
    let q = and_parts (list_all some_byte p) (all_some ps) all in
    and_from (some_byte b && list_all some_byte p) (all_some ps) (and_from (some_byte b) (list_all some_byte p) own q.0) q.1

pieces_some : (text : List ℕ) → list_all some_byte text ≡ true → all_some (pieces text) ≡ true
unfolding pieces
pieces_some [] e = refl
pieces_some (a ∷ []) e = and_from (list_all some_byte (a ∷ [])) true e refl
pieces_some (a ∷ b ∷ bs) e =
    let p = and_parts (some_byte a) (list_all some_byte (b ∷ bs)) e in
    let q = and_parts (some_byte b) (list_all some_byte bs) p.1 in
    by (is_line a && is_line b) (pieces_some bs q.1) (onto_some a (pieces (b ∷ bs)) p.0 (pieces_some (b ∷ bs) p.1))
  where
    by : (c : Bool) → all_some (pieces bs) ≡ true → all_some (onto_first a (pieces (b ∷ bs))) ≡ true → all_some (cond c ([] ∷ pieces bs) (onto_first a (pieces (b ∷ bs)))) ≡ true
    by true f g = f
    by false f g = g

last_some : (ps : List (List ℕ)) → all_some ps ≡ true → list_all some_byte (last_of ps) ≡ true
last_some [] e = refl
last_some (p ∷ []) e = (and_parts (list_all some_byte p) true e).0
last_some (p ∷ q ∷ ps) e = last_some (q ∷ ps) (and_parts (list_all some_byte p) (all_some (q ∷ ps)) e).1

-- ---- Ada

good_some : (b : ℕ) → is_good_byte b ≡ true → some_byte b ≡ true
good_some zero e = absurd cc
good_some (suc b) e = let some : eqb (suc b) 0 ≡ false = grind (arith, nat_tests) in ap not some

all_good : (text : List ℕ) → list_all is_good_byte text ≡ true → list_all some_byte text ≡ true
all_good [] e = refl
all_good (b ∷ text) e = let p = and_parts (is_good_byte b) (list_all is_good_byte text) e in and_from (some_byte b) (list_all some_byte text) (good_some b p.0) (all_good text p.1)

decoded_clean : (name : List ℕ) → HasNoZero name → HasNoZero (decoded_simple name)
unfolding decoded_simple is_coded
decoded_clean name own = by (list_all is_good_byte (shortened name) && list_all is_good_piece (pieces (shortened name))) refl
  where
    by : (c : Bool) → (list_all is_good_byte (shortened name) && list_all is_good_piece (pieces (shortened name))) ≡ c → HasNoZero (cond c (last_of (pieces (shortened name))) name)
    by false e = own
    by true e =
        let good = (and_parts (list_all is_good_byte (shortened name)) (list_all is_good_piece (pieces (shortened name))) e).0 in
        tested (last_of (pieces (shortened name))) (last_some (pieces (shortened name)) (pieces_some (shortened name) (all_good (shortened name) good)))

pub simple_clean : (class : Class) (name : List ℕ) → HasNoZero name → HasNoZero (simple_name class name)
unfolding simple_name
simple_clean C name own = own
simple_clean Plain name own = own
simple_clean Cxx name own = own
simple_clean Ada name own = decoded_clean name own
