-- Values are read from the bytes that are left alone: where these are counted from changes only the place behind the value.
use Rattle.std.proofs.Common.{◌≡◌, ℕ, ◌+◌, ◌≤◌, ℤ, Bool, true, false, cond, leb, eqb, ◌==◌, if◌then◌else◌, List, [], ◌∷◌, length, drop, take, Option, Some, None, Result, Ok, Err, refl, ap, sym, ◌∙◌, arith, length-drop}
use Rattle.std.proofs.lemmas.Option.{same_Some}
use Rattle.ix_base.specs.declared.code.TheConstants.{TRUNCATED, UNKNOWN_FORM, SUPPLEMENTARY}
use Rattle.ix_base.specs.Reading.{Input, past, bytes, skip, number, uleb, sleb, zstr, offset, leb64, signed_leb64, before_zero, ◌>>=◌ as ◌>>=?◌}
use Rattle.index_model.specs.Meaning.{◌>>=◌, some_or}
use Rattle.index_model.specs.Forms.{Value, Addr, Unsigned, Str, LineStr, StrIndex, AddrIndex, Near, Far, Signature, Offset, RangeIndex, ListIndex, Signed, Flag, Wide, Inline, Block, Reader, by, is_set, refused, plain_forms, reader_of, indirect, value_at}
use Rattle.index_model.proofs.Meanings.{bind_some, bind_ok}
use Rattle.entry_scan.specs.Tokens.{joint}
use Rattle.entry_scan.proofs.Takes.{found}

-- ---- readers of numbers and texts

-- what was read, where the places are counted from another start
abbrev pub moved : {A : Type 0} → ℕ → Option (A × Input) → Option (A × Input)
moved n None = None
moved n (Some x) = Some (x.0, joint n x.1)

pub record IsSteady {A : Type 0} (read : Input → Option (A × Input)) : Type 0 where
  pub slides : (n : ℕ) (i : Input) → read (joint n i) ≡ moved n (read i)
  pub shrinks : (i : Input) (x : A × Input) → read i ≡ Some x → length x.1.rest ≤ length i.rest

-- a value, and how many bytes it takes
abbrev placed : {A : Type 0} → Option (A × ℕ) → Input → Option (A × Input)
placed r i = r >>=? λ x. Some (x.0, past x.1 i)

past_joint : (n k : ℕ) (i : Input) → past k (joint n i) ≡ joint n (past k i)
past_joint n k i = let e : n + i.at + k ≡ n + (i.at + k) = omega arith in ap (λ (a : ℕ). let made : Input = record { at = a; rest = drop k i.rest } in made) e

placed_slides : {A : Type 0} (r : Option (A × ℕ)) (n : ℕ) (i : Input) → placed r (joint n i) ≡ moved n (placed r i)
placed_slides None n i = refl
placed_slides (Some x) n i = ap (λ (j : Input). found (x.0, j)) (past_joint n x.1 i)

placed_shrinks : {A : Type 0} (r : Option (A × ℕ)) (i : Input) (x : A × Input) → placed r i ≡ Some x → length x.1.rest ≤ length i.rest
placed_shrinks None i x e = absurd cc
placed_shrinks {A = A} (Some y) i x e =
    let made : A × Input = (y.0, past y.1 i) in
    let r = ap (λ (q : A × Input). length q.1.rest) (same_Some made x e) in
    omega (arith, length-drop y.1 i.rest)

-- a reader that takes so many bytes as it finds in them
steady_by : {A : Type 0} (read : Input → Option (A × Input)) (count : List ℕ → Option (A × ℕ)) → ((i : Input) → read i ≡ placed (count i.rest) i) → IsSteady read
steady_by read count e = record {
  slides = λ n i. e (joint n i) ∙ placed_slides (count i.rest) n i ∙ ap (moved n) (sym (e i));
  shrinks = λ i x h. placed_shrinks (count i.rest) i x (sym (e i) ∙ h);
}

counted_or : {A : Type 0} (b : Bool) (x : A) (k : ℕ) (i : Input) → cond b (Some (x, past k i)) None ≡ placed (cond b (Some (x, k)) None) i
counted_or true x k i = refl
counted_or false x k i = refl

-- the bytes alone
abbrev alone : List ℕ → Input
alone bs = record { at = 0; rest = bs }

abbrev with_count : {A : Type 0} → ℕ → Option (A × Input) → Option (A × ℕ)
with_count k None = None
with_count k (Some x) = Some (x.0, k)

taken_or : {A : Type 0} (b : Bool) (x : A) (k : ℕ) (i : Input) → cond b (Some (x, past k i)) None ≡ placed (with_count k (cond b (Some (x, past k (alone i.rest))) None)) i
taken_or true x k i = refl
taken_or false x k i = refl

pub number_steady : (k : ℕ) → IsSteady (number k)
number_steady k = steady_by (number k) (λ bs. with_count k (number k (alone bs))) (λ i. taken_or (leb k (length i.rest)) _ k i)

bytes_steady : (k : ℕ) → IsSteady (bytes k)
bytes_steady k = steady_by (bytes k) (λ bs. cond (leb k (length bs)) (Some (take k bs, k)) None) (λ i. counted_or (leb k (length i.rest)) (take k i.rest) k i)

abbrev empty : Type 0
empty = record {}

skip_steady : (k : ℕ) → IsSteady (skip k)
skip_steady k = steady_by (skip k) (λ bs. cond (leb k (length bs)) (Some (record {}, k)) None) (λ i. counted_or {A = empty} (leb k (length i.rest)) (record {}) k i)

pub uleb_steady : IsSteady uleb
uleb_steady = steady_by uleb leb64 (λ i. refl)

sleb_steady : IsSteady sleb
sleb_steady = steady_by sleb signed_leb64 (λ i. refl)

text_counted : (r : Option (List ℕ)) (i : Input) → (r >>=? λ text. Some (text, past (length text + 1) i)) ≡ placed (r >>=? λ text. Some (text, length text + 1)) i
text_counted None i = refl
text_counted (Some text) i = refl

zstr_steady : IsSteady zstr
zstr_steady = steady_by zstr (λ bs. before_zero bs >>=? λ text. Some (text, length text + 1)) (λ i. text_counted (before_zero i.rest) i)

abbrev nothing : Input → Option (record {} × Input)
nothing i = Some (record {}, i)

nothing_steady : IsSteady nothing
nothing_steady = record { slides = λ n i. refl; shrinks = λ i x e. let made : empty × Input = (record {}, i) in let r = ap (λ (q : empty × Input). length q.1.rest) (same_Some made x e) in omega arith }

offset_steady : (wide : Bool) → IsSteady (offset wide)
offset_steady wide = number_steady (cond wide 8 4)

either_steady : {A : Type 0} (b : Bool) (f g : Input → Option (A × Input)) → IsSteady f → IsSteady g → IsSteady (λ i. cond b (f i) (g i))
either_steady true f g p q = p
either_steady false f g p q = q

reference_steady : (version : ℕ) (wide : Bool) → IsSteady (λ i. if version == 2 then number 8 i else offset wide i)
reference_steady version wide = either_steady (eqb version 2) (number 8) (offset wide) (number_steady 8) (offset_steady wide)

-- one reader, and then another that goes by what the first gave
then_slides : {A B : Type 0} (g : A → Input → Option (B × Input)) → ((a : A) → IsSteady (g a)) → (r : Option (A × Input)) (n : ℕ) → (moved n r >>=? λ x. g x.0 x.1) ≡ moved n (r >>=? λ x. g x.0 x.1)
then_slides g q None n = refl
then_slides g q (Some x) n = (q x.0).slides n x.1

then_steady : {A B : Type 0} (f : Input → Option (A × Input)) (g : A → Input → Option (B × Input)) → IsSteady f → ((a : A) → IsSteady (g a)) → IsSteady (λ i. f i >>=? λ x. g x.0 x.1)
then_steady {A = A} {B = B} f g p q = record {
  slides = λ n i. ap (λ (r : Option (A × Input)). r >>=? λ x. g x.0 x.1) (p.slides n i) ∙ then_slides g q (f i) n;
  shrinks = λ i x e. let h = bind_some (f i) (λ y. g y.0 y.1) x e in let a = p.shrinks i h.0 h.1 in let b = (q h.0.0).shrinks h.0.1 x h.2 in omega arith;
}

counted_steady : {count : Input → Option (ℕ × Input)} → IsSteady count → IsSteady (λ i. count i >>=? λ n. bytes n.0 n.1)
counted_steady {count} p = then_steady count bytes p bytes_steady

-- ---- readers that say what is wrong

abbrev pub slid : {A : Type 0} → ℕ → Result (A × Input) ℕ → Result (A × Input) ℕ
slid n (Ok x) = Ok (x.0, joint n x.1)
slid n (Err code) = Err code

pub record IsSound {A : Type 0} (read : Input → Result (A × Input) ℕ) : Type 0 where
  pub slides : (n : ℕ) (i : Input) → read (joint n i) ≡ slid n (read i)
  pub shrinks : (i : Input) (x : A × Input) → read i ≡ Ok x → length x.1.rest ≤ length i.rest

pub some_ok : {A E : Type 0} (r : Option A) (e : E) (x : A) → some_or r e ≡ Ok x → r ≡ Some x
some_ok (Some y) e x h = cc
some_ok None e x h = absurd cc

abbrev pub done : {A : Type 0} → A → Result A ℕ
done x = Ok x

pub same_done : {A : Type 0} (x y : A) → done x ≡ done y → x ≡ y
same_done x y e = cc

pub given_sound : {A : Type 0} (a : A) → IsSound (λ i. Ok (a, i))
given_sound {A = A} a = record { slides = λ n i. refl; shrinks = λ i x e. let made : A × Input = (a, i) in let r = ap (λ (q : A × Input). length q.1.rest) (same_done made x e) in omega arith }

refused_sound : (code : ℕ) → IsSound (refused code)
refused_sound code = record { slides = λ n i. refl; shrinks = λ i x e. absurd cc }

-- a reader of a number or a text, and then one that goes by it
read_slides : {A B : Type 0} (code : ℕ) (g : A → Input → Result (B × Input) ℕ) → ((a : A) → IsSound (g a)) → (r : Option (A × Input)) (n : ℕ) → (some_or (moved n r) code >>= λ x. g x.0 x.1) ≡ slid n (some_or r code >>= λ x. g x.0 x.1)
read_slides code g q None n = refl
read_slides code g q (Some x) n = (q x.0).slides n x.1

read_sound : {A B : Type 0} (code : ℕ) (f : Input → Option (A × Input)) (g : A → Input → Result (B × Input) ℕ) → IsSteady f → ((a : A) → IsSound (g a)) → IsSound (λ i. some_or (f i) code >>= λ x. g x.0 x.1)
read_sound {A = A} {B = B} code f g p q = record {
  slides = λ n i. ap (λ (r : Option (A × Input)). some_or r code >>= λ x. g x.0 x.1) (p.slides n i) ∙ read_slides code g q (f i) n;
  shrinks = λ i x e. let h = bind_ok (some_or (f i) code) (λ y. g y.0 y.1) x e in let a = p.shrinks i h.0 (some_ok (f i) code h.0 h.1) in let b = (q h.0.0).shrinks h.0.1 x h.2 in omega arith;
}

bind_slides : {A B : Type 0} (g : A → Input → Result (B × Input) ℕ) → ((a : A) → IsSound (g a)) → (r : Result (A × Input) ℕ) (n : ℕ) → (slid n r >>= λ x. g x.0 x.1) ≡ slid n (r >>= λ x. g x.0 x.1)
bind_slides g q (Err code) n = refl
bind_slides g q (Ok x) n = (q x.0).slides n x.1

pub bind_sound : {A B : Type 0} (f : Input → Result (A × Input) ℕ) (g : A → Input → Result (B × Input) ℕ) → IsSound f → ((a : A) → IsSound (g a)) → IsSound (λ i. f i >>= λ x. g x.0 x.1)
bind_sound {A = A} {B = B} f g p q = record {
  slides = λ n i. ap (λ (r : Result (A × Input) ℕ). r >>= λ x. g x.0 x.1) (p.slides n i) ∙ bind_slides g q (f i) n;
  shrinks = λ i x e. let h = bind_ok (f i) (λ y. g y.0 y.1) x e in let a = p.shrinks i h.0 h.1 in let b = (q h.0.0).shrinks h.0.1 x h.2 in omega arith;
}

by_sound : {A : Type 0} {read : Input → Option (A × Input)} → IsSteady read → (make : A → Value) → IsSound (by read make)
by_sound {read} p make = read_sound TRUNCATED read (λ a i. Ok (make a, i)) p (λ a. given_sound (make a))

-- ---- the table of forms

abbrev AllSound : List (ℕ × Reader) → Type 0
AllSound [] = Unit {0}
AllSound (row ∷ rows) = IsSound row.1 × AllSound rows

choice_sound : (b : Bool) (f g : Reader) → IsSound f → IsSound g → IsSound (cond b f g)
choice_sound true f g p q = p
choice_sound false f g p q = q

reader_sound : (rows : List (ℕ × Reader)) → AllSound rows → (form : ℕ) → IsSound (reader_of rows form)
reader_sound [] all form = refused_sound UNKNOWN_FORM
reader_sound (row ∷ rows) all form = choice_sound (eqb row.0 form) row.1 (reader_of rows form) all.0 (reader_sound rows all.1 form)

plain_sound : (version : ℕ) (wide : Bool) → AllSound (plain_forms version wide)
plain_sound version wide = (
  by_sound nothing_steady (λ _. Flag true),
  (
    by_sound (number_steady 1) Unsigned,
    (
      by_sound (number_steady 1) (λ b. Flag (is_set b)),
      (
        by_sound (number_steady 1) Near,
        (
          by_sound (number_steady 1) StrIndex,
          (
            by_sound (number_steady 1) AddrIndex,
            (
              by_sound (number_steady 2) Unsigned,
              (
                by_sound (number_steady 2) Near,
                (
                  by_sound (number_steady 2) StrIndex,
                  (
                    by_sound (number_steady 2) AddrIndex,
                    (
                      by_sound (number_steady 3) StrIndex,
                      (
                        by_sound (number_steady 3) AddrIndex,
                        (
                          by_sound (number_steady 4) Unsigned,
                          (
                            by_sound (number_steady 4) Near,
                            (
                              by_sound (number_steady 4) StrIndex,
                              (
                                by_sound (number_steady 4) AddrIndex,
                                (
                                  by_sound (number_steady 8) Addr,
                                  (
                                    by_sound (number_steady 8) Unsigned,
                                    (
                                      by_sound (number_steady 8) Near,
                                      (
                                        by_sound (number_steady 8) Signature,
                                        (
                                          by_sound (skip_steady 16) (λ _. Wide),
                                          (
                                            by_sound (offset_steady wide) Str,
                                            (
                                              by_sound (reference_steady version wide) Far,
                                              (
                                                by_sound (offset_steady wide) Offset,
                                                (
                                                  by_sound (offset_steady wide) LineStr,
                                                  (
                                                    by_sound uleb_steady Unsigned,
                                                    (
                                                      by_sound uleb_steady Near,
                                                      (
                                                        by_sound uleb_steady StrIndex,
                                                        (
                                                          by_sound uleb_steady AddrIndex,
                                                          (
                                                            by_sound uleb_steady ListIndex,
                                                            (
                                                              by_sound uleb_steady RangeIndex,
                                                              (
                                                                by_sound sleb_steady Signed,
                                                                (
                                                                  by_sound (counted_steady (number_steady 1)) Block,
                                                                  (
                                                                    by_sound (counted_steady (number_steady 2)) Block,
                                                                    (
                                                                      by_sound (counted_steady (number_steady 4)) Block,
                                                                      (
                                                                        by_sound (counted_steady uleb_steady) Block,
                                                                        (
                                                                          by_sound (counted_steady uleb_steady) Block,
                                                                          (
                                                                            by_sound zstr_steady Inline,
                                                                            (
                                                                              refused_sound SUPPLEMENTARY,
                                                                              (
                                                                                refused_sound SUPPLEMENTARY,
                                                                                (
                                                                                  refused_sound SUPPLEMENTARY,
                                                                                  tt,
                                                                                ),
                                                                              ),
                                                                            ),
                                                                          ),
                                                                        ),
                                                                      ),
                                                                    ),
                                                                  ),
                                                                ),
                                                              ),
                                                            ),
                                                          ),
                                                        ),
                                                      ),
                                                    ),
                                                  ),
                                                ),
                                              ),
                                            ),
                                          ),
                                        ),
                                      ),
                                    ),
                                  ),
                                ),
                              ),
                            ),
                          ),
                        ),
                      ),
                    ),
                  ),
                ),
              ),
            ),
          ),
        ),
      ),
    ),
  ),
)

indirect_sound : (version : ℕ) (wide : Bool) → IsSound (indirect version wide)
unfolding indirect
indirect_sound version wide = read_sound TRUNCATED uleb (λ form. reader_of (plain_forms version wide) form) uleb_steady (reader_sound (plain_forms version wide) (plain_sound version wide))

constant_sound : (constant : ℤ) → IsSound (λ i. Ok (Signed constant, i))
constant_sound constant = given_sound (Signed constant)

pub value_sound : (version : ℕ) (wide : Bool) (form : ℕ) (constant : ℤ) → IsSound (value_at version wide form constant)
unfolding value_at
value_sound version wide form constant =
    reader_sound ((0x16, indirect version wide) ∷ (0x21, λ i. Ok (Signed constant, i)) ∷ plain_forms version wide) (indirect_sound version wide, (constant_sound constant, plain_sound version wide)) form
