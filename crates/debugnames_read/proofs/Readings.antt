-- Abbreviations, their attributes and entries, one by one.
use Rattle.std.proofs.Common.{◌≡◌, ℕ, zero, suc, ◌+◌, Bool, true, false, cond, eqb, List, [], ◌∷◌, length, Option, Some, None, Result, Ok, Err, refl, ap, sym, ◌∙◌}
use Rattle.std.specs.Prelude.{find, IsOk, is_ok}
use Rattle.ix_base.specs.declared.fault.Fault.{Fault}
use Rattle.ix_base.specs.Reading.{Input, uleb, ◌>>=◌ as ◌>>=?◌}
use Rattle.index_model.specs.declared.index_code.TheConstants.{NAMES_ABBREVIATION, NAMES_ENTRY_POOL}
use Rattle.index_model.specs.Meaning.{◌>>=◌, fault, holds_or, some_or, wrong_in}
use Rattle.index_model.specs.NameAbbreviations.{Abbreviation, Spec, abbreviations_at, is_form, specs_at}
use Rattle.index_model.specs.NameIndexRead.{NameHit, entries_at, entry_with}
use Rattle.index_model.specs.NameTables.{Tables}
use Rattle.debugnames_read.specs.Abbreviations.{abbreviation_at}
use Rattle.debugnames_read.specs.Entries.{entry_at}
use Rattle.debugnames_read.specs.Results.{list_in}
use Rattle.debugnames_read.specs.Specs.{first_in, is_last, place_behind, spec_at, specs_read}

-- ---- what has no fault

pub ok_is : {A : Type 0} (r : Result A Fault) → IsOk r → (x : A) × (r ≡ Ok x)
ok_is (Ok x) e = (x, refl)
ok_is (Err d) e = absurd cc

pub is_ok_by : {A : Type 0} (r : Result A Fault) (x : A) → r ≡ Ok x → IsOk r
is_ok_by r x e = rw e refl

pub ok_by_none : {A : Type 0} (r : Result A Fault) → wrong_in r ≡ None → IsOk r
ok_by_none (Ok x) e = refl
ok_by_none (Err d) e = absurd cc

-- ---- the attributes of an abbreviation

module _ (place : ℕ) where
  abbrev wrong : Fault
  wrong = fault NAMES_ABBREVIATION place

  abbrev ended_wrong : Result (List Spec × Input) Fault
  ended_wrong = Err wrong

  abbrev with_spec : Spec → Result (List Spec × Input) Fault → Result (List Spec × Input) Fault
  with_spec s r = r >>= λ others. Ok (s ∷ others.0, others.1)

  abbrev ended : Input → Result (List Spec × Input) Fault
  ended i = Ok ([], i)

  abbrev on_spec : ℕ → Spec → Input → Result (List Spec × Input) Fault
  on_spec most s j = cond (is_last s) (ended j) (holds_or (is_form s.form) wrong >>= λ _. with_spec s (specs_at place most j))

  abbrev on_reading : ℕ → Option (Spec × Input) → Result (List Spec × Input) Fault
  on_reading most r = some_or r wrong >>= λ s. on_spec most s.0 s.1

  abbrev spec_by : ℕ → Option (ℕ × Input) → Option (Spec × Input)
  spec_by attribute r = r >>=? λ form. Some (record { attribute = attribute; form = form.0 }, form.1)

  abbrev then_form : ℕ → ℕ → Option (ℕ × Input) → Result (List Spec × Input) Fault
  then_form most attribute r = some_or r wrong >>= λ form. on_spec most (record { attribute = attribute; form = form.0 }) form.1

  pub specs_step : (most : ℕ) (i : Input) → specs_at place (suc most) i ≡ on_reading most (spec_at i)
  unfolding specs_at spec_at
  specs_step most i = by (uleb i)
    where
      by_form : (attribute : ℕ) (r : Option (ℕ × Input)) → then_form most attribute r ≡ on_reading most (spec_by attribute r)
      by_form attribute None = refl
      by_form attribute (Some form) = refl

      by : (r : Option (ℕ × Input)) → (some_or r wrong >>= λ attribute. then_form most attribute.0 (uleb attribute.1)) ≡ on_reading most (r >>=? λ attribute. spec_by attribute.0 (uleb attribute.1))
      by None = refl
      by (Some attribute) = by_form attribute.0 (uleb attribute.1)

  pub no_specs : (i : Input) → specs_at place 0 i ≡ Err wrong
  unfolding specs_at
  no_specs i = refl

  module _ (most : ℕ) (i : Input) where
    pub specs_cut : spec_at i ≡ None → specs_at place (suc most) i ≡ Err wrong
    specs_cut e = specs_step most i ∙ rw e refl

    module _ (s : Spec) (j : Input) (read : spec_at i ≡ Some (s, j)) where
      here : specs_at place (suc most) i ≡ on_spec most s j
      here = specs_step most i ∙ rw read refl

      pub specs_end : is_last s ≡ true → specs_at place (suc most) i ≡ ended j
      specs_end e = here ∙ rw e refl

      pub specs_form : is_last s ≡ false → is_form s.form ≡ false → specs_at place (suc most) i ≡ Err wrong
      specs_form e f = here ∙ rw (e, f) refl

      pub specs_more : is_last s ≡ false → is_form s.form ≡ true → specs_at place (suc most) i ≡ with_spec s (specs_at place most j)
      specs_more e f = here ∙ rw (e, f) refl

      -- attributes without a fault have forms that are known, and those behind the first have no fault
      pub specs_right : is_last s ≡ false → IsOk (specs_at place (suc most) i) → is_form s.form ≡ true
      specs_right e ok = by (is_form s.form) refl
        where
          by : (b : Bool) → is_form s.form ≡ b → b ≡ true
          by true f = refl
          by false f = absurd (none (sym (ap is_ok (specs_form e f)) ∙ ok))
            where
              none : false ≡ true → ⊥
              none e = cc

  place_with : (s : Spec) (r : Result (List Spec × Input) Fault) → place_behind (with_spec s r) ≡ place_behind r
  place_with s (Ok x) = refl
  place_with s (Err d) = refl

  ok_with : (s : Spec) (r : Result (List Spec × Input) Fault) → is_ok (with_spec s r) ≡ is_ok r
  ok_with s (Ok x) = refl
  ok_with s (Err d) = refl

  pub first_with : (s : Spec) (r : Result (List Spec × Input) Fault) → IsOk r → first_in (with_spec s r) ≡ s ∷ first_in r
  first_with s (Ok x) ok = refl
  first_with s (Err d) ok = absurd cc

  module _ (most : ℕ) (i : Input) (s : Spec) (j : Input) (read : spec_at i ≡ Some (s, j)) (e : is_last s ≡ false) where
    pub place_goes : is_form s.form ≡ true → place_behind (specs_at place (suc most) i) ≡ place_behind (specs_at place most j)
    place_goes f = ap place_behind (specs_more most i s j read e f) ∙ place_with s (specs_at place most j)

    pub ok_goes : IsOk (specs_at place (suc most) i) → IsOk (specs_at place most j)
    ok_goes ok = sym (ok_with s (specs_at place most j)) ∙ ap is_ok (sym (specs_more most i s j read e (specs_right most i s j read e ok))) ∙ ok

    pub first_goes : IsOk (specs_at place (suc most) i) → first_in (specs_at place (suc most) i) ≡ s ∷ first_in (specs_at place most j)
    first_goes ok = ap first_in (specs_more most i s j read e (specs_right most i s j read e ok)) ∙ first_with s (specs_at place most j) (ok_goes ok)

-- attributes without a fault are the same whatever the abbreviation
pub other_place : (p q most : ℕ) (i : Input) → IsOk (specs_at p most i) → specs_at q most i ≡ specs_at p most i
other_place p q zero i ok = absurd (none (sym (ap is_ok (no_specs p i)) ∙ ok))
  where
    none : false ≡ true → ⊥
    none e = cc
other_place p q (suc most) i ok = by (λ j more. other_place p q most j more) (spec_at i) refl
  where
    none : false ≡ true → ⊥
    none e = cc

    by_last : ((k : Input) → IsOk (specs_at p most k) → specs_at q most k ≡ specs_at p most k) → (s : Spec) (j : Input) → spec_at i ≡ Some (s, j) → (b : Bool) → is_last s ≡ b → specs_at q (suc most) i ≡ specs_at p (suc most) i
    by_last later s j read true e = specs_end q most i s j read e ∙ sym (specs_end p most i s j read e)
    by_last later s j read false e =
        let f = specs_right p most i s j read e ok in
        specs_more q most i s j read e f ∙ ap (with_spec p s) (later j (ok_goes p most i s j read e ok)) ∙ sym (specs_more p most i s j read e f)

    by : ((k : Input) → IsOk (specs_at p most k) → specs_at q most k ≡ specs_at p most k) → (r : Option (Spec × Input)) → spec_at i ≡ r → specs_at q (suc most) i ≡ specs_at p (suc most) i
    by later None e = absurd (none (sym (ap is_ok (specs_cut p most i e)) ∙ ok))
    by later (Some s) e = by_last later s.0 s.1 e (is_last s.0) refl

-- attributes without a fault have an end
pub specs_there : (p most : ℕ) (i : Input) → IsOk (specs_at p (suc most) i) → spec_at i ≡ None → ⊥
specs_there p most i ok e = let wrong : IsOk (ended_wrong p) = ap is_ok (sym (specs_cut p most i e)) ∙ ok in absurd cc

pub specs_out : (p : ℕ) (i : Input) → IsOk (specs_at p 0 i) → ⊥
specs_out p i ok = let wrong : IsOk (ended_wrong p) = ap is_ok (sym (no_specs p i)) ∙ ok in absurd cc

-- attributes that were passed
module _ (p : ℕ) (i j : Input) (passed : place_behind (specs_at p (length i.rest + 1) i) ≡ Ok j) where
  was_ok : (r : Result (List Spec × Input) Fault) → place_behind r ≡ Ok j → IsOk r
  was_ok (Ok x) e = refl
  was_ok (Err d) e = absurd cc

  same_specs : specs_read i ≡ specs_at p (length i.rest + 1) i
  same_specs = other_place p 0 (length i.rest + 1) i (was_ok (specs_at p (length i.rest + 1) i) passed)

  pub specs_whole : IsOk (specs_read i)
  specs_whole = ap is_ok same_specs ∙ was_ok (specs_at p (length i.rest + 1) i) passed

  abbrev read_to : List Spec → Input → Result (List Spec × Input) Fault
  read_to ss k = Ok (ss, k)

  pub specs_found : specs_at p (length i.rest + 1) i ≡ read_to (first_in (specs_read i)) j
  specs_found = by (specs_at p (length i.rest + 1) i) passed ∙ ap (λ (r : Result (List Spec × Input) Fault). read_to (first_in r) j) (sym same_specs)
    where
      by : (r : Result (List Spec × Input) Fault) → place_behind r ≡ Ok j → r ≡ read_to (first_in r) j
      by (Ok x) e = let same : x.1 ≡ j = cc in ap (read_to x.0) same
      by (Err d) e = absurd cc

-- a fault that has the code of abbreviations
abbrev nowhere : Fault → Result Input Fault
nowhere d = Err d

pub place_of_wrong : (d : Fault) → d.code ≡ NAMES_ABBREVIATION → nowhere (fault NAMES_ABBREVIATION d.at) ≡ nowhere d
place_of_wrong d e = ap (λ (code : ℕ). nowhere (fault code d.at)) (sym e)

-- ---- abbreviations

abbrev with_abbreviation : Abbreviation → Result (List Abbreviation) Fault → Result (List Abbreviation) Fault
with_abbreviation a r = r >>= λ others. Ok (a ∷ others)

abbrev behind : ℕ → Option (Abbreviation × Input) → Result (List Abbreviation) Fault
behind most None = Ok []
behind most (Some a) = with_abbreviation a.0 (abbreviations_at most a.1)

abbrev bad_at : Input → Fault
bad_at i = fault NAMES_ABBREVIATION i.at

abbrev made : ℕ → ℕ → List Spec → Abbreviation
made code tag specs = record { code = code; tag = tag; specs = specs }

abbrev nothing : Result (Option (Abbreviation × Input)) Fault
nothing = Ok None

abbrev one_by : ℕ → ℕ → Result (List Spec × Input) Fault → Result (Option (Abbreviation × Input)) Fault
one_by code tag r = r >>= λ specs. Ok (Some (made code tag specs.0, specs.1))

abbrev all_by : ℕ → ℕ → ℕ → Result (List Spec × Input) Fault → Result (List Abbreviation) Fault
all_by most code tag r = r >>= λ specs. with_abbreviation (made code tag specs.0) (abbreviations_at most specs.1)

module _ (i : Input) where
  abbrev one_tag : ℕ → Option (ℕ × Input) → Result (Option (Abbreviation × Input)) Fault
  one_tag code r = some_or r (bad_at i) >>= λ tag. one_by code tag.0 (specs_at i.at (length tag.1.rest + 1) tag.1)

  abbrev all_tag : ℕ → ℕ → Option (ℕ × Input) → Result (List Abbreviation) Fault
  all_tag most code r = some_or r (bad_at i) >>= λ tag. all_by most code tag.0 (specs_at i.at (length tag.1.rest + 1) tag.1)

pub abbreviations_step : (most : ℕ) (i : Input) → abbreviations_at (suc most) i ≡ (abbreviation_at i >>= behind most)
unfolding abbreviations_at abbreviation_at
abbreviations_step most i = by (uleb i)
  where
    by_specs : (code tag : ℕ) (r : Result (List Spec × Input) Fault) → all_by most code tag r ≡ (one_by code tag r >>= behind most)
    by_specs code tag (Ok x) = refl
    by_specs code tag (Err d) = refl

    by_tag : (code : ℕ) (r : Option (ℕ × Input)) → all_tag i most code r ≡ (one_tag i code r >>= behind most)
    by_tag code None = refl
    by_tag code (Some tag) = by_specs code tag.0 (specs_at i.at (length tag.1.rest + 1) tag.1)

    by_code : (b : Bool) (code : ℕ) (j : Input) → cond b (Ok []) (all_tag i most code (uleb j)) ≡ (cond b nothing (one_tag i code (uleb j)) >>= behind most)
    by_code true code j = refl
    by_code false code j = by_tag code (uleb j)

    by : (r : Option (ℕ × Input)) → (some_or r (bad_at i) >>= λ code. cond (eqb code.0 0) (Ok []) (all_tag i most code.0 (uleb code.1))) ≡ ((some_or r (bad_at i) >>= λ code. cond (eqb code.0 0) nothing (one_tag i code.0 (uleb code.1))) >>= behind most)
    by None = refl
    by (Some code) = by_code (eqb code.0 0) code.0 code.1

pub no_abbreviations : (i : Input) → abbreviations_at 0 i ≡ Err (fault NAMES_ABBREVIATION i.at)
unfolding abbreviations_at
no_abbreviations i = refl

-- an abbreviation that was read
pub abbreviation_found : (i k l j : Input) (code tag : ℕ) → uleb i ≡ Some (code, k) → eqb code 0 ≡ false → uleb k ≡ Some (tag, l) → place_behind (specs_at i.at (length l.rest + 1) l) ≡ Ok j → abbreviation_at i ≡ Ok (Some (record { code = code; tag = tag; specs = first_in (specs_read l) }, j))
unfolding abbreviation_at
abbreviation_found i k l j code tag e more f passed = rw (e, more, f, specs_found i.at l j passed) refl

module _ (most : ℕ) (i : Input) where
  pub abbreviations_wrong : (d : Fault) → abbreviation_at i ≡ Err d → abbreviations_at (suc most) i ≡ Err d
  abbreviations_wrong d e = abbreviations_step most i ∙ rw e refl

  pub abbreviations_end : abbreviation_at i ≡ Ok None → abbreviations_at (suc most) i ≡ Ok []
  abbreviations_end e = abbreviations_step most i ∙ rw e refl

  module _ (a : Abbreviation) (j : Input) (read : abbreviation_at i ≡ Ok (Some (a, j))) where
    pub abbreviations_more : abbreviations_at (suc most) i ≡ with_abbreviation a (abbreviations_at most j)
    abbreviations_more = abbreviations_step most i ∙ rw read refl

    wrong_with : (r : Result (List Abbreviation) Fault) → wrong_in (with_abbreviation a r) ≡ wrong_in r
    wrong_with (Ok x) = refl
    wrong_with (Err d) = refl

    ok_with_abbreviation : (r : Result (List Abbreviation) Fault) → is_ok (with_abbreviation a r) ≡ is_ok r
    ok_with_abbreviation (Ok x) = refl
    ok_with_abbreviation (Err d) = refl

    list_with : (r : Result (List Abbreviation) Fault) → IsOk r → list_in (with_abbreviation a r) ≡ a ∷ list_in r
    list_with (Ok x) ok = refl
    list_with (Err d) ok = absurd cc

    pub wrong_goes : wrong_in (abbreviations_at (suc most) i) ≡ wrong_in (abbreviations_at most j)
    wrong_goes = ap wrong_in abbreviations_more ∙ wrong_with (abbreviations_at most j)

    pub abbreviations_ok : IsOk (abbreviations_at (suc most) i) → IsOk (abbreviations_at most j)
    abbreviations_ok ok = sym (ok_with_abbreviation (abbreviations_at most j)) ∙ ap is_ok (sym abbreviations_more) ∙ ok

    pub abbreviations_list : IsOk (abbreviations_at (suc most) i) → list_in (abbreviations_at (suc most) i) ≡ a ∷ list_in (abbreviations_at most j)
    abbreviations_list ok = ap list_in abbreviations_more ∙ list_with (abbreviations_at most j) (abbreviations_ok ok)

-- abbreviations without a fault have an end
abbrev all_wrong : Fault → Result (List Abbreviation) Fault
all_wrong d = Err d

pub abbreviations_there : (most : ℕ) (i : Input) (d : Fault) → IsOk (abbreviations_at (suc most) i) → abbreviation_at i ≡ Err d → ⊥
abbreviations_there most i d ok e = let wrong : IsOk (all_wrong d) = ap is_ok (sym (abbreviations_wrong most i d e)) ∙ ok in absurd cc

pub abbreviations_out : (i : Input) → IsOk (abbreviations_at 0 i) → ⊥
abbreviations_out i ok = let wrong : IsOk (all_wrong (fault NAMES_ABBREVIATION i.at)) = ap is_ok (sym (no_abbreviations i)) ∙ ok in absurd cc

module _ (code : ℕ) (a : Abbreviation) (all others : List Abbreviation) (list : all ≡ a ∷ others) where
  abbrev with_code : List Abbreviation → Option Abbreviation
  with_code xs = find (λ (x : Abbreviation). eqb x.code code) xs

  pub find_here : eqb a.code code ≡ true → with_code all ≡ Some a
  find_here e = rw (list, e) refl

  pub find_on : eqb a.code code ≡ false → with_code all ≡ with_code others
  find_on e = rw (list, e) refl

-- ---- entries

abbrev with_hit : NameHit → Result (List NameHit) Fault → Result (List NameHit) Fault
with_hit h r = r >>= λ others. Ok (h ∷ others)

module _ (t : Tables) (abbrevs : List Abbreviation) where
  abbrev behind_entry : ℕ → Option (NameHit × Input) → Result (List NameHit) Fault
  behind_entry most None = Ok []
  behind_entry most (Some h) = with_hit h.0 (entries_at t abbrevs most h.1)

  abbrev bad_entry : Input → Fault
  bad_entry i = fault NAMES_ENTRY_POOL i.at

  abbrev no_entry : Result (Option (NameHit × Input)) Fault
  no_entry = Ok None

  abbrev one_entry : Fault → Option (NameHit × Input) → Result (Option (NameHit × Input)) Fault
  one_entry bad r = some_or r bad >>= λ h. Ok (Some h)

  abbrev all_entries : ℕ → Fault → Option (NameHit × Input) → Result (List NameHit) Fault
  all_entries most bad r = some_or r bad >>= λ h. with_hit h.0 (entries_at t abbrevs most h.1)

  pub entries_step : (most : ℕ) (i : Input) → entries_at t abbrevs (suc most) i ≡ (entry_at t abbrevs i >>= behind_entry most)
  unfolding entries_at entry_at
  entries_step most i = by (uleb i)
    where
      by_entry : (r : Option (NameHit × Input)) → all_entries most (bad_entry i) r ≡ (one_entry (bad_entry i) r >>= behind_entry most)
      by_entry None = refl
      by_entry (Some h) = refl

      by_code : (b : Bool) (r : Option (NameHit × Input)) → cond b (Ok []) (all_entries most (bad_entry i) r) ≡ (cond b no_entry (one_entry (bad_entry i) r) >>= behind_entry most)
      by_code true r = refl
      by_code false r = by_entry r

      by : (r : Option (ℕ × Input)) → (some_or r (bad_entry i) >>= λ code. cond (eqb code.0 0) (Ok []) (all_entries most (bad_entry i) (entry_with t abbrevs code.0 code.1))) ≡ ((some_or r (bad_entry i) >>= λ code. cond (eqb code.0 0) no_entry (one_entry (bad_entry i) (entry_with t abbrevs code.0 code.1))) >>= behind_entry most)
      by None = refl
      by (Some code) = by_code (eqb code.0 0) (entry_with t abbrevs code.0 code.1)

  pub no_entries : (i : Input) → entries_at t abbrevs 0 i ≡ Err (fault NAMES_ENTRY_POOL i.at)
  unfolding entries_at
  no_entries i = refl

  module _ (most : ℕ) (i : Input) where
    pub entries_wrong : (d : Fault) → entry_at t abbrevs i ≡ Err d → entries_at t abbrevs (suc most) i ≡ Err d
    entries_wrong d e = entries_step most i ∙ rw e refl

    pub entries_end : entry_at t abbrevs i ≡ Ok None → entries_at t abbrevs (suc most) i ≡ Ok []
    entries_end e = entries_step most i ∙ rw e refl

    module _ (h : NameHit) (j : Input) (read : entry_at t abbrevs i ≡ Ok (Some (h, j))) where
      pub entries_more : entries_at t abbrevs (suc most) i ≡ with_hit h (entries_at t abbrevs most j)
      entries_more = entries_step most i ∙ rw read refl

      wrong_with_hit : (r : Result (List NameHit) Fault) → wrong_in (with_hit h r) ≡ wrong_in r
      wrong_with_hit (Ok x) = refl
      wrong_with_hit (Err d) = refl

      ok_with_hit : (r : Result (List NameHit) Fault) → is_ok (with_hit h r) ≡ is_ok r
      ok_with_hit (Ok x) = refl
      ok_with_hit (Err d) = refl

      list_with_hit : (r : Result (List NameHit) Fault) → IsOk r → list_in (with_hit h r) ≡ h ∷ list_in r
      list_with_hit (Ok x) ok = refl
      list_with_hit (Err d) ok = absurd cc

      pub entries_wrong_goes : wrong_in (entries_at t abbrevs (suc most) i) ≡ wrong_in (entries_at t abbrevs most j)
      entries_wrong_goes = ap wrong_in entries_more ∙ wrong_with_hit (entries_at t abbrevs most j)

      pub entries_ok : IsOk (entries_at t abbrevs (suc most) i) → IsOk (entries_at t abbrevs most j)
      entries_ok ok = sym (ok_with_hit (entries_at t abbrevs most j)) ∙ ap is_ok (sym entries_more) ∙ ok

      pub entries_back : IsOk (entries_at t abbrevs most j) → IsOk (entries_at t abbrevs (suc most) i)
      entries_back ok = ap is_ok entries_more ∙ ok_with_hit (entries_at t abbrevs most j) ∙ ok

      pub entries_list : IsOk (entries_at t abbrevs (suc most) i) → list_in (entries_at t abbrevs (suc most) i) ≡ h ∷ list_in (entries_at t abbrevs most j)
      entries_list ok = ap list_in entries_more ∙ list_with_hit (entries_at t abbrevs most j) (entries_ok ok)
