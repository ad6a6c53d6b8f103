-- The entries of a run, link by link, and the indexed entries of a whole file.
use Rattle.std.proofs.Common.{◌≡◌, ℕ, suc, ◌+◌, ◌<◌, List, [], ◌∷◌, ◌++◌, append_assoc, append-nil, drop, flat_map, get_or, length, unwrap_or, Option, Some, Result, Ok, Err, refl, sym, ap, subst, ◌∙◌, arith}
use Rattle.std.proofs.Math.Seq.{drop-cons}
use Rattle.std.specs.Prelude.{slice_get, IsOkAnd}
use Rattle.std.specs.List.{AllZip}
use Rattle.std.proofs.lemmas.List.Concat.{flat_map-append}
use Rattle.ix_base.specs.declared.fault.Fault.{Fault}
use Rattle.file_image.specs.Images.{Image}
use Rattle.index_model.specs.declared.entry.Entry.{Entry}
use Rattle.index_model.specs.declared.shard.Linked.{Linked}
use Rattle.index_model.specs.declared.shard.LinkedEntry.{LinkedEntry}
use Rattle.index_model.specs.declared.shard.Shard.{Shard}
use Rattle.index_model.specs.Entries.{entries_of, entries_of_link}
use Rattle.index_model.specs.Faults.{program_of, links_of}
use Rattle.index_model.specs.Links.{Link, followed, indexed_in, links_in}
use Rattle.index_model.specs.Meaning.{◌>>=◌, each}
use Rattle.index_model.specs.Program.{Walked, Program}
use Rattle.index_model.specs.Shards.{AreShardsOf, IsLinked, IsLinkedEntryOf, StandsFor}
use Rattle.index_model.proofs.Meanings.{same_ok}
use Rattle.index_model.proofs.ShardRoots.{joined}
use Rattle.shard_build.specs.Entries.{AreShardsOfFile}
use Rattle.parent_resolve.proofs.RunLinks.{RunAt, each_append, run_at}
use Rattle.range_lists.specs.Units.{AreLinkedOf, IsLinkedRun}
use Rattle.range_lists.proofs.Runs.{zip_length}
use Rattle.qualified_names.specs.Files.{all_linked, AreLinkedOfFile}
use Rattle.qualified_names.specs.Indexed.{IsIndexed}
use Rattle.qualified_names.proofs.IndexedLinks.{all_of, headed, of_run, one, slice_there, zip_at}

-- ---- entries that were written

-- the entries of some links were written, and these indexed entries are left
pub record Written (p : Program) (ks : List Link) (entries : List Entry) (xs : List LinkedEntry) : Type 0 where
  pub done : List Link
  pub rest : List Link
  pub whole : done ++ rest ≡ ks
  pub zip : AllZip (IsIndexed p) xs rest
  pub is : entries ≡ flat_map (entries_of_link p) done

module _ (p : Program) (ks : List Link) where
  pub none_written : (xs : List LinkedEntry) → AllZip (IsIndexed p) xs ks → (entries : List Entry) → entries ≡ [] → Written p ks entries xs
  none_written xs z entries none = record { done = []; rest = ks; whole = refl; zip = z; is = none }

  pub head_written : (entries : List Entry) (x : LinkedEntry) (xs : List LinkedEntry) → Written p ks entries (x ∷ xs) → (k : Link) × IsIndexed p x k
  head_written entries x xs h = let z = headed (IsIndexed p) x xs h.rest h.zip in (z.head, z.first)

  pub one_written : (entries : List Entry) (x : LinkedEntry) (xs : List LinkedEntry) → Written p ks entries (x ∷ xs) → (more : List Entry) → ((k : Link) → IsIndexed p x k → more ≡ entries ++ entries_of_link p k) → Written p ks more xs
  one_written entries x xs h more grown =
      let z = headed (IsIndexed p) x xs h.rest h.zip in
      record {
        done = h.done ++ z.head ∷ [];
        rest = z.rest;
        whole = append_assoc h.done (z.head ∷ []) z.rest ∙ ap (λ (ls : List Link). h.done ++ ls) (sym z.is) ∙ h.whole;
        zip = z.others;
        is =
            grown z.head z.first ∙ ap (λ (es : List Entry). es ++ entries_of_link p z.head) h.is ∙
            ap (λ (es : List Entry). flat_map (entries_of_link p) h.done ++ es) (sym (append-nil (entries_of_link p z.head))) ∙
            sym (flat_map-append (entries_of_link p) h.done (z.head ∷ []));
      }

  pub all_written : (entries : List Entry) → Written p ks entries [] → entries ≡ flat_map (entries_of_link p) ks
  all_written entries h =
      let none = empty h.rest h.zip in
      h.is ∙ ap (flat_map (entries_of_link p)) (sym (append-nil h.done) ∙ ap (λ (ls : List Link). h.done ++ ls) (sym none) ∙ h.whole)
    where
      empty : (rest : List Link) → AllZip (IsIndexed p) [] rest → rest ≡ []
      empty [] z = refl
      empty (k ∷ rest) z = absurd z

-- some entries were written, and those from a place on are left
module _ (p : Program) (ks : List Link) (entries : List Entry) (xs : List LinkedEntry) (i : ℕ) (d : LinkedEntry) (within : i < length xs) (h : Written p ks entries (drop i xs)) where
  ahead : Written p ks entries (get_or xs i d ∷ drop (i + 1) xs)
  ahead =
      let next : suc i ≡ i + 1 = omega arith in
      subst (Written p ks entries) (drop-cons xs i d within ∙ ap (λ (n : ℕ). get_or xs i d ∷ drop n xs) next) h

  pub next_head : (k : Link) × IsIndexed p (get_or xs i d) k
  next_head = head_written p ks entries (get_or xs i d) (drop (i + 1) xs) ahead

  pub next_written : (more : List Entry) → ((k : Link) → IsIndexed p (get_or xs i d) k → more ≡ entries ++ entries_of_link p k) → Written p ks more (drop (i + 1) xs)
  next_written more grown = one_written p ks entries (get_or xs i d) (drop (i + 1) xs) ahead more grown

pub entries_are : (p : Program) (ks : List Link) (entries : List Entry) → entries ≡ flat_map (entries_of_link p) (indexed_in ks) → entries ≡ entries_of p ks
unfolding entries_of
entries_are p ks entries is = is

-- ---- one run

module _ (image : Image) (shards : List Shard) (linked : List Linked) (k : ℕ) (l : Linked) (within : k < length shards) (links : slice_get linked k ≡ Some l) (p : Program) (file : program_of image.file ≡ Ok p) (h : AreShardsOf p shards) (own : AreLinkedOf p shards h linked) where
  shard : (s : Shard) × (slice_get shards k ≡ Some s)
  shard = slice_there shards k within

  here : RunAt p h.runs k shard.0
  here = run_at p shards h k shard.0 shard.1

  told : IsLinkedRun p l here.run
  told = zip_at (IsLinkedRun p) linked h.runs own k l here.run links here.is

  at_run : links_in p (unwrap_or (slice_get h.runs k) []) ≡ links_in p here.run
  at_run = ap (λ (o : Option (List Walked)). links_in p (unwrap_or o [])) here.is

  -- the run has links
  pub run_links : (ks : List Link) × (links_in p (unwrap_or (slice_get h.runs k) []) ≡ Ok ks)
  run_links = (told.links, at_run ∙ told.given)

  -- of which the indexed ones are those of which the run's links say something
  pub run_zip : (ks : List Link) → links_in p (unwrap_or (slice_get h.runs k) []) ≡ Ok ks → AllZip (IsIndexed p) l.entries (indexed_in ks)
  run_zip ks is =
      let given = sym at_run ∙ is in
      let same = same_ok told.links ks (sym told.given ∙ given) in
      of_run p here.run here.of_program ks given l.entries (subst (λ (xs : List Link). AllZip (IsLinkedEntryOf p) l.entries (indexed_in xs)) same told.is)

-- ---- the whole file

pub as_many : (image : Image) (shards : List Shard) (linked : List Linked) → AreLinkedOfFile image shards linked → length shards ≡ length linked
as_many image shards linked r = omega (arith, zip_length _ shards r.are.runs r.are.stand, zip_length _ linked r.are.runs r.links)

module _ (p : Program) where
  links_exist : (linked : List Linked) (runs : List (List Walked)) → AllZip (IsLinkedRun p) linked runs → (ks : List Link) × (each (one p) (flat_map (followed p) (joined runs)) ≡ Ok ks)
  unfolding links_in
  links_exist [] [] z = ([], refl)
  links_exist [] (run ∷ runs) z = absurd z
  links_exist (l ∷ linked) [] z = absurd z
  links_exist (l ∷ linked) (run ∷ runs) z =
      let more = links_exist linked runs z.1 in
      let rest = each (one p) (flat_map (followed p) (joined runs)) in (
        z.0.links ++ more.0,
        ap (each (one p)) (flat_map-append (followed p) run (joined runs)) ∙ each_append (one p) (flat_map (followed p) run) (flat_map (followed p) (joined runs)) ∙
            ap (λ (r : Result (List Link) Fault). r >>= λ front. rest >>= λ others. Ok (front ++ others)) z.0.given ∙
            ap (λ (r : Result (List Link) Fault). r >>= λ others. Ok (z.0.links ++ others)) more.1,
      )

module _ (image : Image) (shards : List Shard) (linked : List Linked) (r : AreLinkedOfFile image shards linked) where
  -- the file has links
  pub file_links : (ks : List Link) × (links_of r.program ≡ Ok ks)
  unfolding links_of links_in
  file_links =
      let e = links_exist r.program linked r.are.runs r.links in
      (e.0, subst (λ (ws : List Walked). each (one r.program) (flat_map (followed r.program) ws) ≡ Ok e.0) r.are.all e.1)

  zip_here : (ks : List Link) → links_of r.program ≡ Ok ks → AllZip (IsIndexed r.program) (all_linked linked) (indexed_in ks)
  unfolding links_of links_in
  zip_here ks is = all_of r.program linked r.are.runs r.links r.are.all ks is

  -- of which the indexed ones are those of which the links of its runs say something
  pub file_zip : (p : Program) → program_of image.file ≡ Ok p → (ks : List Link) → links_of p ≡ Ok ks → (r.program ≡ p) × AllZip (IsIndexed p) (all_linked linked) (indexed_in ks)
  file_zip p file ks is =
      let same = same_ok r.program p (sym r.is ∙ file) in
      (same, subst (λ (q : Program). links_of q ≡ Ok ks → AllZip (IsIndexed q) (all_linked linked) (indexed_in ks)) same (zip_here ks) is)

-- a file whose units one shard stands for
pub one_run : (image : Image) (shards : List Shard) (l : Linked) → length shards ≡ 1 → (r : AreShardsOfFile image shards) → IsOkAnd (links_in r.program (unwrap_or (slice_get r.are.runs 0) [])) (IsLinked r.program l) → AreLinkedOfFile image shards (l ∷ [])
one_run image shards l single r given = record { program = r.program; is = r.is; are = r.are; links = by shards single r.are.runs r.are.stand given }
  where
    told : (run : List Walked) (m : Result (List Link) Fault) → links_in r.program run ≡ m → IsOkAnd m (IsLinked r.program l) → IsLinkedRun r.program l run
    told run (Ok ks) e h = record { links = ks; given = e; is = h }
    told run (Err f) e h = absurd h

    by : (ss : List Shard) → length ss ≡ 1 → (runs : List (List Walked)) → AllZip (StandsFor r.program.sections) ss runs → IsOkAnd (links_in r.program (unwrap_or (slice_get runs 0) [])) (IsLinked r.program l) → AllZip (IsLinkedRun r.program) (l ∷ []) runs
    by [] n runs z h = absurd (omega (arith, n))
    by (s ∷ []) n [] z h = absurd z
    by (s ∷ []) n (run ∷ []) z h = (told run (links_in r.program run) refl h, tt)
    by (s ∷ []) n (run ∷ next ∷ runs) z h = absurd z.1
    by (s ∷ t ∷ ss) n runs z h = absurd (omega (arith, n))
