-- A program whose sections have grown is built as before, and means the same.
use Rattle.std.proofs.Common.{◌≡◌, ℕ, List, map, Result, Ok, refl, sym, ap, subst, ◌∙◌}
use Rattle.ix_base.specs.declared.fault.Fault.{Fault}
use Rattle.index_model.specs.declared.answer.CacheSize.{CacheSize}
use Rattle.index_model.specs.declared.entry.Entry.{Entry}
use Rattle.index_model.specs.declared.range.UnitRange.{UnitRange}
use Rattle.index_model.specs.declared.unit.Unit.{Unit as UnitHeader}
use Rattle.index_model.specs.Meaning.{◌>>=◌}
use Rattle.index_model.specs.Sections.{Section, sections_of}
use Rattle.index_model.specs.Units.{units_of}
use Rattle.index_model.specs.Program.{Walked, Program}
use Rattle.index_model.specs.Links.{Link}
use Rattle.index_model.specs.MainProgram.{main_of}
use Rattle.index_model.specs.Entries.{entries_of}
use Rattle.index_model.specs.Pieces.{pieces}
use Rattle.index_model.specs.GdbIndex.{gdb_index_bytes}
use Rattle.index_model.specs.Queries.{Query, AskName, AskSimple, AskAddress, AskMain, AskCache}
use Rattle.index_model.specs.Answers.{Entries, MainIs, places, is_named, is_simply_named, answer_to}
use Rattle.index_model.specs.Cache.{gdb_cache, cache_of, cache_in}
use Rattle.index_model.specs.Faults.{scan_of, links_of, all_ranges, Built, program_of, built_of}
use Rattle.index_model.proofs.Meanings.{bind_ok, same_ok}
use Rattle.grown_alike.specs.Grown.{Grows, MeansTheSame, GrownProgramsMeanTheSame}
use Rattle.grown_alike.proofs.SameUnits.{with_walks, same_units}
use Rattle.grown_alike.proofs.Scanned.{scan_keeps}
use Rattle.grown_alike.proofs.LinksStay.{links_keep, same_entries, same_main}
use Rattle.grown_alike.proofs.RangesStay.{ranges_keep}

-- what was built over these sections
abbrev built : List Section → List Walked → List Link → List UnitRange → Built
built ss ws ks rs = record { program = with_walks ss ws; links = ks; ranges = rs }

module _ (first second : List Section) (grows : Grows first second) (us : List UnitHeader) (ws : List Walked) (scan : scan_of first us ≡ Ok ws) (ks : List Link) (links : links_of (with_walks first ws) ≡ Ok ks) (rs : List UnitRange) where
  abbrev before : Built
  before = built first ws ks rs

  abbrev after : Built
  after = built second ws ks rs

  entries_same : entries_of after.program ks ≡ entries_of before.program ks
  entries_same = same_entries first second grows us ws scan ks links

  main_same : main_of after.program ks ≡ main_of before.program ks
  main_same = same_main first second grows us ws scan ks links

  answers_same : (size : CacheSize) (q : Query) → answer_to after size q ≡ answer_to before size q
  unfolding answer_to
  answers_same size (AskName n) = ap (λ (es : List Entry). Entries es (places (is_named n) es)) entries_same
  answers_same size (AskSimple n) = ap (λ (es : List Entry). Entries es (places (is_simply_named n) es)) entries_same
  answers_same size (AskAddress a) = refl
  answers_same size AskMain = ap MainIs main_same
  answers_same size AskCache = refl

  -- a `.gdb_index` is made of the units, the ranges, main and the entries alone
  means_the_same : MeansTheSame before after
  unfolding cache_in cache_of
  means_the_same = record {
    walks = refl;
    links = refl;
    ranges = refl;
    entries = entries_same;
    main = main_same;
    answers = answers_same;
    index_8 = λ i. gdb_cache (gdb_index_bytes (map (λ (w : Walked). w.unit) ws) (pieces rs) (main_same i) (entries_same i) 8);
    index_9 = λ i. gdb_cache (gdb_index_bytes (map (λ (w : Walked). w.unit) ws) (pieces rs) (main_same i) (entries_same i) 9);
  }

-- ---- what a program is built of

-- what each phase read, where none found a fault
record Parts (ss : List Section) (b : Built) : Type 0 where
  us : List UnitHeader
  ws : List Walked
  ks : List Link
  rs : List UnitRange
  units : units_of ss ≡ Ok us
  scan : scan_of ss us ≡ Ok ws
  links : links_of (with_walks ss ws) ≡ Ok ks
  ranges : all_ranges (with_walks ss ws) ks ≡ Ok rs
  whole : built ss ws ks rs ≡ b

-- the phases, one behind the other
abbrev with_ranges : Program → List Link → Result Built Fault
with_ranges p ks = all_ranges p ks >>= λ rs. Ok (record { program = p; links = ks; ranges = rs })

abbrev with_links : Program → Result Built Fault
with_links p = links_of p >>= with_ranges p

abbrev with_scan : List Section → List UnitHeader → Result Program Fault
with_scan ss us = scan_of ss us >>= λ ws. Ok (with_walks ss ws)

abbrev with_units : List Section → Result Program Fault
with_units ss = units_of ss >>= with_scan ss

parts_of : (f : List ℕ) (ss : List Section) (b : Built) → sections_of f ≡ Ok ss → built_of f ≡ Ok b → Parts ss b
unfolding built_of program_of
parts_of f ss b sections is =
    let p = bind_ok (with_units ss) with_links b (ap (λ (read : Result (List Section) Fault). (read >>= with_units) >>= with_links) (sym sections) ∙ is) in
    let u = bind_ok (units_of ss) (with_scan ss) p.0 p.1 in
    let w = bind_ok (scan_of ss u.0) (λ ws. Ok (with_walks ss ws)) p.0 u.2 in
    let same : with_walks ss w.0 ≡ p.0 = same_ok (with_walks ss w.0) p.0 w.2 in
    let linked = ap with_links same ∙ p.2 in
    let k = bind_ok (links_of (with_walks ss w.0)) (with_ranges (with_walks ss w.0)) b linked in
    let r = bind_ok (all_ranges (with_walks ss w.0) k.0) (λ rs. Ok (built ss w.0 k.0 rs)) b k.2 in
    record { us = u.0; ws = w.0; ks = k.0; rs = r.0; units = u.1; scan = w.1; links = k.1; ranges = r.1; whole = same_ok (built ss w.0 k.0 r.0) b r.2 }

built_by : (f : List ℕ) (ss : List Section) (b : Built) → sections_of f ≡ Ok ss → (p : Parts ss b) → built_of f ≡ Ok b
unfolding built_of program_of
built_by f ss b sections p = rw (sections, p.units, p.scan, p.links, p.ranges) (ap (λ (x : Built). Ok x) p.whole)

-- the second is built of the same walks, links and ranges
second_parts : (first second : List Section) (b : Built) → Grows first second → (p : Parts first b) → Parts second (built second p.ws p.ks p.rs)
second_parts first second b grows p = record {
  us = p.us;
  ws = p.ws;
  ks = p.ks;
  rs = p.rs;
  units = same_units first second grows ∙ p.units;
  scan = (scan_keeps first second grows p.us).on p.ws p.scan;
  links = (links_keep first second grows p.us p.ws p.scan).on p.ks p.links;
  ranges = (ranges_keep first second grows p.ws p.ks).on p.rs p.ranges;
  whole = refl;
}

pub grown_alike : GrownProgramsMeanTheSame
grown_alike f g first second b is_first is_second grows is =
    let p = parts_of f first b is_first is in
    let c = built second p.ws p.ks p.rs in (
      c,
      built_by g second c is_second (second_parts first second b grows p),
      refl,
      subst (λ (x : Built). MeansTheSame x c) p.whole (means_the_same first second grows p.us p.ws p.scan p.ks p.links p.rs),
    )
