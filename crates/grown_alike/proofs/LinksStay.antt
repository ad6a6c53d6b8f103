-- The links of all entries stay, and with them the entries of the file and its main program.
use Rattle.std.proofs.Common.{◌≡◌, ℕ, not, ◌||◌, eqb, List, [], ◌∷◌, ◌++◌, filter, flat_map, Option, Result, Ok, refl, ap, subst, ◌∙◌}
use Rattle.std.specs.Prelude.{Contains, option_map, option_to_list}
use Rattle.common_laws.proofs.Members.{contains_here, contains_later, of_filter}
use Rattle.ix_base.specs.declared.code.TheConstants.{NAME_TOO_LONG}
use Rattle.ix_base.specs.declared.fault.Fault.{Fault}
use Rattle.index_model.specs.declared.rules.Class.{Class}
use Rattle.index_model.specs.declared.unit.Unit.{Unit as UnitHeader}
use Rattle.index_model.specs.Meaning.{◌>>◌, holds_or, at_place, each}
use Rattle.index_model.specs.Sections.{Section}
use Rattle.index_model.specs.Program.{Walked, Program, Located, located}
use Rattle.index_model.specs.Languages.{class_of_unit}
use Rattle.index_model.specs.Chains.{chain_of, chain_end, spelled_name}
use Rattle.index_model.specs.Names.{scope_path}
use Rattle.index_model.specs.Links.{Link, link_of, is_link_indexed, is_within_limit, qualified_of, followed, links_in, indexed_in}
use Rattle.index_model.specs.Entries.{entry_of, linkage_entry_of, entries_of_link, entries_of}
use Rattle.index_model.specs.MainProgram.{full_name, main_in, main_of}
use Rattle.index_model.specs.Faults.{scan_of, links_of}
use Rattle.index_model.proofs.Meanings.{then_ok, same_ok, at_place_ok}
use Rattle.index_model.proofs.Followed.{is_followed, all_followed}
use Rattle.grown_alike.specs.Grown.{Grows}
use Rattle.grown_alike.proofs.Kept.{Keeps, keeps_then, keeps_each, keeps_place}
use Rattle.grown_alike.proofs.Gathered.{each_given}
use Rattle.grown_alike.proofs.SameUnits.{with_walks, same_language, same_class, same_followed}
use Rattle.grown_alike.proofs.Scanned.{IsKnown}
use Rattle.grown_alike.proofs.Known.{Only, Any, only_any, only_then, AreKnown, chain_known, end_known}
use Rattle.grown_alike.proofs.Chains.{spelled_keeps, same_linkage}
use Rattle.grown_alike.proofs.Paths.{chain_keeps, scope_path_keeps}

module _ (first second : List Section) (grows : Grows first second) (us : List UnitHeader) (ws : List Walked) (scan : scan_of first us ≡ Ok ws) where
  abbrev before : Program
  before = with_walks first ws

  abbrev after : Program
  after = with_walks second ws

  -- ---- one link

  link_keeps : (d : Located) → IsKnown ws d → Keeps (link_of before d) (link_of after d)
  unfolding link_of
  link_keeps d known =
      keeps_then (chain_of before d) (chain_of after d) _ _ (chain_keeps first second grows us ws scan d) (λ chain is.
      let all = (chain_known before d known).only chain is in
      keeps_then (spelled_name before d chain) (spelled_name after d chain) _ _ (spelled_keeps first second grows us ws scan d chain all) (λ spelled _.
      keeps_then (scope_path before (chain_end d chain)) (scope_path after (chain_end d chain)) _ _ (scope_path_keeps first second grows us ws scan (chain_end d chain) (end_known before d chain known all)) (λ path _.
      let made : Class → Link = λ c. record { entry = d; class = c; chain = chain; spelled = spelled; path = path } in
      let tested : Class → Result Link ℕ = λ c. holds_or (not (is_link_indexed (made c)) || is_within_limit (qualified_of (made c))) NAME_TOO_LONG >> Ok (made c) in
      record { on = λ k is. ap tested (same_class first second grows ws d.home) ∙ is })))

  -- ---- all links

  followed_known : (d : Located) → Contains (flat_map (followed before) ws) d → IsKnown ws d
  followed_known d c = (of_filter (is_followed before) (flat_map located ws) d (subst (λ (ds : List Located). Contains ds d) (all_followed before ws) c)).0

  same_all_followed : flat_map (followed after) ws ≡ flat_map (followed before) ws
  same_all_followed = λ i. flat_map (λ (w : Walked). same_followed first second grows ws w i) ws

  pub links_keep : Keeps (links_of before) (links_of after)
  unfolding links_of links_in
  links_keep =
      let place : (Located → Result Link ℕ) → Located → Result Link Fault = λ link d. at_place d.item.at (link d) in
      let keep = keeps_each (place (link_of before)) (place (link_of after)) (flat_map (followed before) ws) (λ d c. keeps_place d.item.at (link_of before d) (link_of after d) (link_keeps d (followed_known d c))) in
      record { on = λ ks is. ap (λ (ds : List Located). each (place (link_of after)) ds) same_all_followed ∙ keep.on ks is }

  module _ (ks : List Link) (links : links_of before ≡ Ok ks) where
    -- the chain of a link consists of entries of the walks
    link_known : (d : Located) → IsKnown ws d → Only (λ (k : Link). AreKnown before k.chain) (link_of before d)
    unfolding link_of
    link_known d known =
        let chained : Link → Type 0 = λ k. AreKnown before k.chain in
        only_then (AreKnown before) chained (chain_of before d) _ (chain_known before d known) (λ chain all.
        only_then Any chained (spelled_name before d chain) _ (only_any (spelled_name before d chain)) (λ spelled _.
        only_then Any chained (scope_path before (chain_end d chain)) _ (only_any (scope_path before (chain_end d chain))) (λ path _.
        let k : Link = record { entry = d; class = class_of_unit before d.home; chain = chain; spelled = spelled; path = path } in
        record { only = λ l is. subst chained (same_ok k l (then_ok (holds_or (not (is_link_indexed k) || is_within_limit (qualified_of k)) NAME_TOO_LONG) (Ok k) l is)) all })))

    links_known : (k : Link) → Contains ks k → AreKnown before k.chain
    unfolding links_of links_in
    links_known k c =
        let m = each_given (λ (d : Located). at_place d.item.at (link_of before d)) (flat_map (followed before) ws) ks links k c in
        (link_known m.0 (followed_known m.0 m.1)).only k (at_place_ok m.0.item.at (link_of before m.0) k m.2)

    -- ---- entries and main

    same_entries_of_link : (k : Link) → AreKnown before k.chain → entries_of_link after k ≡ entries_of_link before k
    unfolding entries_of_link
    same_entries_of_link k all = ap (λ (name : Option (List ℕ)). entry_of k ∷ option_to_list (linkage_entry_of (entry_of k) name)) (same_linkage first second grows us ws scan k.chain all)

    same_from : (ls : List Link) → ((k : Link) → Contains ls k → AreKnown before k.chain) → flat_map (entries_of_link after) ls ≡ flat_map (entries_of_link before) ls
    same_from [] all = refl
    same_from (k ∷ ls) all = λ i. same_entries_of_link k (all k (contains_here k ls)) i ++ same_from ls (λ l c. all l (contains_later k ls l c)) i

    pub same_entries : entries_of after ks ≡ entries_of before ks
    unfolding entries_of
    same_entries = same_from (indexed_in ks) (λ k c. links_known k (of_filter is_link_indexed ks k c).0)

    pub same_main : main_of after ks ≡ main_of before ks
    unfolding main_of
    same_main = λ i. option_map (λ (k : Link). record { language = same_language first second grows ws k.entry.home i; name = full_name k }) (main_in (filter (λ (k : Link). not (eqb (same_language first second grows ws k.entry.home i) 0)) (indexed_in ks)))
