-- The link of an entry, part by part.
use Rattle.std.proofs.Common.{◌≡◌, ℕ, ◌<◌, ◌≤◌, min, Bool, true, false, not, ◌&&◌, ◌||◌, List, length, Option, Some, None, option_map, Result, Ok, Err, refl, sym, ap, ◌∙◌, arith}
use Rattle.std.specs.Prelude.{IsOkAnd, is_some}
use Rattle.std.specs.Borrow.{Bor}
use Rattle.std.proofs.lemmas.Bool.{le-leb, lt-leb}
use Rattle.ix_base.specs.declared.code.TheConstants.{NAME_TOO_LONG}
use Rattle.ix_base.specs.declared.limits.TheConstants.{MAX_QUALIFIED_NAME}
use Rattle.index_model.specs.declared.rules.Facts.{Facts}
use Rattle.index_model.specs.declared.shard.LinkedEntry.{LinkedEntry}
use Rattle.index_model.specs.declared.shard.Node.{Node}
use Rattle.index_model.specs.Meaning.{◌>>=◌, ◌>>◌, holds_or, at_place}
use Rattle.index_model.specs.Program.{Program, Located}
use Rattle.index_model.specs.Chains.{chain_of, chain_end, spelled_name, name_with}
use Rattle.index_model.specs.Names.{Member, scope_path, qualified_name}
use Rattle.index_model.specs.Attributes.{is_declaration}
use Rattle.index_model.specs.Entries.{is_link_static}
use Rattle.index_model.specs.Languages.{class_of_unit}
use Rattle.index_model.specs.Links.{Link, link_of, facts_of, is_link_indexed, is_within_limit, name_in, qualified_of}
use Rattle.index_model.specs.Rules.{row_allows, row_of}
use Rattle.index_model.specs.ShardParts.{IsNodeOf, node_facts}
use Rattle.index_model.specs.Shards.{length_of}
use Rattle.parent_resolve.specs.declared.traced.Traced.{Traced}
use Rattle.parent_resolve.specs.Followed.{followed_of, Named}
use Rattle.parent_resolve.specs.Traced.{IsTraced}
use Rattle.parent_resolve.specs.EntryLinks.{link_with, link_tested, IsEntryOf}
use Rattle.parent_resolve.specs.Scopes.{greatest}
use Rattle.parent_resolve.proofs.NodeLaws.{node_parts, node_unit}
use Rattle.parent_resolve.proofs.Outwards.{gives_ok}

drops : (a b c : Bool) → b ≡ false → ((a && b) && c) ≡ false
drops true b c e = ap (λ (x : Bool). x && c) e
drops false b c e = refl

module _ (p : Program) (d : Located) where
  abbrev on_path : Named → Result Link ℕ
  on_path n = scope_path p (chain_end d n.chain) >>= link_tested p d n

  abbrev by_spelled : List Located → Result Named ℕ
  by_spelled chain = spelled_name p d chain >>= λ spelled. Ok (record { chain = chain; spelled = spelled })

  -- the chain and the name are followed, then the path
  pub link_follows : link_of p d ≡ (followed_of p d >>= on_path)
  unfolding link_of link_tested followed_of
  link_follows = by (chain_of p d)
    where
      with : (chain : List Located) (r : Result (Option (List ℕ)) ℕ) → (r >>= λ spelled. on_path (record { chain = chain; spelled = spelled })) ≡ ((r >>= λ spelled. Ok (record { chain = chain; spelled = spelled })) >>= on_path)
      with chain (Ok s) = refl
      with chain (Err e) = refl

      by : (r : Result (List Located) ℕ) → (r >>= λ chain. spelled_name p d chain >>= λ spelled. on_path (record { chain = chain; spelled = spelled })) ≡ ((r >>= by_spelled) >>= on_path)
      by (Ok chain) = with chain (spelled_name p d chain)
      by (Err e) = refl

  pub follow_wrong : (code : ℕ) → followed_of p d ≡ Err code → link_of p d ≡ Err code
  follow_wrong code is = link_follows ∙ ap (λ (r : Result Named ℕ). r >>= on_path) is

  pub path_wrong : (n : Named) → followed_of p d ≡ Ok n → (code : ℕ) → scope_path p (chain_end d n.chain) ≡ Err code → link_of p d ≡ Err code
  path_wrong n is code wrong = link_follows ∙ ap (λ (r : Result Named ℕ). r >>= on_path) is ∙ ap (λ (r : Result (List Member) ℕ). r >>= link_tested p d n) wrong

  pub link_is : (n : Named) → followed_of p d ≡ Ok n → (path : List Member) → scope_path p (chain_end d n.chain) ≡ Ok path → link_of p d ≡ link_tested p d n path
  link_is n is path own = link_follows ∙ ap (λ (r : Result Named ℕ). r >>= on_path) is ∙ ap (λ (r : Result (List Member) ℕ). r >>= link_tested p d n) own

  module _ (n : Named) (path : List Member) where
    abbrev link : Link
    link = link_with p d n path

    abbrev tested_by : Bool → Result Link ℕ
    tested_by b = holds_or b NAME_TOO_LONG >> Ok link

    -- an entry that isn't indexed has its link
    pub not_indexed : is_link_indexed link ≡ false → IsOkAnd (at_place d.item.at (link_tested p d n path)) (IsEntryOf p None)
    unfolding link_tested
    not_indexed off = gives_ok (IsEntryOf p None) d.item.at (link_tested p d n path) link (ap (λ (b : Bool). tested_by (not b || is_within_limit (qualified_of link))) off) off

    -- without a name it isn't indexed
    pub nameless : name_in link ≡ None → is_link_indexed link ≡ false
    unfolding facts_of
    nameless none = drops (not (is_declaration d.item)) (is_some (name_in link)) (row_allows (facts_of link) (row_of d.item.tag)) (ap is_some none)

    -- the name that is known of the entry is its own
    pub named_by : (f : Traced) → IsTraced p d f n → (name : Option (Bor (List ℕ))) → option_map (λ t. t.now) name ≡ name_with d (option_map (λ t. t.now) f.spelled) → (own : Option (Bor (List ℕ))) → name ≡ own → name_in link ≡ option_map (λ t. t.now) own
    named_by f h name is own same = sym (ap (option_map (λ (t : Bor (List ℕ)). t.now)) (sym same) ∙ is ∙ ap (name_with d) h.spelled)

    pub tag_is : (facts : Facts) → facts ≡ facts_of link → facts.tag ≡ d.item.tag
    unfolding facts_of
    tag_is facts is = ap (λ (x : Facts). x.tag) is

    pub is_long : is_link_indexed link ≡ true → (name : List ℕ) → name_in link ≡ Some name → MAX_QUALIFIED_NAME < length (qualified_name (class_of_unit p d.home) path name) → link_tested p d n path ≡ Err NAME_TOO_LONG
    unfolding link_tested
    is_long on name own gt =
        ap (λ (b : Bool). tested_by (not b || is_within_limit (qualified_of link))) on ∙
        ap (λ (o : Option (List ℕ)). tested_by (is_within_limit (option_map (qualified_name (class_of_unit p d.home) path) o))) own ∙
        ap tested_by (lt-leb (length (qualified_name (class_of_unit p d.home) path name)) MAX_QUALIFIED_NAME gt)

    pub is_short : is_link_indexed link ≡ true → (name : List ℕ) → name_in link ≡ Some name → length (qualified_name (class_of_unit p d.home) path name) ≤ MAX_QUALIFIED_NAME → link_tested p d n path ≡ Ok link
    unfolding link_tested
    is_short on name own le =
        ap (λ (b : Bool). tested_by (not b || is_within_limit (qualified_of link))) on ∙
        ap (λ (o : Option (List ℕ)). tested_by (is_within_limit (option_map (qualified_name (class_of_unit p d.home) path) o))) own ∙
        ap tested_by (le-leb (length (qualified_name (class_of_unit p d.home) path name)) MAX_QUALIFIED_NAME le)

    pub entry_given : (node : Node) → IsNodeOf p.sections node d → (f : Traced) → IsTraced p d f n → is_link_indexed link ≡ true → (name : List ℕ) → name_in link ≡ Some name → (length_ : ℕ) → length_ ≡ min greatest (length (qualified_name (class_of_unit p d.home) path name)) → length_ ≤ MAX_QUALIFIED_NAME → (e : LinkedEntry) → e.name.now ≡ name → e.unit ≡ node.unit → e.tag ≡ d.item.tag → e.local ≡ is_link_static link → e.main ≡ node.main → e.offset ≡ node.offset → e.around ≡ f.around → e.linkage ≡ f.linkage → e.length ≡ length_ → IsOkAnd (at_place d.item.at (link_tested p d n path)) (IsEntryOf p (Some e))
    unfolding node_facts
    entry_given node own f h on name named length_ whole le e name_is unit tag local main offset around linkage size =
        let qualified = qualified_name (class_of_unit p d.home) path name in
        let short : length qualified ≤ MAX_QUALIFIED_NAME = omega (arith, whole, le) in
        let exact : length_ ≡ length qualified = omega (arith, whole, short) in
        gives_ok (IsEntryOf p (Some e)) d.item.at (link_tested p d n path) link (is_short on name named short) (
          on,
          record {
            unit = unit ∙ node_unit p.sections node d own;
            tag = tag;
            local = local;
            main = main ∙ ap (λ (x : Node). x.main) own.facts;
            offset = offset ∙ (node_parts p.sections node d own).0;
            around = around ∙ h.around;
            name = named ∙ ap {B = Option (List ℕ)} (λ (xs : List ℕ). Some xs) (sym name_is);
            linkage = ap (option_map (λ t. t.now)) linkage ∙ h.linkage;
            length = size ∙ exact ∙ ap (λ (o : Option (List ℕ)). length_of (option_map (qualified_name (class_of_unit p d.home) path) o)) (sym named);
          },
        )
