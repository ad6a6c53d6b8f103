-- The language of a unit, by the shards of its file.
use Rattle.std.proofs.Common.{◌≡◌, ℕ, Bool, true, cond, eqb, List, [], ◌∷◌, Option, Some, None, unwrap_or, Ok, refl, sym, ap, subst, ◌∙◌}
use Rattle.std.specs.Prelude.{All, Contains, find, option_and_then}
use Rattle.std.specs.Option.{option_map, option_or}
use Rattle.std.proofs.lemmas.Bool.{false≢true, eq-eqb}
use Rattle.std.proofs.lemmas.Option.{same_Some}
use Rattle.ix_base.specs.Reading.{Input}
use Rattle.index_model.specs.declared.shard.Root.{Root}
use Rattle.index_model.specs.declared.shard.Shard.{Shard}
use Rattle.index_model.specs.Tags.{partial_unit}
use Rattle.index_model.specs.Walk.{Item, Token, Null, Entry}
use Rattle.index_model.specs.Program.{Walked, Program, root_of}
use Rattle.index_model.specs.Faults.{program_of}
use Rattle.index_model.specs.Languages.{own_language, importing_language, language_by_import, language_of}
use Rattle.index_model.specs.ShardParts.{is_partial, root_facts}
use Rattle.index_model.specs.Shards.{AreShardsOf}
use Rattle.index_model.specs.ShardLanguages.{first_some, root_in, node_in, importing_in, language_by_root, IsLanguageAt, NodesRise}
use Rattle.index_model.proofs.TokenReads.{Follow, start}
use Rattle.index_model.proofs.OrderLaws.{entries, walk_tokens}
use Rattle.index_model.proofs.UnitsApart.{program_apart}
use Rattle.index_model.proofs.ShardRoots.{Numbered, program_numbered, find_number, joined, roots_are, imports_it, importing_are}
use Rattle.index_model.proofs.ShardNodes.{all_rise, nodes_are, root_found, place}

-- ---- the root

-- a root comes first
record Leads (items : List Item) (r : Item) : Type 0 where
  rest : List Item
  is : items ≡ r ∷ rest
  top : r.depth ≡ 0

leads : (i : Input) (ts : List Token) → Follow start i ts → (r : Item) → find (λ d. eqb d.depth 0) (entries ts) ≡ Some r → Leads (entries ts) r
leads i [] f r is = absurd cc
leads i (Null depth after ∷ ts) f r is = absurd (false≢true f.2.says.0)
leads i (Entry e ∷ ts) f r is =
    let top : e.depth ≡ 0 = f.2.says.1 in
    let hit : cond true (Some e) (find (λ d. eqb d.depth 0) (entries ts)) ≡ Some r = subst (λ (b : Bool). cond b (Some e) (find (λ d. eqb d.depth 0) (entries ts)) ≡ Some r) (eq-eqb e.depth 0 top) is in
    let same : e ≡ r = same_Some e r hit in
    record { rest = entries ts; is = ap (λ (x : Item). x ∷ entries ts) same; top = ap (λ (x : Item). x.depth) (sym same) ∙ top }

-- ---- a unit of a file

module _ (f : List ℕ) (p : Program) (file : program_of f ≡ Ok p) (shards : List Shard) (h : AreShardsOf p shards) where
  numbered : Numbered 0 (joined h.runs)
  numbered = subst (Numbered 0) (sym h.all) (program_numbered f p file)

  nodes_in_order : All NodesRise shards
  nodes_in_order = all_rise p.sections shards h.runs 0 h.stand numbered

  importing : (o : ℕ) → first_some (importing_in o) shards ≡ importing_language p o
  unfolding importing_language
  importing o = subst (λ (ws : List Walked). first_some (importing_in o) shards ≡ option_and_then own_language (find (imports_it p.sections o) ws)) h.all (importing_are p.sections o shards h.runs 0 h.stand numbered)

  module _ (w : Walked) (c : Contains p.walks w) where
    member : Contains (joined h.runs) w
    member = subst (λ (ws : List Walked). Contains ws w) (sym h.all) c

    root_is : first_some (root_in w.number) shards ≡ Some (root_facts w)
    root_is = roots_are p.sections shards h.runs w.number 0 h.stand numbered ∙ ap (option_map root_facts) (find_number 0 (joined h.runs) w numbered member)

    offset_is : (r : Item) → root_of w ≡ Some r → first_some (node_in w.number) shards ≡ Some r.at
    offset_is r is =
        let walk = (program_apart f p file).walks w c in
        let t = walk_tokens p.sections walk.0 w walk.1 in
        let l = leads t.0 w.walk.tokens t.1 r is in
        nodes_are p.sections w.number shards h.runs h.stand ∙ ap (option_map place) (root_found w r l.rest l.is l.top 0 (joined h.runs) numbered member)

    abbrev by_import : Option ℕ
    by_import = option_and_then (λ o. first_some (importing_in o) shards) (first_some (node_in w.number) shards)

    by_root : language_by_root shards w.number (root_facts w) ≡ option_or (own_language w) (language_by_import p (root_of w))
    unfolding root_facts language_by_import
    by_root = by (root_of w) refl
      where
        by : (o : Option Item) → root_of w ≡ o → option_or (own_language w) (cond (is_partial o) by_import None) ≡ option_or (own_language w) (language_by_import p o)
        by None e = refl
        by (Some r) e = ap (λ (x : Option ℕ). option_or (own_language w) (cond (eqb r.tag partial_unit) x None)) (ap (option_and_then (λ o. first_some (importing_in o) shards)) (offset_is r e) ∙ importing r.at)

    language_is : unwrap_or (language_by_root shards w.number (root_facts w)) 0 ≡ language_of p w
    unfolding language_of
    language_is = ap (λ (o : Option ℕ). unwrap_or o 0) by_root

-- ---- the answer

pub some_right : (shards : List Shard) (unit : ℕ) (root : Root) (found : Option ℕ) → first_some (root_in unit) shards ≡ Some root → (All NodesRise shards → found ≡ language_by_root shards unit root) → IsLanguageAt shards unit (unwrap_or found 0)
some_right shards unit root found at gives f p file h w c number =
    let own : root ≡ root_facts w = same_Some root (root_facts w) (sym at ∙ ap (λ (k : ℕ). first_some (root_in k) shards) (sym number) ∙ root_is f p file shards h w c) in
    ap (λ (o : Option ℕ). unwrap_or o 0) (gives (nodes_in_order f p file shards h)) ∙
    ap (λ (r : Root). unwrap_or (language_by_root shards unit r) 0) own ∙
    ap (λ (k : ℕ). unwrap_or (language_by_root shards k (root_facts w)) 0) (sym number) ∙
    language_is f p file shards h w c

pub none_right : (shards : List Shard) (unit : ℕ) → first_some (root_in unit) shards ≡ None → IsLanguageAt shards unit 0
none_right shards unit at f p file h w c number =
    let never : Some (root_facts w) ≡ None = sym (root_is f p file shards h w c) ∙ ap (λ (k : ℕ). first_some (root_in k) shards) number ∙ at in
    absurd cc
