-- The entry of an indexed entry, part by part.
use Rattle.std.proofs.Common.{◌≡◌, ℕ, Bool, false, List, [], length, unwrap_or, Some, Option, option_map, sym, ap, ◌∙◌}
use Rattle.index_model.specs.declared.entry.Entry.{Entry}
use Rattle.index_model.specs.declared.entry.Kind.{Kind}
use Rattle.index_model.specs.declared.entry.Kind.TheVariants.{Other}
use Rattle.index_model.specs.declared.shard.LinkedEntry.{LinkedEntry}
use Rattle.index_model.specs.Entries.{entry_of, is_link_static}
use Rattle.index_model.specs.Links.{Link, name_in, qualified_of}
use Rattle.index_model.specs.Names.{simple_name}
use Rattle.index_model.specs.Program.{Program}
use Rattle.index_model.specs.Rules.{kind_of}
use Rattle.qualified_names.specs.Indexed.{IsIndexed}

abbrev made : ℕ → ℕ → ℕ → Kind → Bool → Bool → List ℕ → ℕ → Entry
made unit offset tag kind local linkage name tail = record { unit = unit; offset = offset; tag = tag; kind = kind; local = local; linkage = linkage; name = name; tail = tail }

pub entry_is : (p : Program) (x : LinkedEntry) (k : Link) → IsIndexed p x k → (kind : Kind) → kind ≡ unwrap_or (kind_of x.tag) Other → (name : List ℕ) → qualified_of k ≡ Some name → (tail : ℕ) → tail ≡ length (unwrap_or (option_map (simple_name k.class) (name_in k)) []) →
    made x.unit x.offset x.tag kind x.local false name tail ≡ entry_of k
unfolding entry_of
entry_is p x k h kind kind_ name name_ tail tail_ =
    let t = h.links in
    ap (λ (v : ℕ). made v x.offset x.tag kind x.local false name tail) t.unit ∙
    ap (λ (v : ℕ). made k.entry.home.number v x.tag kind x.local false name tail) t.offset ∙
    ap (λ (v : ℕ). made k.entry.home.number k.entry.item.at v kind x.local false name tail) t.tag ∙
    ap (λ (v : Kind). made k.entry.home.number k.entry.item.at k.entry.item.tag v x.local false name tail) (kind_ ∙ ap (λ (n : ℕ). unwrap_or (kind_of n) Other) t.tag) ∙
    ap (λ (v : Bool). made k.entry.home.number k.entry.item.at k.entry.item.tag (unwrap_or (kind_of k.entry.item.tag) Other) v false name tail) t.local ∙
    ap (λ (v : List ℕ). made k.entry.home.number k.entry.item.at k.entry.item.tag (unwrap_or (kind_of k.entry.item.tag) Other) (is_link_static k) false v tail) (sym (ap (λ (o : Option (List ℕ)). unwrap_or o []) name_)) ∙
    ap (λ (v : ℕ). made k.entry.home.number k.entry.item.at k.entry.item.tag (unwrap_or (kind_of k.entry.item.tag) Other) (is_link_static k) false (unwrap_or (qualified_of k) []) v) tail_
