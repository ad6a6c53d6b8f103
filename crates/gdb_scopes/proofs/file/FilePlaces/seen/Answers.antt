use Rattle.std.proofs.Common.{◌≡◌, List, [], Option, Some, None, sym, subst, ◌∙◌}
use Rattle.std.specs.Prelude.{IfOk}
use Rattle.std.specs.List.{AllZip}
use Rattle.index_model.specs.Program.{Located}
use Rattle.gdb_entries.specs.declared.language.LanguageClass.{LanguageClass}
use Rattle.gdb_entries.specs.Owners.{class_read}
use Rattle.gdb_items.specs.Items.{kept_of}
use Rattle.gdb_scopes.specs.declared.seen.SeenItem.{SeenItem}
use Rattle.gdb_scopes.specs.Places.{seen_by, IsSeenIn}
use Rattle.gdb_scopes.specs.Units.{IsPlaced}
use Rattle.gdb_scopes.proofs.SeenLaws.{seen_of_kept}
use Rattle.gdb_scopes.proofs.file.FilePlaces.seen.Goals as goal

pub placed-requires-clause-class : goal.placed-requires-clause-class
placed-requires-clause-class c p is w wc number = sym (c.class_of.ensures p is w wc number) ∙ c.in-Some.is

pub returns-in_ok-placed-in-Some-clause-value : goal.returns-in_ok-placed-in-Some-clause-value
returns-in_ok-placed-in-Some-clause-value c p is w wc number =
    let f = c.args.self.now.file in
    let unit = c.args.unit in
    let class = c.in-Some.class in
    let read : class_read p w ≡ Some class = sym (c.class_of.ensures p is w wc number) ∙ c.in-Some.is in
    let placed = c.deref.result.now in
    let kept : IsPlaced f unit placed = subst (IsPlaced f unit) (sym c.deref.ensures) c.in_ok-placed-in-Some.ensures.value in
    let own = c.seen.ensures p class (kept_of placed.read.which w) (kept.read p is w wc number) (kept.places p is w wc number class read) in
    let all = subst (λ (ds : List Located). IfOk c.seen.result (λ seen. AllZip (IsSeenIn p (Some class)) seen.items ds)) (seen_of_kept p class placed.read.which w) own in
    subst (λ (o : Option LanguageClass). IfOk c.seen.result (λ seen. AllZip (IsSeenIn p o) seen.items (seen_by p o w))) (sym read) all

pub returns-in-None-clause-value : goal.returns-in-None-clause-value
returns-in-None-clause-value c p is w wc number =
    let unread : class_read p w ≡ None = sym (c.class_of.ensures p is w wc number) ∙ c.in-None.is in
    subst (λ (o : Option LanguageClass). AllZip (IsSeenIn p o) c.new.result.items (seen_by p o w)) (sym unread)
    (subst (λ (is : List SeenItem). AllZip (IsSeenIn p None) is []) (sym c.new.ensures.items) tt)
