use Rattle.std.proofs.Common.{◌≡◌, Option, Some, None, option_map, sym, ap, subst, ◌∙◌}
use Rattle.std.specs.Prelude.{IfOk}
use Rattle.shard_build.proofs.OnePlace.{home_of}
use Rattle.gdb_entries.specs.declared.language.LanguageClass.{LanguageClass}
use Rattle.gdb_entries.specs.Owners.{class_read}
use Rattle.gdb_scopes.specs.Places.{place_of}
use Rattle.gdb_scopes.proofs.KeptLaws.{number_there}
use Rattle.gdb_scopes.proofs.file.FilePlaces.place_in.Goals as goal

pub place_by-requires-clause-class : goal.place_by-requires-clause-class
place_by-requires-clause-class c p is w wc number = sym (c.class_of.ensures p is w wc number) ∙ c.in-Some.is

pub returns-in-Some-clause-value : goal.returns-in-Some-clause-value
returns-in-Some-clause-value c p is d here =
    let f = c.args.self.now.file in
    let number = number_there f p is c.args.unit c.args.offset d here c.requires.unit in
    let read : class_read p d.home ≡ Some c.in-Some.class = sym (c.class_of.ensures p is d.home (home_of f p is c.args.offset d here).0 number) ∙ c.in-Some.is in
    subst (λ (o : Option LanguageClass). IfOk c.place_by.result (λ place. place ≡ option_map (λ class. place_of p class d) o)) (sym read) (c.place_by.ensures.value p is d here)

pub returns-in-None-clause-value : goal.returns-in-None-clause-value
returns-in-None-clause-value c p is d here =
    let f = c.args.self.now.file in
    let number = number_there f p is c.args.unit c.args.offset d here c.requires.unit in
    let unread : class_read p d.home ≡ None = sym (c.class_of.ensures p is d.home (home_of f p is c.args.offset d here).0 number) ∙ c.in-None.is in
    ap (λ (o : Option LanguageClass). option_map (λ class. place_of p class d) o) (sym unread)
