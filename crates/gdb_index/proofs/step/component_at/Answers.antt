use Rattle.std.proofs.Common.{◌≡◌, Option, Some, option_map, sym, ◌∙◌}
use Rattle.std.proofs.lemmas.Result.{IfOk-weaker}
use Rattle.cxx_spelling.specs.declared.release.Release.{Release}
use Rattle.gdb_entries.specs.Names.{component}
use Rattle.gdb_entries.specs.Owners.{class_read}
use Rattle.gdb_names.specs.declared.both.BothNames.{BothNames}
use Rattle.gdb_names.specs.Both.{text_by}
use Rattle.gdb_index.proofs.StepLaws.{by_class, read_gives, unread_gives_none}
use Rattle.gdb_index.proofs.step.component_at.Goals as goal

pub returns-in-Some-clause-value : goal.returns-in-Some-clause-value
returns-in-Some-clause-value c p is d here =
    let class = c.in-Some.class in
    let read : class_read p d.home ≡ Some class = sym (c.class_at.ensures p is d here) ∙ c.in-Some.is in
    IfOk-weaker c.component_by.result (λ (n : Option BothNames). (release : Release) → option_map (text_by release) n ≡ by_class p d release class) (λ (n : Option BothNames). (release : Release) → option_map (text_by release) n ≡ component release p d)
    (λ n same release. same release ∙ read_gives p d release class read)
    (c.component_by.ensures.value p is d here)

pub returns-in-None-clause-value : goal.returns-in-None-clause-value
returns-in-None-clause-value c p is d here release = unread_gives_none p d release (sym (c.class_at.ensures p is d here) ∙ c.in-None.is)
