use Rattle.std.proofs.Common.{◌∷◌, [], length, length-append, List, sym, ap, subst, ◌∙◌, arith}
use Rattle.shard_build.specs.Entries.{EntriesOf}
use Rattle.parent_resolve.specs.declared.scope.PathMember.{PathMember}
use Rattle.parent_resolve.specs.Paths.{EndIn, IsScopeAround}
use Rattle.parent_resolve.proofs.PassedLaws.{taken_in}
use Rattle.parent_resolve.proofs.paths.Paths.keep.Goals as goal

pub with-scope-requires : goal.with-scope-requires
with-scope-requires c =
    let few = c.loop-member.invariant.left.few in
    let one = ap length c.in-Some.ensures.items ∙ length-append c.pop.new.self.items (c.in-Some.member ∷ []) in
    omega (arith, few, one)

pub know-requires : goal.know-requires
know-requires c =
    let e = c.args.self.now in
    let left = subst (λ (xs : List PathMember). EndIn e xs c.loop-member.scope) c.in-Some.ensures.items c.loop-member.invariant.left in
    let x = c.in-Some.member in
    let t = taken_in e c.pop.new.self.items x c.loop-member.scope left c.with-scope.result c.with-scope.ensures.steps c.with-scope.ensures.length in
    subst (λ (k : EntriesOf). IsScopeAround k x.offset c.with-scope.result) (sym c.loop-member.invariant.kept) t.1

pub loop-member-preserved : goal.loop-member-preserved
loop-member-preserved c =
    let e = c.args.self.now in
    let left = subst (λ (xs : List PathMember). EndIn e xs c.loop-member.scope) c.in-Some.ensures.items c.loop-member.invariant.left in
    let t = taken_in e c.pop.new.self.items c.in-Some.member c.loop-member.scope left c.with-scope.result c.with-scope.ensures.steps c.with-scope.ensures.length in
    record { kept = c.know.ensures ∙ c.loop-member.invariant.kept; left = t.0 }
