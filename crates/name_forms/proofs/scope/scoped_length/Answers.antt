use Rattle.std.proofs.Common.{◌≡◌, ◌∙◌, List, ℕ, ◌+◌, ◌++◌, length, take, reverse, min, sym, ap, arith, length-append}
use Rattle.std.specs.Prelude.{Option}
use Rattle.std.specs.Borrow.{Bor}
use Rattle.std.proofs.lemmas.List.{take_all}
use Rattle.name_forms.specs.Scoped.{parts}
use Rattle.name_forms.proofs.ScopeLaws.{prefix, joined_is, prefix_reverse, more_some, more_none, saturates}
use Rattle.name_forms.proofs.scope.scoped_length.Goals as goal
use Rattle.name_forms.proofs.scope.scoped_length.Goals.{in-Some, in_default}

pub loop-member-preserved : goal.loop-member-preserved
loop-member-preserved c =
    let path = c.args.path.now in
    let i = c.loop-member.member-index in
    let n = length c.args.name.now in
    elim c.match-member.branch [
      | in-Some w ↦
          let more = more_some path i w.in-Some.component c.loop-member-test.true w.in-Some.is in
          let one : w.saturating_add.result ≡ min (c.loop-member.length + length w.in-Some.component.now) 18446744073709551615 = w.saturating_add.ensures in
          w.length-is ∙ saturates 18446744073709551615 _ _ _ (length w.in-Some.component.now) _ _ c.loop-member.invariant one w.saturating_add-length.ensures _ more
      | in_default w ↦
          let same = more_none path i c.loop-member-test.true w.in_default.is in
          w.length-is ∙ c.loop-member.invariant ∙ ap (λ (p : List ℕ). min 18446744073709551615 (length p + n)) (sym same)
    ]

pub returns : goal.returns
returns c =
    let path = c.args.path.now in
    let name = c.args.name.now in
    let whole : take c.loop-member.member-index path ≡ path = take_all c.loop-member.member-index path c.loop-member-test.false in
    let same : length (prefix (parts path)) + length name ≡ length (prefix (reverse (parts path)) ++ name) = omega (arith, prefix_reverse (parts path), length-append (prefix (reverse (parts path))) name) in
    c.loop-member.invariant
    ∙ ap (λ (p : List (Option (Bor (List ℕ)))). min 18446744073709551615 (length (prefix (parts p)) + length name)) whole
    ∙ ap (λ (m : ℕ). min 18446744073709551615 m) (same ∙ sym (ap length (joined_is (reverse (parts path)) name)))
