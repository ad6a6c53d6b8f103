use Rattle.std.proofs.Common.{◌≡◌, ℕ, sym, ◌∙◌, ap, rules}
use Rattle.entry_scan.specs.Tokens.{token_seen}
use Rattle.index_model.specs.declared.unit.Unit.{Unit as UnitHeader}
use Rattle.index_model.specs.Walk.{Walk, with_token}
use Rattle.shard_build.specs.Kept.{kept_seen}
use Rattle.shard_build.specs.Texts.{HoldsTexts}
use Rattle.shard_build.proofs.TokenSteps.{on_first, on_others, one_more}
use Rattle.shard_build.proofs.kept.ItemsSoFar.walk.Goals as goal

pub take-requires-clause-texts : goal.take-requires-clause-texts
take-requires-clause-texts c =
    let first : c.tokens.walk ≡ with_token (token_seen c.in-Some.token) c.token.new.self = search rules in
    on_first (HoldsTexts c.args.home.now.bytes.now c.args.home.now.unit) (token_seen c.in-Some.token) c.tokens.walk c.token.new.self first c.tokens.invariant.texts

pub tokens-preserved-then-passes : goal.tokens-preserved-then-passes
tokens-preserved-then-passes c =
    let first : c.tokens.walk ≡ with_token (token_seen c.in-Some.token) c.token.new.self = search rules in
    let u : ℕ × UnitHeader = (c.args.home.now.number, c.args.home.now.unit) in
    record {
      same = one_more c.args.home.now.sections.now u (kept_seen c.tokens.self) (kept_seen c.tokens.self) (token_seen c.in-Some.token) c.tokens.walk c.token.new.self first (c.passes.ensures c.if-passes.true) ∙ c.tokens.invariant.same;
      strings = c.tokens.invariant.strings;
      end = ap (λ (w : Walk). w.end) (sym first) ∙ c.tokens.invariant.end;
      texts = on_others (HoldsTexts c.args.home.now.bytes.now c.args.home.now.unit) (token_seen c.in-Some.token) c.tokens.walk c.token.new.self first c.tokens.invariant.texts;
    }

pub tokens-preserved : goal.tokens-preserved
tokens-preserved c =
    let first : c.tokens.walk ≡ with_token (token_seen c.in-Some.token) c.token.new.self = search rules in
    let u : ℕ × UnitHeader = (c.args.home.now.number, c.args.home.now.unit) in
    record {
      same = one_more c.args.home.now.sections.now u (kept_seen c.tokens.self) (kept_seen c.take.new.self) (token_seen c.in-Some.token) c.tokens.walk c.token.new.self first c.in_default-take.ensures.value ∙ c.tokens.invariant.same;
      strings = c.in_default-take.ensures.strings ∙ c.tokens.invariant.strings;
      end = ap (λ (w : Walk). w.end) (sym first) ∙ c.tokens.invariant.end;
      texts = on_others (HoldsTexts c.args.home.now.bytes.now c.args.home.now.unit) (token_seen c.in-Some.token) c.tokens.walk c.token.new.self first c.tokens.invariant.texts;
    }
