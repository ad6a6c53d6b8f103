use Rattle.std.proofs.Common.{◌∙◌}
use Rattle.index_cache.proofs.Digits.{named}
use Rattle.index_cache.proofs.name.cache_name.Goals as goal

pub returns : goal.returns
returns c =
    named _ _ _ _ _ _ c.in_ok-name.ensures.ok (c.deref.ensures ∙ c.in_ok-digits.ensures) c.in_ok-push_str.ensures.bytes c.in_ok-push_str-2.ensures.bytes
