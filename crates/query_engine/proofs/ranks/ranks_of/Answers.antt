use Rattle.std.proofs.Common.{◌≡◌, ◌<◌, ◌≤◌, ℕ, ◌-◌, Vec, Global, List, [], ◌∷◌, ◌++◌, length, get_or, refl, ap, ◌∙◌, subst, arith}
use Rattle.std.proofs.lemmas.List.{get_or-map, length-map, length-set, map-append}
use Rattle.query_engine.specs.declared.key.Key.{Key}
use Rattle.query_engine.specs.declared.spelling.FrontedText.{FrontedText}
use Rattle.query_engine.specs.Pairs.{Pair, number_at, text_at}
use Rattle.query_engine.specs.Ranks.{AreRanksIn}
use Rattle.query_engine.specs.Seen.{pairs_seen, pair_seen, texts_seen}
use Rattle.query_engine.proofs.RankLaws.{ranks_on, ranks_new, last_on, last_new}
use Rattle.query_engine.proofs.SortLaws.{at_key}
use Rattle.query_engine.proofs.ranks.ranks_of.Goals as goal
use Rattle.query_engine.proofs.ranks.ranks_of.Goals.{then-not-goes_on_at+in_ok-push, else-not-goes_on_at}

pub loop-i-preserved : goal.loop-i-preserved
loop-i-preserved c =
    let keys = c.args.keys.now in
    let ps : List Pair = pairs_seen keys in
    let i = c.loop-i.i in
    let inv = c.loop-i.invariant in
    let rs = c.loop-i.ranks.items in
    let ds : List (List ℕ) = texts_seen c.loop-i.distinct.items in
    let lt : i < length keys = c.loop-i-test.true in
    let within : i < length ps = rw length-map lt in
    let room : length ps ≤ length rs = omega (arith, inv.size, length-map keys pair_seen) in
    let x = c.index-keys-i-in-loop-i.result in
    let at : number_at ps i ≡ (get_or keys i x).number = ap (λ (p : Pair). p.0) (get_or-map pair_seen keys i x (0, []) lt) in
    let numbers = c.requires.numbers in
    let size = length-set rs (get_or keys i x).number (c.len.result - 1) ∙ inv.size in
    elim c.if-not-goes_on_at.branch [
      | then-not-goes_on_at+in_ok-push w ↦
          let new = rw w.if-not-goes_on_at.true at c.goes_on_at.ensures in
          let k : Key = w.index-keys-i.result in
          let own : text_at ps i ≡ k.text.bytes.now = at_key keys i k lt w.index-keys-i.is in
          let es : List (List ℕ) = ds ++ text_at ps i ∷ [] in
          let made : texts_seen c.if-not-goes_on_at.distinct.items ≡ es = rw (w.distinct-is, w.in_ok-push.ensures.items, map-append, own, ← w.index-keys-i.is) refl in
          let count : c.len.result - 1 ≡ length es - 1 = omega (arith, c.len.ensures, ap length made, length-map c.if-not-goes_on_at.distinct.items (λ (s : FrontedText). s.bytes.now)) in
          record { size = size; ranks = rw (← at, count, made) (ranks_new ps numbers ds rs i within room inv.ranks inv.last c.requires.sorted new); last = rw made (last_new ps numbers ds rs i within room inv.ranks inv.last c.requires.sorted new) }
      | else-not-goes_on_at w ↦
          let on = rw w.if-not-goes_on_at.false at c.goes_on_at.ensures in
          let made : texts_seen c.if-not-goes_on_at.distinct.items ≡ ds = ap (λ (d : Vec FrontedText Global). texts_seen d.items) w.distinct-is in
          let count : c.len.result - 1 ≡ length ds - 1 = omega (arith, c.len.ensures, ap length made, length-map c.if-not-goes_on_at.distinct.items (λ (s : FrontedText). s.bytes.now)) in
          record { size = size; ranks = rw (← at, count, made) (ranks_on ps numbers ds rs i within room inv.ranks inv.last on); last = rw made (last_on ps numbers ds rs i within room inv.ranks inv.last on) }
    ]

pub returns : goal.returns
returns c =
    let all : c.loop-i.i ≡ length c.args.keys.now = omega arith in
    record {
      size = c.loop-i.invariant.size;
      ranks = subst (λ (n : ℕ). AreRanksIn (pairs_seen c.args.keys.now) (texts_seen c.loop-i.distinct.items) c.loop-i.ranks.items n) all c.loop-i.invariant.ranks;
    }
