use Rattle.std.proofs.Common.{◌≡◌, ◌<◌, ◌%◌, ℕ, ap, sym, ◌∙◌, arith}
use Rattle.std.proofs.lemmas.Nat.{mod_below}
use Rattle.index_model.specs.Layout.{nth}
use Rattle.debugnames_read.specs.Names.{tables_of}
use Rattle.debugnames_read.proofs.BucketLaws.{begin, own}
use Rattle.debugnames_read.proofs.Counted.{bucket_total, own_is}
use Rattle.debugnames_read.proofs.HitLaws.{begins_at, of_bucket}
use Rattle.debugnames_read.proofs.Opened.{bucket_right}
use Rattle.debugnames_read.proofs.names.IndexTables.bucket_span.Goals as goal

pub get-begin-requires : goal.get-begin-requires
get-begin-requires c =
    let lt : c.args.hash % c.args.self.now.tables.counts.buckets < c.args.self.now.tables.counts.buckets = mod_below c.args.hash c.args.self.now.tables.counts.buckets c.requires.some in
    omega (arith, lt, bucket_total c.args.self.now.tables)

pub returns-then-begin-eq0-clause-covers : goal.returns-then-begin-eq0-clause-covers
returns-then-begin-eq0-clause-covers c = λ k lt is.
    let n = c.args.self.now in
    let t = tables_of n in
    let own_of : own t k ≡ c.args.hash % n.tables.counts.buckets = sym (own_is n.tables k) ∙ ap (λ (h : ℕ). h % n.tables.counts.buckets) is in
    let from : begin t k ≡ c.get-begin.result = ap (nth t.buckets.numbers) own_of ∙ sym c.get-begin.ensures in
    absurd (omega (arith, from, c.if-begin-eq0.true, (of_bucket n c.requires.opened c.requires.some k lt).some_begin))

pub end_of-requires-clause-within : goal.end_of-requires-clause-within
end_of-requires-clause-within c =
    let n = c.args.self.now in
    let lt : c.args.hash % n.tables.counts.buckets < n.tables.counts.buckets = mod_below c.args.hash n.tables.counts.buckets c.requires.some in
    omega (arith, begins_at n.tables (bucket_right (tables_of n) n.strings.now n.base c.requires.opened) (c.args.hash % n.tables.counts.buckets) lt, c.get-begin.ensures)

pub returns-clause-covers : goal.returns-clause-covers
returns-clause-covers c = λ k lt is.
    let n = c.args.self.now in
    let t = tables_of n in
    let own_of : own t k ≡ c.args.hash % n.tables.counts.buckets = sym (own_is n.tables k) ∙ ap (λ (h : ℕ). h % n.tables.counts.buckets) is in
    let from : begin t k ≡ c.get-begin.result = ap (nth t.buckets.numbers) own_of ∙ sym c.get-begin.ensures in
    let b = of_bucket n c.requires.opened c.requires.some k lt in
    (omega (arith, from, b.from), c.end_of.ensures.all k (omega (arith, from, b.from)) lt (λ i le to. own_is n.tables i ∙ b.own_names i (omega (arith, from, le)) to ∙ own_of))
