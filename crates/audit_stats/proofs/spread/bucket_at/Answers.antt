use Rattle.std.proofs.Common.{sym, ap, ◌∙◌}
use Rattle.std.specs.Cmp.{nat_cmp_total}
use Rattle.std.proofs.lemmas.Map.Lookups.{exact_unsigned}
use Rattle.someip_tables.proofs.Trees.{entries-map_of}
use Rattle.audit_stats.specs.Spreads.{bucket_at}
use Rattle.audit_stats.proofs.BucketLemmas.{bucket_here}
use Rattle.audit_stats.proofs.spread.bucket_at.Goals as goal

pub returns-then-left-number : goal.returns-then-left-number
returns-then-left-number c =
    sym (bucket_here c.loop-low.left c.in-Some.low.now c.in-Some.number.now _ c.if-left-number.true) ∙ ap (bucket_at c.loop-low.left) (sym c.in-Some.ensures.steps)
    ∙ c.loop-low.invariant ∙ ap (bucket_at c.args.rank) (sym (entries-map_of nat_cmp_total exact_unsigned c.args.buckets.now.entries c.iter-low-items.ensures.ordered))

pub returns : goal.returns
returns c =
    ap (bucket_at c.loop-low.left) (sym c.in-None.ensures.steps.0)
    ∙ c.loop-low.invariant ∙ ap (bucket_at c.args.rank) (sym (entries-map_of nat_cmp_total exact_unsigned c.args.buckets.now.entries c.iter-low-items.ensures.ordered))
