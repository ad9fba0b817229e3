use Rattle.std.proofs.Common.{◌≡◌, None, Some, rules, sym, ap, ◌∙◌}
use Rattle.std.specs.BTreeMap as tree
use Rattle.std.specs.Cmp.{nat_cmp_total}
use Rattle.std.specs.FinMap as finite
use Rattle.std.specs.Ordering.{nat_cmp}
use Rattle.std.proofs.lemmas.Map.Lookups.{exact_unsigned}
use Rattle.someip_tables.specs.Tables.{map_of}
use Rattle.someip_tables.proofs.Trees.{get-map_of, map_of-insert}
use Rattle.audit_stats.specs.Spreads.{number_of, raised}
use Rattle.audit_stats.proofs.TableLemmas.{on_ok_from}
use Rattle.audit_stats.proofs.spread.raise.Goals as goal

pub returns-in-Some-clause-ok : goal.returns-in-Some-clause-ok
returns-in-Some-clause-ok c =
    let known : finite.get (map_of nat_cmp c.args.buckets.now.entries) c.args.bucket ≡ Some c.in-Some.number.now = get-map_of nat_cmp_total c.args.buckets.now.entries c.args.bucket ∙ sym c.in-Some.ensures.value in
    let one_more : c.saturating_add.result ≡ raised c.in-Some.number.now 1 = search rules in
    map_of-insert nat_cmp_total exact_unsigned c.args.buckets.now.entries (c.get_mut.follows.lender c.saturating_add.result).entries c.args.bucket _ ((c.get_mut.follows.holds c.saturating_add.result).3 (search rules)).0
    ∙ ap (finite.insert (map_of nat_cmp c.args.buckets.now.entries) c.args.bucket) (one_more ∙ ap (λ o. raised (number_of o) 1) (sym known))

pub returns-in-None-clause-ok : goal.returns-in-None-clause-ok
returns-in-None-clause-ok c =
    let none : finite.get (map_of nat_cmp c.args.buckets.now.entries) c.args.bucket ≡ None = get-map_of nat_cmp_total c.args.buckets.now.entries c.args.bucket ∙ sym c.in-None.ensures.value in
    let same : c.get_mut.follows.lender-at-none ≡ c.args.buckets.now = c.get_mut.follows.holds-at-none in
    on_ok_from c.put_value.result
    (λ is. is ∙ ap (λ (m : tree.BTreeMap _ _). finite.insert (map_of nat_cmp m.entries) c.args.bucket 1) same ∙ ap (λ o. finite.insert (map_of nat_cmp c.args.buckets.now.entries) c.args.bucket (raised (number_of o) 1)) (sym none)) c.put_value.ensures.ok
