use Rattle.std.proofs.Common.{◌≡◌, ◌∙◌, rules}
use Rattle.std.specs.Ordering.{nat_cmp}
use Rattle.someip_tables.proofs.about_hashed.NumberLemmas.{decides_65536}
use Rattle.audit_stats.specs.KeyNumbers.{ids_number}
use Rattle.audit_stats.proofs.keys.compare_ids.Goals as goal

pub returns : goal.returns
returns c =
    let numbers : c.cmp.result ≡ nat_cmp (ids_number c.args.flow.now) (ids_number c.args.other.now) = search rules in
    numbers ∙ decides_65536 c.args.flow.now.service c.args.other.now.service c.args.flow.now.method c.args.other.now.method c.number_of_ids.ensures.valid.1 c.number_of_ids-2.ensures.valid.1
