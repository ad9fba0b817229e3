use Rattle.std.proofs.Common.{◌≡◌, ◌∙◌, rules}
use Rattle.std.specs.Ordering.{nat_cmp}
use Rattle.audit_traffic.specs.calls.CallNumbers.{ids_number}
use Rattle.audit_traffic.proofs.about_calls.NumberLemmas.{ids_compared}
use Rattle.audit_traffic.proofs.calls.call.compare_ids.Goals as goal

pub returns : goal.returns
returns c =
    let numbers : c.cmp.result ≡ nat_cmp (ids_number c.args.call.now) (ids_number c.args.other.now) = search rules in
    numbers ∙ ids_compared c.args.call.now c.args.other.now c.number_of_ids.ensures.valid c.number_of_ids-2.ensures.valid
