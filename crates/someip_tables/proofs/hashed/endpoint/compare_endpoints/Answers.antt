use Rattle.std.proofs.Common.{◌≡◌, ◌∙◌, rules}
use Rattle.std.specs.Ordering.{nat_cmp}
use Rattle.someip_tables.specs.hashed.EndpointNumbers.{endpoint_number}
use Rattle.someip_tables.proofs.about_hashed.NumberLemmas.{endpoints_compared}
use Rattle.someip_tables.proofs.hashed.endpoint.compare_endpoints.Goals as goal

pub returns : goal.returns
returns c =
    let numbers : c.cmp.result ≡ nat_cmp (endpoint_number c.args.endpoint.now) (endpoint_number c.args.other.now) = search rules in
    numbers ∙ endpoints_compared c.args.endpoint.now c.args.other.now c.number_of_endpoint.ensures.valid c.number_of_endpoint-2.ensures.valid
