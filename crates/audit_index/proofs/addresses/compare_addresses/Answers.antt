use Rattle.std.proofs.Common.{◌≡◌, ◌∙◌, rules}
use Rattle.std.specs.Ordering.{nat_cmp}
use Rattle.someip_tables.specs.hashed.EndpointNumbers.{address_number}
use Rattle.someip_tables.proofs.about_hashed.NumberLemmas.{addresses_compared}
use Rattle.audit_index.proofs.addresses.compare_addresses.Goals as goal

pub returns : goal.returns
returns c =
    let numbers : c.cmp.result ≡ nat_cmp (address_number c.args.address.now) (address_number c.args.other.now) = search rules in
    numbers ∙ addresses_compared c.args.address.now c.args.other.now c.number_of_address.ensures.valid c.number_of_address-2.ensures.valid
