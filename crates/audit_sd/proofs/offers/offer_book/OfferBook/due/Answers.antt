use Rattle.std.proofs.Common.{arith}
use Rattle.someip_tables.specs.Tables.{map_of}
use Rattle.someip_tables.proofs.MapLaws.{len-remove-≤}
use Rattle.audit_sd.specs.offers.OfferKeys.{offer_cmp}
use Rattle.audit_sd.specs.offers.OfferOrder.{offers_total, exact_offers}
use Rattle.audit_sd.proofs.offers.offer_book.OfferBook.due.Goals as goal

pub invariant_of-self : goal.invariant_of-self
invariant_of-self c =
    let less = len-remove-≤ offers_total exact_offers (map_of offer_cmp c.self.inside.standing) c.in-Some.expired.key in
    rw c.remove.ensures (omega (arith, less, c.self.invariant))
