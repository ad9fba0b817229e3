use Rattle.std.proofs.Common.{not, arith}
use Rattle.someip_tables.specs.Tables.{map_of}
use Rattle.someip_tables.proofs.Entries.{len-retain-≤}
use Rattle.audit_sd.specs.offers.OfferKeys.{offer_cmp}
use Rattle.audit_sd.specs.offers.OfferOrder.{offers_total, exact_offers}
use Rattle.audit_sd.specs.offers.OfferRules.{is_of}
use Rattle.audit_sd.proofs.offers.offer_book.OfferBook.forget.Goals as goal

pub invariant_of-self : goal.invariant_of-self
invariant_of-self c =
    let less = len-retain-≤ offers_total exact_offers (map_of offer_cmp c.self.inside.standing) (λ _ offer. not (is_of c.args.sender offer)) in
    rw c.forget.ensures (omega (arith, less, c.self.invariant))
