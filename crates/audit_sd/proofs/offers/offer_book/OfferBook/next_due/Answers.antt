use Rattle.someip_tables.specs.Tables.{map_of}
use Rattle.someip_tables.proofs.about_hashed.FirstDues.{due_from_first, never_due}
use Rattle.audit_sd.specs.offers.OfferKeys.{offer_cmp}
use Rattle.audit_sd.specs.offers.OfferOrder.{offers_total, exact_offers}
use Rattle.audit_sd.specs.offers.OfferRules.{passes_at}
use Rattle.audit_sd.proofs.offers.offer_book.OfferBook.next_due.Goals as goal

pub returns-in-Some : goal.returns-in-Some
returns-in-Some c = rw (← c.self.view_is) (due_from_first offers_total exact_offers passes_at (map_of offer_cmp c.self.inside.standing) c.in-Some.due c.in-Some.ensures)

pub returns-in-None : goal.returns-in-None
returns-in-None c = rw (← c.self.view_is) (never_due offers_total exact_offers passes_at (map_of offer_cmp c.self.inside.standing) c.in-None.ensures)
