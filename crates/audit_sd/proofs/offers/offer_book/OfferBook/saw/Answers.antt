use Rattle.std.proofs.Common.{◌≡◌, true, rules}
use Rattle.someip_tables.specs.Tables.{map_of}
use Rattle.someip_tables.specs.hashed.Rooms.{may_hold}
use Rattle.audit_sd.specs.offers.OfferKeys.{offer_cmp}
use Rattle.audit_sd.proofs.about_offers.OfferLemmas.{stopped_within, offered_within}
use Rattle.audit_sd.proofs.offers.offer_book.OfferBook.saw.Goals as goal

pub invariant_of-self : goal.invariant_of-self
invariant_of-self c = stopped_within c.args.entry c.self.inside.room.limit (map_of offer_cmp c.self.inside.standing) (map_of offer_cmp c.stop.new.offers) c.self.invariant c.stop.ensures

pub invariant_of-self-2 : goal.invariant_of-self-2
invariant_of-self-2 c =
    let may : may_hold c.self.inside.room.limit (map_of offer_cmp c.self.inside.standing) c.args.entry.key ≡ true = rw (← c.get.ensures, ← c.is_some-is_held.ensures, ← c.len.ensures, ← c.may_hold.ensures) c.if-not-may_hold.false in
    offered_within c.args.entry.key _ c.self.inside.room.limit (map_of offer_cmp c.self.inside.standing) (map_of offer_cmp c.offer.new.offers) c.offer.result c.self.invariant may
    c.offer.ensures.after (search rules)
