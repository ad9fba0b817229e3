use Rattle.someip_reassembly.proofs.OfferLemmas.{whole_is_there, part_is_none}
use Rattle.someip_tp.proofs.laws.what_an_offer_makes_whole_can_be_taken.Goals as goal

pub returns : goal.returns
returns c = record { whole = whole_is_there; part = part_is_none }
