use Rattle.someip_reassembly.proofs.MomentLemmas.{none_in_empty, later, none_after-offer, none_after-offered, none_after-take, none_after-parts_at}
use Rattle.someip_tp.proofs.moments.no_part_is_ahead_of_its_caller.Goals as goal

pub returns : goal.returns
returns c = record {
  none = none_in_empty;
  later = later;
  offer = none_after-offer;
  offered = none_after-offered;
  take = none_after-take;
  expire = none_after-parts_at;
}
