use Rattle.someip_tp.proofs.promises.BoundLemmas.{within_nothing, within_after, within_offered_so, within_less, within_at}
use Rattle.someip_tp.proofs.laws.each_call_keeps_parts_within_limits.Goals as goal

pub returns : goal.returns
returns c = record {
  none = within_nothing;
  offer = within_after;
  offered = within_offered_so;
  take = λ limits key parts within. within_less limits parts key within;
  expire = within_at;
}
