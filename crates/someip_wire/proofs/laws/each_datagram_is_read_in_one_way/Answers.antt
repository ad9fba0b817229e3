use Rattle.someip_wire.proofs.DatagramLemmas.{is_split, Datagram-same, items_from-datagram}
use Rattle.someip_wire.proofs.laws.each_datagram_is_read_in_one_way.Goals as goal

pub returns-clause-some : goal.returns-clause-some
returns-clause-some c = λ bytes fits. let s = is_split bytes fits in (s.0, s.1, s.2)

pub returns-clause-one : goal.returns-clause-one
returns-clause-one c = λ bytes messages others end other. Datagram-same messages others end other bytes

pub returns-clause-read : goal.returns-clause-read
returns-clause-read c = λ bytes messages end. items_from-datagram messages end bytes
