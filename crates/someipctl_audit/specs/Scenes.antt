-- A datagram, as the program holds it.
use Rattle.someip_audit.specs.Audits.{Seen}
use Rattle.someipctl_audit.specs.declared.auditing.SeenDatagram.{SeenDatagram}

abbrev pub view_seen : SeenDatagram → Seen
view_seen s = record { now = s.now; origin = s.origin; bytes = s.bytes.now }
