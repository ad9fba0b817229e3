-- Codes, by which a proof tells values apart.
use Rattle.std.specs.Prelude.{ℕ, List, Option, refl}
use Rattle.std.specs.Coded.{Coded, code_by, coded×, coded_ℕ, coded_list, coded_option}
use Rattle.recording.specs.declared.Time.{Time}
use Rattle.recording.specs.Captured.{RecordValue}
use Rattle.recording_packets.specs.declared.fragments.PacketKey.{PacketKey}
use Rattle.recording_packets.specs.Codes.{coded_time}
use Rattle.recording_packets.specs.fragments.Views.{coded_key}
use Rattle.someipctl_extract.specs.Kept.{PartValue}

abbrev pub coded_record : Coded RecordValue
coded_record =
    code_by ((Option Time × ℕ) × ((ℕ × ℕ) × List ℕ))
    (coded× (coded× (coded_option coded_time) coded_ℕ) (coded× (coded× coded_ℕ coded_ℕ) (coded_list coded_ℕ)))
    (λ r. ((r.time, r.interface), ((r.link, r.original), r.bytes)))
    (λ c. record { time = c.0.0; interface = c.0.1; link = c.1.0.0; original = c.1.0.1; bytes = c.1.1 }) (λ _. refl)

abbrev pub coded_part : Coded PartValue
coded_part =
    code_by (PacketKey × Option (List RecordValue)) (coded× coded_key (coded_option (coded_list coded_record)))
    (λ p. (p.key, p.packets)) (λ c. record { key = c.0; packets = c.1 }) (λ _. refl)

abbrev pub coded_parts : Coded (List PartValue)
coded_parts = coded_list coded_part
