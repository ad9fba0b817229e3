-- Codes, by which a proof tells values apart.
use Rattle.std.specs.Prelude.{ℕ, List, Option, refl}
use Rattle.std.specs.Coded.{Coded, code_by, coded×, coded_ℕ, coded_list, coded_option}
use Rattle.recording.specs.declared.Endpoint.{Endpoint}
use Rattle.recording.specs.declared.Time.{Time}
use Rattle.recording.specs.Packets.{DatagramValue, Ipv4Value}
use Rattle.recording_packets.specs.declared.left_out.LeftOut.{LeftOut}
use Rattle.recording_packets.specs.copies.Remembered.{Memory, SightingValue}
use Rattle.recording_packets.specs.fragments.Stores.{Store}
use Rattle.recording_packets.specs.fragments.Views.{coded_store}
use Rattle.recording_packets.specs.Intake.{ArrivalValue, IntakeValue}

abbrev pub coded_time : Coded Time
coded_time =
    code_by (ℕ × ℕ) (coded× coded_ℕ coded_ℕ) (λ t. (t.seconds, t.nanoseconds))
    (λ c. record { seconds = c.0; nanoseconds = c.1 }) (λ _. refl)

abbrev pub coded_endpoint : Coded Endpoint
coded_endpoint =
    code_by (List ℕ × ℕ) (coded× (coded_list coded_ℕ) coded_ℕ) (λ e. (e.ip, e.port))
    (λ c. record { ip = c.0; port = c.1 }) (λ _. refl)

abbrev pub coded_datagram : Coded DatagramValue
coded_datagram =
    code_by ((Option Time × Endpoint) × (Endpoint × List ℕ))
    (coded× (coded× (coded_option coded_time) coded_endpoint) (coded× coded_endpoint (coded_list coded_ℕ)))
    (λ d. ((d.time, d.from), (d.to, d.payload)))
    (λ c. record { time = c.0.0; from = c.0.1; to = c.1.0; payload = c.1.1 }) (λ _. refl)

abbrev pub coded_arrival : Coded ArrivalValue
coded_arrival =
    code_by (ℕ × DatagramValue) (coded× coded_ℕ coded_datagram) (λ a. (a.frame, a.datagram))
    (λ c. record { frame = c.0; datagram = c.1 }) (λ _. refl)

abbrev pub coded_packet : Coded Ipv4Value
coded_packet =
    code_by ((List ℕ × List ℕ) × ((ℕ × ℕ) × (ℕ × List ℕ)))
    (coded× (coded× (coded_list coded_ℕ) (coded_list coded_ℕ))
    (coded× (coded× coded_ℕ coded_ℕ) (coded× coded_ℕ (coded_list coded_ℕ))))
    (λ p. ((p.source, p.destination), ((p.identification, p.fragment), (p.protocol, p.payload))))
    (λ c. record {
      source = c.0.0;
      destination = c.0.1;
      identification = c.1.0.0;
      fragment = c.1.0.1;
      protocol = c.1.1.0;
      payload = c.1.1.1;
    })
    (λ _. refl)

abbrev pub coded_sighting : Coded SightingValue
coded_sighting =
    code_by (ℕ × Ipv4Value) (coded× coded_ℕ coded_packet) (λ s. (s.moment, s.packet))
    (λ c. record { moment = c.0; packet = c.1 }) (λ _. refl)

abbrev pub coded_memory : Coded Memory
coded_memory =
    code_by (ℕ × List SightingValue) (coded× coded_ℕ (coded_list coded_sighting)) (λ m. (m.window, m.remembered))
    (λ c. record { window = c.0; remembered = c.1 }) (λ _. refl)

abbrev pub coded_left_out : Coded LeftOut
coded_left_out =
    code_by (((ℕ × ℕ) × (ℕ × ℕ)) × ((ℕ × ℕ) × (ℕ × ℕ)))
    (coded× (coded× (coded× coded_ℕ coded_ℕ) (coded× coded_ℕ coded_ℕ))
    (coded× (coded× coded_ℕ coded_ℕ) (coded× coded_ℕ coded_ℕ)))
    (λ l. (
      ((l.link_type, l.not_ipv4), (l.not_udp, l.cut)),
      ((l.bad_udp_length, l.copies), (l.fragments_without_rest, l.fragments_that_differ)),
    ))
    (λ c. record {
      link_type = c.0.0.0;
      not_ipv4 = c.0.0.1;
      not_udp = c.0.1.0;
      cut = c.0.1.1;
      bad_udp_length = c.1.0.0;
      copies = c.1.0.1;
      fragments_without_rest = c.1.1.0;
      fragments_that_differ = c.1.1.1;
    })
    (λ _. refl)

abbrev pub coded_intake : Coded IntakeValue
coded_intake =
    code_by ((ℕ × ℕ) × ((Option Memory × Store) × (Option ArrivalValue × LeftOut)))
    (coded× (coded× coded_ℕ coded_ℕ)
    (coded× (coded× (coded_option coded_memory) coded_store) (coded× (coded_option coded_arrival) coded_left_out)))
    (λ s. ((s.frames, s.clock), ((s.copies, s.fragments), (s.whole, s.skipped))))
    (λ c. record {
      frames = c.0.0;
      clock = c.0.1;
      copies = c.1.0.0;
      fragments = c.1.0.1;
      whole = c.1.1.0;
      skipped = c.1.1.1;
    })
    (λ _. refl)
