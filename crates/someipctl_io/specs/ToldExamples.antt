-- Lines that are worked out by hand.
use Rattle.std.specs.Prelude.{ℕ, [], ◌∷◌, codes, None}
use Rattle.someip_wire.specs.declared.MessageType.TheVariants.{Notification}
use Rattle.someip_wire.specs.Spelling.{MessageValue}
use Rattle.sd_wire.specs.declared.ServiceKind.TheVariants.{Offer}
use Rattle.sd_wire.specs.declared.EntryHead.TheVariants.{Service}
use Rattle.sd_wire.specs.declared.SdOption.TheVariants.{LoadBalancing}
use Rattle.sd_wire.specs.contents.Values.{ReadValue, good}
use Rattle.someip_payload_values.specs.Data.{Form, Data, u8, u16, named, enumerated, «struct», form_then, no_forms, tuple, item, no_items, uint}
use Rattle.std.specs.Prelude.{pos}

-- an event with three bytes of payload
abbrev pub event : MessageValue
event = record {
  header = record { service = 0x1234; method = 0x8001; client = 0; session = 1; interface = 1; kind = Notification; code = record { 0 = 0 } };
  payload = 0 ∷ 42 ∷ 3 ∷ [];
}

-- an offer with a load balancing option
abbrev pub offer : ReadValue
offer = good (record {
  head = Service (record { kind = Offer; service = 0x1234; instance = 1; major = 1; ttl = 3; minor = 0 });
  first = LoadBalancing 5 6 ∷ [];
  second = [];
})

-- a structure whose members have names, of which one has names for its values; and its value
abbrev pub speed_and_gear : Form
speed_and_gear = «struct» None (form_then (named (codes "speed") u16) (form_then (named (codes "gear") (enumerated u8 ((pos 3, codes "D") ∷ []))) no_forms))

abbrev pub at_42_in : ℕ → Data
at_42_in gear = tuple (item (uint 42) (item (uint gear) no_items))
