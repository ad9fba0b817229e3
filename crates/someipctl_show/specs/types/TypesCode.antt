-- What types files say as trees of numbers, by which proofs tell them apart.
use Rattle.std.specs.Prelude.{ℕ, List, Option, refl}
use Rattle.std.specs.Coded.{Coded, code_by, coded×, coded_ℕ, coded_list, coded_option}
use Rattle.someip_wire.specs.contracts.header.MessageType as kind
use Rattle.someip_wire.specs.declared.header.MessageType.{MessageType}
use Rattle.someip_payload_values.specs.Data.{Form}
use Rattle.someip_payload.specs.FormCodes.{coded_form}
use Rattle.someipctl_show.specs.types.Types.{TypedMessageValue, TypesValue}

-- a table is stored as the tuple of its values
abbrev pub coded_typed : Coded TypedMessageValue
coded_typed =
    code_by (ℕ × (ℕ × (MessageType × (Form × Option (List ℕ)))))
    (coded× coded_ℕ (coded× coded_ℕ (coded× kind.the_row.coded (coded× coded_form (coded_option (coded_list coded_ℕ))))))
    (λ t. (t.service, (t.method, (t.kind, (t.form, t.name)))))
    (λ p. record { service = p.0; method = p.1.0; kind = p.1.1.0; form = p.1.1.1.0; name = p.1.1.1.1 }) (λ _. refl)

abbrev pub coded_types : Coded TypesValue
coded_types = coded_list coded_typed
