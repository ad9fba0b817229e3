-- What a setup is asked.
use Rattle.std.specs.Prelude.{◌≡◌, ℕ, List, String, string_bytes, Result, Ok, Err}
use Rattle.std.specs.declared.alloc.Global.{Global}
use Rattle.someip_c_node.specs.declared.outcome.Outcome.{Outcome}
use Rattle.someip_c_node.specs.declared.outcome.Outcome.TheVariants.{Done, OutOfMemory}
use Rattle.someip_c_node.specs.FaultWords.{TellsFault}
use Rattle.std.specs.Global.{Vec}
use Rattle.someip_c_node.specs.LogSetups.{IsLogOf, IsNoLog}
use Rattle.someip_c_node.specs.PayloadTexts.{SpellsNoValue, SpellsValue, TellsNoValue, TellsValue}
use Rattle.someip_c_node.specs.declared.endpoint.Endpoint.{Endpoint}
use Rattle.someip_c_node.specs.Texts.{AreDelaysIn, IsUnread}

-- the least and the greatest delay of the setup that a text says are told. A text that says none is refused, and nothing changes
abbrev pub TellsDelays : List ℕ → ℕ → ℕ → Outcome → ℕ → ℕ → Type 0
TellsDelays text least greatest Done least' greatest' = AreDelaysIn text (record { least_ms = least'; greatest_ms = greatest' })
TellsDelays text least greatest outcome least' greatest' = IsUnread text outcome × ((least' ≡ least) × (greatest' ≡ greatest))

-- the words of a fault of a setup are made, or memory ran out
abbrev pub TellsSetupFault : List ℕ → Result (String Global) Outcome → Type 0
TellsSetupFault text (Ok words) = TellsFault text (string_bytes words)
TellsSetupFault text (Err outcome) = outcome ≡ OutOfMemory

-- the setup of a log is made, or it is told why there is none
abbrev pub TellsLog : List ℕ → List ℕ → ℕ → List Endpoint → Result (String Global) Outcome → Type 0
TellsLog text name delay peers (Ok log) = IsLogOf text name delay peers (string_bytes log)
TellsLog text name delay peers (Err outcome) = IsNoLog text name delay peers outcome

-- the value of a payload is told, or why there is none
abbrev pub TellsPayload : List ℕ → List ℕ → Result (String Global) Outcome → Type 0
TellsPayload shape payload (Ok text) = TellsValue shape payload (string_bytes text)
TellsPayload shape payload (Err outcome) = TellsNoValue shape payload outcome

-- the payload of a value is given, or it is told why there is none
abbrev pub SpellsPayload : List ℕ → List ℕ → Result (Vec ℕ) Outcome → Type 0
SpellsPayload shape text (Ok bytes) = SpellsValue shape text bytes.items
SpellsPayload shape text (Err outcome) = SpellsNoValue shape text outcome
