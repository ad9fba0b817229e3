-- Payloads, as the texts of their values.
use Rattle.std.specs.Prelude.{◌≡◌, ◌≤◌, ◌⊎◌, ℕ, List, Ok, IsUtf8}
use Rattle.someip_payload.specs.ShapeText.{IsTextOf}
use Rattle.someip_payload.specs.ValueReading.{IsTextOfValue}
use Rattle.someip_payload_codec.specs.Grammar.{Reads}
use Rattle.someip_payload_values.specs.Check.{checked, depth}
use Rattle.someip_payload_values.specs.Data.{Data, Form}
use Rattle.someip_payload_values.specs.ToldText.{SaysData}
use Rattle.someip_payload_values.specs.Writing.{encoded}
use Rattle.someip_c_node.specs.declared.outcome.Outcome.{Outcome}
use Rattle.someip_c_node.specs.declared.outcome.Outcome.TheVariants.{BadPayload, BadShape, BadValue, NotText, OutOfMemory}

-- a text is that of a shape that payloads can have, inside which at most 64 shapes lie
abbrev pub IsShapeIn : List ℕ → Form → Type 0
IsShapeIn text form = IsTextOf form text × ((depth form ≤ 64) × (checked form ≡ Ok tt))

-- a text says the value of a payload, by the shape of a text
abbrev pub TellsValue : List ℕ → List ℕ → List ℕ → Type 0
TellsValue shape payload text = (form : Form) × ((value : Data) × (IsShapeIn shape form × (Reads form value payload × SaysData form value text)))

-- a payload is that of the value of a form that a text says
abbrev pub IsSpelledBy : Form → List ℕ → List ℕ → Type 0
IsSpelledBy form text payload = (value : Data) × (IsTextOfValue form value text × (encoded form value ≡ Ok payload))

-- a payload is that of the value of a text, by the shape of a text
abbrev pub SpellsValue : List ℕ → List ℕ → List ℕ → Type 0
SpellsValue shape text payload = (form : Form) × (IsShapeIn shape form × IsSpelledBy form text payload)

-- ---- refusals

-- a text is that of no such shape, or memory ran out
abbrev pub RefusesShape : List ℕ → Outcome → Type 0
RefusesShape shape NotText = IsUtf8 shape → ⊥
RefusesShape shape BadShape = IsUtf8 shape × ((form : Form) → IsShapeIn shape form → ⊥)
RefusesShape shape OutOfMemory = Unit {0}
RefusesShape shape outcome = ⊥

-- a payload is that of no value of a form, or memory ran out
abbrev pub RefusesPayload : Form → List ℕ → Outcome → Type 0
RefusesPayload form payload BadPayload = (value : Data) → Reads form value payload → ⊥
RefusesPayload form payload OutOfMemory = Unit {0}
RefusesPayload form payload outcome = ⊥

-- a text is that of no value of a form that a payload can have, or memory ran out
abbrev pub RefusesText : Form → List ℕ → Outcome → Type 0
RefusesText form text NotText = IsUtf8 text → ⊥
RefusesText form text BadValue = IsUtf8 text × ((payload : List ℕ) → IsSpelledBy form text payload → ⊥)
RefusesText form text OutOfMemory = Unit {0}
RefusesText form text outcome = ⊥

-- why no text says the value of a payload: there is no shape, or there is one and the payload is that of no value of it
abbrev pub TellsNoValue : List ℕ → List ℕ → Outcome → Type 0
TellsNoValue shape payload outcome = RefusesShape shape outcome ⊎ ((form : Form) × (IsShapeIn shape form × RefusesPayload form payload outcome))

-- why a text says the value of no payload: there is no shape, or there is one and the text is that of no value of it
abbrev pub SpellsNoValue : List ℕ → List ℕ → Outcome → Type 0
SpellsNoValue shape text outcome = RefusesShape shape outcome ⊎ ((form : Form) × (IsShapeIn shape form × RefusesText form text outcome))
