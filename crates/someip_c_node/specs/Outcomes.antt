-- How calls end, and the numbers that tell it.
use Rattle.std.specs.Prelude.{◌≡◌, ℕ, codes, List, [], ◌∷◌, ◌++◌, map, Option, None, Some}
use Rattle.std.specs.List.{slice_get}
use Rattle.std.specs.Option.{option_and_then, option_map_or}
use Rattle.someip_texts.specs.Words.{words_text}
use Rattle.someip_node_rules.specs.rules.DropNames.{node_error_name}
use Rattle.someip_rpc.specs.declared.error.RpcError.TheVariants as rpc
use Rattle.someip_node_rules.specs.declared.error.NodeError.{NodeError}
use Rattle.someip_node_rules.specs.declared.error.NodeError.TheVariants as node
use Rattle.someip_c_node.specs.declared.outcome.Outcome.{Outcome}
use Rattle.someip_c_node.specs.declared.outcome.Outcome.TheVariants.{Done, Closed, Held, OutputsWait, NothingLeft, BufferTooSmall, NothingDue, NotText, NotToml, Missing, WrongKind, OutOfRange, UnknownKey, Clash, NoSuchNode, BadDelay, ClockPast, NotWanted, Failed, OutOfMemory, NotOffered, Busy, TooLong, UnknownToken, BadErrorCode, UnknownEvent, NotSubscribed, BadStep, PayloadTooLong, NoMemory, BadShape, BadPayload, BadValue}

-- the number of an outcome
abbrev pub number_of : Outcome → ℕ
number_of Done = 0
number_of Closed = 1
number_of Held = 2
number_of OutputsWait = 3
number_of NothingLeft = 4
number_of BufferTooSmall = 5
number_of NothingDue = 6
number_of NotText = 7
number_of NotToml = 8
number_of Missing = 9
number_of WrongKind = 10
number_of OutOfRange = 11
number_of UnknownKey = 12
number_of Clash = 13
number_of NoSuchNode = 14
number_of BadDelay = 16
number_of ClockPast = 17
number_of NotWanted = 18
number_of Failed = 19
number_of OutOfMemory = 20
number_of NotOffered = 21
number_of Busy = 22
number_of TooLong = 23
number_of UnknownToken = 24
number_of BadErrorCode = 26
number_of UnknownEvent = 27
number_of NotSubscribed = 28
number_of BadStep = 29
number_of PayloadTooLong = 30
number_of NoMemory = 31
number_of BadShape = 32
number_of BadPayload = 33
number_of BadValue = 34

-- the outcomes with the numbers from 0, from 16 and from 26
abbrev pub outcomes : List Outcome
outcomes = Done ∷ Closed ∷ Held ∷ OutputsWait ∷ NothingLeft ∷ BufferTooSmall ∷ NothingDue ∷ NotText ∷ NotToml ∷ Missing ∷ WrongKind ∷ OutOfRange ∷ UnknownKey ∷ Clash ∷ NoSuchNode ∷ []

abbrev pub outcomes_from_16 : List Outcome
outcomes_from_16 = BadDelay ∷ ClockPast ∷ NotWanted ∷ Failed ∷ OutOfMemory ∷ NotOffered ∷ Busy ∷ TooLong ∷ UnknownToken ∷ []

abbrev pub outcomes_from_26 : List Outcome
outcomes_from_26 = BadErrorCode ∷ UnknownEvent ∷ NotSubscribed ∷ BadStep ∷ PayloadTooLong ∷ NoMemory ∷ BadShape ∷ BadPayload ∷ BadValue ∷ []

-- the outcomes by their numbers: 15 and 25, which earlier headers had, tell none
abbrev pub numbered : List (Option Outcome)
numbered = map Some outcomes ++ (None ∷ map Some outcomes_from_16) ++ (None ∷ map Some outcomes_from_26)

-- the outcome that a number tells
abbrev pub outcome_of : ℕ → Option Outcome
outcome_of number = option_and_then (λ outcome. outcome) (slice_get numbered number)

-- the refusal of a node that was started, as an outcome: there is none for what only a start is refused as, and for what
-- no call is
abbrev pub refusal_outcome : NodeError → Option Outcome
refusal_outcome node.BadConfig = None
refusal_outcome node.BadDelay = None
refusal_outcome node.ClockPast = Some ClockPast
refusal_outcome node.NotWanted = Some NotWanted
refusal_outcome node.Failed = Some Failed
refusal_outcome node.OutOfMemory = Some OutOfMemory
refusal_outcome (node.Rpc rpc.NotOffered) = Some NotOffered
refusal_outcome (node.Rpc rpc.Busy) = Some Busy
refusal_outcome (node.Rpc rpc.TooLong) = Some TooLong
refusal_outcome (node.Rpc rpc.UnknownToken) = Some UnknownToken
refusal_outcome (node.Rpc rpc.NotPending) = None
refusal_outcome (node.Rpc rpc.BadErrorCode) = Some BadErrorCode
refusal_outcome (node.Rpc rpc.UnknownEvent) = Some UnknownEvent
refusal_outcome (node.Rpc rpc.NotSubscribed) = Some NotSubscribed
refusal_outcome (node.Rpc rpc.OutOfMemory) = None

-- ---- names

abbrev pub outcome_name : Outcome → List ℕ
outcome_name Done = codes "Done"
outcome_name Closed = codes "Closed"
outcome_name Held = codes "Held"
outcome_name OutputsWait = codes "OutputsWait"
outcome_name NothingLeft = codes "NothingLeft"
outcome_name BufferTooSmall = codes "BufferTooSmall"
outcome_name NothingDue = codes "NothingDue"
outcome_name NotText = codes "NotText"
outcome_name NotToml = codes "NotToml"
outcome_name Missing = codes "Missing"
outcome_name WrongKind = codes "WrongKind"
outcome_name OutOfRange = codes "OutOfRange"
outcome_name UnknownKey = codes "UnknownKey"
outcome_name Clash = codes "Clash"
outcome_name NoSuchNode = codes "NoSuchNode"
outcome_name BadDelay = codes "BadDelay"
outcome_name ClockPast = codes "ClockPast"
outcome_name NotWanted = codes "NotWanted"
outcome_name Failed = codes "Failed"
outcome_name OutOfMemory = codes "OutOfMemory"
outcome_name NotOffered = codes "NotOffered"
outcome_name Busy = codes "Busy"
outcome_name TooLong = codes "TooLong"
outcome_name UnknownToken = codes "UnknownToken"
outcome_name BadErrorCode = codes "BadErrorCode"
outcome_name UnknownEvent = codes "UnknownEvent"
outcome_name NotSubscribed = codes "NotSubscribed"
outcome_name BadStep = codes "BadStep"
outcome_name PayloadTooLong = codes "PayloadTooLong"
outcome_name NoMemory = codes "NoMemory"
outcome_name BadShape = codes "BadShape"
outcome_name BadPayload = codes "BadPayload"
outcome_name BadValue = codes "BadValue"

-- what a trace tells of a call that ended so: it has a line of what a node refuses, and none of a bad step, of memory or of what is no step
abbrev pub refusal_text : Outcome → List ℕ
refusal_text NotWanted = codes "refused NotWanted"
refusal_text NotOffered = codes "refused NotOffered"
refusal_text Busy = codes "refused Busy"
refusal_text UnknownToken = codes "refused UnknownToken"
refusal_text BadErrorCode = codes "refused BadErrorCode"
refusal_text UnknownEvent = codes "refused UnknownEvent"
refusal_text NotSubscribed = codes "refused NotSubscribed"
refusal_text outcome = []

-- a refusal is told as a trace does after the step and the node. A trace has no line of a clock that would go too far, of a
-- payload that is too long, or of a node that has no memory
abbrev pub IsToldAs : NodeError → Outcome → List ℕ → Type 0
IsToldAs error ClockPast text = text ≡ []
IsToldAs error TooLong text = text ≡ []
IsToldAs error Failed text = text ≡ []
IsToldAs error OutOfMemory text = text ≡ []
IsToldAs error outcome text = text ≡ words_text (codes "refused" ∷ node_error_name error ∷ [])

-- the name of the outcome that a number tells, and what a trace tells of it: nothing where it tells none
abbrev pub named_by : ℕ → List ℕ
named_by number = option_map_or outcome_name (outcome_of number) []

abbrev pub refused_by : ℕ → List ℕ
refused_by number = option_map_or refusal_text (outcome_of number) []
