-- The step that a line of a schedule spells.
use Rattle.std.specs.Prelude.{ℕ, ◌≡◌, ◌^◌, ◌==◌, false, if◌then◌else◌, List, [], ◌∷◌, ◌++◌, codes, bytes_eq, Option, Some, None}
use Rattle.std.specs.List.{find, list_any, slice_split}
use Rattle.std.specs.Str.{is_utf8}
use Rattle.sd_core.specs.declared.eventgroup.Eventgroup.{Eventgroup}
use Rattle.someip_rpc.specs.declared.call.CallKind.{CallKind}
use Rattle.someip_rpc.specs.declared.call.CallKind.TheVariants as kinds
use Rattle.someip_rpc.specs.declared.request.Reply.{Reply}
use Rattle.someip_rpc.specs.declared.request.Reply.TheVariants as replies
use Rattle.someip_texts.specs.Numbers.{number_in}
use Rattle.someip_wire.specs.declared.header.ReturnCode.{ReturnCode}
use Rattle.someip_world_schedule.specs.declared.step.Step.{Step}
use Rattle.someip_world_schedule.specs.declared.step.Step.TheVariants.{Tick, Deliver, Call, Answer, Publish, PublishTo, Subscribe, Unsubscribe, StopOffer, Restart, Inject}
use Rattle.someip_world_schedule.specs.declared.step_reading.AnswerKind.{AnswerKind}
use Rattle.someip_world_schedule.specs.declared.step_reading.AnswerKind.TheVariants as answers
use Rattle.someip_world_schedule.specs.declared.step_reading.SubscriptionKind.{SubscriptionKind}
use Rattle.someip_world_schedule.specs.declared.step_reading.SubscriptionKind.TheVariants as subscriptions
use Rattle.someip_world_schedule.specs.declared.step_kind.StepKind.{StepKind}
use Rattle.someip_world_schedule.specs.declared.step_kind.StepKind.TheVariants as steps
use Rattle.someip_world_schedule.specs.StepWords.{◌>>=◌, source_port_in, id_in, method_in, code_in, name_in, instance_in, eventgroup_in, endpoint_in, payload_in}

-- the words of a line: what stands between spaces. Between two spaces, and at an end with a space, stands an empty word,
-- which no step takes
abbrev pub words_in : List ℕ → List (List ℕ)
words_in line = slice_split (λ b. b == 0x20) line

-- a text has no space in it
abbrev pub IsUnparted : List ℕ → Type 0
IsUnparted word = list_any (λ b. b == 0x20) word ≡ false

-- words with single spaces between them
abbrev pub joined_by_blanks : List (List ℕ) → List ℕ
joined_by_blanks [] = []
joined_by_blanks (word ∷ []) = word
joined_by_blanks (word ∷ next ∷ others) = word ++ 0x20 ∷ joined_by_blanks (next ∷ others)

-- the first word of the line of each kind of step
abbrev pub step_word : StepKind → List ℕ
step_word steps.Tick = codes "tick"
step_word steps.Deliver = codes "deliver"
step_word steps.Call = codes "call"
step_word steps.Oneway = codes "oneway"
step_word steps.Answer = codes "answer"
step_word steps.Error = codes "error"
step_word steps.Publish = codes "publish"
step_word steps.PublishTo = codes "publish_to"
step_word steps.Subscribe = codes "subscribe"
step_word steps.Unsubscribe = codes "unsubscribe"
step_word steps.StopOffer = codes "stop_offer"
step_word steps.Restart = codes "restart"
step_word steps.Inject = codes "inject"

-- all kinds of steps
abbrev pub step_kinds : List StepKind
step_kinds =
    steps.Tick ∷ steps.Deliver ∷ steps.Call ∷ steps.Oneway ∷ steps.Answer ∷ steps.Error ∷ steps.Publish
    ∷ steps.PublishTo ∷ steps.Subscribe ∷ steps.Unsubscribe ∷ steps.StopOffer ∷ steps.Restart ∷ steps.Inject ∷ []

-- the kind of the step that a line with this first word spells
abbrev pub step_kind_in : List ℕ → Option StepKind
step_kind_in word = find (λ kind. bytes_eq word (step_word kind)) step_kinds

-- NODE MS
abbrev pub tick_step : List (List ℕ) → Option Step
tick_step (node ∷ ms ∷ []) = do
  node ← name_in node
  ms ← number_in (2 ^ 64) ms
  Some (Tick node ms)
tick_step words = None

-- N NODE
abbrev pub deliver_step : List (List ℕ) → Option Step
deliver_step (number ∷ node ∷ []) = do
  number ← number_in (2 ^ 64) number
  node ← name_in node
  Some (Deliver number node)
deliver_step words = None

-- NODE SI METHOD PAYLOAD
abbrev pub call_step : CallKind → List (List ℕ) → Option Step
call_step kind (node ∷ instance ∷ method ∷ payload ∷ []) = do
  node ← name_in node
  instance ← instance_in instance
  method ← method_in method
  payload ← payload_in payload
  Some (Call node kind instance method payload)
call_step kind words = None

-- how a request is answered
abbrev pub Answered : Type 0
Answered = ReturnCode → Reply

-- by a RESPONSE or by an ERROR
abbrev pub answered : AnswerKind → Answered
answered answers.Response = replies.Response
answered answers.Error = replies.Error

-- NODE T CODE PAYLOAD
abbrev pub answer_step : Answered → List (List ℕ) → Option Step
answer_step reply (node ∷ token ∷ code ∷ payload ∷ []) = do
  node ← name_in node
  token ← number_in (2 ^ 64) token
  code ← code_in code
  payload ← payload_in payload
  Some (Answer node token (reply code) payload)
answer_step reply words = None

-- NODE SI EVENT PAYLOAD
abbrev pub publish_step : List (List ℕ) → Option Step
publish_step (node ∷ instance ∷ event ∷ payload ∷ []) = do
  node ← name_in node
  instance ← instance_in instance
  event ← id_in event
  payload ← payload_in payload
  Some (Publish node instance event payload)
publish_step words = None

-- NODE SI GROUP EP EVENT PAYLOAD
abbrev pub publish_to_step : List (List ℕ) → Option Step
publish_to_step (node ∷ instance ∷ group ∷ endpoint ∷ event ∷ payload ∷ []) = do
  node ← name_in node
  eventgroup ← eventgroup_in instance group
  to ← endpoint_in endpoint
  event ← id_in event
  payload ← payload_in payload
  Some (PublishTo node eventgroup to event payload)
publish_to_step words = None

-- what becomes of a subscription
abbrev pub Subscription : Type 0
Subscription = List ℕ → Eventgroup → Step

-- it begins or ends
abbrev pub subscription : SubscriptionKind → Subscription
subscription subscriptions.Begun = Subscribe
subscription subscriptions.Ended = Unsubscribe

-- NODE SI GROUP
abbrev pub subscription_step : Subscription → List (List ℕ) → Option Step
subscription_step step (node ∷ instance ∷ group ∷ []) = do
  node ← name_in node
  eventgroup ← eventgroup_in instance group
  Some (step node eventgroup)
subscription_step step words = None

-- NODE SI
abbrev pub stop_offer_step : List (List ℕ) → Option Step
stop_offer_step (node ∷ instance ∷ []) = do
  node ← name_in node
  instance ← instance_in instance
  Some (StopOffer node instance)
stop_offer_step words = None

-- NODE DELAY
abbrev pub restart_step : List (List ℕ) → Option Step
restart_step (node ∷ delay ∷ []) = do
  node ← name_in node
  delay ← number_in (2 ^ 64) delay
  Some (Restart node delay)
restart_step words = None

-- NODE PORT EP PAYLOAD
abbrev pub inject_step : List (List ℕ) → Option Step
inject_step (node ∷ port ∷ to ∷ payload ∷ []) = do
  node ← name_in node
  port ← source_port_in port
  to ← endpoint_in to
  payload ← payload_in payload
  Some (Inject node port to payload)
inject_step words = None

-- the step of a kind, with these words after the first
abbrev pub step_of_kind : StepKind → List (List ℕ) → Option Step
step_of_kind steps.Tick words = tick_step words
step_of_kind steps.Deliver words = deliver_step words
step_of_kind steps.Call words = call_step kinds.Request words
step_of_kind steps.Oneway words = call_step kinds.RequestNoReturn words
step_of_kind steps.Answer words = answer_step replies.Response words
step_of_kind steps.Error words = answer_step replies.Error words
step_of_kind steps.Publish words = publish_step words
step_of_kind steps.PublishTo words = publish_to_step words
step_of_kind steps.Subscribe words = subscription_step Subscribe words
step_of_kind steps.Unsubscribe words = subscription_step Unsubscribe words
step_of_kind steps.StopOffer words = stop_offer_step words
step_of_kind steps.Restart words = restart_step words
step_of_kind steps.Inject words = inject_step words

-- the step that words spell, and none if they spell none
abbrev pub step_of_words : List (List ℕ) → Option Step
step_of_words [] = None
step_of_words (word ∷ others) = do
  kind ← step_kind_in word
  step_of_kind kind others

-- the step that a line spells. Only a line of UTF-8 spells one
abbrev pub step_in : List ℕ → Option Step
step_in line = if is_utf8 line then step_of_words (words_in line) else None
