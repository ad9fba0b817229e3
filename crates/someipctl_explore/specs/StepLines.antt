-- The lines of a schedule that are printed of steps.
use Rattle.std.specs.Prelude.{ℕ, ◌==◌, ◌&&◌, nat_lt, nat_le, Bool, true, false, if◌then◌else◌, List, [], ◌∷◌, ◌++◌, length, codes, decimal}
use Rattle.std.specs.List.{flat_map, list_all}
use Rattle.std.specs.Net.Text.{socket_v4_text}
use Rattle.sd_core.specs.declared.keys.InstanceId.{InstanceId}
use Rattle.someip_rpc.specs.declared.call.CallKind.{CallKind}
use Rattle.someip_rpc.specs.declared.call.CallKind.TheVariants.{Request, RequestNoReturn}
use Rattle.someip_rpc.specs.declared.request.Reply.{Reply}
use Rattle.someip_rpc.specs.declared.request.Reply.TheVariants.{Response, Error}
use Rattle.someip_texts.specs.Words.{bytes_text, hex2, hex4, ids_text}
use Rattle.someip_world_schedule.specs.declared.step.Step.{Step}
use Rattle.someip_world_schedule.specs.declared.step.Step.TheVariants.{Tick, Deliver, Call, Answer, Publish, PublishTo, Subscribe, Unsubscribe, StopOffer, Restart, Inject}
use Rattle.someipctl_io.specs.Words.{ended}

-- a line: its first word, and others, each after a space
abbrev pub line_text : List ℕ → List (List ℕ) → List ℕ
line_text head words = head ++ ended words

-- ---- the words of a step

-- bytes are a run of one byte, from 8 times on, that a schedule can spell
abbrev pub is_run : List ℕ → Bool
is_run [] = false
is_run (first ∷ others) = nat_le 7 (length others) && nat_lt (length others) 1048576 && list_all (λ b. b == first) others

-- HH*N: a run of one byte
abbrev pub run_text : List ℕ → List ℕ
run_text [] = []
run_text (first ∷ others) = hex2 first ++ codes "*" ++ decimal (length (first ∷ others))

-- a payload: HH*N where it is such a run, and else its bytes in hex, or `-` for none
abbrev pub payload_word : List ℕ → List ℕ
payload_word bytes = if is_run bytes then run_text bytes else bytes_text bytes

-- SERVICE.INSTANCE
abbrev pub instance_word : InstanceId → List ℕ
instance_word instance = ids_text instance.service instance.instance

-- the first word of a call, and of an answer
abbrev pub call_head : CallKind → List ℕ
call_head Request = codes "call"
call_head RequestNoReturn = codes "oneway"

abbrev pub reply_head : Reply → List ℕ
reply_head (Response code) = codes "answer"
reply_head (Error code) = codes "error"

-- the Return Code of an answer
abbrev pub reply_code : Reply → ℕ
reply_code (Response code) = code.0
reply_code (Error code) = code.0

-- the first word of the line of a step
abbrev pub step_head : Step → List ℕ
step_head (Tick node ms) = codes "tick"
step_head (Deliver number node) = codes "deliver"
step_head (Call node kind instance method payload) = call_head kind
step_head (Answer node token reply payload) = reply_head reply
step_head (Publish node instance event payload) = codes "publish"
step_head (PublishTo node eventgroup to event payload) = codes "publish_to"
step_head (Subscribe node eventgroup) = codes "subscribe"
step_head (Unsubscribe node eventgroup) = codes "unsubscribe"
step_head (StopOffer node instance) = codes "stop_offer"
step_head (Restart node delay) = codes "restart"
step_head (Inject node port to payload) = codes "inject"

-- and the others
abbrev pub step_words : Step → List (List ℕ)
step_words (Tick node ms) = node ∷ decimal ms ∷ []
step_words (Deliver number node) = decimal number ∷ node ∷ []
step_words (Call node kind instance method payload) = node ∷ instance_word instance ∷ hex4 method ∷ payload_word payload ∷ []
step_words (Answer node token reply payload) = node ∷ decimal token ∷ hex2 (reply_code reply) ∷ payload_word payload ∷ []
step_words (Publish node instance event payload) = node ∷ instance_word instance ∷ hex4 event ∷ payload_word payload ∷ []
step_words (PublishTo node eventgroup to event payload) =
    node ∷ instance_word eventgroup.instance ∷ hex4 eventgroup.id ∷ socket_v4_text to ∷ hex4 event ∷ payload_word payload ∷ []
step_words (Subscribe node eventgroup) = node ∷ instance_word eventgroup.instance ∷ hex4 eventgroup.id ∷ []
step_words (Unsubscribe node eventgroup) = node ∷ instance_word eventgroup.instance ∷ hex4 eventgroup.id ∷ []
step_words (StopOffer node instance) = node ∷ instance_word instance ∷ []
step_words (Restart node delay) = node ∷ decimal delay ∷ []
step_words (Inject node port to payload) = node ∷ decimal port ∷ socket_v4_text to ∷ payload_word payload ∷ []

-- ---- steps

-- the line of a step
abbrev pub step_line : Step → List ℕ
step_line step = line_text (step_head step) (step_words step)

-- the lines of steps
abbrev pub steps_text : List Step → List ℕ
steps_text steps = flat_map step_line steps
