-- What the line of a step comes to at a node.
use Rattle.std.specs.Prelude.{◌≡◌, ℕ, Bool, true, false, nat_lt, if◌then◌else◌, List, [], length, ◌++◌, codes, ◌⊎◌, Option, None, Some, Result, Ok, Err}
use Rattle.std.specs.Str.{is_utf8}
use Rattle.someip_node_rules.specs.declared.config.Config.{Config}
use Rattle.someip_node_rules.specs.rules.Inputs as input
use Rattle.someip_world_schedule.specs.declared.step.Step.{Step}
use Rattle.someip_world_schedule.specs.declared.step.Step.TheVariants.{Tick, Deliver, Call, Answer, Publish, PublishTo, Subscribe, Unsubscribe, StopOffer, Restart, Inject}
use Rattle.someip_world_schedule.specs.StepWords.{◌>>=◌, cut_in}
use Rattle.someip_world_schedule.specs.Steps.{step_of_words, words_in}
use Rattle.someip_c_node.specs.declared.outcome.Outcome.{Outcome}
use Rattle.someip_c_node.specs.declared.outcome.Outcome.TheVariants.{BadStep, NoMemory, PayloadTooLong}
use Rattle.someip_c_node.specs.Calls.{CNodeView, Calls, Restarts, WaitsFirst}

-- ---- lines

-- the step that is spelled by two parts of a line with a node's name between them: any name, since the step is done at one node
abbrev pub step_of_parts : List ℕ × List ℕ → Option Step
step_of_parts parts = step_of_words (words_in (parts.0 ++ (codes " n " ++ parts.1)))

-- the step that a line spells without its node, whose name would stand behind the first word
abbrev pub step_without_node : List ℕ → Option Step
step_without_node line = if is_utf8 line then cut_in 0x20 line >>= step_of_parts else None

-- ---- what is done

-- a payload is judged first: one that is longer than a message may be is refused, and nothing changes
abbrev pub JudgedTo : Bool → (CNodeView → Outcome → CNodeView → Type 0) → CNodeView → Outcome → CNodeView → Type 0
JudgedTo true does old outcome new = (outcome ≡ PayloadTooLong) × (new ≡ old)
JudgedTo false does old outcome new = does old outcome new

-- it is longer than that
abbrev pub is_too_long : Config → List ℕ → Bool
is_too_long config payload = nat_lt config.common.message_limit (length payload)

-- this is done with a payload that is judged first
abbrev pub Within : List ℕ → (CNodeView → Outcome → CNodeView → Type 0) → CNodeView → Outcome → CNodeView → Type 0
Within payload does old = JudgedTo (is_too_long old.node.config payload) does old

-- a line is refused as no step, and nothing changes
abbrev pub IsBad : CNodeView → Outcome → CNodeView → Type 0
IsBad old outcome new = (outcome ≡ BadStep) × (new ≡ old)

-- a step is done by the call of its name, as `run` does it. Time and datagrams do not come by a line
abbrev pub DoesStep : Step → CNodeView → Outcome → CNodeView → Type 0
DoesStep (Call node kind instance method payload) = Within payload (Calls (input.Call kind instance method payload))
DoesStep (Answer node token reply payload) = Within payload (Calls (input.Answer token reply payload))
DoesStep (Publish node instance event payload) = Within payload (Calls (input.Publish instance event payload))
DoesStep (PublishTo node eventgroup to event payload) = Within payload (Calls (input.PublishTo eventgroup.instance eventgroup.id to event payload))
DoesStep (Subscribe node eventgroup) = Calls (input.Subscribe eventgroup)
DoesStep (Unsubscribe node eventgroup) = Calls (input.Unsubscribe eventgroup)
DoesStep (StopOffer node instance) = Calls (input.StopOffer instance)
DoesStep (Restart node delay) = Restarts delay
DoesStep (Tick node ms) = IsBad
DoesStep (Deliver number node) = IsBad
DoesStep (Inject node port to payload) = IsBad

-- a line is done as its step, if it spells one
abbrev pub DoesLine : Option Step → CNodeView → Outcome → CNodeView → Type 0
DoesLine (Some step) = DoesStep step
DoesLine None = IsBad

-- there was no memory for the line or its payload, and nothing changes, or this is done
abbrev pub OrLacksMemory : (CNodeView → Outcome → CNodeView → Type 0) → CNodeView → Outcome → CNodeView → Type 0
OrLacksMemory does old outcome new = ((outcome ≡ NoMemory) × (new ≡ old)) ⊎ does old outcome new

-- a line is done at a node: while outputs wait it is refused, and else its step is done, if there is memory
abbrev pub Acts : List ℕ → CNodeView → Outcome → CNodeView → Type 0
Acts line old outcome new =
    WaitsFirst old outcome new × (old.waiting ≡ [] → OrLacksMemory (DoesLine (step_without_node line)) old outcome new)

-- a payload's bytes are given unless it is longer than a message may be
abbrev pub Lends : Config → List ℕ → Result (List ℕ) Outcome → Type 0
Lends config payload (Ok bytes) = (bytes ≡ payload) × (is_too_long config payload ≡ false)
Lends config payload (Err PayloadTooLong) = is_too_long config payload ≡ true
Lends config payload (Err NoMemory) = is_too_long config payload ≡ false
Lends config payload result = ⊥
