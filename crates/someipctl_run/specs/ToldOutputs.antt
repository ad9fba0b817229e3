-- What a line of a trace tells, field by field.
use Rattle.std.specs.Prelude.{ℕ, List, [], ◌∷◌, ◌++◌, codes, Option, None, Some}
use Rattle.sd_core.specs.declared.keys.InstanceId.{InstanceId}
use Rattle.sd_core.specs.declared.eventgroup.Eventgroup.{Eventgroup}
use Rattle.sd_core.specs.Names.{cause_name}
use Rattle.someip_rpc.specs.declared.ids.MessageId.{MessageId}
use Rattle.someip_node_rules.specs.rules.DropNames.{drop_name, node_error_name}
use Rattle.someip_node_rules.specs.declared.output.Output.{Output}
use Rattle.someip_node_rules.specs.declared.output.Output.TheVariants.{Sent, Called, Request, Answered, TimedOut, Event, Known, Gone, Subscribed, Unsubscribed, Accepted, Nacked, Rebooted, Dropped}
use Rattle.someip_world_rules.specs.declared.line.Told.{Told}
use Rattle.someip_world_rules.specs.declared.line.Told.TheVariants.{Gave, Refused}
use Rattle.someipctl_io.specs.ToldLines.{Content, text, number, id, byte, bytes, nothing, address, endpoint, ToldField, ToldLine, field}
use Rattle.someipctl_io.specs.ToldItems.{told}

-- a field behind a space
abbrev pub next_field : List ℕ → Content → ToldField
next_field key content = field (codes " ") key content

-- ---- IDs

-- a method of a service
abbrev pub method_ids : MessageId → List ToldField
method_ids m = next_field (codes "service") (id m.service) ∷ field (codes ".") (codes "method") (id m.method) ∷ []

-- an instance of a service
abbrev pub instance_ids : InstanceId → List ToldField
instance_ids i = next_field (codes "service") (id i.service) ∷ field (codes ".") (codes "instance") (id i.instance) ∷ []

-- an eventgroup of an instance
abbrev pub eventgroup_ids : Eventgroup → List ToldField
eventgroup_ids e = instance_ids e.instance ++ (next_field (codes "group") (id e.id) ∷ [])

-- a call: the method and the Session ID
abbrev pub call_ids : MessageId → ℕ → List ToldField
call_ids m session = method_ids m ++ (next_field (codes "session") (id session) ∷ [])

-- ---- outputs

-- the token of a request, if it waits for an answer
abbrev pub token_told : Option ℕ → Content
token_told None = nothing
token_told (Some token) = number token

-- what an output tells; a datagram that is sent is the k-th
abbrev pub output_told : ℕ → Output → ToldLine
output_told k (Sent from to payload) =
    told (codes "sent")
    (next_field (codes "datagram") (number k)
    ∷ next_field (codes "from") (endpoint from)
    ∷ next_field (codes "to") (endpoint to)
    ∷ next_field (codes "payload") (bytes payload) ∷ [])
output_told k (Called message session) = told (codes "call") (call_ids message session)
output_told k (Request token instance method payload) =
    told (codes "request")
    (next_field (codes "token") (token_told token)
    ∷ (instance_ids instance ++ (next_field (codes "method") (id method) ∷ next_field (codes "payload") (bytes payload) ∷ [])))
output_told k (Answered message session code payload) =
    told (codes "answer")
    (call_ids message session ++ (next_field (codes "code") (byte code.0) ∷ next_field (codes "payload") (bytes payload) ∷ []))
output_told k (TimedOut message session) = told (codes "timeout") (call_ids message session)
output_told k (Event instance event payload) =
    told (codes "event")
    (instance_ids instance ++ (next_field (codes "event") (id event) ∷ next_field (codes "payload") (bytes payload) ∷ []))
output_told k (Known instance at) = told (codes "known") (instance_ids instance ++ (next_field (codes "endpoint") (endpoint at) ∷ []))
output_told k (Gone instance) = told (codes "gone") (instance_ids instance)
output_told k (Subscribed eventgroup counter) =
    told (codes "subscribed") (eventgroup_ids eventgroup ++ (next_field (codes "counter") (number counter) ∷ []))
output_told k (Unsubscribed eventgroup) = told (codes "unsubscribed") (eventgroup_ids eventgroup)
output_told k (Accepted eventgroup at counter) =
    told (codes "accepted")
    (eventgroup_ids eventgroup ++ (next_field (codes "endpoint") (endpoint at) ∷ next_field (codes "counter") (number counter) ∷ []))
output_told k (Nacked eventgroup cause) =
    told (codes "nacked") (eventgroup_ids eventgroup ++ (next_field (codes "cause") (text (cause_name cause)) ∷ []))
output_told k (Rebooted peer) = told (codes "reboot") (next_field (codes "address") (address peer) ∷ [])
output_told k (Dropped reason) = told (codes "dropped") (next_field (codes "name") (text (drop_name reason)) ∷ [])

-- what a line tells: an output, or a refusal by its name
abbrev pub line_told : ℕ → Told → ToldLine
line_told k (Gave output) = output_told k output
line_told k (Refused refusal) = told (codes "refused") (next_field (codes "name") (text (node_error_name refusal)) ∷ [])
