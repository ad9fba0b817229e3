-- The words in which an output is told, in a line of a trace and where it is printed.
use Rattle.std.specs.Prelude.{ℕ, List, [], ◌∷◌, ◌++◌, codes, decimal, Option, None, Some}
use Rattle.std.specs.Net.Addr.{ipv4_octets}
use Rattle.std.specs.Net.Text.{ipv4_text, socket_v4_text}
use Rattle.someip_texts.specs.Words.{bytes_text, hex2, hex4, ids_text, words_text}
use Rattle.sd_core.specs.declared.keys.InstanceId.{InstanceId}
use Rattle.sd_core.specs.Names.{cause_name}
use Rattle.someip_rpc.specs.declared.ids.MessageId.{MessageId}
use Rattle.someip_node_rules.specs.rules.DropNames.{drop_name}
use Rattle.someip_node_rules.specs.declared.output.Output.{Output}
use Rattle.someip_node_rules.specs.declared.output.Output.TheVariants.{Sent, Called, Request, Answered, TimedOut, Event, Known, Gone, Subscribed, Unsubscribed, Accepted, Nacked, Rebooted, Dropped}

-- ---- words

-- SERVICE.METHOD
abbrev pub message_word : MessageId → List ℕ
message_word m = ids_text m.service m.method

-- SERVICE.INSTANCE
abbrev pub instance_word : InstanceId → List ℕ
instance_word i = ids_text i.service i.instance

-- the token of a request, or `-` for one that waits for no answer
abbrev pub token_word : Option ℕ → List ℕ
token_word None = codes "-"
token_word (Some token) = decimal token

-- ---- outputs

-- the bytes of an output that has some: of a datagram, or of a payload
abbrev pub bytes_of : Output → List ℕ
bytes_of (Sent from to bytes) = bytes
bytes_of (Request token instance method payload) = payload
bytes_of (Answered message session code payload) = payload
bytes_of (Event instance event payload) = payload
bytes_of output = []

-- what an output tells; of a datagram that is sent, some words more before its endpoints: in a trace, its number
abbrev pub output_words : List (List ℕ) → Output → List (List ℕ)
output_words number (Sent from to bytes) = codes "sent" ∷ (number ++ (socket_v4_text from ∷ socket_v4_text to ∷ bytes_text bytes ∷ []))
output_words number (Called message session) = codes "call" ∷ message_word message ∷ hex4 session ∷ []
output_words number (Request token instance method payload) =
    codes "request" ∷ token_word token ∷ instance_word instance ∷ hex4 method ∷ bytes_text payload ∷ []
output_words number (Answered message session code payload) =
    codes "answer" ∷ message_word message ∷ hex4 session ∷ hex2 code.0 ∷ bytes_text payload ∷ []
output_words number (TimedOut message session) = codes "timeout" ∷ message_word message ∷ hex4 session ∷ []
output_words number (Event instance event payload) = codes "event" ∷ instance_word instance ∷ hex4 event ∷ bytes_text payload ∷ []
output_words number (Known instance endpoint) = codes "known" ∷ instance_word instance ∷ socket_v4_text endpoint ∷ []
output_words number (Gone instance) = codes "gone" ∷ instance_word instance ∷ []
output_words number (Subscribed eventgroup counter) =
    codes "subscribed" ∷ instance_word eventgroup.instance ∷ hex4 eventgroup.id ∷ decimal counter ∷ []
output_words number (Unsubscribed eventgroup) = codes "unsubscribed" ∷ instance_word eventgroup.instance ∷ hex4 eventgroup.id ∷ []
output_words number (Accepted eventgroup endpoint counter) =
    codes "accepted" ∷ instance_word eventgroup.instance ∷ hex4 eventgroup.id ∷ socket_v4_text endpoint ∷ decimal counter ∷ []
output_words number (Nacked eventgroup cause) = codes "nacked" ∷ instance_word eventgroup.instance ∷ hex4 eventgroup.id ∷ cause_name cause ∷ []
output_words number (Rebooted peer) = codes "reboot" ∷ ipv4_text (ipv4_octets peer) ∷ []
output_words number (Dropped reason) = codes "dropped" ∷ drop_name reason ∷ []

-- the number of a datagram, if it is told
abbrev pub number_words : Option ℕ → List (List ℕ)
number_words None = []
number_words (Some number) = decimal number ∷ []

-- an output as it is printed: its words, with spaces between them; a datagram has no number
abbrev pub output_text : Output → List ℕ
output_text output = words_text (output_words [] output)
