-- The plain form of what is told is the trace as it is defined.
use Rattle.std.proofs.Common.{◌≡◌, ℕ, List, [], ◌∷◌, ◌++◌, drop, decimal, codes, Option, Some, None, refl, ap, ap₂, ◌∙◌, append_assoc}
use Rattle.std.proofs.lemmas.List.{append-nil}
use Rattle.std.specs.Net.Text.{socket_v4_text}
use Rattle.sd_core.specs.declared.eventgroup.Eventgroup.{Eventgroup}
use Rattle.sd_core.specs.declared.keys.InstanceId.{InstanceId}
use Rattle.someip_rpc.specs.declared.ids.MessageId.{MessageId}
use Rattle.sd_core.specs.Names.{cause_name}
use Rattle.someip_node_rules.specs.forms.OutputWords.{instance_word, message_word, output_words, token_word}
use Rattle.someip_node_rules.specs.rules.DropNames.{node_error_name}
use Rattle.someip_node_rules.specs.declared.output.Output.{Output}
use Rattle.someip_node_rules.specs.declared.output.Output.TheVariants.{Sent, Called, Request, Answered, TimedOut, Event, Known, Gone, Subscribed, Unsubscribed, Accepted, Nacked, Rebooted, Dropped}
use Rattle.someip_texts.specs.Words.{bytes_text, hex2, hex4, ids_text, spaced}
use Rattle.someip_world_rules.specs.declared.line.Line.{Line}
use Rattle.someip_world_rules.specs.declared.line.Told.{Told}
use Rattle.someip_world_rules.specs.declared.line.Told.TheVariants.{Gave, Refused}
use Rattle.someip_world_rules.specs.declared.reuse.Reuse.{Reuse}
use Rattle.someip_world_rules.specs.declared.reuse.Reuse.TheVariants.{Broken, Clean}
use Rattle.someip_world_setup.specs.declared.setup_node.SetupNode.{SetupNode}
use Rattle.someipctl_io.specs.declared.form.Form.TheVariants.{Plain}
use Rattle.someipctl_io.specs.ToldItems.{told}
use Rattle.someipctl_io.specs.ToldLines.{ToldField, ToldHead, ToldLine, bytes, byte, content_text, endpoint, field, fields_text, id, line_text, number, origin_text, text}
use Rattle.someipctl_io.specs.Words.{ended}
use Rattle.someipctl_run.specs.Outputs.{told_words}
use Rattle.someipctl_run.specs.ToldOutputs.{call_ids, eventgroup_ids, instance_ids, line_told, next_field, output_told, token_told}
use Rattle.someipctl_run.specs.ToldTraces.{origin_told, reuse_text, step_told, trace_head, trace_line, trace_lines, whole_trace}
use Rattle.someipctl_run.specs.Traces.{margin, marked_line, marked_lines, marked_trace, marked_verdict, node_name, number_after, shown_line_of}

-- ---- outputs

-- a head in front of the word of a plain line
abbrev head_text : ToldHead → List ℕ
head_text head = origin_text head.origin ++ (fields_text Plain head.number ++ fields_text Plain head.place)

line-shape : (origin counted place kind fields end : List ℕ)
    → (origin ++ (counted ++ (place ++ kind))) ++ (fields ++ end) ≡ (origin ++ (counted ++ place)) ++ ((kind ++ fields) ++ end)
line-shape origin counted place kind fields end = simp append_assoc

-- a line whose fields are the words behind its kind
words-plain : (head : ToldHead) (kind : List ℕ) (fs : List ToldField) (words : List (List ℕ)) → fields_text Plain fs ≡ spaced words
    → line_text Plain head (told kind fs) ≡ head_text head ++ ended (kind ∷ words)
words-plain head kind fs words are =
    line-shape (origin_text head.origin) (fields_text Plain head.number) (fields_text Plain head.place) (codes " " ++ kind) (fields_text Plain fs) (codes "\n")
    ∙ ap (λ (t : List ℕ). head_text head ++ (((codes " " ++ kind) ++ t) ++ codes "\n")) are

ids-shape : (space first dot second rest : List ℕ) → (space ++ first) ++ ((dot ++ second) ++ rest) ≡ (space ++ ((first ++ dot) ++ second)) ++ rest
ids-shape space first dot second rest = simp append_assoc

-- two IDs with a dot between them, in front of words
ids-plain : (first second : ℕ) (key other : List ℕ) (fs : List ToldField) (words : List (List ℕ)) → fields_text Plain fs ≡ spaced words
    → fields_text Plain (next_field key (id first) ∷ field (codes ".") other (id second) ∷ fs) ≡ spaced (ids_text first second ∷ words)
ids-plain first second key other fs words are =
    ap (λ (t : List ℕ). (codes " " ++ hex4 first) ++ ((codes "." ++ hex4 second) ++ t)) are ∙ ids-shape (codes " ") (hex4 first) (codes ".") (hex4 second) (spaced words)

-- the ID of an eventgroup behind its instance's, in front of words
group-plain : (eventgroup : Eventgroup) (fs : List ToldField) (words : List (List ℕ)) → fields_text Plain fs ≡ spaced words
    → fields_text Plain (eventgroup_ids eventgroup ++ fs) ≡ spaced (instance_word eventgroup.instance ∷ hex4 eventgroup.id ∷ words)
group-plain eventgroup fs words are =
    ids-plain eventgroup.instance.service eventgroup.instance.instance (codes "service") (codes "instance") (next_field (codes "group") (id eventgroup.id) ∷ fs) (hex4 eventgroup.id ∷ words)
    (ap (λ (t : List ℕ). (codes " " ++ hex4 eventgroup.id) ++ t) are)

-- a Session ID behind a method's, in front of words
call-plain : (message : MessageId) (session : ℕ) (fs : List ToldField) (words : List (List ℕ)) → fields_text Plain fs ≡ spaced words
    → fields_text Plain (call_ids message session ++ fs) ≡ spaced (message_word message ∷ hex4 session ∷ words)
call-plain message session fs words are =
    ids-plain message.service message.method (codes "service") (codes "method") (next_field (codes "session") (id session) ∷ fs) (hex4 session ∷ words)
    (ap (λ (t : List ℕ). (codes " " ++ hex4 session) ++ t) are)

-- the IDs of an instance, in front of words
instance-plain : (instance : InstanceId) (fs : List ToldField) (words : List (List ℕ)) → fields_text Plain fs ≡ spaced words
    → fields_text Plain (instance_ids instance ++ fs) ≡ spaced (instance_word instance ∷ words)
instance-plain instance fs words are = ids-plain instance.service instance.instance (codes "service") (codes "instance") fs words are

token-plain : (token : Option ℕ) → content_text (token_told token) ≡ token_word token
token-plain None = refl
token-plain (Some token) = refl

-- the words behind the first one are the fields
output-fields : (k : ℕ) (output : Output) → fields_text Plain (output_told k output).fields ≡ spaced (drop 1 (output_words (decimal k ∷ []) output))
output-fields k (Sent from to payload) = refl
output-fields k (Called message session) = call-plain message session [] [] refl
output-fields k (Request token instance method payload) =
    ap₂ (λ (t rest : List ℕ). (codes " " ++ t) ++ rest) (token-plain token)
    (instance-plain instance (next_field (codes "method") (id method) ∷ next_field (codes "payload") (bytes payload) ∷ []) (hex4 method ∷ bytes_text payload ∷ []) refl)
output-fields k (Answered message session code payload) =
    call-plain message session (next_field (codes "code") (byte code.0) ∷ next_field (codes "payload") (bytes payload) ∷ []) (hex2 code.0 ∷ bytes_text payload ∷ []) refl
output-fields k (TimedOut message session) = call-plain message session [] [] refl
output-fields k (Event instance event payload) =
    instance-plain instance (next_field (codes "event") (id event) ∷ next_field (codes "payload") (bytes payload) ∷ []) (hex4 event ∷ bytes_text payload ∷ []) refl
output-fields k (Known instance at) = instance-plain instance (next_field (codes "endpoint") (endpoint at) ∷ []) (socket_v4_text at ∷ []) refl
output-fields k (Gone instance) = instance-plain instance [] [] refl
output-fields k (Subscribed eventgroup counter) = group-plain eventgroup (next_field (codes "counter") (number counter) ∷ []) (decimal counter ∷ []) refl
output-fields k (Unsubscribed eventgroup) = group-plain eventgroup [] [] refl
output-fields k (Accepted eventgroup at counter) =
    group-plain eventgroup (next_field (codes "endpoint") (endpoint at) ∷ next_field (codes "counter") (number counter) ∷ []) (socket_v4_text at ∷ decimal counter ∷ []) refl
output-fields k (Nacked eventgroup cause) = group-plain eventgroup (next_field (codes "cause") (text (cause_name cause)) ∷ []) (cause_name cause ∷ []) refl
output-fields k (Rebooted peer) = refl
output-fields k (Dropped reason) = refl

-- the first word is the kind
kind-first : (k : ℕ) (output : Output)
    → (output_told k output ≡ told (output_told k output).kind (output_told k output).fields)
    × ((output_told k output).kind ∷ drop 1 (output_words (decimal k ∷ []) output) ≡ output_words (decimal k ∷ []) output)
kind-first k (Sent from to payload) = (refl, refl)
kind-first k (Called message session) = (refl, refl)
kind-first k (Request token instance method payload) = (refl, refl)
kind-first k (Answered message session code payload) = (refl, refl)
kind-first k (TimedOut message session) = (refl, refl)
kind-first k (Event instance event payload) = (refl, refl)
kind-first k (Known instance at) = (refl, refl)
kind-first k (Gone instance) = (refl, refl)
kind-first k (Subscribed eventgroup counter) = (refl, refl)
kind-first k (Unsubscribed eventgroup) = (refl, refl)
kind-first k (Accepted eventgroup at counter) = (refl, refl)
kind-first k (Nacked eventgroup cause) = (refl, refl)
kind-first k (Rebooted peer) = (refl, refl)
kind-first k (Dropped reason) = (refl, refl)

output-plain : (head : ToldHead) (k : ℕ) (output : Output) → line_text Plain head (output_told k output) ≡ head_text head ++ ended (output_words (decimal k ∷ []) output)
output-plain head k output =
    ap (λ (line : ToldLine). line_text Plain head line) (kind-first k output).0
    ∙ words-plain head (output_told k output).kind (output_told k output).fields (drop 1 (output_words (decimal k ∷ []) output)) (output-fields k output)
    ∙ ap (λ (words : List (List ℕ)). head_text head ++ ended words) (kind-first k output).1

-- ---- lines

told-plain : (head : ToldHead) (k : ℕ) (told : Told) → line_text Plain head (line_told k told) ≡ head_text head ++ ended (told_words k told)
told-plain head k (Gave output) = output-plain head k output
told-plain head k (Refused refusal) =
    words-plain head (codes "refused") (next_field (codes "name") (text (node_error_name refusal)) ∷ []) (node_error_name refusal ∷ []) refl

origin-plain : (step_lines : Option (List ℕ)) (came_by : Option ℕ) → origin_text (origin_told step_lines came_by) ≡ margin step_lines came_by
origin-plain None came_by = refl
origin-plain (Some step_lines) None = refl
origin-plain (Some step_lines) (Some line) = simp (append_assoc, append-nil)

head-shape : (before step space name rest : List ℕ) → (before ++ ((step ++ ((space ++ name) ++ [])) ++ [])) ++ rest ≡ before ++ ((step ++ (space ++ (name ++ []))) ++ rest)
head-shape before step space name rest = simp (append_assoc, append-nil)

pub line-plain : (step_lines : Option (List ℕ)) (nodes : List SetupNode) (k : ℕ) (line : Line) → trace_line Plain step_lines nodes k line ≡ marked_line step_lines nodes k line
line-plain step_lines nodes k line =
    let came_by = shown_line_of step_lines line.step in
    let words = ended (told_words k line.told) in
    told-plain (trace_head step_lines nodes line) k line.told
    ∙ ap (λ (t : List ℕ). (t ++ (fields_text Plain (step_told line.step (node_name nodes line.node)) ++ [])) ++ words) (origin-plain step_lines came_by)
    ∙ head-shape (margin step_lines came_by) (decimal line.step) (codes " ") (node_name nodes line.node) words

lines-plain : (step_lines : Option (List ℕ)) (nodes : List SetupNode) (k : ℕ) (lines : List Line) → trace_lines Plain step_lines nodes k lines ≡ marked_lines step_lines nodes k lines
lines-plain step_lines nodes k [] = refl
lines-plain step_lines nodes k (line ∷ lines) =
    ap₂ (λ (a b : List ℕ). a ++ b) (line-plain step_lines nodes k line) (lines-plain step_lines nodes (number_after k line) lines)

-- ---- the verdict, and the trace

clean-shape : (origin word clean end : List ℕ) → (origin ++ []) ++ (((word ++ clean) ++ []) ++ end) ≡ origin ++ ((word ++ clean) ++ end)
clean-shape origin word clean end = simp (append_assoc, append-nil)

broken-shape : (origin word broken at step end : List ℕ)
    → (origin ++ []) ++ (((word ++ broken) ++ ((at ++ step) ++ [])) ++ end) ≡ origin ++ (((word ++ broken) ++ at) ++ (step ++ (end ++ [])))
broken-shape origin word broken at step end = simp (append_assoc, append-nil)

pub reuse-plain : (step_lines : Option (List ℕ)) (verdict : Reuse) → reuse_text Plain step_lines verdict ≡ marked_verdict step_lines verdict
reuse-plain step_lines Clean =
    clean-shape (origin_text (origin_told step_lines None)) (codes "reuse ") (codes "clean") (codes "\n")
    ∙ ap (λ (t : List ℕ). t ++ codes "reuse clean\n") (origin-plain step_lines None)
reuse-plain step_lines (Broken step) =
    broken-shape (origin_text (origin_told step_lines None)) (codes "reuse ") (codes "broken") (codes " at ") (decimal step) (codes "\n")
    ∙ ap (λ (t : List ℕ). t ++ (codes "reuse broken at " ++ (decimal step ++ (codes "\n" ++ [])))) (origin-plain step_lines None)

pub trace-plain : (step_lines : Option (List ℕ)) (nodes : List SetupNode) (lines : List Line) (verdict : Reuse)
    → whole_trace Plain step_lines nodes lines verdict ≡ marked_trace step_lines nodes lines verdict
trace-plain step_lines nodes lines verdict = ap₂ (λ (a b : List ℕ). a ++ b) (lines-plain step_lines nodes 1 lines) (reuse-plain step_lines verdict)
