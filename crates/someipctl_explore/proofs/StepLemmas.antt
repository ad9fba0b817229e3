-- The lines of steps are read as these steps.
use Rattle.std.proofs.Common.{◌≡◌, ◌==◌, zero, suc, ℕ, ◌<◌, ◌≤◌, ◌^◌, Bool, true, false, List, [], ◌∷◌, ◌++◌, length, slice_index, decimal, codes, Option, Some, None, refl, sym, ap, ◌∙◌, arith, append_assoc, lt-ltb, ltb-true, nat_lt, ◌&&◌}
use Rattle.std.specs.List.{All, AllByRecursion, list_all}
use Rattle.std.specs.Net.Socket.{IsSocketAddrV4}
use Rattle.std.specs.Net.Text.{dotted_text, socket_v4_text}
use Rattle.std.specs.declared.net.socket_addr.SocketAddrV4.{SocketAddrV4}
use Rattle.std.proofs.lemmas.List.Elements.{All-weaker}
use Rattle.std.proofs.lemmas.List.Sums.{AllPass-from_list_all}
use Rattle.std.proofs.lemmas.Bool.{and_parts}
use Rattle.sd_core.specs.declared.eventgroup.Eventgroup.{Eventgroup}
use Rattle.sd_core.specs.declared.keys.InstanceId.{InstanceId}
use Rattle.someip_rpc.specs.declared.call.CallKind.TheVariants.{Request, RequestNoReturn}
use Rattle.someip_rpc.specs.declared.request.Reply.TheVariants.{Response, Error}
use Rattle.someip_texts.specs.Lines.{is_left_out}
use Rattle.someip_texts.specs.Words.{hex4}
use Rattle.someip_texts.proofs.NumberLemmas.{each_decimal, each_positive}
use Rattle.someip_world_schedule.specs.StepWords.{endpoint_in, eventgroup_in, instance_in, is_name, name_in}
use Rattle.someip_world_schedule.specs.Steps.{step_of_words}
use Rattle.someip_world_schedule.specs.declared.step.Step.{Step}
use Rattle.someip_world_schedule.specs.declared.step.Step.TheVariants.{Tick, Deliver, Call, Answer, Publish, PublishTo, Subscribe, Unsubscribe, StopOffer, Restart, Inject}
use Rattle.someip_world_schedule.proofs.EndpointLemmas.{each_endpoint}
use Rattle.someipctl_explore.specs.StepLines.{instance_word, payload_word, step_head, step_words}
use Rattle.someipctl_explore.specs.WholeSteps.{FitsGroup, FitsInstance, IsName, IsWhole}
use Rattle.someipctl_explore.proofs.ReadLemmas.{byte_back, id_back, instance_back, method_back, payload_back}
use Rattle.someipctl_explore.proofs.WordLemmas.{IsWord, IsWordByte, byte_word, decimal_word, endpoint_word, id_word, ids_word, name_word, payload_is_word}

-- ---- endpoints

-- four octets
four : (octets : List ℕ) → length octets ≡ 4 → (a b c d : ℕ) × (octets ≡ a ∷ b ∷ c ∷ d ∷ [])
four [] h = absurd (omega (arith, h))
four (a ∷ []) h = absurd (omega (arith, h))
four (a ∷ b ∷ []) h = absurd (omega (arith, h))
four (a ∷ b ∷ c ∷ []) h = absurd (omega (arith, h))
four (a ∷ b ∷ c ∷ d ∷ []) h = (a, b, c, d, refl)
four (a ∷ b ∷ c ∷ d ∷ e ∷ rest) h = absurd (omega (arith, h))

four_back : (octets : List ℕ) (port : ℕ) (a b c d : ℕ) → octets ≡ a ∷ b ∷ c ∷ d ∷ [] → ((k : ℕ) → slice_index octets k < 2 ^ 8) → port < 2 ^ 16
    → let endpoint : SocketAddrV4 = record { ip = record { octets = octets }; port = port } in
    (endpoint_in (socket_v4_text endpoint) ≡ Some endpoint) × IsWord (socket_v4_text endpoint)
four_back octets port a b c d is each small =
    let la : a < 2 ^ 8 = rw is at (each 0) in
    let lb : b < 2 ^ 8 = rw is at (each 1) in
    let lc : c < 2 ^ 8 = rw is at (each 2) in
    let ld : d < 2 ^ 8 = rw is at (each 3) in
    rw is (each_endpoint a b c d port la lb lc ld small, endpoint_word a b c d port la lb lc ld small)

-- an endpoint is a word, and read back from it
endpoint_both : (endpoint : SocketAddrV4) → IsSocketAddrV4 endpoint → (endpoint_in (socket_v4_text endpoint) ≡ Some endpoint) × IsWord (socket_v4_text endpoint)
endpoint_both endpoint h =
    let parts = four endpoint.ip.octets h.0.0 in
    four_back endpoint.ip.octets endpoint.port parts.0 parts.1 parts.2 parts.3 parts.4 h.0.1 h.1

-- ---- names, instances and eventgroups

name_back : (name : List ℕ) → IsName name → name_in name ≡ Some name
name_back name h = rw h refl

group_back : (eventgroup : Eventgroup) → FitsGroup eventgroup → eventgroup_in (instance_word eventgroup.instance) (hex4 eventgroup.id) ≡ Some eventgroup
group_back eventgroup h = rw (instance_back eventgroup.instance.service eventgroup.instance.instance h.0.0 h.0.1, id_back eventgroup.id h.1) refl

-- ---- steps

-- the words of a step are read as this step
pub step_back : (step : Step) → IsWhole step → step_of_words (step_head step ∷ step_words step) ≡ Some step
step_back (Tick node ms) h = rw (name_back node h.0, each_decimal (2 ^ 64) ms h.1 (omega arith)) refl
step_back (Deliver number node) h = rw (name_back node h.0, each_decimal (2 ^ 64) number h.1 (omega arith)) refl
step_back (Call node Request instance method payload) h =
    rw (name_back node h.0, instance_back instance.service instance.instance h.1.0 h.1.1, method_back method h.2, payload_back payload h.3) refl
step_back (Call node RequestNoReturn instance method payload) h =
    rw (name_back node h.0, instance_back instance.service instance.instance h.1.0 h.1.1, method_back method h.2, payload_back payload h.3) refl
step_back (Answer node token (Response code) payload) h =
    rw (name_back node h.0, each_decimal (2 ^ 64) token h.1 (omega arith), byte_back code.0 h.2, payload_back payload h.3) refl
step_back (Answer node token (Error code) payload) h =
    rw (name_back node h.0, each_decimal (2 ^ 64) token h.1 (omega arith), byte_back code.0 h.2, payload_back payload h.3) refl
step_back (Publish node instance event payload) h =
    rw (name_back node h.0, instance_back instance.service instance.instance h.1.0 h.1.1, id_back event h.2, payload_back payload h.3) refl
step_back (PublishTo node eventgroup to event payload) h =
    rw (name_back node h.0, group_back eventgroup h.1, (endpoint_both to h.2).0, id_back event h.3, payload_back payload h.4) refl
step_back (Subscribe node eventgroup) h = rw (name_back node h.0, group_back eventgroup h.1) refl
step_back (Unsubscribe node eventgroup) h = rw (name_back node h.0, group_back eventgroup h.1) refl
step_back (StopOffer node instance) h = rw (name_back node h.0, instance_back instance.service instance.instance h.1.0 h.1.1) refl
step_back (Restart node delay) h = rw (name_back node h.0, each_decimal (2 ^ 64) delay h.1 (omega arith)) refl
step_back (Inject node port to payload) h =
    rw (name_back node h.0, each_positive (2 ^ 16) port h.1.0 h.1.1 (omega arith), (endpoint_both to h.2).0, payload_back payload h.3) refl

-- they are words
pub words_are : (step : Step) → IsWhole step → AllByRecursion IsWord (step_words step)
words_are (Tick node ms) h = (name_word node h.0, (decimal_word ms h.1, tt))
words_are (Deliver number node) h = (decimal_word number h.1, (name_word node h.0, tt))
words_are (Call node kind instance method payload) h = (name_word node h.0, (ids_word instance.service instance.instance, (id_word method, (payload_is_word payload h.3, tt))))
words_are (Answer node token reply payload) h = (name_word node h.0, (decimal_word token h.1, (byte_word _ h.2, (payload_is_word payload h.3, tt))))
words_are (Publish node instance event payload) h = (name_word node h.0, (ids_word instance.service instance.instance, (id_word event, (payload_is_word payload h.3, tt))))
words_are (PublishTo node eventgroup to event payload) h =
    (name_word node h.0, (ids_word eventgroup.instance.service eventgroup.instance.instance, (id_word eventgroup.id, ((endpoint_both to h.2).1, (id_word event, (payload_is_word payload h.4, tt))))))
words_are (Subscribe node eventgroup) h = (name_word node h.0, (ids_word eventgroup.instance.service eventgroup.instance.instance, (id_word eventgroup.id, tt)))
words_are (Unsubscribe node eventgroup) h = (name_word node h.0, (ids_word eventgroup.instance.service eventgroup.instance.instance, (id_word eventgroup.id, tt)))
words_are (StopOffer node instance) h = (name_word node h.0, (ids_word instance.service instance.instance, tt))
words_are (Restart node delay) h = (name_word node h.0, (decimal_word delay h.1, tt))
words_are (Inject node port to payload) h =
    (name_word node h.0, (decimal_word port (omega (arith, h.1.1)), ((endpoint_both to h.2).1, (payload_is_word payload h.3, tt))))

-- ---- first words

tested : (b : ℕ) → (nat_lt 0x20 b && nat_lt b 0x80) ≡ true → IsWordByte b
tested b h = let parts = and_parts (nat_lt 0x20 b) (nat_lt b 0x80) h in (ltb-true 0x20 b parts.0, ltb-true b 0x80 parts.1)

known : (word : List ℕ) → list_all (λ b. nat_lt 0x20 b && nat_lt b 0x80) word ≡ true → IsWord word
known word h = All-weaker (λ b. (nat_lt 0x20 b && nat_lt b 0x80) ≡ true) IsWordByte tested word (AllPass-from_list_all (λ b. nat_lt 0x20 b && nat_lt b 0x80) word h)

-- the first word of a step is a word
pub head_word : (step : Step) → IsWord (step_head step)
head_word (Tick node ms) = known (codes "tick") refl
head_word (Deliver number node) = known (codes "deliver") refl
head_word (Call node Request instance method payload) = known (codes "call") refl
head_word (Call node RequestNoReturn instance method payload) = known (codes "oneway") refl
head_word (Answer node token (Response code) payload) = known (codes "answer") refl
head_word (Answer node token (Error code) payload) = known (codes "error") refl
head_word (Publish node instance event payload) = known (codes "publish") refl
head_word (PublishTo node eventgroup to event payload) = known (codes "publish_to") refl
head_word (Subscribe node eventgroup) = known (codes "subscribe") refl
head_word (Unsubscribe node eventgroup) = known (codes "unsubscribe") refl
head_word (StopOffer node instance) = known (codes "stop_offer") refl
head_word (Restart node delay) = known (codes "restart") refl
head_word (Inject node port to payload) = known (codes "inject") refl

-- and no line that begins with it is left out
pub head_stays : (step : Step) (rest : List ℕ) → is_left_out (step_head step ++ rest) ≡ false
head_stays (Tick node ms) rest = refl
head_stays (Deliver number node) rest = refl
head_stays (Call node Request instance method payload) rest = refl
head_stays (Call node RequestNoReturn instance method payload) rest = refl
head_stays (Answer node token (Response code) payload) rest = refl
head_stays (Answer node token (Error code) payload) rest = refl
head_stays (Publish node instance event payload) rest = refl
head_stays (PublishTo node eventgroup to event payload) rest = refl
head_stays (Subscribe node eventgroup) rest = refl
head_stays (Unsubscribe node eventgroup) rest = refl
head_stays (StopOffer node instance) rest = refl
head_stays (Restart node delay) rest = refl
head_stays (Inject node port to payload) rest = refl

-- the words that stand behind a comment sign
pub comment_word : IsWord (codes "#")
comment_word = known (codes "#") refl

pub judged_words : (count : ℕ) → count < 2 ^ 64 → AllByRecursion IsWord (codes "judged" ∷ decimal count ∷ codes "schedules" ∷ [])
judged_words count small = (known (codes "judged") refl, (decimal_word count small, (known (codes "schedules") refl, tt)))
