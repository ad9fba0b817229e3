-- An answer that is handed up of a message from no liar is safe, where each answer that was sent to a node was produced for its call.
use Rattle.std.proofs.Common.{◌≡◌, ◌⊎◌, inl, inr, ℕ, suc, ◌<◌, ◌≤◌, true, List, [], ◌∷◌, slice_get, Ok, Some, arith, sym, ap, subst, ◌∙◌}
use Rattle.std.specs.List.{Contains}
use Rattle.std.specs.Net.Socket.{v4_ip}
use Rattle.std.specs.declared.net.socket_addr.SocketAddrV4.{SocketAddrV4}
use Rattle.std.proofs.lemmas.Bool.{cases_lt}
use Rattle.someip_wire.specs.declared.header.ReturnCode.{ReturnCode}
use Rattle.someip_wire.specs.Spelling.{MessageValue}
use Rattle.someip_rpc.specs.Answers.{answered_call, is_answer_type}
use Rattle.someip_rpc.specs.declared.call.CallKind.TheVariants as calls
use Rattle.someip_rpc.specs.declared.ids.CallKey.{CallKey}
use Rattle.someip_rpc.specs.declared.ids.MessageId.{MessageId}
use Rattle.someip_node_rules.specs.declared.config.Config.{Config}
use Rattle.someip_node_rules.specs.declared.output.Output.TheVariants.{Answered}
use Rattle.someip_node_laws.specs.HandUps.{AnswerCame}
use Rattle.someip_node_rules.specs.rules.Inputs as inputs
use Rattle.someip_node_rules.specs.forms.Outputs as outputs
use Rattle.someip_node_rules.specs.forms.Setups.{client_endpoint}
use Rattle.someip_node_laws.proofs.rules.HandUpLemmas.{answer_came}
use Rattle.someip_node_rules.specs.steps.Steps.{step}
use Rattle.someip_world_schedule.specs.declared.step.Step.{Step}
use Rattle.someip_world_setup.specs.declared.setup_node.SetupNode.{SetupNode}
use Rattle.someip_world_rules.specs.Announced.{AllFits}
use Rattle.someip_world_rules.specs.Datagrams.{SentDatagram}
use Rattle.someip_world_rules.specs.Deliveries.{Delivers, Does, Sends}
use Rattle.someip_world_rules.specs.Liars.{IsFromLiar, IsHonest}
use Rattle.someip_world_rules.proofs.InjectionLemmas.{taken_by_node}
use Rattle.someip_world_rules.proofs.OriginLemmas.{turn_configured}
use Rattle.someip_world_rules.proofs.Sendings.{sent_before}
use Rattle.someip_world_rules.specs.exchanges.Belonging.{Belongs}
use Rattle.someip_world_rules.specs.exchanges.CleanReuse.{IsCleanBefore, Old}
use Rattle.someip_world_rules.specs.exchanges.Namings.{of_call}
use Rattle.someip_world_rules.specs.exchanges.Openings.{Opened}
use Rattle.someip_world_rules.specs.declared.exchanges.exchange_key.ExchangeKey.{ExchangeKey}
use Rattle.someip_world_rules.specs.declared.exchanges.exchange_key.ExchangeKey.TheVariants as keys
use Rattle.someip_world_rules.proofs.about_exchanges.messages.WholeLemmas.{IsForApplication}
use Rattle.someip_world_safety.specs.Addresses.{HaveOwnAddresses}
use Rattle.someip_world_safety.specs.Answers.{IsAnswered, IsRefused, IsSafeAnswer}
use Rattle.someip_world_safety.specs.AwaitedCalls.{IsAwaited, Makes}
use Rattle.someip_world_safety.specs.GivenMessages.{WasGiven}
use Rattle.someip_world_safety.proofs.answers.Produced.{WasProduced}
use Rattle.someip_world_safety.proofs.answers.AnswerAlone.{given_alone}
use Rattle.someip_world_safety.proofs.messages.OneMessage.{HoldsOne, taken_holds_one}
use Rattle.someip_world_safety.proofs.answers.AnsweredCalls.{answered_call_waits, passed, same_config}
use Rattle.someip_world_safety.proofs.messages.CameGiven.{came_was_given}
use Rattle.someip_world_safety.proofs.networks.ClientEndpoint.{came_to_client}
use Rattle.someip_world_safety.proofs.networks.LiarLemmas.{honest_address}
use Rattle.someip_world_safety.proofs.calls.MadeCalls.{made_opens}
use Rattle.someip_world_safety.proofs.runs.SameStep.{same_input}
use Rattle.someip_world_safety.proofs.calls.SentCalls.{WasMade, taken_was_made}

-- the call that the key of an exchange names, if it is one of calls
abbrev named_call : CallKey → ExchangeKey → CallKey
named_call other (keys.Call c) = record { message = c.message; session = c.session }
named_call other key = other

module _ (nodes : List SetupNode) (configs : List Config) (steps : List Step) where
  -- what a server produced for a call that was made in a step
  abbrev Due : ℕ → SocketAddrV4 → SocketAddrV4 → ExchangeKey → ReturnCode → List ℕ → ℕ → List ℕ → Type 0
  Due i client server exchange code payload made asked =
      IsAnswered nodes configs steps i made client server exchange asked code payload
      ⊎ IsRefused nodes configs steps i made client server exchange asked code payload

  -- it took a call that was made
  due_was_made : (i : ℕ) (client server : SocketAddrV4) (exchange : ExchangeKey) (code : ReturnCode) (payload : List ℕ) (made : ℕ) (asked : List ℕ)
      → Due i client server exchange code payload made asked → WasMade nodes configs steps made client server exchange asked
  due_was_made i client server exchange code payload made asked (inl a) = taken_was_made nodes configs steps a.taken made client server exchange asked a.took
  due_was_made i client server exchange code payload made asked (inr r) = taken_was_made nodes configs steps i made client server exchange asked r.took

  module _ (own : HaveOwnAddresses configs) (n : ℕ) (clean : IsCleanBefore nodes configs steps (suc n)) (does : Does nodes configs steps n) where
    abbrev config : Config
    config = does.turn.history.config

    -- a node with this client endpoint is the one of the step
    same_node : (i : ℕ) (other : Does nodes configs steps i) → client_endpoint config ≡ client_endpoint other.turn.history.config → other.turn.place ≡ does.turn.place
    same_node i other same =
        own other.turn.place does.turn.place other.turn.history.config config (turn_configured nodes configs steps i other.step other.turn)
        (turn_configured nodes configs steps n does.step does.turn) (ap (λ x. x.ip) (sym same))

    module _ (key : CallKey) (peer : SocketAddrV4) (a : IsAwaited nodes configs steps n does.turn.place key peer) (exchange : ExchangeKey)
        (is : exchange ≡ of_call (client_endpoint config) peer key.message.service key.message.method config.client_id key.session) where
      -- the node made the call under the configuration that it has now
      one_config : config ≡ a.call.does.turn.history.config
      one_config =
          let now = turn_configured nodes configs steps n does.step does.turn in
          let at_call = turn_configured nodes configs steps a.made a.call.does.step a.call.does.turn in
          let both : Some config ≡ Some a.call.does.turn.history.config = sym now ∙ ap (slice_get configs) (sym a.at) ∙ at_call in cc

      -- the call opened the exchange
      opened : Opened nodes configs steps a.made exchange
      opened =
          subst (Opened nodes configs steps a.made)
          (sym (is ∙ (λ k. of_call (client_endpoint (one_config k)) peer key.message.service key.message.method (one_config k).client_id key.session)))
          (made_opens nodes configs steps a.made key peer a.call)

      module _ (made : ℕ) (asked : List ℕ) (w : WasMade nodes configs steps made (client_endpoint config) peer exchange asked) where
        -- the call that the server took has the key of the one that waits
        same_key : w.key ≡ key
        same_key = ap (named_call key) (sym w.is ∙ is)

        -- it was not made after the one that waits
        not_after : made < n → a.made < made → ⊥
        not_after before later =
            let place = same_node made w.makes.does w.by_client in
            let again = subst (λ k. (m : Makes nodes configs steps made k peer) × (m.does.turn.place ≡ does.turn.place)) same_key (w.makes, place) in
            a.last made later before peer again.0 again.1

      -- nor before it, where keys are reused cleanly
      not_before : (made sent : ℕ) (d : SentDatagram) → Delivers nodes configs steps n sent d → Belongs nodes configs steps sent d exchange made → made < a.made → ⊥
      not_before made sent d delivers belongs sooner =
          clean n (omega arith) (Old (record {
            sent = sent;
            datagram = d;
            delivers = delivers;
            key = exchange;
            since = made;
            belongs = belongs;
            taken = record { i = a.made; after = sooner; before = a.before; opened = opened };
          }))

      -- so it is that one
      same_made : (made sent : ℕ) (d : SentDatagram) (asked : List ℕ) → Delivers nodes configs steps n sent d → Belongs nodes configs steps sent d exchange made → made < n
          → WasMade nodes configs steps made (client_endpoint config) peer exchange asked → made ≡ a.made
      same_made made sent d asked delivers belongs before w = cases (cases_lt made a.made) (cases_lt a.made made)
        where
          cases : (made < a.made) ⊎ (a.made ≤ made) → (a.made < made) ⊎ (made ≤ a.made) → made ≡ a.made
          cases (inl sooner) other = absurd (not_before made sent d delivers belongs sooner)
          cases (inr le) (inl later) = absurd (not_after made asked w before later)
          cases (inr le) (inr ge) = omega (arith, le, ge)

      -- with its payload
      same_payload : (asked : List ℕ) → WasMade nodes configs steps a.made (client_endpoint config) peer exchange asked → asked ≡ a.call.payload
      same_payload asked w =
          let input = same_input nodes configs steps a.made a.call.does.step a.call.does.turn a.call.does.input a.call.does.takes w.makes.does in
          let both : inputs.Call calls.Request w.makes.instance w.makes.method w.makes.payload ≡ inputs.Call calls.Request a.call.instance a.call.method a.call.payload =
          sym w.makes.is ∙ input ∙ a.call.is
          in
          let one : w.makes.payload ≡ a.call.payload = cc in sym w.says ∙ one

      -- what the server produced for the call that it took, it produced for the one that waits
      due_for_it : (i : ℕ) (d : SentDatagram) (code : ReturnCode) (payload : List ℕ) (made : ℕ) (asked : List ℕ) → Delivers nodes configs steps n i d → Belongs nodes configs steps i d exchange made → made < n
          → Due i (client_endpoint config) peer exchange code payload made asked → Due i (client_endpoint config) peer exchange code payload a.made a.call.payload
      due_for_it i d code payload made asked delivers belongs before due =
          let w = due_was_made i (client_endpoint config) peer exchange code payload made asked due in
          let one = same_made made i d asked delivers belongs before w in
          let says = same_payload asked (subst (λ k. WasMade nodes configs steps k (client_endpoint config) peer exchange asked) one w) in
          subst (Due i (client_endpoint config) peer exchange code payload a.made) says (subst (λ k. Due i (client_endpoint config) peer exchange code payload k asked) one due)

      -- an answer for the call that waits is safe
      safe : (i : ℕ) → i < n → (code : ReturnCode) (payload : List ℕ) → does.done.outputs ≡ Answered key.message key.session code payload ∷ [] → Due i (client_endpoint config) peer exchange code payload a.made a.call.payload
          → IsSafeAnswer nodes configs steps n key.message key.session code payload
      safe i before code payload alone due = record {
        does = does;
        alone = alone;
        peer = peer;
        call = a;
        exchange = exchange;
        is = is;
        opened = opened;
        produced = i;
        before = before;
        how = due;
      }

  -- an answer that is handed up of a message from no liar is safe, where what is sent to a node as an answer was produced for its call
  pub answer_is_safe : AllFits nodes configs steps → HaveOwnAddresses configs → (n : ℕ) → IsCleanBefore nodes configs steps (suc n) → (does : Does nodes configs steps n) (message : MessageId) (session : ℕ) (code : ReturnCode) (payload : List ℕ)
      → Contains does.done.outputs (Answered message session code payload) → (IsFromLiar nodes configs does.input → ⊥)
      → ((i : ℕ) → i < n → (d : SentDatagram) (s : Sends nodes configs steps i d) (from to : SocketAddrV4) (m : MessageValue)
      → s.given ≡ outputs.Sends from to m → is_answer_type m.header.kind ≡ true → IsHonest nodes configs (v4_ip to) → WasProduced nodes configs steps i d from to m)
      → IsSafeAnswer nodes configs steps n message session code payload
  answer_is_safe fits own n clean does message session code payload handed honest was_produced =
      subst (λ x. IsSafeAnswer nodes configs steps n x session code payload) (sym e.taken.named)
      (subst (λ x. IsSafeAnswer nodes configs steps n key.message x code payload) (sym e.taken.numbered)
      (subst (λ x. IsSafeAnswer nodes configs steps n key.message key.session x payload) (sym e.taken.told)
      (safe own n clean does key e.packet.from a w.exchange named given.sent before e.header.code payload alone
      (due_for_it own n clean does key e.packet.from a w.exchange named given.sent given.datagram e.header.code payload w.made w.asked given.delivers w.belongs made_before w.how))))
    where
      e : AnswerCame does.turn.history does.input message session code payload
      e = answer_came does.turn.history does.input does.done does.happened message session code payload handed

      key : CallKey
      key = answered_call e.header

      source : IsHonest nodes configs (v4_ip e.packet.from)
      source = subst (λ input. IsFromLiar nodes configs input → ⊥) e.is honest

      given : WasGiven nodes configs steps n e.packet.from e.packet.to e.header payload
      given =
          came_was_given nodes configs steps fits n does e.packet e.header payload e.done e.earlier e.later e.is source e.trail
          (subst IsForApplication (sym e.arrived) tt) e.came clean

      before : given.sent < n
      before = (sent_before nodes configs steps n given.sent given.datagram given.delivers).0

      a : IsAwaited nodes configs steps n does.turn.place key e.packet.from
      a = answered_call_waits nodes configs steps n does message session code payload e

      to : e.packet.to ≡ client_endpoint does.turn.history.config
      to = came_to_client does.turn.history.config e.packet.to e.arrived

      at_node : IsHonest nodes configs (v4_ip e.packet.to)
      at_node =
          subst (λ x. IsHonest nodes configs (v4_ip x)) (sym to)
          (honest_address nodes configs own does.turn.place does.turn.history.config (turn_configured nodes configs steps n does.step does.turn) (taken_by_node nodes configs steps n does))

      w : WasProduced nodes configs steps given.sent given.datagram e.packet.from (client_endpoint does.turn.history.config) (record { header = e.header; payload = payload })
      w =
          subst (λ x. WasProduced nodes configs steps given.sent given.datagram e.packet.from x (record { header = e.header; payload = payload })) to
          (was_produced given.sent before given.datagram given.sends e.packet.from e.packet.to (record { header = e.header; payload = payload }) given.given
          (passed nodes configs steps n does message session code payload e).kind at_node)

      client : e.header.client ≡ does.turn.history.config.client_id
      client = (passed nodes configs steps n does message session code payload e).named ∙ ap (λ c. c.client_id) (same_config nodes configs steps n does message session code payload e)

      named : w.exchange ≡ of_call (client_endpoint does.turn.history.config) e.packet.from key.message.service key.message.method does.turn.history.config.client_id key.session
      named = w.is ∙ ap (λ c. of_call (client_endpoint does.turn.history.config) e.packet.from e.header.service e.header.method c e.header.session) client

      made_before : w.made < n
      made_before = let one = w.before in let two = before in omega (arith, one, two)

      one : HoldsOne e.packet.bytes
      one = taken_holds_one nodes configs steps fits n does e.packet e.is source

      alone : does.done.outputs ≡ Answered key.message key.session e.header.code payload ∷ []
      alone =
          given_alone message session code payload does.turn.history e.packet.from e.packet.to e.packet.bytes one.0 one.1 e.arrived does.done
          (subst (λ x. step does.turn.history x ≡ Ok does.done) e.is does.happened) handed
          ∙ (λ i. Answered (e.taken.named i) (e.taken.numbered i) (e.taken.told i) payload ∷ [])
