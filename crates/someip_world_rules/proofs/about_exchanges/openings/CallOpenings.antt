-- A call opens exactly the exchange that the request which it sends names.
use Rattle.std.proofs.Common.{◌≡◌, ℕ, List, [], ◌∷◌, ◌++◌, Option, None, Some, ap, refl, subst, sym}
use Rattle.std.specs.List.{Contains, flat_map}
use Rattle.std.specs.Option.{option_map_or}
use Rattle.std.specs.declared.net.socket_addr.SocketAddrV4.{SocketAddrV4}
use Rattle.sd_core.specs.declared.keys.InstanceId.{InstanceId}
use Rattle.someip_rpc.specs.declared.call.Call.{Call}
use Rattle.someip_rpc.specs.declared.call.CallKind.{CallKind}
use Rattle.someip_rpc.specs.declared.call.CallKind.TheVariants as calls
use Rattle.someip_node_rules.specs.rules.Calling.{call_of, calls_at, session_of}
use Rattle.someip_node_rules.specs.histories.History.{History, answers_of}
use Rattle.someip_node_rules.specs.rules.Inputs as inputs
use Rattle.someip_node_rules.specs.histories.Items as items
use Rattle.someip_node_rules.specs.histories.Items.{Item}
use Rattle.someip_node_rules.specs.rules.Outcomes.{Outcome, nothing}
use Rattle.someip_node_rules.specs.rules.Plans as plans
use Rattle.someip_node_rules.specs.forms.Setups.{client_endpoint}
use Rattle.someip_node_rules.specs.steps.Steps.{work_on}
use Rattle.someip_node_rules.specs.histories.Tables.{Tables, known_endpoint}
use Rattle.someip_node_rules.specs.trails.Trails.{Done, given_by, outcome_of, trail_of}
use Rattle.someip_node_rules.proofs.lists.MemberLemmas.{at_member, only_one}
use Rattle.someip_world_rules.specs.exchanges.Namings.{named_in, of_call}
use Rattle.someip_world_rules.specs.exchanges.Openings.{Opens, OpensBy}
use Rattle.someip_world_rules.specs.declared.exchanges.exchange_key.ExchangeKey.{ExchangeKey}
use Rattle.someip_world_rules.specs.declared.exchanges.naming.Naming.{Naming}
use Rattle.someip_world_rules.specs.declared.exchanges.naming.Side.TheVariants.{Opener}
use Rattle.someip_world_rules.proofs.about_exchanges.runs.Among.{is_among}

-- a key as the opener of its exchange names it
abbrev pub opener_of : ExchangeKey → Naming
opener_of key = record { key = key; side = Opener }

-- the request of a call of each kind names the call
names_call : (t : Tables) (kind : CallKind) (instance : InstanceId) (method : ℕ) (payload : List ℕ) (peer : SocketAddrV4)
    → flat_map named_in ((calls_at (call_of kind instance method t) payload peer t).given ++ [])
    ≡ opener_of (of_call (client_endpoint t.config) peer instance.service method t.config.client_id (session_of (call_of kind instance method t) t)) ∷ []
names_call t calls.Request instance method payload peer = refl
names_call t calls.RequestNoReturn instance method payload peer = refl

module _ (h : History) (kind : CallKind) (instance : InstanceId) (method : ℕ) (payload : List ℕ) where
  abbrev made : Call
  made = call_of kind instance method (answers_of h)

  -- what is said where an offer of the instance is known at an endpoint, or none is
  abbrev said : Option SocketAddrV4 → Outcome
  said known = option_map_or (λ peer. calls_at made payload peer (answers_of h)) known nothing

  -- the key of the call, at the endpoint of the known offer
  abbrev pub key_to : SocketAddrV4 → ExchangeKey
  key_to peer = of_call (client_endpoint h.config) peer instance.service method h.config.client_id (session_of made (answers_of h))

  -- the one rule of the step
  abbrev only : Done
  only = record { by = plans.Calls kind instance method payload; before = work_on h }

  abbrev pub Named : ExchangeKey → Type 0
  Named key = Contains (flat_map named_in (given_by (trail_of h (inputs.Call kind instance method payload)))) (opener_of key)

  module _ (key : ExchangeKey) where
    to_named : (known : Option SocketAddrV4) (item : Item) → (said known).items ≡ item ∷ [] → Opens h item key
        → Contains (flat_map named_in ((said known).given ++ [])) (opener_of key)
    to_named None item is opens = absurd cc
    to_named (Some peer) item is opens =
        let same : items.Called made peer (session_of made (answers_of h)) ≡ item = cc in
        let own : key ≡ key_to peer = subst (λ x. Opens h x key) (sym same) opens in
        subst (λ names. Contains names (opener_of key)) (sym (names_call (answers_of h) kind instance method payload peer)) (is_among (opener_of (key_to peer)) (opener_of key) (ap opener_of own))

    -- what a call opens, its request names
    pub call_opens_named : OpensBy h (inputs.Call kind instance method payload) key → Named key
    call_opens_named o =
        let same = only_one only o.done o.among in
        let opens : Opens h o.item key = subst (λ d. Opens d.before.state o.item key) same o.opens in
        to_named (known_endpoint (answers_of h) instance) o.item (subst (λ d. (outcome_of d).items ≡ o.item ∷ []) same o.meets) opens

    from_named : (known : Option SocketAddrV4) → known_endpoint (answers_of h) instance ≡ known
        → Contains (flat_map named_in ((said known).given ++ [])) (opener_of key) → OpensBy h (inputs.Call kind instance method payload) key
    from_named None is among = absurd (at_member (λ x. ⊥) [] (opener_of key) tt among)
    from_named (Some peer) is among = record {
      done = only;
      among = is_among only only refl;
      item = items.Called made peer (session_of made (answers_of h));
      meets = ap (λ k. (said k).items) is;
      opens = ap (λ n. n.key) (only_one (opener_of (key_to peer)) (opener_of key) (subst (λ names. Contains names (opener_of key)) (names_call (answers_of h) kind instance method payload peer) among));
    }

    -- and what its request names, it opens
    pub call_named_opens : Named key → OpensBy h (inputs.Call kind instance method payload) key
    call_named_opens among = from_named (known_endpoint (answers_of h) instance) refl among
