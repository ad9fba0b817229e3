-- What is named in what a step gives: a call names as the opener alone and an answer as the answerer alone, and a step in
-- which the application sends nothing names calls as the answerer and no publication.
use Rattle.std.proofs.Common.{◌≡◌, ℕ, false, List, ap, refl, subst, sym}
use Rattle.std.specs.List.{AllByRecursion, Contains, flat_map}
use Rattle.std.specs.Net.Socket.{v4_ip}
use Rattle.std.specs.declared.net.ipv4_addr.Ipv4Addr.{Ipv4Addr}
use Rattle.std.specs.declared.net.socket_addr.SocketAddrV4.{SocketAddrV4}
use Rattle.someip_wire.specs.Spelling.{MessageValue}
use Rattle.someip_wire.specs.declared.header.Header.{Header}
use Rattle.sd_wire.specs.contents.Values.{EntryValue}
use Rattle.sd_wire.specs.declared.entry.EntryHead.{EntryHead}
use Rattle.sd_wire.specs.declared.entry.EntryHead.TheVariants as heads
use Rattle.sd_wire.specs.declared.entry.EventgroupEntry.{EventgroupEntry}
use Rattle.sd_wire.specs.declared.entry.EventgroupKind.{EventgroupKind}
use Rattle.sd_wire.specs.declared.entry.EventgroupKind.TheVariants.{Subscribe, Ack}
use Rattle.someip_rpc.specs.Servers.{kind_of_reply}
use Rattle.someip_rpc.specs.declared.request.Reply.{Reply}
use Rattle.someip_rpc.specs.declared.request.Reply.TheVariants as replies
use Rattle.someip_node_rules.specs.histories.History.{History, answers_of}
use Rattle.someip_node_rules.specs.rules.Inputs as inputs
use Rattle.someip_node_rules.specs.rules.Inputs.{Input}
use Rattle.someip_node_rules.specs.trails.Meanings.{GivenBy, Means}
use Rattle.someip_node_rules.specs.forms.Outputs as outputs
use Rattle.someip_node_rules.specs.forms.Outputs.{Given}
use Rattle.someip_node_rules.specs.rules.Plans as plans
use Rattle.someip_node_rules.specs.rules.Plans.{Rule}
use Rattle.someip_node_rules.specs.trails.SendingRules.{IsSent}
use Rattle.someip_node_rules.specs.histories.Tables.{Tables}
use Rattle.someip_node_rules.specs.trails.Trails.{given_by, trail_of}
use Rattle.someip_node_rules.proofs.trails.MeaningLemmas.{all_given}
use Rattle.someip_node_rules.proofs.lists.MemberLemmas.{all_flat_map, all_from_members, at_member}
use Rattle.someip_world_rules.specs.exchanges.Namings.{named_by_entries, named_by_head, named_by_kind, named_by_type, named_in}
use Rattle.someip_world_rules.specs.declared.exchanges.exchange_key.CallExchange.{CallExchange}
use Rattle.someip_world_rules.specs.declared.exchanges.exchange_key.EventExchange.{EventExchange}
use Rattle.someip_world_rules.specs.declared.exchanges.exchange_key.ExchangeKey.TheVariants as keys
use Rattle.someip_world_rules.specs.declared.exchanges.naming.Naming.{Naming}
use Rattle.someip_world_rules.specs.declared.exchanges.naming.Side.TheVariants.{Answerer, Opener}
use Rattle.someip_world_rules.specs.exchanges.Openings.{OpensBy}
use Rattle.someip_world_rules.proofs.about_exchanges.runs.Among.{among_all, one_among}
use Rattle.someip_world_rules.proofs.about_exchanges.openings.CallOpenings.{call_named_opens, opener_of}
use Rattle.sd_core.specs.declared.keys.InstanceId.{InstanceId}
use Rattle.someip_rpc.specs.Calls.{kind_of_call}
use Rattle.someip_rpc.specs.declared.call.CallKind.{CallKind}
use Rattle.someip_rpc.specs.declared.call.CallKind.TheVariants as calls
use Rattle.someip_world_rules.proofs.about_exchanges.openings.OpeningItems.{is_sending}
use Rattle.someip_world_rules.proofs.about_exchanges.openings.RuleInputs.{AskedBy, done_asked}

-- what a step gives was given by a rule that was done in it
pub given_among : (h : History) (input : Input) (given : Given) → Contains (given_by (trail_of h input)) given → GivenBy h input given
given_among h input given told = at_member (GivenBy h input) (given_by (trail_of h input)) given (all_given h input) told

-- what is named in all that a step gives is named in something that it gives
pub named_among : (h : History) (input : Input) (n : Naming) → Contains (flat_map named_in (given_by (trail_of h input))) n
    → (given : Given) × Contains (given_by (trail_of h input)) given × Contains (named_in given) n
named_among h input n among = one_among named_in (given_by (trail_of h input)) n among

-- ---- calls

-- named as the opener
abbrev IsOfOpener : Naming → Type 0
IsOfOpener n = n.side ≡ Opener

request_names : (kind : CallKind) (from to : SocketAddrV4) (header : Header) → AllByRecursion IsOfOpener (named_by_type (kind_of_call kind) from to header)
request_names calls.Request from to header = (refl, tt)
request_names calls.RequestNoReturn from to header = (refl, tt)

call_all : (kind : CallKind) (instance : InstanceId) (method : ℕ) (payload : List ℕ) (t : Tables) (given : Given) → Means given (plans.Calls kind instance method payload) t
    → AllByRecursion IsOfOpener (named_in given)
call_all kind instance method payload t (outputs.Sends from to m) means =
    subst (λ (x : MessageValue). AllByRecursion IsOfOpener (named_by_type x.header.kind from to x.header)) (sym means.is) (request_names kind from to _)
call_all kind instance method payload t (outputs.Announces from to stamp entries) means = absurd means
call_all kind instance method payload t (outputs.Tells output) means = tt

module _ (h : History) (kind : CallKind) (instance : InstanceId) (method : ℕ) (payload : List ℕ) where
  -- all that is named by a call is named as the opener
  pub call_names : (given : Given) → GivenBy h (inputs.Call kind instance method payload) given → (n : Naming) → Contains (named_in given) n → n.side ≡ Opener
  call_names given by n named =
      at_member IsOfOpener (named_in given) n
      (call_all kind instance method payload (answers_of by.done.before.state) given
      (subst (λ r. Means given r (answers_of by.done.before.state)) by.brought.brings.0 by.holds))
      named

  -- and what is named, the call opens
  pub call_names_opened : (given : Given) → Contains (given_by (trail_of h (inputs.Call kind instance method payload))) given
      → (n : Naming) → Contains (named_in given) n → OpensBy h (inputs.Call kind instance method payload) n.key
  call_names_opened given told n named =
      let side = call_names given (given_among h (inputs.Call kind instance method payload) given told) n named in
      let own : n ≡ opener_of n.key = λ i. record { key = n.key; side = side i } in
      call_named_opens h kind instance method payload n.key
      (among_all named_in (given_by (trail_of h (inputs.Call kind instance method payload))) given (opener_of n.key) told (subst (Contains (named_in given)) own named))

-- ---- answers

-- named as the answerer
abbrev IsOfAnswerer : Naming → Type 0
IsOfAnswerer n = n.side ≡ Answerer

reply_names : (reply : Reply) (from to : SocketAddrV4) (header : Header) → AllByRecursion IsOfAnswerer (named_by_type (kind_of_reply reply) from to header)
reply_names (replies.Response code) from to header = (refl, tt)
reply_names (replies.Error code) from to header = (refl, tt)

answer_all : (token : ℕ) (reply : Reply) (payload : List ℕ) (t : Tables) (given : Given) → Means given (plans.Answers token reply payload) t
    → AllByRecursion IsOfAnswerer (named_in given)
answer_all token reply payload t (outputs.Sends from to m) means =
    subst (λ (x : MessageValue). AllByRecursion IsOfAnswerer (named_by_type x.header.kind from to x.header)) (sym means.is) (reply_names reply from to _)
answer_all token reply payload t (outputs.Announces from to stamp entries) means = absurd means
answer_all token reply payload t (outputs.Tells output) means = tt

-- all that is named by an answer is named as the answerer
pub answer_names : (h : History) (token : ℕ) (reply : Reply) (payload : List ℕ) (given : Given) → GivenBy h (inputs.Answer token reply payload) given
    → (n : Naming) → Contains (named_in given) n → n.side ≡ Answerer
answer_names h token reply payload given by n named =
    at_member IsOfAnswerer (named_in given) n
    (answer_all token reply payload (answers_of by.done.before.state) given (subst (λ r. Means given r (answers_of by.done.before.state)) by.brought.brings.0 by.holds))
    named

-- ---- inputs by which the application sends nothing

-- a call is named as the answerer alone, and no publication is named
pub record IsQuiet (n : Naming) : Type 0 where
  pub answers : (k : CallExchange) → n.key ≡ keys.Call k → n.side ≡ Answerer
  pub no_event : (k : EventExchange) → n.key ≡ keys.Event k → ⊥

kind_quiet : (kind : EventgroupKind) (from to : Ipv4Addr) (e : EventgroupEntry) → IsQuiet (named_by_kind kind from to e)
kind_quiet Subscribe from to e = record { answers = λ k is. absurd cc; no_event = λ k is. cc }
kind_quiet Ack from to e = record { answers = λ k is. absurd cc; no_event = λ k is. cc }

head_quiet : (from to : Ipv4Addr) (head : EntryHead) → AllByRecursion IsQuiet (named_by_head from to head)
head_quiet from to (heads.Service head) = tt
head_quiet from to (heads.Eventgroup head) = (kind_quiet head.kind from to head, tt)

-- the entries of Service Discovery name subscriptions alone
entries_quiet : (from to : Ipv4Addr) (entries : List EntryValue) → AllByRecursion IsQuiet (named_by_entries from to entries)
entries_quiet from to entries =
    all_flat_map IsQuiet (λ e. named_by_head from to e.head) entries
    (all_from_members (λ e. AllByRecursion IsQuiet (named_by_head from to e.head)) entries (λ e _. head_quiet from to e.head))

module _ (input : Input) (quiet : is_sending input ≡ false) (t : Tables) (from to : SocketAddrV4) (m : MessageValue) where
  -- the one message that is sent then is the ERROR that answers a request
  message_quiet : (r : Rule) → AskedBy r input → IsSent r t from to m → AllByRecursion IsQuiet (named_by_type m.header.kind from to m.header)
  message_quiet (plans.Calls kind instance method payload) asked s = let sending = ap is_sending asked in absurd cc
  message_quiet (plans.Answers token reply payload) asked s = let sending = ap is_sending asked in absurd cc
  message_quiet (plans.Publishes instance event payload) asked s = let sending = ap is_sending asked in absurd cc
  message_quiet (plans.PublishesTo instance endpoint event payload) asked s = let sending = ap is_sending asked.1 in absurd cc
  message_quiet (plans.TakesRequest instance peer header payload) asked s =
      subst (λ (x : MessageValue). AllByRecursion IsQuiet (named_by_type x.header.kind from to x.header)) (sym s.is)
      (record { answers = λ k is. refl; no_event = λ k is. cc }, tt)
  message_quiet r asked s = absurd s

module _ (h : History) (input : Input) (quiet : is_sending input ≡ false) where
  all_quiet : (given : Given) → GivenBy h input given → AllByRecursion IsQuiet (named_in given)
  all_quiet (outputs.Sends from to m) by = message_quiet input quiet (answers_of by.done.before.state) from to m by.done.by (done_asked h input _ by) by.holds
  all_quiet (outputs.Announces from to stamp entries) by = entries_quiet (v4_ip from) (v4_ip to) entries
  all_quiet (outputs.Tells output) by = tt

  -- what is named where the application sends nothing
  pub quiet_names : (given : Given) → GivenBy h input given → (n : Naming) → Contains (named_in given) n → IsQuiet n
  quiet_names given by n named = at_member IsQuiet (named_in given) n (all_quiet given by) named
