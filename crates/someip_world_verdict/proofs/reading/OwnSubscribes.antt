-- Each Subscribe that a node says is its own: it goes out from its address. And what it wants has a TTL.
use Rattle.std.proofs.Common.{◌≡◌, ◌≢◌, Bool, true, false, ◌&&◌, ◌==◌, nat_le, nat_lt, not, List, [], ◌∷◌, map, Ok, refl, sym, ap, subst, ◌∙◌}
use Rattle.std.specs.List.{AllByRecursion, Contains, list_all}
use Rattle.std.specs.Net.Socket.{v4_ip}
use Rattle.std.specs.declared.net.ipv4_addr.Ipv4Addr.{Ipv4Addr}
use Rattle.std.specs.declared.net.socket_addr.SocketAddrV4.{SocketAddrV4}
use Rattle.std.proofs.lemmas.Bool.{and_parts}
use Rattle.sd_core.specs.declared.keys.InstanceId.{InstanceId}
use Rattle.sd_wire.specs.declared.entry.EntryHead.{EntryHead}
use Rattle.sd_wire.specs.declared.entry.EntryHead.TheVariants as heads
use Rattle.sd_wire.specs.declared.entry.EventgroupEntry.{EventgroupEntry}
use Rattle.sd_wire.specs.declared.entry.EventgroupKind.{EventgroupKind}
use Rattle.sd_wire.specs.declared.entry.EventgroupKind.TheVariants.{Subscribe, Ack}
use Rattle.sd_wire.specs.contents.Kinds.{has_type_subscribe}
use Rattle.sd_wire.specs.contents.Values.{EntryValue, ReadValue, good}
use Rattle.sd_session.specs.declared.stamp.Stamp.{Stamp}
use Rattle.someip_node_laws.specs.Fitting.{FitsWire, head_of}
use Rattle.someip_node_rules.proofs.forms.GoodConfigParts.{good_wants}
use Rattle.someip_node_rules.specs.forms.GoodConfigs.{is_good, is_good_eventgroup, is_good_instance, is_good_want}
use Rattle.someip_node_rules.specs.histories.History.{History, answers_of}
use Rattle.someip_node_rules.specs.rules.Inputs.{Input}
use Rattle.someip_node_rules.specs.rules.Learning.{eventgroup_in}
use Rattle.someip_node_rules.specs.trails.Meanings.{GivenBy}
use Rattle.someip_node_rules.specs.forms.Outputs.{Given, Announces, Sends, Tells, written}
use Rattle.someip_node_rules.specs.rules.Plans as plans
use Rattle.someip_node_rules.specs.rules.Plans.{Rule, Work}
use Rattle.someip_node_rules.specs.trails.SendingRules.{IsAnnounced}
use Rattle.someip_node_rules.specs.forms.Setups.{discovery_endpoint}
use Rattle.someip_node_rules.specs.steps.Steps.{step}
use Rattle.someip_node_rules.specs.histories.Tables.{Tables}
use Rattle.someip_node_rules.specs.trails.Trails.{Done, given_by, trail_of}
use Rattle.someip_node_rules.specs.declared.config.Config.{Config}
use Rattle.someip_node_rules.specs.declared.config.WantedService.{WantedService}
use Rattle.someip_node_rules.specs.declared.output.Output.TheVariants.{Sent}
use Rattle.someip_node_rules.proofs.trails.MeaningLemmas.{all_given, outputs_written}
use Rattle.someip_node_rules.proofs.lists.MemberLemmas.{all_both, all_flat_map, all_from_members, all_weaker}
use Rattle.someip_node_rules.proofs.rules.StepRules.{config_there}
use Rattle.someip_world_rules.specs.Datagrams.{SentDatagram}
use Rattle.someip_world_rules.specs.exchanges.Namings.{named_by_kind}
use Rattle.someip_world_rules.proofs.about_exchanges.beginnings.SubscribesLemmas.{HasTtls}
use Rattle.someip_world_rules.proofs.about_exchanges.messages.WholeLemmas.{no_flag}
use Rattle.someip_world_verdict.specs.Contents.{said_by_entries, said_by_head, said_by_outputs, said_in}
use Rattle.someip_world_verdict.specs.declared.said.Said.{Said}
use Rattle.someip_world_verdict.proofs.reading.ApplicationLemmas.{given_by_application}
use Rattle.someip_world_verdict.proofs.reading.ContentLemmas.{announcement_read, message_alone, message_read, read_back}
use Rattle.someip_world_verdict.proofs.reading.OutputLemmas.{output_case, said_by_output}
use Rattle.someip_world_verdict.proofs.keeping.SubscribeSteps.{IsOwn}

-- ---- wants

-- a good want has a TTL
good_ttl : (want : InstanceId × WantedService) → is_good_want want ≡ true → want.1.ttl ≢ 0
good_ttl want well none =
    let front = is_good_instance want.0 && nat_le want.1.major 0xFE in
    let outer = and_parts (front && not (want.1.ttl == 0)) (list_all is_good_eventgroup want.1.groups.entries) well in
    let inner = and_parts front (not (want.1.ttl == 0)) outer.0 in
    let gone : not (want.1.ttl == 0) ≡ false = ap (λ ttl. not (ttl == 0)) none in
    let some = inner.1 in
    absurd cc

-- so what a good configuration wants has one
pub has_ttls : (config : Config) → is_good config ≡ true → HasTtls config
has_ttls config well = all_weaker (λ want. is_good_want want ≡ true) (λ want. want.1.ttl ≢ 0) good_ttl config.wants.entries (good_wants config well)

-- ---- entries

module _ (address from to : Ipv4Addr) (is : from ≡ address) where
  -- an entry of a type that goes out from the address
  own_kind : (kind : EventgroupKind) (head : EventgroupEntry) (lasts : Bool) → IsOwn address (record { naming = named_by_kind kind from to head; subscribes = has_type_subscribe kind && lasts })
  own_kind Subscribe head lasts subscribes = (record { client = from; server = to; eventgroup = eventgroup_in head; counter = head.counter }, refl, is)
  own_kind Ack head lasts subscribes = absurd cc

  -- an entry of any kind
  own_head : (head : EntryHead) → AllByRecursion (IsOwn address) (said_by_head from to head)
  own_head (heads.Service head) = tt
  own_head (heads.Eventgroup head) = (own_kind head.kind head (nat_lt 0 head.ttl), tt)

  -- the Subscribes among some entries that go out from an address are those of a client there
  own_entries : (entries : List ReadValue) → AllByRecursion (IsOwn address) (said_by_entries from to entries)
  own_entries entries =
      all_flat_map (IsOwn address) (λ e. said_by_head from to (head_of e)) entries
      (all_from_members (λ e. AllByRecursion (IsOwn address) (said_by_head from to (head_of e))) entries (λ e _. own_head (head_of e)))

-- ---- what a step says

-- what Service Discovery announces goes out from its endpoint
announced_from : (r : Rule) (t : Tables) (from to : SocketAddrV4) (stamp : Stamp) (entries : List EntryValue) → IsAnnounced r t from to stamp entries
    → from ≡ discovery_endpoint t.config
announced_from (plans.Announces own) t from to stamp entries is = is.0
announced_from (plans.RepliesTo peer own) t from to stamp entries is = is.0
announced_from r t from to stamp entries is = absurd is

module _ (h : History) (input : Input) where
  -- the address of a node is the same at each rule of a step
  pub address_kept : (done : Done) → Contains (trail_of h input) done → done.before.state.config.address ≡ h.config.address
  address_kept done among = ap (λ config. config.address) (config_there h input done among)

  module _ (well : is_good h.config ≡ true) where
    -- each Subscribe that a datagram of what is given says is the node's own
    own_datagram : (given : Given) → GivenBy h input given → FitsWire given → (d : SentDatagram) → Contains (written given) (Sent d.from d.to d.bytes)
        → AllByRecursion (IsOwn h.config.address) (said_in d)
    own_datagram (Sends from to m) by fits d among =
        let none = no_flag by.done.by (answers_of by.done.before.state) from to m by.holds in
        let read = message_read d from to m none (given_by_application h input from to m well by) fits among in
        all_weaker (λ s. s.subscribes ≡ false) (IsOwn h.config.address) (λ s alone subscribes. absurd cc) (said_in d) (message_alone d from to m read)
    own_datagram (Announces from to stamp entries) by fits d among =
        let read = announcement_read d from to stamp entries fits among in
        let source = announced_from by.done.by (answers_of by.done.before.state) from to stamp entries by.holds in
        subst (AllByRecursion (IsOwn h.config.address)) (sym read.said)
        (own_entries h.config.address (v4_ip from) (v4_ip to) (ap v4_ip source ∙ address_kept by.done by.among) (map good entries))
    own_datagram (Tells output) by fits d among =
        let read = read_back h input well (Tells output) by fits d among in
        subst (AllByRecursion (IsOwn h.config.address)) (sym (none_named (said_in d) read.named)) tt
      where
        none_named : (said : List Said) → map (λ s. s.naming) said ≡ [] → said ≡ []
        none_named [] is = refl
        none_named (s ∷ said) is = absurd cc

    module _ (fits : AllByRecursion FitsWire (given_by (trail_of h input))) where
      -- so is each that an output says
      own_outputs : AllByRecursion (λ given. AllByRecursion (λ o. AllByRecursion (IsOwn h.config.address) (said_by_output o)) (written given)) (given_by (trail_of h input))
      own_outputs =
          all_both (GivenBy h input) FitsWire (λ given. AllByRecursion (λ o. AllByRecursion (IsOwn h.config.address) (said_by_output o)) (written given))
          (λ given by fit. all_from_members (λ o. AllByRecursion (IsOwn h.config.address) (said_by_output o)) (written given)
          (output_case given (read_back h input well given by fit) (AllByRecursion (IsOwn h.config.address)) tt (own_datagram given by fit)))
          (given_by (trail_of h input)) (all_given h input) fits

      -- each Subscribe that a step says is the node's own
      pub own_said : (done : Work History) → step h input ≡ Ok done → AllByRecursion (IsOwn h.config.address) (said_by_outputs done.outputs)
      own_said done did =
          subst (λ outputs. AllByRecursion (IsOwn h.config.address) (said_by_outputs outputs)) (sym (outputs_written h input done did))
          (all_flat_map (IsOwn h.config.address) said_by_output _
          (all_flat_map (λ o. AllByRecursion (IsOwn h.config.address) (said_by_output o)) written (given_by (trail_of h input)) own_outputs))
