-- A call that was made opened its exchange.
use Rattle.std.proofs.Common.{ℕ, List, [], ◌∷◌, sym, ap, ◌∙◌}
use Rattle.std.specs.Option.{option_map_or}
use Rattle.std.specs.declared.net.socket_addr.SocketAddrV4.{SocketAddrV4}
use Rattle.someip_rpc.specs.declared.ids.CallKey.{CallKey}
use Rattle.someip_node_rules.specs.declared.config.Config.{Config}
use Rattle.someip_node_rules.specs.rules.Calling.{call_of, calls_at}
use Rattle.someip_node_rules.specs.histories.History.{History, answers_of}
use Rattle.someip_node_rules.specs.histories.Items as items
use Rattle.someip_node_rules.specs.trails.Meetings.{MetBy}
use Rattle.someip_node_rules.specs.rules.Outcomes.{nothing}
use Rattle.someip_node_rules.specs.rules.Plans.{rule}
use Rattle.someip_node_rules.specs.forms.Setups.{client_endpoint}
use Rattle.someip_node_rules.specs.histories.Tables.{Tables}
use Rattle.someip_node_rules.specs.trails.Trails.{met_by, trail_of}
use Rattle.someip_node_rules.proofs.trails.MeetingLemmas.{all_met}
use Rattle.someip_node_rules.proofs.lists.MemberLemmas.{at_member}
use Rattle.someip_node_rules.proofs.rules.StepRules.{config_there}
use Rattle.someip_world_schedule.specs.declared.step.Step.{Step}
use Rattle.someip_world_setup.specs.declared.setup_node.SetupNode.{SetupNode}
use Rattle.someip_world_rules.specs.exchanges.Namings.{of_call}
use Rattle.someip_world_rules.specs.exchanges.Openings.{Opened}
use Rattle.someip_world_safety.specs.AwaitedCalls.{Makes}

module _ (nodes : List SetupNode) (configs : List Config) (steps : List Step) where
  -- the step in which a call was made opened the exchange of its client, its peer, its Message ID and its Request ID
  pub made_opens : (i : ℕ) (key : CallKey) (peer : SocketAddrV4) (m : Makes nodes configs steps i key peer)
      → Opened nodes configs steps i
      (of_call (client_endpoint m.does.turn.history.config) peer key.message.service key.message.method m.does.turn.history.config.client_id key.session)
  made_opens i key peer m =
      let h : History = m.does.turn.history in
      let item = items.Called m.call peer m.session in
      let by = at_member (MetBy h m.does.input) (met_by (trail_of h m.does.input)) item (all_met h m.does.input) m.met in
      let made = by.holds in
      let t : Tables = answers_of by.done.before.state in
      let config = config_there h m.does.input by.done by.among in
      record {
        does = m.does;
        by = record {
          done = by.done;
          among = by.among;
          item = item;
          meets =
              ap (λ r. (rule r t).items) made.made
              ∙ ap (λ o. (option_map_or (λ to. calls_at (call_of made.kind made.instance made.method t) made.payload to t) o nothing).items) made.known
              ∙ (λ k. items.Called (sym made.is k) peer (sym made.numbered k) ∷ []);
          opens = λ k. of_call (client_endpoint (sym config k)) peer (sym m.keyed k).message.service (sym m.keyed k).message.method (sym config k).client_id (sym m.keyed k).session;
        };
      }
