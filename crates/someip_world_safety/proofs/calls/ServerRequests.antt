-- A request that is open at a server was handed up in a step of the same life, and no other was since under its token.
use Rattle.std.proofs.Common.{◌≡◌, ◌⊎◌, inl, inr, ℕ, suc, ◌<◌, ◌≤◌, List, [], length, take, Some, Result, Ok, Err, arith, refl, sym, ap, subst, ◌∙◌}
use Rattle.someip_rpc.specs.declared.request.Asked.{Asked}
use Rattle.someip_node_rules.specs.declared.config.Config.{Config}
use Rattle.someip_node_rules.specs.declared.error.NodeError.{NodeError}
use Rattle.someip_node_rules.specs.declared.output.Output.TheVariants.{Request}
use Rattle.someip_node_rules.specs.histories.CallQuestions.{next_token, open_request_at}
use Rattle.someip_node_rules.specs.histories.History.{History, answers_of}
use Rattle.someip_node_rules.specs.rules.Inputs.{Input}
use Rattle.someip_node_rules.specs.trails.Meanings.{GivenBy}
use Rattle.someip_node_rules.specs.trails.Meetings.{IsRequestedBy}
use Rattle.someip_node_rules.specs.forms.Outputs.{Tells}
use Rattle.someip_node_rules.specs.rules.Plans.{Work}
use Rattle.someip_node_rules.specs.forms.Setups.{offered_as}
use Rattle.someip_node_rules.specs.steps.Steps.{step}
use Rattle.someip_node_rules.specs.trails.Trails.{Done}
use Rattle.someip_node_rules.proofs.trails.MeetingLemmas.{state_met}
use Rattle.someip_node_rules.proofs.rules.StepRules.{config_there}
use Rattle.someip_world_schedule.specs.declared.step.Step.{Step}
use Rattle.someip_world_setup.specs.declared.setup_node.SetupNode.{SetupNode}
use Rattle.someip_world_rules.specs.Deeds.{Takes}
use Rattle.someip_world_rules.specs.Deliveries.{Does, Restarted}
use Rattle.someip_world_rules.specs.Runs.{World, history_after}
use Rattle.someip_world_rules.specs.Turns.{LeadTo, Turn}
use Rattle.someip_world_rules.proofs.Lives.{below_next, lives_next}
use Rattle.someip_world_rules.specs.exchanges.Belonging.{HandsUp}
use Rattle.someip_world_safety.specs.OpenRequests.{IsOpenRequest, RequestsAreOpen}
use Rattle.someip_world_safety.proofs.runs.EachNode.{each_node}
use Rattle.someip_world_safety.proofs.calls.RequestItems.{open_below}
use Rattle.someip_world_safety.proofs.runs.SameStep.{not_refused, same_history, takes_no_restart}
use Rattle.someip_world_safety.proofs.calls.StepRequests.{Handed, IsOpenIn, Stood, is_given, open_in_step, up_is_new}

module _ (nodes : List SetupNode) (configs : List Config) (ss : List Step) where
  -- the requests that are open at a node, before a step
  abbrev AreOpen : ℕ → ℕ → History → Type 0
  AreOpen n place h = (token : ℕ) (request : Asked) → open_request_at h.items token ≡ Some request → IsOpenRequest nodes configs ss n place token request

  module _ (n : ℕ) where
    -- one is open on over a step that neither starts the node again nor hands up a request of its token
    longer : (place token : ℕ) (request : Asked) → (Restarted nodes configs ss n place → ⊥) → (HandsUp nodes configs ss n place token → ⊥) → IsOpenRequest nodes configs ss n place token request
        → IsOpenRequest nodes configs ss (suc n) place token request
    longer place token request alive none o =
        let early = o.before in
        record {
          i = o.i;
          before = omega (arith, early);
          lives = lives_next nodes configs ss n place alive o.i o.lives;
          handed = o.handed;
          last = λ k later until up. last_on k later (below_next k n until) up;
          from = o.from;
          header = o.header;
          takes = o.takes;
          service = o.service;
          offered = o.offered;
          is = o.is;
        }
      where
        last_on : (k : ℕ) → o.i < k → (k < n) ⊎ (k ≡ n) → HandsUp nodes configs ss k place token → ⊥
        last_on k later (inl less) up = o.last k later less up
        last_on k later (inr same) up = none (subst (λ j. HandsUp nodes configs ss j place token) same up)

    -- a step in which the node takes nothing, and is not started again, does neither
    stays : (place : ℕ) (h : History) → ((does : Does nodes configs ss n) → does.turn.place ≡ place → ⊥) → (Restarted nodes configs ss n place → ⊥) → AreOpen n place h → AreOpen (suc n) place h
    stays place h idle alive was token request is = longer place token request alive (λ up. idle up.does up.at) (was token request is)

  module _ (n : ℕ) (s : Step) (t : Turn nodes configs ss n s) where
    -- a token that is given is not handed up again
    not_again : (token : ℕ) (request : Asked) → open_request_at t.history.items token ≡ Some request → HandsUp nodes configs ss n t.place token → ⊥
    not_again token request is up =
        let below = open_below t.history.items token request is in
        let high = up_is_new up.does.turn.history up.does.input token up.instance up.method up.payload up.by in
        let same : next_token up.does.turn.history.items ≡ next_token t.history.items = ap (λ x. next_token x.items) (same_history nodes configs ss n s t up.does) in
        absurd (omega (arith, below, high, same))

    module _ (input : Input) (takes : t.deed ≡ Takes input) where
      -- a step that takes an input starts no node again
      alive : Restarted nodes configs ss n t.place → ⊥
      alive = takes_no_restart nodes configs ss n s t input takes

      -- a request that is handed up in the step is open then
      handed_here : (done : Work History) → step t.history input ≡ Ok done → (token : ℕ) (request : Asked) (d : Done) → (m : IsRequestedBy d.by (answers_of d.before.state) request)
          → offered_as t.history.config m.instance ≡ Some m.service → (by : GivenBy t.history input (Tells (Request (Some token) m.instance m.header.method m.payload))) → by.done ≡ d
          → IsOpenRequest nodes configs ss (suc n) t.place token request
      handed_here done happened token request d m offered by same = record {
        i = n;
        before = omega arith;
        lives = lives_next nodes configs ss n t.place alive n (λ i from until. absurd (omega (arith, from, until)));
        handed = record {
          does = record { step = s; turn = t; input = input; takes = takes; done = done; happened = happened };
          at = refl;
          instance = m.instance;
          method = m.header.method;
          payload = m.payload;
          by = by;
        };
        last = λ k later until up. absurd (omega (arith, later, until));
        from = m.from;
        header = m.header;
        takes = ap (λ (x : Done). x.by) same ∙ m.taken;
        service = m.service;
        offered = offered;
        is = m.is;
      }

      -- after a step in which the node takes an input
      goes : (due : Result (Work History) NodeError) → step t.history input ≡ due → AreOpen n t.place t.history → AreOpen (suc n) t.place (history_after t.history due)
      goes (Err refusal) due was token request is =
          longer n t.place token request alive (λ up. not_refused nodes configs ss n s t input takes refusal due up.does) (was token request is)
      goes (Ok done) due was token request is = cases (open_in_step t.history input token request (subst (λ x. open_request_at x.items token ≡ Some request) (state_met t.history input done due) is))
        where
          cases : IsOpenIn t.history input token request → IsOpenRequest nodes configs ss (suc n) t.place token request
          cases (Stood stood) = longer n t.place token request alive (not_again token request stood) (was token request stood)
          cases (Handed d among m same) =
              let given = is_given t.history input token request d among m same in
              handed_here done due token request d m (ap (λ c. offered_as c m.instance) (sym (config_there t.history input d among)) ∙ m.offered) given.0 given.1

  -- at a start none is open
  starts : (n place : ℕ) (config : Config) (delay : ℕ) → AreOpen n place (record { config = config; delay = delay; items = [] })
  starts n place config delay token request is = absurd cc

  -- before each step
  pub all_open : (n : ℕ) (w : World) → n ≤ length ss → LeadTo nodes configs (take n ss) w → RequestsAreOpen nodes configs ss n w
  all_open n w le led place h token request here is =
      each_node nodes configs ss AreOpen starts (λ n place h idle alive was. stays n place h idle alive was)
      (λ n s t input takes due e was. goes n s t input takes due e was) n w le led place h here token request is
