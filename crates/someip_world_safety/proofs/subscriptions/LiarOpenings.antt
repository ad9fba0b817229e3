-- No exchange is opened whose client has the address of a liar: who opens one is a node, and puts its own address there.
use Rattle.std.proofs.Common.{◌≡◌, ℕ, List, ap, subst, ◌∙◌}
use Rattle.std.specs.Net.Socket.{v4_ip}
use Rattle.std.specs.declared.net.ipv4_addr.Ipv4Addr.{Ipv4Addr}
use Rattle.std.specs.declared.net.socket_addr.SocketAddrV4.{SocketAddrV4}
use Rattle.sd_core.specs.declared.eventgroup.Eventgroup.{Eventgroup}
use Rattle.someip_node_rules.specs.declared.config.Config.{Config}
use Rattle.someip_node_rules.specs.histories.History.{History}
use Rattle.someip_node_rules.specs.histories.Items as items
use Rattle.someip_node_rules.specs.histories.Items.{Item}
use Rattle.someip_node_rules.specs.forms.Setups.{client_endpoint}
use Rattle.someip_node_rules.proofs.rules.StepRules.{config_there}
use Rattle.someip_world_schedule.specs.declared.step.Step.{Step}
use Rattle.someip_world_setup.specs.declared.setup_node.SetupNode.{SetupNode}
use Rattle.someip_world_rules.specs.Liars.{IsOfLiar}
use Rattle.someip_world_rules.specs.exchanges.Namings.{of_call, of_subscription}
use Rattle.someip_world_rules.specs.exchanges.Openings.{Opened, Opens}
use Rattle.someip_world_rules.specs.declared.exchanges.exchange_key.CallExchange.{CallExchange}
use Rattle.someip_world_rules.specs.declared.exchanges.exchange_key.ExchangeKey.{ExchangeKey}
use Rattle.someip_world_rules.specs.declared.exchanges.exchange_key.ExchangeKey.TheVariants as keys
use Rattle.someip_world_safety.specs.Addresses.{HaveOwnAddresses}
use Rattle.someip_world_safety.proofs.networks.LiarLemmas.{does_honestly}
use Rattle.someip_world_safety.proofs.subscriptions.RuleItems.{opens_more}

-- one key is of one call
same_call : (a b : CallExchange) → keys.Call a ≡ keys.Call b → a ≡ b
same_call a b is = cc

-- an item that opens the key of a call does so at the client of the call
client_opens : (at : History) (x : Item) (client server : SocketAddrV4) (service method client_id session : ℕ) → Opens at x (of_call client server service method client_id session) → client ≡ client_endpoint at.config
client_opens at (items.Called call peer number) client server service method client_id session opens = ap (λ (k : CallExchange). k.client) (same_call _ _ opens)
client_opens at (items.Published event) client server service method client_id session opens = let is = opens.is in absurd cc
client_opens at x client server service method client_id session opens = let is = opens.4 in absurd cc

module _ (nodes : List SetupNode) (configs : List Config) (ss : List Step) where
  -- no exchange of a key is ever opened
  abbrev pub IsNeverOpened : ExchangeKey → Type 0
  IsNeverOpened key = (k : ℕ) → Opened nodes configs ss k key → ⊥

  module _ (own : HaveOwnAddresses configs) where
    -- none of a call of a liar
    pub no_call_of_liar : (client server : SocketAddrV4) (service method client_id session : ℕ) → IsOfLiar nodes configs (v4_ip client) → IsNeverOpened (of_call client server service method client_id session)
    no_call_of_liar client server service method client_id session of k o =
        let h : History = o.does.turn.history in
        let source = client_opens o.by.done.before.state o.by.item client server service method client_id session o.by.opens in
        let config = config_there h o.does.input o.by.done o.by.among in
        does_honestly nodes configs ss own k o.does (subst (IsOfLiar nodes configs) (ap v4_ip source ∙ ap (λ c. c.address) config) of)

    -- none of a subscription of a liar
    pub no_subscription_of_liar : (address peer : Ipv4Addr) (q : Eventgroup) (counter : ℕ) → IsOfLiar nodes configs address → IsNeverOpened (of_subscription address peer q counter)
    no_subscription_of_liar address peer q counter of k o =
        let does = o.does in
        let says = opens_more does.turn.history does.input does.done address peer q counter does.happened o.by in
        does_honestly nodes configs ss own k does (subst (IsOfLiar nodes configs) says.0 of)
