-- A request that an instance takes from a client that is no liar is that of a call, which was given by the step that sent its datagram.
use Rattle.std.proofs.Common.{◌≡◌, ℕ, suc, Bool, true, false, List, Some, inl, inr, refl, sym, ap, subst}
use Rattle.std.specs.List.{Contains}
use Rattle.std.specs.Net.Socket.{v4_ip}
use Rattle.std.specs.declared.net.socket_addr.SocketAddrV4.{SocketAddrV4}
use Rattle.someip_wire.specs.declared.header.Header.{Header}
use Rattle.someip_wire.specs.declared.header.MessageType.TheVariants as kinds
use Rattle.sd_core.specs.declared.keys.InstanceId.{InstanceId}
use Rattle.someip_node_rules.specs.declared.config.Config.{Config}
use Rattle.someip_node_rules.specs.declared.config.OfferedService.{OfferedService}
use Rattle.someip_node_rules.specs.trails.Bringing.{Brings, OfDatagram, WasBrought}
use Rattle.someip_node_rules.specs.rules.Handling.{target_of}
use Rattle.someip_node_rules.specs.histories.History.{History}
use Rattle.someip_node_rules.specs.rules.Inputs.{Input, Datagram, Tick, Call, Answer, Publish, PublishTo, Subscribe, Unsubscribe, StopOffer}
use Rattle.someip_node_rules.specs.trails.Packets.{Packet}
use Rattle.someip_node_rules.specs.rules.Plans.{Rule, TakesRequest}
use Rattle.someip_node_rules.specs.forms.Setups.{offered_as}
use Rattle.someip_node_rules.specs.trails.Trails.{Done, trail_of}
use Rattle.someip_world_schedule.specs.declared.step.Step.{Step}
use Rattle.someip_world_setup.specs.declared.setup_node.SetupNode.{SetupNode}
use Rattle.someip_world_rules.specs.Announced.{AllFits}
use Rattle.someip_world_rules.specs.Deliveries.{Does}
use Rattle.someip_world_rules.specs.Liars.{IsHonest}
use Rattle.someip_world_rules.proofs.OriginLemmas.{turn_configured}
use Rattle.someip_world_rules.specs.declared.exchanges.exchange_key.ExchangeKey.{ExchangeKey}
use Rattle.someip_world_rules.specs.declared.exchanges.naming.Side.TheVariants.{Opener}
use Rattle.someip_world_rules.specs.exchanges.Belonging.{Belongs}
use Rattle.someip_world_rules.specs.exchanges.CleanReuse.{IsCleanBefore}
use Rattle.someip_world_rules.specs.exchanges.Namings.{named_by_type, named_in, of_call}
use Rattle.someip_world_rules.proofs.about_exchanges.runs.Among.{is_among}
use Rattle.someip_world_rules.proofs.about_exchanges.messages.WholeLemmas.{IsForApplication}
use Rattle.someip_world_safety.specs.Answers.{TakesCall}
use Rattle.someip_world_safety.specs.GivenMessages.{WasGiven}
use Rattle.someip_world_safety.specs.OwnOffers.{HaveOwnOffers}
use Rattle.someip_world_safety.proofs.messages.CameGiven.{came_was_given}
use Rattle.someip_world_safety.proofs.networks.InstanceEndpoint.{came_to_instance}

-- a request is taken by this rule
abbrev takes_request : Rule → Bool
takes_request (TakesRequest instance from header payload) = true
takes_request r = false

-- a rule is one of a datagram
abbrev IsDatagram : History → Input → Rule → List Done → Type 0
IsDatagram h input r earlier = (p : Packet) × (input ≡ Datagram p.from p.to p.bytes) × OfDatagram h p r earlier

module _ (h : History) (r : Rule) (earlier : List Done) (takes : takes_request r ≡ true) where
  -- such a rule is no other one
  other : (q : Rule) → takes_request q ≡ false → r ≡ q → ⊥
  other q none is = let same = ap takes_request is in absurd cc

  -- such a rule is brought about by a datagram alone
  of_datagram : (input : Input) → Brings h input r earlier → IsDatagram h input r earlier
  of_datagram (Datagram from to bytes) b = (record { from = from; to = to; bytes = bytes }, refl, b)
  of_datagram (Tick ms) (inl b) = absurd (other _ refl b.0)
  of_datagram (Tick ms) (inr b) = absurd (other _ refl b.1)
  of_datagram (Call kind instance method payload) b = absurd (other _ refl b.0)
  of_datagram (Answer token reply payload) b = absurd (other _ refl b.0)
  of_datagram (Publish instance event payload) b = absurd (other _ refl b.0)
  of_datagram (PublishTo instance eventgroup endpoint event payload) b = absurd (other _ refl b.0)
  of_datagram (Subscribe eventgroup) (inl b) = absurd (other _ refl b.0)
  of_datagram (Subscribe eventgroup) (inr b) = absurd (other _ refl b.2)
  of_datagram (Unsubscribe eventgroup) (inl b) = absurd (other _ refl b)
  of_datagram (Unsubscribe eventgroup) (inr b) = absurd (other _ refl b.2)
  of_datagram (StopOffer instance) (inl b) = absurd (other _ refl b)
  of_datagram (StopOffer instance) (inr b) = absurd (other _ refl b.0)

module _ (nodes : List SetupNode) (configs : List Config) (steps : List Step) where
  -- a REQUEST that was given belongs to the exchange that its call opened
  pub request_belongs : (n : ℕ) (client server : SocketAddrV4) (header : Header) (payload : List ℕ) (g : WasGiven nodes configs steps n client server header payload) → header.kind ≡ kinds.Request
      → Belongs nodes configs steps g.sent g.datagram (of_call client server header.service header.method header.client header.session) g.sent
  request_belongs n client server header payload g request =
      let key : ExchangeKey = of_call client server header.service header.method header.client header.session in
      record {
        sent = g.sends;
        side = Opener;
        named = subst (λ given. Contains (named_in given) (record { key = key; side = Opener })) (sym g.given)
            (subst (λ kind. Contains (named_by_type kind client server header) (record { key = key; side = Opener })) (sym request) (is_among _ _ refl));
        meant = refl;
      }

  module _ (fits : AllFits nodes configs steps) (own : HaveOwnOffers configs) (i : ℕ) (clean : IsCleanBefore nodes configs steps (suc i)) (does : Does nodes configs steps i)
      (done : Done) (brought : WasBrought does.turn.history does.input done) (instance : InstanceId) (client : SocketAddrV4) (header : Header) (payload : List ℕ)
      (takes : done.by ≡ TakesRequest instance client header payload) (service : OfferedService) (offered : offered_as does.turn.history.config instance ≡ Some service)
      (honest : IsHonest nodes configs (v4_ip client)) where
    -- the request that an instance takes was given to the endpoint that it is offered at
    pub request_given : WasGiven nodes configs steps i client service.rules.endpoint header payload
    request_given =
        let came : IsDatagram does.turn.history does.input (TakesRequest instance client header payload) brought.earlier =
        of_datagram does.turn.history (TakesRequest instance client header payload) brought.earlier refl does.input
        (subst (λ r. Brings does.turn.history does.input r brought.earlier) takes brought.brings) in
        let p : Packet = came.0 in
        let goal : IsForApplication (target_of does.turn.history.config p.to) = subst IsForApplication (sym came.2.1) tt in
        let source = subst (λ from. IsHonest nodes configs (v4_ip from)) came.2.0 honest in
        let given = came_was_given nodes configs steps fits i does p header payload done brought.earlier brought.later came.1 source brought.trail goal came.2.2 clean in
        let at = own does.turn.place does.turn.history.config (turn_configured nodes configs steps i does.step does.turn) in
        let aimed = came_to_instance does.turn.history.config p.to instance at service came.2.1 offered in
        subst (λ c. WasGiven nodes configs steps i c service.rules.endpoint header payload) (sym came.2.0)
        (subst (λ s. WasGiven nodes configs steps i p.from s header payload) aimed given)

    -- so a call is taken
    abbrev pub call_taken : header.kind ≡ kinds.Request → Contains (trail_of does.turn.history does.input) done
        → TakesCall nodes configs steps i request_given.sent client service.rules.endpoint (of_call client service.rules.endpoint header.service header.method header.client header.session) payload
    call_taken request among = record {
      does = does;
      done = done;
      among = among;
      instance = instance;
      header = header;
      takes = takes;
      request = request;
      service = service;
      offered = offered;
      at = refl;
      given = request_given;
      sent_so = refl;
      belongs = request_belongs i client service.rules.endpoint header payload request_given request;
    }
