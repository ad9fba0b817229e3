-- The endpoint of a known offer is a configured one.
use Rattle.std.proofs.Common.{◌≡◌, ℕ, true, false, List, [], ◌∷◌, map, length, arith, slice_get, Some, refl, sym, subst}
use Rattle.std.specs.List.{AllByRecursion, Contains}
use Rattle.std.specs.declared.net.socket_addr.SocketAddrV4.{SocketAddrV4}
use Rattle.someip_tables.specs.declared.lasting.Lasting.{Lasting}
use Rattle.someip_wire.specs.Spelling.{Fits, spelling}
use Rattle.someip_reassembly.specs.Sent.{PieceValue, piece_message, sent}
use Rattle.someip_reassembly.proofs.SentLemmas.{all_fit}
use Rattle.sd_wire.specs.declared.entry.ServiceEntry.{ServiceEntry}
use Rattle.sd_wire.specs.contents.Kinds.{is_offer}
use Rattle.sd_core.specs.declared.keys.InstanceId.{InstanceId}
use Rattle.sd_core.specs.declared.received.KnownOffer.{KnownOffer}
use Rattle.someip_node_rules.specs.declared.config.Config.{Config}
use Rattle.someip_node_rules.specs.declared.output.Output.TheVariants.{Sent}
use Rattle.someip_node_rules.specs.forms.Entries.{discovery_message}
use Rattle.someip_node_laws.specs.Fitting.{FitsConfig, FitsWire}
use Rattle.someip_node_rules.specs.rules.Handling.{is_valid_discovery}
use Rattle.someip_node_rules.specs.histories.History.{History, answers_of}
use Rattle.someip_node_rules.specs.rules.Inputs.{Input}
use Rattle.someip_node_rules.specs.trails.Meanings.{GivenBy, IsTold}
use Rattle.someip_node_rules.specs.forms.Outputs.{Given, Announces, Sends, Tells, datagram_of, written}
use Rattle.someip_node_rules.specs.trails.Packets.{Packet, HasServiceEntry}
use Rattle.someip_node_rules.specs.histories.SeekQuestions.{known_offer_at}
use Rattle.someip_node_rules.proofs.lists.MemberLemmas.{all_both, all_map, at_member}
use Rattle.someip_world_schedule.specs.declared.step.Step.{Step}
use Rattle.someip_world_setup.specs.declared.setup_node.SetupNode.{SetupNode}
use Rattle.someip_world_rules.specs.Announced.{FitsStep, IsAsConfigured, IsConfigured}
use Rattle.someip_world_rules.specs.Liars.{HasNoLiars, IsHonest}
use Rattle.someip_world_rules.specs.Runs.{World}
use Rattle.someip_world_rules.specs.Turns.{LeadTo}
use Rattle.someip_world_rules.proofs.AnnouncedLemmas.{entry_read, undiscovered}
use Rattle.someip_world_rules.proofs.FitRunLemmas.{all_given_fits, pieces_undiscovered}
use Rattle.someip_world_rules.proofs.InjectionLemmas.{all_honest, sent_by_node}
use Rattle.someip_world_rules.proofs.KnownOfferLemmas.{was_offered}
use Rattle.someip_world_rules.proofs.OfferLemmas.{announced_own}
use Rattle.someip_world_rules.proofs.OriginLemmas.{turn_configured}
use Rattle.someip_world_rules.proofs.Fronts.{whole_leads}

-- ---- what is given

module _ (p : Packet) (head : ServiceEntry) (endpoint : SocketAddrV4) (stands : HasServiceEntry p head (Some endpoint)) (offers : is_offer head ≡ true) (h : History) (input : Input) where
  abbrev Due : Type 0
  Due = IsConfigured h.config (record { service = head.service; instance = head.instance }) head.major (Some endpoint)

  no_piece : (from to : SocketAddrV4) (piece : PieceValue) → Fits (piece_message piece) → is_valid_discovery (piece_message piece).header ≡ false
      → Sent p.from p.to p.bytes ≡ datagram_of from to piece → ⊥
  no_piece from to piece fits not is =
      let bytes : p.bytes ≡ spelling (piece_message piece) = cc in
      undiscovered p (piece_message piece) stands.stands.session stands.stands.value bytes fits not stands.stands.stands

  -- an Offer in a datagram of what a node gave is of its configuration
  by_given : (given : Given) → GivenBy h input given → FitsWire given → Contains (written given) (Sent p.from p.to p.bytes) → Due
  by_given (Announces from to stamp entries) by fits among =
      let one : Sent p.from p.to p.bytes ≡ Sent from to (spelling (discovery_message stamp entries)) =
      at_member (λ o. o ≡ Sent from to (spelling (discovery_message stamp entries))) (Sent from to (spelling (discovery_message stamp entries)) ∷ []) (Sent p.from p.to p.bytes) (refl, tt) among in
      let bytes : p.bytes ≡ spelling (discovery_message stamp entries) = cc in
      announced_own h input from to stamp entries by head (Some endpoint) (entry_read stamp entries fits.0 fits.1 fits.2 p bytes head (Some endpoint) stands) offers
  by_given (Sends from to m) by fits among =
      absurd (at_member (λ o. Sent p.from p.to p.bytes ≡ o → ⊥) (map (datagram_of from to) (sent m)) (Sent p.from p.to p.bytes)
      (all_map (λ o. Sent p.from p.to p.bytes ≡ o → ⊥) (datagram_of from to) (sent m)
      (all_both (λ piece. Fits (piece_message piece)) (λ piece. is_valid_discovery (piece_message piece).header ≡ false)
      (λ piece. Sent p.from p.to p.bytes ≡ datagram_of from to piece → ⊥) (no_piece from to) (sent m)
      (all_fit m fits.0) (pieces_undiscovered m fits.1))) among refl)
  by_given (Tells output) by fits among =
      let same : Sent p.from p.to p.bytes ≡ output = at_member (λ o. o ≡ output) (output ∷ []) (Sent p.from p.to p.bytes) (refl, tt) among in
      absurd (subst (λ o. IsTold o by.done.by (answers_of by.done.before.state)) (sym same) by.holds)

-- ---- a known offer

module _ (nodes : List SetupNode) (configs : List Config) (steps : List Step) (w : World) (led : LeadTo nodes configs steps w)
    (fit : AllByRecursion FitsConfig configs) (all : AllByRecursion FitsStep steps) where
  pub as_configured : (place : ℕ) (h : History) (instance : InstanceId) (lasting : Lasting KnownOffer) → slice_get w.histories place ≡ Some h
      → known_offer_at h.items instance ≡ Some lasting → IsHonest nodes configs lasting.value.peer
      → IsAsConfigured configs h instance lasting.value.endpoint
  as_configured place h instance lasting here known honest =
      let offer = was_offered nodes configs steps (length steps) w (omega arith) (whole_leads nodes configs steps w led) place h here instance lasting known in
      let sends = sent_by_node nodes configs steps offer.sent (record { from = offer.packet.from; to = offer.packet.to; bytes = offer.packet.bytes }) offer.goes (subst (IsHonest nodes configs) offer.peer honest) in
      let does = sends.does in
      let t = does.turn in
      let given = all_given_fits nodes configs fit steps all offer.sent does.step t does.input sends.given does.takes sends.by in
      let own = by_given offer.packet offer.head lasting.value.endpoint offer.stands offer.offers t.history does.input sends.given sends.by given sends.among in
      record {
        major = offer.head.major;
        wanted = offer.wanted;
        offered = record {
          place = t.place;
          config = t.history.config;
          here = turn_configured nodes configs steps offer.sent does.step t;
          configured = subst (λ q. IsConfigured t.history.config q offer.head.major (Some lasting.value.endpoint)) (sym offer.named) own;
        };
      }

  pub configured_without_liars : HasNoLiars nodes → (place : ℕ) (h : History) (instance : InstanceId) (lasting : Lasting KnownOffer) → slice_get w.histories place ≡ Some h
      → known_offer_at h.items instance ≡ Some lasting → IsAsConfigured configs h instance lasting.value.endpoint
  configured_without_liars none place h instance lasting here known = as_configured place h instance lasting here known (all_honest nodes configs none lasting.value.peer)
