-- All that is given in a run fits its fields.
use Rattle.std.proofs.Common.{◌≡◌, ℕ, zero, suc, ◌+◌, ◌<◌, ◌^◌, Bool, true, false, arith, List, [], ◌∷◌, drop, length, map, take, slice_set, Option, None, Some, Result, Ok, Err, if◌then◌else◌, refl, sym, ap, subst, ◌∙◌}
use Rattle.std.specs.Prelude.{nat_lt}
use Rattle.std.specs.List.{AllByRecursion, AllZip, Contains, cons_option}
use Rattle.std.proofs.lemmas.Bool.{ltb-false}
use Rattle.std.proofs.lemmas.List.Elements.{filter_map-append}
use Rattle.std.specs.Net.Addr.{IsIpv4Addr}
use Rattle.std.specs.Net.Socket.{IsSocketAddrV4}
use Rattle.someip_wire.proofs.TypeLemmas.{flagged_is_no_event}
use Rattle.someip_wire.specs.declared.header.Header.{Header}
use Rattle.someip_wire.specs.Spelling.{Fits, IsBytes, MessageValue, spelling}
use Rattle.someip_reassembly.specs.Segments.{segment_header, segments_within}
use Rattle.someip_reassembly.specs.Sent.{Alone, InSegment, is_long, piece_message, segments_of, sent}
use Rattle.someip_reassembly.proofs.SentLemmas.{all_fit}
use Rattle.sd_wire.specs.layout.Spelling.{HeadFits}
use Rattle.sd_wire.specs.fronts.Splitting.{FitsDatagram}
use Rattle.sd_wire.specs.contents.Values.{EntryValue, good}
use Rattle.sd_wire.specs.encoding.Writing.{EntryFits}
use Rattle.sd_session.specs.declared.stamp.Stamp.{Stamp}
use Rattle.sd_core.specs.declared.keys.InstanceId.{InstanceId}
use Rattle.someip_node_rules.specs.declared.config.Config.{Config}
use Rattle.someip_node_rules.specs.declared.config.OfferedService.{OfferedService}
use Rattle.someip_node_rules.specs.declared.config.WantedService.{WantedService}
use Rattle.someip_node_rules.specs.declared.error.NodeError.{NodeError}
use Rattle.someip_node_rules.specs.declared.output.Output.{Output}
use Rattle.someip_node_rules.specs.trails.Copies.{IsCopy, IsCopyOfOffer, IsCopyOfWant}
use Rattle.someip_node_rules.specs.forms.Entries.{discovery_message}
use Rattle.someip_node_laws.specs.Fitting.{FitsConfig, FitsHistory, FitsInput, FitsInstance, FitsOffer, FitsPacket, FitsPayload, FitsWant, FitsWire, head_of}
use Rattle.someip_node_rules.specs.rules.Handling.{is_valid_discovery}
use Rattle.someip_node_rules.specs.histories.History.{History, answers_of}
use Rattle.someip_node_rules.specs.rules.Inputs as inputs
use Rattle.someip_node_rules.specs.rules.Inputs.{Input}
use Rattle.someip_node_rules.specs.trails.Meanings.{GivenBy, IsTold}
use Rattle.someip_node_rules.specs.forms.Outputs.{Given, Announces, Sends, Tells, datagram_of, written}
use Rattle.someip_node_rules.specs.trails.Packets.{Packet}
use Rattle.someip_node_rules.specs.rules.Plans.{Work}
use Rattle.someip_node_rules.specs.steps.Steps.{step, given_in}
use Rattle.someip_node_rules.specs.trails.Trails.{given_by, trail_of}
use Rattle.someip_node_laws.proofs.fits.FitPlans.{done_fits, given_fits}
use Rattle.someip_node_laws.proofs.fits.FitPackets.{bytes_fit}
use Rattle.someip_node_laws.proofs.fits.FitRules.{no_notification}
use Rattle.someip_node_rules.proofs.trails.MeaningLemmas.{all_given, outputs_written}
use Rattle.someip_node_rules.proofs.lists.MemberLemmas.{all_append, all_both, all_flat_map, all_map, all_take, all_weaker, at_member}
use Rattle.someip_world_schedule.specs.declared.step.Step.{Step}
use Rattle.someip_world_schedule.specs.declared.step.Step.TheVariants as steps
use Rattle.someip_world_setup.specs.declared.setup_node.SetupNode.{SetupNode}
use Rattle.someip_world_rules.specs.Announced.{AllFits, FitNodes, FitsStep}
use Rattle.someip_world_rules.specs.declared.line.Line.{Line}
use Rattle.someip_world_rules.specs.declared.step_fault.StepFault.{StepFault}
use Rattle.someip_world_rules.specs.declared.step_fault.StepFault.TheVariants.{BadDelay, ClockPast, NotAddressed, PayloadTooLong}
use Rattle.someip_world_rules.specs.Datagrams.{SentDatagram, datagram_at, datagram_in, datagrams_in, sent_with}
use Rattle.someip_world_rules.specs.Deeds.{Deed, Takes, Restarts, Injects, deed_at, deed_of, delivery, done_with, is_addressed}
use Rattle.someip_world_rules.specs.Liars.{is_liar_at}
use Rattle.someip_world_rules.specs.Runs.{AreCopies, World, history_after, told_lines, started_nodes, world_after}
use Rattle.someip_world_rules.specs.Turns.{LeadTo, Turn}
use Rattle.someip_world_rules.proofs.AnnouncedLemmas.{announced_fits, only_message, undiscovered, value_read}
use Rattle.someip_world_rules.proofs.Fronts.{all_got, on_the_way, whole_leads}
use Rattle.someip_world_rules.proofs.LiarLemmas.{LiarSends, liar_sends}
use Rattle.someip_world_rules.proofs.Sendings.{sends}

-- ---- the pieces of a message that is none of Service Discovery

segments_undiscovered : (n : ℕ) (header : Header) (offset : ℕ) (rest : List ℕ) → is_valid_discovery header ≡ false → AllByRecursion (λ s. is_valid_discovery s.header ≡ false) (segments_within n header offset rest)
unfolding segments_within
segments_undiscovered zero header offset rest not = tt
segments_undiscovered (suc n) header offset [] not = tt
segments_undiscovered (suc n) header offset (b ∷ rest) not = (not, segments_undiscovered n header (offset + 1392) (drop 1392 (b ∷ rest)) not)

pub pieces_undiscovered : (m : MessageValue) → is_valid_discovery m.header ≡ false → AllByRecursion (λ piece. is_valid_discovery (piece_message piece).header ≡ false) (sent m)
pieces_undiscovered m not = cases (is_long m.payload)
  where
    cases : (b : Bool) → AllByRecursion (λ piece. is_valid_discovery (piece_message piece).header ≡ false) (if b then map InSegment (segments_of m) else Alone m ∷ [])
    cases true =
        all_map (λ piece. is_valid_discovery (piece_message piece).header ≡ false) InSegment (segments_of m)
        (segments_undiscovered (length m.payload) (segment_header m.header) 0 m.payload (no_notification (segment_header m.header) (flagged_is_no_event m.header.kind)))
    cases false = (not, tt)

-- ---- datagrams

module _ (P : SentDatagram → Type 0) where
  datagrams_of_outputs : (index place : ℕ) (outputs : List Output) → AllByRecursion (λ o. (d : SentDatagram) → sent_with o ≡ Some d → P d) outputs
      → AllByRecursion P (datagrams_in (told_lines index place (Ok outputs)))
  datagrams_of_outputs index place [] all = tt
  datagrams_of_outputs index place (o ∷ outputs) all = cases (sent_with o) refl (datagrams_of_outputs index place outputs all.1)
    where
      cases : (d : Option SentDatagram) → sent_with o ≡ d → AllByRecursion P (datagrams_in (told_lines index place (Ok outputs)))
          → AllByRecursion P (cons_option d (datagrams_in (told_lines index place (Ok outputs))))
      cases None is rest = rest
      cases (Some d) is rest = (all.0 d is, rest)

  numbered : (lines : List Line) (number : ℕ) (d : SentDatagram) → AllByRecursion P (datagrams_in lines) → datagram_at lines number ≡ Some d → P d
  numbered lines zero d all is = absurd cc
  numbered lines (suc n) d all is = all_got P (datagrams_in lines) n d all is

-- ---- what is sent fits as it comes

-- a datagram that was sent fits
abbrev pub FitsSent : SentDatagram → Type 0
FitsSent d = FitsPacket (record { from = d.from; to = d.to; bytes = d.bytes })

module _ (p : Packet) where
  announced_comes : (stamp : Stamp) (entries : List EntryValue) → stamp.session < 2 ^ 16 → AllByRecursion EntryFits entries → FitsDatagram entries
      → p.bytes ≡ spelling (discovery_message stamp entries) → FitsPacket p
  announced_comes stamp entries numbered all front is = record {
    messages = λ m has.
        let fits = announced_fits stamp entries numbered all front in
        subst Fits (sym (only_message p (discovery_message stamp entries) m is fits has)) fits;
    entries = λ e has.
        let value = value_read stamp entries numbered all front p is has.session has.value has.stands in
        at_member (λ r. HeadFits (head_of r)) (map good entries) e
        (all_map (λ r. HeadFits (head_of r)) good entries (all_weaker EntryFits (λ x. HeadFits x.head) (λ x fits. fits.0) entries all))
        (subst (λ v. Contains v.entries e) value has.within);
  }

  piece_comes : (m : MessageValue) → Fits m → is_valid_discovery m.header ≡ false → p.bytes ≡ spelling m → FitsPacket p
  piece_comes m fits not is = record {
    messages = λ other has. subst Fits (sym (only_message p m other is fits has)) fits;
    entries = λ e has. absurd (undiscovered p m has.session has.value is fits not has.stands);
  }

-- each datagram of what was given
module _ (h : History) (input : Input) where
  abbrev Comes : Output → Type 0
  Comes o = (d : SentDatagram) → sent_with o ≡ Some d → FitsSent d

  written_comes : (given : Given) → GivenBy h input given → FitsWire given → AllByRecursion Comes (written given)
  written_comes (Announces from to stamp entries) by fits = (
    λ d is.
        let same : d ≡ record { from = from; to = to; bytes = spelling (discovery_message stamp entries) } = cc in
        subst FitsSent (sym same)
        (announced_comes (record { from = from; to = to; bytes = spelling (discovery_message stamp entries) }) stamp entries fits.0 fits.1 fits.2 refl),
    tt,
  )
  written_comes (Sends from to m) by fits =
      all_map Comes (datagram_of from to) (sent m)
      (all_both (λ piece. Fits (piece_message piece)) (λ piece. is_valid_discovery (piece_message piece).header ≡ false) (λ piece. Comes (datagram_of from to piece))
      (λ piece own not d is.
      let same : d ≡ record { from = from; to = to; bytes = spelling (piece_message piece) } = cc in
      subst FitsSent (sym same) (piece_comes (record { from = from; to = to; bytes = spelling (piece_message piece) }) (piece_message piece) own not refl))
      (sent m) (all_fit m fits.0) (pieces_undiscovered m fits.1))
  written_comes (Tells output) by fits =
      (λ d is. absurd (subst (λ o. IsTold o by.done.by (answers_of by.done.before.state)) (sends output d is) by.holds), tt)

-- ---- what a step does

abbrev pub FitsDeed : Deed → Type 0
FitsDeed (Takes input) = FitsInput input
FitsDeed (Restarts delay) = Unit {0}
FitsDeed (Injects from to bytes) = FitsSent (record { from = from; to = to; bytes = bytes })

-- what is done unless a test holds
unless : (b : Bool) (fault : StepFault) (input : Input) (deed : Deed) → (b ≡ false → FitsInput input) → (if b then Err fault else Ok (Takes input)) ≡ Ok deed → FitsDeed deed
unless true fault input deed fits is = absurd cc
unless false fault input deed fits is = let same : Takes input ≡ deed = cc in subst FitsDeed same (fits refl)

module _ (h : History) (lines : List Line) (own : FitsHistory h) (came : AllByRecursion FitsSent (datagrams_in lines)) where
  payload_fits : (payload : List ℕ) → nat_lt h.config.common.message_limit (length payload) ≡ false → FitsPayload payload
  payload_fits payload is =
      let limit = own.0.limit in
      let short = ltb-false h.config.common.message_limit (length payload) is in omega (arith, limit, short)

  delivered_fits : (number : ℕ) (d : Option SentDatagram) → datagram_at lines number ≡ d → (deed : Deed) → delivery h.config d ≡ Ok deed → FitsDeed deed
  delivered_fits number None at deed is = absurd cc
  delivered_fits number (Some d) at deed is = cases (is_addressed h.config d) is
    where
      cases : (b : Bool) → (if b then Ok (Takes (inputs.Datagram d.from d.to d.bytes)) else Err NotAddressed) ≡ Ok deed → FitsDeed deed
      cases true e = let same : Takes (inputs.Datagram d.from d.to d.bytes) ≡ deed = cc in subst FitsDeed same (numbered FitsSent lines number d came at)
      cases false e = absurd cc

  restarted_fits : (b : Bool) (delay : ℕ) (deed : Deed) → (if b then Ok (Restarts delay) else Err BadDelay) ≡ Ok deed → FitsDeed deed
  restarted_fits true delay deed is = let same : Restarts delay ≡ deed = cc in subst FitsDeed same tt
  restarted_fits false delay deed is = absurd cc

  deed_fits : (s : Step) → FitsStep s → (deed : Deed) → deed_of h lines s ≡ Ok deed → FitsDeed deed
  deed_fits (steps.Tick node ms) fits deed is = unless _ ClockPast (inputs.Tick ms) deed (λ _. tt) is
  deed_fits (steps.Deliver number node) fits deed is = delivered_fits number (datagram_at lines number) refl deed is
  deed_fits (steps.Call node kind instance method payload) fits deed is =
      unless _ PayloadTooLong (inputs.Call kind instance method payload) deed (λ short. (fits.0, fits.1, payload_fits payload short)) is
  deed_fits (steps.Answer node token reply payload) fits deed is =
      unless _ PayloadTooLong (inputs.Answer token reply payload) deed (λ short. (fits, payload_fits payload short)) is
  deed_fits (steps.Publish node instance event payload) fits deed is =
      unless _ PayloadTooLong (inputs.Publish instance event payload) deed (λ short. (fits, payload_fits payload short)) is
  deed_fits (steps.PublishTo node group to event payload) fits deed is =
      unless _ PayloadTooLong (inputs.PublishTo group.instance group.id to event payload) deed (λ short. (fits, payload_fits payload short)) is
  deed_fits (steps.Subscribe node group) fits deed is = let same : Takes (inputs.Subscribe group) ≡ deed = cc in subst FitsDeed same fits
  deed_fits (steps.Unsubscribe node group) fits deed is = let same : Takes (inputs.Unsubscribe group) ≡ deed = cc in subst FitsDeed same fits
  deed_fits (steps.StopOffer node instance) fits deed is = let same : Takes (inputs.StopOffer instance) ≡ deed = cc in subst FitsDeed same tt
  deed_fits (steps.Restart node delay) fits deed is = restarted_fits _ delay deed is
  deed_fits (steps.Inject node port to payload) fits deed is = absurd cc

  -- what a liar sends fits as it comes: it is bytes
  lying_fits : (s : Step) → FitsStep s → (deed : Deed) → LiarSends h.config.address s deed → FitsDeed deed
  lying_fits s fits deed sends =
      let bytes : IsBytes sends.bytes = subst FitsStep sends.says fits in
      subst FitsDeed (sym sends.is) (bytes_fit (record { from = record { ip = h.config.address; port = sends.port }; to = sends.to; bytes = sends.bytes }) bytes)

  deed_at_fits : (liar : Bool) (s : Step) → FitsStep s → (deed : Deed) → deed_at liar h lines s ≡ Ok deed → FitsDeed deed
  deed_at_fits true s fits deed is = lying_fits s fits deed (liar_sends h.config.address s deed is)
  deed_at_fits false s fits deed is = deed_fits s fits deed is

-- ---- a run

-- the histories of a world fit, and so do the datagrams that were sent
abbrev pub FitsWorld : World → Type 0
FitsWorld w = AllByRecursion FitsHistory w.histories × AllByRecursion FitsSent (datagrams_in w.lines)

all_set : {X : Type 0} (P : X → Type 0) (xs : List X) (n : ℕ) (x : X) → AllByRecursion P xs → P x → AllByRecursion P (slice_set xs n x)
all_set P [] n x all own = tt
all_set P (y ∷ xs) zero x all own = (own, all.1)
all_set P (y ∷ xs) (suc n) x all own = (all.0, all_set P xs n x all.1 own)

started_all : (nodes : List SetupNode) (configs : List Config) → AllByRecursion FitsConfig configs → AllByRecursion FitsHistory (started_nodes nodes configs)
started_all [] configs all = tt
started_all (n ∷ nodes) [] all = tt
started_all (n ∷ nodes) (c ∷ configs) all = ((all.0, tt), started_all nodes configs all.1)

module _ (nodes : List SetupNode) (configs : List Config) (ss : List Step) (i : ℕ) (s : Step) (t : Turn nodes configs ss i s) where
  module _ (own : FitsHistory t.history) where
    by_step : (input : Input) → FitsInput input → (due : Result (Work History) NodeError) → step t.history input ≡ due
        → FitsHistory (history_after t.history due) × AllByRecursion FitsSent (datagrams_in (told_lines (i + 1) t.place (given_in due)))
    by_step input fits (Err refusal) is = (own, tt)
    by_step input fits (Ok done) is = (
      done_fits t.history input own fits done is,
      datagrams_of_outputs FitsSent (i + 1) t.place done.outputs
          (subst (AllByRecursion (Comes t.history input)) (sym (outputs_written t.history input done is))
          (all_flat_map (Comes t.history input) written (given_by (trail_of t.history input))
          (all_weaker (GivenBy t.history input) (λ g. AllByRecursion (Comes t.history input) (written g))
          (λ g by. written_comes t.history input g by (given_fits t.history input own fits g by)) (given_by (trail_of t.history input)) (all_given t.history input)))),
    )

    by_deed : (deed : Deed) → FitsDeed deed → FitsHistory (history_after t.history (done_with t.history deed))
        × AllByRecursion FitsSent (datagrams_in (told_lines (i + 1) t.place (given_in (done_with t.history deed))))
    by_deed (Takes input) fits = by_step input fits (step t.history input) refl
    by_deed (Restarts delay) fits = ((own.0, tt), tt)
    by_deed (Injects from to bytes) fits = (own, (fits, tt))

  turn_keeps : FitsStep s → FitsWorld t.before → FitsWorld (world_after (i + 1) t.place t.before t.history (done_with t.history t.deed))
  turn_keeps fits was =
      let own = all_got FitsHistory t.before.histories t.place t.history was.0 t.stands in
      let deed = deed_at_fits t.history t.before.lines own was.1 (is_liar_at nodes t.place) s fits t.deed t.due in
      let news = by_deed own t.deed deed in (
        all_set FitsHistory t.before.histories t.place (history_after t.history (done_with t.history t.deed)) was.0 news.0,
        subst (AllByRecursion FitsSent) (sym (filter_map-append datagram_in t.before.lines (told_lines (i + 1) t.place (given_in (done_with t.history t.deed)))))
            (all_append FitsSent (datagrams_in t.before.lines) (datagrams_in (told_lines (i + 1) t.place (given_in (done_with t.history t.deed)))) was.1 news.1),
      )

module _ (nodes : List SetupNode) (configs : List Config) (fits : AllByRecursion FitsConfig configs) where
  pub world_fits : (ss : List Step) → AllByRecursion FitsStep ss → (w : World) → LeadTo nodes configs ss w → FitsWorld w
  world_fits ss all w ends =
      on_the_way nodes configs ss (λ _. FitsWorld) (started_all nodes configs fits, tt)
      (λ i s t was. turn_keeps nodes configs ss i s t (all_got FitsStep ss i s all t.here) was) (length ss) w (omega arith) (whole_leads nodes configs ss w ends)

  pub turn_fits : (ss : List Step) → AllByRecursion FitsStep ss → (i : ℕ) (s : Step) (t : Turn nodes configs ss i s) (input : Input) → t.deed ≡ Takes input
      → FitsHistory t.history × FitsInput input
  turn_fits ss all i s t input is =
      let was = world_fits (take i ss) (all_take FitsStep i ss all) t.before t.led in
      let own = all_got FitsHistory t.before.histories t.place t.history was.0 t.stands in
      (own, subst FitsDeed is (deed_at_fits t.history t.before.lines own was.1 (is_liar_at nodes t.place) s (all_got FitsStep ss i s all t.here) t.deed t.due))

  pub all_given_fits : (ss : List Step) → AllByRecursion FitsStep ss → AllFits nodes configs ss
  all_given_fits ss all i s t input given is by =
      let both = turn_fits ss all i s t input is in given_fits t.history input both.0 both.1 given by

-- ---- copies

all_zip : {X Y : Type 0} (R : X → Y → Type 0) (P : X → Type 0) (Q : Y → Type 0) → ((x : X) (y : Y) → R x y → P x → Q y) → (xs : List X) (ys : List Y)
    → AllZip R xs ys → AllByRecursion P xs → AllByRecursion Q ys
all_zip R P Q f [] [] zip all = tt
all_zip R P Q f [] (y ∷ ys) zip all = absurd zip
all_zip R P Q f (x ∷ xs) [] zip all = absurd zip
all_zip R P Q f (x ∷ xs) (y ∷ ys) zip all = (f x y zip.0 all.0, all_zip R P Q f xs ys zip.1 all.1)

abbrev CopiesOffer : InstanceId × OfferedService → InstanceId × OfferedService → Type 0
CopiesOffer a b = (b.0 ≡ a.0) × IsCopyOfOffer a.1 b.1

abbrev CopiesWant : InstanceId × WantedService → InstanceId × WantedService → Type 0
CopiesWant a b = (b.0 ≡ a.0) × IsCopyOfWant a.1 b.1

offer_copies : (a b : InstanceId × OfferedService) → CopiesOffer a b → FitsOffer a → FitsOffer b
offer_copies a b is fits = record {
  instance = subst FitsInstance (sym is.0) fits.instance;
  service = subst (λ n. n < 2 ^ 16) (ap (λ r. r.service) (sym is.1.1.0)) fits.service;
  other = λ e. fits.other (ap (λ r. r.service) (sym is.1.1.0) ∙ e);
  major = subst (λ n. n < 2 ^ 8) (ap (λ r. r.major) (sym is.1.1.0)) fits.major;
  minor = subst (λ n. n < 2 ^ 32) (ap (λ o. o.minor) (sym is.1.0)) fits.minor;
  ttl = subst (λ n. n < 2 ^ 24) (ap (λ o. o.ttl) (sym is.1.0)) fits.ttl;
  endpoint = subst IsSocketAddrV4 (ap (λ r. r.endpoint) (sym is.1.1.0)) fits.endpoint;
}

want_copies : (a b : InstanceId × WantedService) → CopiesWant a b → FitsWant a → FitsWant b
want_copies a b is fits = record {
  instance = subst FitsInstance (sym is.0) fits.instance;
  major = subst (λ n. n < 2 ^ 8) (ap (λ w. w.major) (sym is.1.0)) fits.major;
  ttl = subst (λ n. n < 2 ^ 24) (ap (λ w. w.ttl) (sym is.1.0)) fits.ttl;
}

config_copies : (a b : Config) → IsCopy a b → FitsConfig a → FitsConfig b
config_copies a b is fits = record {
  address = subst IsIpv4Addr (ap (λ c. c.address) (sym is.0)) fits.address;
  client = subst (λ n. n < 2 ^ 16) (ap (λ c. c.client_id) (sym is.0)) fits.client;
  port = subst (λ n. n < 2 ^ 16) (ap (λ c. c.client_port) (sym is.0)) fits.port;
  limit = subst (λ n. 8 + n < 2 ^ 32) (ap (λ c. c.common.message_limit) (sym is.0)) fits.limit;
  offers = all_zip CopiesOffer FitsOffer FitsOffer offer_copies a.offers.entries b.offers.entries is.1 fits.offers;
  wants = all_zip CopiesWant FitsWant FitsWant want_copies a.wants.entries b.wants.entries is.2 fits.wants;
}

pub copies_fit : (nodes : List SetupNode) (configs : List Config) → AreCopies nodes configs → FitNodes nodes → AllByRecursion FitsConfig configs
copies_fit nodes configs are all =
    all_zip (λ node config. IsCopy node.config config) (λ node. FitsConfig node.config) FitsConfig (λ node config is fits. config_copies node.config config is fits) nodes configs are all
