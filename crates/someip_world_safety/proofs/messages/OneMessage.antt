-- A datagram from no liar that a step of a run takes holds exactly one message.
use Rattle.std.proofs.Common.{◌≡◌, ℕ, List, [], ◌∷◌, Ok, refl, ap, subst, sym, ◌∙◌}
use Rattle.std.specs.List.{Contains}
use Rattle.std.specs.Net.Socket.{v4_ip}
use Rattle.std.specs.declared.net.socket_addr.SocketAddrV4.{SocketAddrV4}
use Rattle.someip_wire.specs.Reading.{items_of}
use Rattle.someip_wire.specs.Spelling.{Fits, MessageValue, spelling}
use Rattle.someip_reassembly.specs.Sent.{piece_message, sent}
use Rattle.someip_reassembly.proofs.SentLemmas.{all_fit}
use Rattle.someip_node_rules.specs.declared.config.Config.{Config}
use Rattle.someip_node_rules.specs.declared.output.Output.TheVariants.{Sent}
use Rattle.someip_node_rules.specs.forms.Entries.{discovery_message}
use Rattle.someip_node_laws.specs.Fitting.{FitsWire}
use Rattle.someip_node_rules.specs.histories.History.{History, answers_of}
use Rattle.someip_node_rules.specs.rules.Inputs.{Datagram, Input}
use Rattle.someip_node_rules.specs.trails.Meanings.{GivenBy, IsTold}
use Rattle.someip_node_rules.specs.forms.Outputs.{Given, Announces, Sends, Tells, datagram_of, written}
use Rattle.someip_node_rules.specs.trails.Packets.{Packet}
use Rattle.someip_node_rules.proofs.lists.MemberLemmas.{all_map, all_weaker, at_member}
use Rattle.someip_world_schedule.specs.declared.step.Step.{Step}
use Rattle.someip_world_setup.specs.declared.setup_node.SetupNode.{SetupNode}
use Rattle.someip_world_rules.specs.Announced.{AllFits}
use Rattle.someip_world_rules.specs.Datagrams.{SentDatagram}
use Rattle.someip_world_rules.specs.Deeds.{Takes}
use Rattle.someip_world_rules.specs.Deliveries.{Does}
use Rattle.someip_world_rules.specs.Liars.{IsHonest}
use Rattle.someip_world_rules.proofs.AnnouncedLemmas.{announced_fits, one_message}
use Rattle.someip_world_rules.proofs.Deliverings.{delivered_in}
use Rattle.someip_world_rules.proofs.InjectionLemmas.{sent_honestly}

-- a text is that of one message
abbrev pub HoldsOne : List ℕ → Type 0
HoldsOne text = (m : MessageValue) × (items_of text ≡ Ok m ∷ [])

-- that of a message whose numbers fit
holds_it : (text : List ℕ) (m : MessageValue) → Fits m → text ≡ spelling m → HoldsOne text
holds_it text m fits is = (m, ap items_of is ∙ one_message m fits)

-- each datagram of what a node gives is that of one message
pub holds_one : (h : History) (input : Input) (source goal : SocketAddrV4) (text : List ℕ) (given : Given) → GivenBy h input given → FitsWire given
    → Contains (written given) (Sent source goal text) → HoldsOne text
holds_one h input source goal text (Announces from to stamp entries) by fits among =
    let one : Sent source goal text ≡ Sent from to (spelling (discovery_message stamp entries)) =
    at_member (λ o. o ≡ Sent from to (spelling (discovery_message stamp entries))) (Sent from to (spelling (discovery_message stamp entries)) ∷ []) (Sent source goal text) (refl, tt) among in
    let same : text ≡ spelling (discovery_message stamp entries) = cc in
    holds_it text (discovery_message stamp entries) (announced_fits stamp entries fits.0 fits.1 fits.2) same
holds_one h input source goal text (Sends from to m) by fits among =
    at_member (λ o. Sent source goal text ≡ o → HoldsOne text) (written (Sends from to m)) (Sent source goal text)
    (all_map (λ o. Sent source goal text ≡ o → HoldsOne text) (datagram_of from to) (sent m)
    (all_weaker (λ piece. Fits (piece_message piece)) (λ piece. Sent source goal text ≡ datagram_of from to piece → HoldsOne text)
    (λ piece fit is. let same : text ≡ spelling (piece_message piece) = cc in holds_it text (piece_message piece) fit same) (sent m) (all_fit m fits.0))) among refl
holds_one h input source goal text (Tells output) by fits among =
    let same : Sent source goal text ≡ output = at_member (λ o. o ≡ output) (output ∷ []) (Sent source goal text) (refl, tt) among in
    absurd (subst (λ o. IsTold o by.done.by (answers_of by.done.before.state)) (sym same) by.holds)

module _ (nodes : List SetupNode) (configs : List Config) (steps : List Step) where
  -- and so is the one that a step takes from no liar
  pub taken_holds_one : AllFits nodes configs steps → (n : ℕ) (does : Does nodes configs steps n) (p : Packet) → does.input ≡ Datagram p.from p.to p.bytes → IsHonest nodes configs (v4_ip p.from) → HoldsOne p.bytes
  taken_holds_one fits n does p is honest =
      let d : SentDatagram = record { from = p.from; to = p.to; bytes = p.bytes } in
      let came = delivered_in nodes configs steps n d does.step does.turn (does.takes ∙ ap Takes is) in
      let s = (sent_honestly nodes configs steps n came.sent d came.delivers honest).1 in
      holds_one s.does.turn.history s.does.input d.from d.to d.bytes s.given s.by (fits came.sent s.does.step s.does.turn s.does.input s.given s.does.takes s.by) s.among
