-- The entries of a datagram that was delivered were announced.
use Rattle.std.proofs.Common.{◌≡◌, false, List, [], ◌∷◌, map, refl, sym, subst}
use Rattle.std.specs.List.{Contains}
use Rattle.std.specs.declared.net.socket_addr.SocketAddrV4.{SocketAddrV4}
use Rattle.someip_wire.specs.Spelling.{Fits, spelling}
use Rattle.someip_reassembly.specs.Sent.{PieceValue, piece_message, sent}
use Rattle.someip_reassembly.proofs.SentLemmas.{all_fit}
use Rattle.sd_wire.specs.contents.Values.{EntryValue, ReadValue, good}
use Rattle.sd_session.specs.declared.stamp.Stamp.{Stamp}
use Rattle.someip_node_rules.specs.declared.output.Output.TheVariants.{Sent}
use Rattle.someip_node_rules.specs.forms.Entries.{discovery_message}
use Rattle.someip_node_laws.specs.Fitting.{FitsWire}
use Rattle.someip_node_rules.specs.rules.Handling.{is_valid_discovery}
use Rattle.someip_node_rules.specs.histories.History.{History, answers_of}
use Rattle.someip_node_rules.specs.rules.Inputs.{Input}
use Rattle.someip_node_rules.specs.trails.Meanings.{GivenBy, IsTold}
use Rattle.someip_node_rules.specs.forms.Outputs as outputs
use Rattle.someip_node_rules.specs.forms.Outputs.{Given, datagram_of, written}
use Rattle.someip_node_rules.specs.trails.Packets.{Packet, HasEntry}
use Rattle.someip_node_rules.proofs.lists.MemberLemmas.{all_both, all_from_members, all_map, at_member}
use Rattle.someip_world_rules.proofs.AnnouncedLemmas.{undiscovered, value_read}
use Rattle.someip_world_rules.proofs.FitRunLemmas.{pieces_undiscovered}

-- ---- the entries of a datagram that was given

-- a datagram with an entry was announced, and the entry is among those of the announcement
pub record IsAnnouncedWith (p : Packet) (entry : ReadValue) (given : Given) : Type 0 where
  pub stamp : Stamp
  pub entries : List EntryValue
  pub is : given ≡ outputs.Announces p.from p.to stamp entries
  pub value : EntryValue
  pub among : Contains entries value
  pub same : entry ≡ good value

module _ (p : Packet) (entry : ReadValue) (has : HasEntry p entry) (h : History) (input : Input) where
  no_piece : (from to : SocketAddrV4) (piece : PieceValue) → Fits (piece_message piece) → is_valid_discovery (piece_message piece).header ≡ false
      → Sent p.from p.to p.bytes ≡ datagram_of from to piece → ⊥
  no_piece from to piece fits not is =
      let bytes : p.bytes ≡ spelling (piece_message piece) = cc in
      undiscovered p (piece_message piece) has.session has.value bytes fits not has.stands

  pub announced_with : (given : Given) → GivenBy h input given → FitsWire given → Contains (written given) (Sent p.from p.to p.bytes) → IsAnnouncedWith p entry given
  announced_with (outputs.Announces from to stamp entries) by fits among =
      let one : Sent p.from p.to p.bytes ≡ Sent from to (spelling (discovery_message stamp entries)) =
      at_member (λ o. o ≡ Sent from to (spelling (discovery_message stamp entries))) (Sent from to (spelling (discovery_message stamp entries)) ∷ []) (Sent p.from p.to p.bytes) (refl, tt) among in
      let source : p.from ≡ from = cc in
      let goal : p.to ≡ to = cc in
      let bytes : p.bytes ≡ spelling (discovery_message stamp entries) = cc in
      let value = value_read stamp entries fits.0 fits.1 fits.2 p bytes has.session has.value has.stands in
      let within : Contains (map good entries) entry = subst (λ v. Contains v.entries entry) value has.within in
      let found = at_member (λ r. (e : EntryValue) × Contains entries e × (r ≡ good e)) (map good entries) entry
      (all_map (λ r. (e : EntryValue) × Contains entries e × (r ≡ good e)) good entries (all_from_members (λ x. (e : EntryValue) × Contains entries e × (good x ≡ good e)) entries (λ x stands. (x, stands, refl)))) within in
      record {
        stamp = stamp;
        entries = entries;
        is = λ i. outputs.Announces (sym source i) (sym goal i) stamp entries;
        value = found.0;
        among = found.1;
        same = found.2;
      }
  announced_with (outputs.Sends from to m) by fits among =
      absurd (at_member (λ o. Sent p.from p.to p.bytes ≡ o → ⊥) (map (datagram_of from to) (sent m)) (Sent p.from p.to p.bytes)
      (all_map (λ o. Sent p.from p.to p.bytes ≡ o → ⊥) (datagram_of from to) (sent m)
      (all_both (λ piece. Fits (piece_message piece)) (λ piece. is_valid_discovery (piece_message piece).header ≡ false)
      (λ piece. Sent p.from p.to p.bytes ≡ datagram_of from to piece → ⊥) (no_piece from to) (sent m)
      (all_fit m fits.0) (pieces_undiscovered m fits.1))) among refl)
  announced_with (outputs.Tells output) by fits among =
      let same : Sent p.from p.to p.bytes ≡ output = at_member (λ o. o ≡ output) (output ∷ []) (Sent p.from p.to p.bytes) (refl, tt) among in
      absurd (subst (λ o. IsTold o by.done.by (answers_of by.done.before.state)) (sym same) by.holds)
