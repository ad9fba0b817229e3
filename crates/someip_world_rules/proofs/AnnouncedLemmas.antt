-- What is read of a datagram that was sent: its message, and the entries that were announced.
use Rattle.std.proofs.Common.{◌≡◌, ◌≢◌, ℕ, ◌<◌, ◌≤◌, ◌^◌, true, false, not, List, [], ◌∷◌, ◌++◌, map, length, arith, Option, None, Result, Ok, refl, sym, ap, subst, ◌∙◌}
use Rattle.std.specs.List.{AllByRecursion, Contains}
use Rattle.std.proofs.lemmas.List.{append-nil}
use Rattle.std.specs.Option.{unwrap_or}
use Rattle.std.specs.declared.net.socket_addr.SocketAddrV4.{SocketAddrV4}
use Rattle.someip_wire.specs.Reading.{items_of}
use Rattle.someip_wire.specs.Spelling as wire
use Rattle.someip_wire.specs.Spelling.{Fits, spelling}
use Rattle.someip_wire.proofs.DatagramLemmas.{items_from-datagram}
use Rattle.sd_wire.specs.declared.entry.EntryHead.TheVariants.{Service}
use Rattle.sd_wire.specs.declared.entry.ServiceEntry.{ServiceEntry}
use Rattle.sd_wire.specs.contents.Endpoints.{first_udp_endpoint, options_of}
use Rattle.sd_wire.specs.decoding.Program.{reading}
use Rattle.sd_wire.specs.fronts.Splitting.{FitsDatagram}
use Rattle.sd_wire.specs.contents.Values.{EntryValue, SdMessageValue, ReadValue, SdValue, good}
use Rattle.sd_wire.specs.encoding.Writing.{EntryFits, WritesSd, as_read}
use Rattle.sd_wire.proofs.encoding.EncodingLemmas.{written_bytes}
use Rattle.sd_wire.proofs.fronts.FrontLemmas.{fits_with}
use Rattle.sd_wire.proofs.decoding.SdLemmas.{holds_read}
use Rattle.sd_wire.proofs.encoding.WriteLemmas.{written_is_read}
use Rattle.sd_session.specs.declared.stamp.Stamp.{Stamp}
use Rattle.someip_node_rules.specs.forms.Entries.{discovery_message, discovery_payload}
use Rattle.someip_node_rules.specs.rules.Handling.{is_valid_discovery}
use Rattle.someip_node_laws.proofs.fits.FitRules.{other_service}
use Rattle.someip_node_rules.specs.trails.Packets.{Packet, HasDiscovery, HasMessage, HasServiceEntry}
use Rattle.someip_node_rules.proofs.lists.MemberLemmas.{all_map, all_members, all_weaker, at_member}

-- ---- the message of a datagram

pub one_message : (m : wire.MessageValue) → Fits m → items_of (spelling m) ≡ Ok m ∷ []
one_message m fits =
    items_from-datagram (m ∷ []) None (spelling m)
    (record { rest = []; parts = sym (append-nil (spelling m ++ []) ∙ append-nil (spelling m)); each = (fits, tt); ends = refl })

ok_same : {A E : Type 0} (a b : A) → Path (Result A E) (Ok a) (Ok b) → a ≡ b
ok_same a b is = cc

pub only_message : (p : Packet) (m other : wire.MessageValue) → p.bytes ≡ spelling m → Fits m → HasMessage p other → other ≡ m
only_message p m other is fits has =
    let all : items_of p.bytes ≡ Ok m ∷ [] = ap items_of is ∙ one_message m fits in
    ok_same other m (at_member (λ x. x ≡ Ok m) (Ok m ∷ []) (Ok other) (refl, tt) (subst (λ xs. Contains xs (Ok other)) all has))

-- a message that is not taken for one of Service Discovery holds none
pub undiscovered : (p : Packet) (m : wire.MessageValue) (session : ℕ) (v : SdValue) → p.bytes ≡ spelling m → Fits m → is_valid_discovery m.header ≡ false → HasDiscovery p session v → ⊥
undiscovered p m session v is fits not has =
    let same = only_message p m has.message is fits has.stands in
    let found : is_valid_discovery m.header ≡ true = subst (λ x. is_valid_discovery x.header ≡ true) same has.discovery in
    absurd cc

-- nor does one of another service
pub no_discovery : (p : Packet) (m : wire.MessageValue) (session : ℕ) (v : SdValue) → p.bytes ≡ spelling m → Fits m → m.header.service ≢ 0xFFFF → HasDiscovery p session v → ⊥
no_discovery p m session v is fits ne has = undiscovered p m session v is fits (other_service m.header ne) has

-- ---- the entries that were announced

module _ (stamp : Stamp) (entries : List EntryValue) (numbered : stamp.session < 2 ^ 16) (all : AllByRecursion EntryFits entries) (front : FitsDatagram entries) where
  abbrev m : SdMessageValue
  m = record { flags = record { reboot = stamp.reboot; unicast = true }; entries = entries }

  text : (t : List ℕ) × WritesSd m t × (length t ≤ 1400)
  text = fits_with m.flags entries front

  payload_is : discovery_payload stamp.reboot entries ≡ text.0
  payload_is = ap (λ o. unwrap_or o []) (written_bytes m text.0 text.1)

  pub announced_fits : Fits (discovery_message stamp entries)
  announced_fits =
      let short = text.2 in
      let long : length (discovery_payload stamp.reboot entries) ≡ length text.0 = ap length payload_is in
      record {
        service = omega arith;
        method = omega arith;
        length = omega (arith, short, long);
        client = omega arith;
        session = numbered;
        interface = omega arith;
        code = omega arith;
      }

  pub announced_holds : reading (discovery_payload stamp.reboot entries) ≡ Ok (as_read m)
  announced_holds = ap reading payload_is ∙ holds_read (as_read m) text.0 (written_is_read m text.0 all text.1)

  module _ (p : Packet) (is : p.bytes ≡ spelling (discovery_message stamp entries)) where
    pub value_read : (session : ℕ) (v : SdValue) → HasDiscovery p session v → v ≡ as_read m
    value_read session v has =
        let same = only_message p (discovery_message stamp entries) has.message is announced_fits has.stands in
        let one : reading has.message.payload ≡ Ok (as_read m) = ap (λ x. reading x.payload) same ∙ announced_holds in
        let reads = has.reads in
        ok_same v (as_read m) (sym reads ∙ one)

    pub entry_read : (head : ServiceEntry) (endpoint : Option SocketAddrV4) → HasServiceEntry p head endpoint
        → (e : EntryValue) × Contains entries e × (e.head ≡ Service head) × (endpoint ≡ first_udp_endpoint (options_of e))
    entry_read head endpoint has =
        let value = value_read has.stands.session has.stands.value has.stands.stands in
        let within : Contains (map good entries) (good has.entry) = subst (λ v. Contains v.entries (good has.entry)) value has.stands.within in
        (has.entry, from_good (good has.entry) within has.entry refl, has.is, has.found)
      where
        from_good : (r : ReadValue) → Contains (map good entries) r → (e : EntryValue) → r ≡ good e → Contains entries e
        from_good r within =
            at_member (λ r. (e : EntryValue) → r ≡ good e → Contains entries e) (map good entries) r
            (all_map (λ r. (e : EntryValue) → r ≡ good e → Contains entries e) good entries
            (all_weaker (Contains entries) (λ x. (e : EntryValue) → good x ≡ good e → Contains entries e) (λ x among e same. let one : x ≡ e = cc in subst (Contains entries) one among)
            entries (all_members entries))) within
