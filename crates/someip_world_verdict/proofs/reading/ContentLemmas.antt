-- What a node writes is read back.
use Rattle.std.proofs.Common.{◌≡◌, ℕ, zero, suc, ◌+◌, Bool, true, false, ◌&&◌, nat_lt, if◌then◌else◌, List, [], ◌∷◌, ◌++◌, drop, length, map, Option, None, Some, Ok, refl, sym, ap, subst, ◌∙◌}
use Rattle.std.specs.List.{AllByRecursion, Contains, flat_map}
use Rattle.std.proofs.lemmas.Grind.{flat_map-append}
use Rattle.std.specs.Net.Socket.{v4_ip}
use Rattle.std.specs.declared.net.ipv4_addr.Ipv4Addr.{Ipv4Addr}
use Rattle.std.specs.declared.net.socket_addr.SocketAddrV4.{SocketAddrV4}
use Rattle.someip_wire.proofs.TypeLemmas.{flag_cleared_again, flag_set, flagged_is_no_event, whole_already}
use Rattle.someip_wire.specs.Discovery.{is_discovery}
use Rattle.someip_wire.specs.declared.header.Header.{Header}
use Rattle.someip_wire.specs.Kinds.{has_tp_flag}
use Rattle.someip_wire.specs.Reading.{items_of}
use Rattle.someip_wire.specs.Spelling.{Fits, MessageValue, spelling}
use Rattle.someip_reassembly.specs.Keys.{segment_key}
use Rattle.someip_reassembly.specs.declared.key.ReassemblyKey.{ReassemblyKey}
use Rattle.someip_reassembly.specs.Segments.{segment_header, segments_within}
use Rattle.someip_reassembly.specs.Sent.{PieceValue, Alone, InSegment, is_long, piece_message, segments_of, sent}
use Rattle.someip_reassembly.proofs.SentLemmas.{all_fit}
use Rattle.sd_wire.specs.declared.entry.EntryHead.{EntryHead}
use Rattle.sd_wire.specs.declared.entry.EntryHead.TheVariants as heads
use Rattle.sd_wire.specs.declared.entry.EventgroupKind.{EventgroupKind}
use Rattle.sd_wire.specs.declared.entry.EventgroupKind.TheVariants.{Subscribe, Ack}
use Rattle.sd_wire.specs.contents.Kinds.{has_type_subscribe}
use Rattle.sd_wire.specs.decoding.Program.{reading}
use Rattle.sd_wire.specs.contents.Values.{EntryValue, good}
use Rattle.sd_session.specs.declared.stamp.Stamp.{Stamp}
use Rattle.someip_node_rules.specs.declared.output.Output.TheVariants.{Sent}
use Rattle.someip_node_rules.specs.forms.Entries.{discovery_message}
use Rattle.someip_node_laws.specs.Fitting.{FitsWire}
use Rattle.someip_node_rules.specs.forms.GoodConfigs.{is_good}
use Rattle.someip_node_rules.specs.histories.History.{History, answers_of}
use Rattle.someip_node_rules.specs.rules.Inputs.{Input}
use Rattle.someip_node_rules.specs.trails.Meanings.{GivenBy, IsTold}
use Rattle.someip_node_rules.specs.forms.Outputs.{Given, Announces, Sends, Tells, datagram_of, written}
use Rattle.someip_node_rules.proofs.lists.MemberLemmas.{all_both, all_map, all_weaker, at_member}
use Rattle.someip_world_rules.specs.Datagrams.{SentDatagram}
use Rattle.someip_world_rules.proofs.AnnouncedLemmas.{announced_fits, announced_holds, one_message}
use Rattle.someip_world_rules.specs.declared.exchanges.naming.Naming.{Naming}
use Rattle.someip_world_rules.specs.exchanges.Beginnings.{subscribe_in_head, subscribe_of, subscribes_among, subscribes_in}
use Rattle.someip_world_rules.specs.exchanges.Namings.{named_by_entries, named_by_head, named_by_kind, named_in}
use Rattle.someip_world_rules.proofs.about_exchanges.messages.WholeLemmas.{no_flag}
use Rattle.someip_world_verdict.specs.Contents.{named_alone, said_by_entries, said_by_head, said_by_header, said_by_items, said_by_message, said_by_reading, said_in, stream_by_items, stream_by_message, stream_in, subscribe_said, whole_header}
use Rattle.someip_world_verdict.proofs.reading.ApplicationLemmas.{given_by_application, no_event}

-- ---- a datagram that holds one message

module _ (d : SentDatagram) (m : MessageValue) (fits : Fits m) (is : d.bytes ≡ spelling m) where
  one_read : items_of d.bytes ≡ Ok m ∷ []
  one_read = ap items_of is ∙ one_message m fits

  -- says what the message says
  pub one_said : said_in d ≡ said_by_message d.from d.to m
  one_said = ap (said_by_items d.from d.to) one_read

  pub one_stream : stream_in d ≡ stream_by_message d.from d.to m
  one_stream = ap (stream_by_items d.from d.to) one_read

-- ---- the pieces of a message

segments_headed : (n : ℕ) (header : Header) (offset : ℕ) (rest : List ℕ) → AllByRecursion (λ s. s.header ≡ header) (segments_within n header offset rest)
unfolding segments_within
segments_headed zero header offset rest = tt
segments_headed (suc n) header offset [] = tt
segments_headed (suc n) header offset (b ∷ rest) = (refl, segments_headed n header (offset + 1392) (drop 1392 (b ∷ rest)))

-- a message that goes out as one of the application, and of which a header is: as the whole one's it is this
pub record IsPieceHeader (m : MessageValue) (header : Header) : Type 0 where
  pub application : is_discovery header ≡ false
  pub whole : whole_header header ≡ m.header
  pub flag : has_tp_flag header.kind ≡ is_long m.payload

module _ (m : MessageValue) (none : has_tp_flag m.header.kind ≡ false) (application : is_discovery m.header ≡ false) where
  segment_is : is_long m.payload ≡ true → IsPieceHeader m (segment_header m.header)
  segment_is long = record {
    application = no_event (segment_header m.header) (flagged_is_no_event m.header.kind);
    whole = ap (λ kind. record m.header { kind = kind }) (flag_cleared_again m.header.kind none);
    flag = flag_set m.header.kind ∙ sym long;
  }

  alone_is : is_long m.payload ≡ false → IsPieceHeader m m.header
  alone_is short = record {
    application = application;
    whole = ap (λ kind. record m.header { kind = kind }) (whole_already m.header.kind none);
    flag = none ∙ sym short;
  }

  pub piece_headers : AllByRecursion (λ piece. IsPieceHeader m (piece_message piece).header) (sent m)
  piece_headers = cases (is_long m.payload) refl
    where
      cases : (b : Bool) → is_long m.payload ≡ b → AllByRecursion (λ piece. IsPieceHeader m (piece_message piece).header) (if b then map InSegment (segments_of m) else Alone m ∷ [])
      cases true long =
          all_map (λ piece. IsPieceHeader m (piece_message piece).header) InSegment (segments_of m)
          (all_weaker (λ s. s.header ≡ segment_header m.header) (λ s. IsPieceHeader m s.header) (λ s is. subst (IsPieceHeader m) (sym is) (segment_is long)) (segments_of m)
          (segments_headed (length m.payload) (segment_header m.header) 0 m.payload))
      cases false short = (alone_is short, tt)

-- ---- what is said by a message

-- one of the application
application_said : (from to : SocketAddrV4) (piece m : MessageValue) → IsPieceHeader m piece.header → said_by_message from to piece ≡ said_by_header from to m.header
application_said from to piece m is =
    ap (λ b. if b then said_by_reading (v4_ip from) (v4_ip to) (reading piece.payload) else said_by_header from to (whole_header piece.header)) is.application
    ∙ ap (said_by_header from to) is.whole

-- the stream of the pieces of a message, if there are several
abbrev pub stream_of_message : SocketAddrV4 → SocketAddrV4 → MessageValue → Option ReassemblyKey
stream_of_message from to m = if is_long m.payload then Some (segment_key from to m.header) else None

application_stream : (from to : SocketAddrV4) (piece m : MessageValue) → IsPieceHeader m piece.header → stream_by_message from to piece ≡ stream_of_message from to m
application_stream from to piece m is =
    ap (λ b. if b then Some (segment_key from to (whole_header piece.header)) else None) is.flag
    ∙ ap (λ h. if is_long m.payload then Some (segment_key from to h) else None) is.whole

-- one of Service Discovery
announced_said : (from to : SocketAddrV4) (stamp : Stamp) (entries : List EntryValue) → FitsWire (Announces from to stamp entries)
    → said_by_message from to (discovery_message stamp entries) ≡ said_by_entries (v4_ip from) (v4_ip to) (map good entries)
announced_said from to stamp entries fits = ap (said_by_reading (v4_ip from) (v4_ip to)) (announced_holds stamp entries fits.0 fits.1 fits.2)

-- ---- what was said, and what was named

named_back : (namings : List Naming) → map (λ s. s.naming) (map named_alone namings) ≡ namings
named_back [] = refl
named_back (n ∷ namings) = ap (λ ns. n ∷ ns) (named_back namings)

none_subscribe : (namings : List Naming) → flat_map subscribe_said (map named_alone namings) ≡ []
none_subscribe [] = refl
none_subscribe (n ∷ namings) = none_subscribe namings

all_alone : (namings : List Naming) → AllByRecursion (λ s. s.subscribes ≡ false) (map named_alone namings)
all_alone [] = tt
all_alone (n ∷ namings) = (refl, all_alone namings)

-- the entries name what they say
entries_named : (from to : Ipv4Addr) (entries : List EntryValue) → map (λ s. s.naming) (said_by_entries from to (map good entries)) ≡ named_by_entries from to entries
entries_named from to [] = refl
entries_named from to (e ∷ entries) = by e.head (entries_named from to entries)
  where
    by : (head : EntryHead) → map (λ s. s.naming) (said_by_entries from to (map good entries)) ≡ named_by_entries from to entries
        → map (λ s. s.naming) (said_by_head from to head ++ said_by_entries from to (map good entries)) ≡ named_by_head from to head ++ named_by_entries from to entries
    by (heads.Service head) more = more
    by (heads.Eventgroup head) more = ap (λ ns. named_by_kind head.kind from to head ∷ ns) more

-- and the Subscribes among them are those that are said
head_subscribes : (from to : Ipv4Addr) (head : EntryHead) → flat_map subscribe_said (said_by_head from to head) ≡ subscribe_in_head to head
head_subscribes from to (heads.Service head) = refl
head_subscribes from to (heads.Eventgroup head) = by head.kind (nat_lt 0 head.ttl)
  where
    by : (kind : EventgroupKind) (lasts : Bool)
        → flat_map subscribe_said (record { naming = named_by_kind kind from to head; subscribes = has_type_subscribe kind && lasts } ∷ [])
        ≡ (if has_type_subscribe kind && lasts then subscribe_of to head ∷ [] else [])
    by Subscribe true = refl
    by Subscribe false = refl
    by Ack lasts = refl

entries_subscribe : (from to : Ipv4Addr) (entries : List EntryValue) → flat_map subscribe_said (said_by_entries from to (map good entries)) ≡ subscribes_among to entries
entries_subscribe from to [] = refl
entries_subscribe from to (e ∷ entries) =
    flat_map-append subscribe_said (said_by_head from to e.head) (said_by_entries from to (map good entries))
    ∙ ap (λ ss. ss ++ flat_map subscribe_said (said_by_entries from to (map good entries))) (head_subscribes from to e.head)
    ∙ ap (λ ss. subscribe_in_head to e.head ++ ss) (entries_subscribe from to entries)

-- ---- what is read of a datagram of a message of the application

-- its endpoints are those of the message, and it says no more than what the message names
pub record IsMessageRead (d : SentDatagram) (from to : SocketAddrV4) (m : MessageValue) : Type 0 where
  pub source : d.from ≡ from
  pub goal : d.to ≡ to
  pub said : said_in d ≡ map named_alone (named_in (Sends from to m))
  pub stream : stream_in d ≡ stream_of_message from to m

module _ (d : SentDatagram) (from to : SocketAddrV4) (m : MessageValue) where
  piece_read : (piece : PieceValue) → Fits (piece_message piece) → IsPieceHeader m (piece_message piece).header
      → Sent d.from d.to d.bytes ≡ datagram_of from to piece → IsMessageRead d from to m
  piece_read piece fits of is =
      let source : d.from ≡ from = cc in
      let goal : d.to ≡ to = cc in
      let bytes : d.bytes ≡ spelling (piece_message piece) = cc in
      record {
        source = source;
        goal = goal;
        said =
            one_said d (piece_message piece) fits bytes ∙ application_said d.from d.to (piece_message piece) m of
            ∙ (λ i. said_by_header (source i) (goal i) m.header);
        stream =
            one_stream d (piece_message piece) fits bytes ∙ application_stream d.from d.to (piece_message piece) m of
            ∙ (λ i. stream_of_message (source i) (goal i) m);
      }

  pub message_read : has_tp_flag m.header.kind ≡ false → is_discovery m.header ≡ false → FitsWire (Sends from to m)
      → Contains (written (Sends from to m)) (Sent d.from d.to d.bytes) → IsMessageRead d from to m
  message_read none application fits among =
      at_member (λ o. Sent d.from d.to d.bytes ≡ o → IsMessageRead d from to m) (map (datagram_of from to) (sent m)) (Sent d.from d.to d.bytes)
      (all_map (λ o. Sent d.from d.to d.bytes ≡ o → IsMessageRead d from to m) (datagram_of from to) (sent m)
      (all_both (λ piece. Fits (piece_message piece)) (λ piece. IsPieceHeader m (piece_message piece).header)
      (λ piece. Sent d.from d.to d.bytes ≡ datagram_of from to piece → IsMessageRead d from to m) piece_read (sent m)
      (all_fit m fits.0) (piece_headers m none application))) among refl

  module _ (read : IsMessageRead d from to m) where
    pub message_named : map (λ s. s.naming) (said_in d) ≡ named_in (Sends from to m)
    message_named = ap (map (λ s. s.naming)) read.said ∙ named_back (named_in (Sends from to m))

    -- it says no Subscribe
    pub message_alone : AllByRecursion (λ s. s.subscribes ≡ false) (said_in d)
    message_alone = subst (AllByRecursion (λ s. s.subscribes ≡ false)) (sym read.said) (all_alone (named_in (Sends from to m)))

    pub message_subscribes : flat_map subscribe_said (said_in d) ≡ subscribes_in (Sends from to m)
    message_subscribes = ap (flat_map subscribe_said) read.said ∙ none_subscribe (named_in (Sends from to m))

-- ---- what is read of a datagram of Service Discovery

-- its endpoints are those of the announcement, and it says what the entries do
pub record IsAnnouncementRead (d : SentDatagram) (from to : SocketAddrV4) (stamp : Stamp) (entries : List EntryValue) : Type 0 where
  pub source : d.from ≡ from
  pub goal : d.to ≡ to
  pub said : said_in d ≡ said_by_entries (v4_ip from) (v4_ip to) (map good entries)
  pub stream : stream_in d ≡ None

module _ (d : SentDatagram) (from to : SocketAddrV4) (stamp : Stamp) (entries : List EntryValue) where
  pub announcement_read : FitsWire (Announces from to stamp entries) → Contains (written (Announces from to stamp entries)) (Sent d.from d.to d.bytes)
      → IsAnnouncementRead d from to stamp entries
  announcement_read fits among =
      let one : Sent d.from d.to d.bytes ≡ Sent from to (spelling (discovery_message stamp entries)) =
      at_member (λ o. o ≡ Sent from to (spelling (discovery_message stamp entries))) (Sent from to (spelling (discovery_message stamp entries)) ∷ []) (Sent d.from d.to d.bytes) (refl, tt) among in
      let source : d.from ≡ from = cc in
      let goal : d.to ≡ to = cc in
      let bytes : d.bytes ≡ spelling (discovery_message stamp entries) = cc in
      let fit = announced_fits stamp entries fits.0 fits.1 fits.2 in
      record {
        source = source;
        goal = goal;
        said =
            one_said d (discovery_message stamp entries) fit bytes ∙ announced_said d.from d.to stamp entries fits
            ∙ (λ i. said_by_entries (v4_ip (source i)) (v4_ip (goal i)) (map good entries));
        stream = one_stream d (discovery_message stamp entries) fit bytes;
      }

  module _ (read : IsAnnouncementRead d from to stamp entries) where
    pub announcement_named : map (λ s. s.naming) (said_in d) ≡ named_in (Announces from to stamp entries)
    announcement_named = ap (map (λ s. s.naming)) read.said ∙ entries_named (v4_ip from) (v4_ip to) entries

    pub announcement_subscribes : flat_map subscribe_said (said_in d) ≡ subscribes_in (Announces from to stamp entries)
    announcement_subscribes = ap (flat_map subscribe_said) read.said ∙ entries_subscribe (v4_ip from) (v4_ip to) entries

-- ---- what is read of a datagram of what was given

-- the stream of the datagrams of what is given, if there are several
abbrev pub stream_of : Given → Option ReassemblyKey
stream_of (Sends from to m) = stream_of_message from to m
stream_of (Announces from to stamp entries) = None
stream_of (Tells output) = None

-- it names what was named in that, it says the same Subscribes, and it is of the same stream
pub record IsReadBack (d : SentDatagram) (given : Given) : Type 0 where
  pub named : map (λ s. s.naming) (said_in d) ≡ named_in given
  pub subscribes : flat_map subscribe_said (said_in d) ≡ subscribes_in given
  pub stream : stream_in d ≡ stream_of given

-- each datagram that it is written as is so read
abbrev pub AreReadBack : Given → Type 0
AreReadBack given = (d : SentDatagram) → Contains (written given) (Sent d.from d.to d.bytes) → IsReadBack d given

module _ (h : History) (input : Input) where
  pub read_back : is_good h.config ≡ true → (given : Given) → GivenBy h input given → FitsWire given → AreReadBack given
  read_back well (Sends from to m) by fits d among =
      let none = no_flag by.done.by (answers_of by.done.before.state) from to m by.holds in
      let read = message_read d from to m none (given_by_application h input from to m well by) fits among in
      record {
        named = message_named d from to m read;
        subscribes = message_subscribes d from to m read;
        stream = read.stream;
      }
  read_back well (Announces from to stamp entries) by fits d among =
      let read = announcement_read d from to stamp entries fits among in
      record {
        named = announcement_named d from to stamp entries read;
        subscribes = announcement_subscribes d from to stamp entries read;
        stream = read.stream;
      }
  read_back well (Tells output) by fits d among =
      let same : Sent d.from d.to d.bytes ≡ output = at_member (λ o. o ≡ output) (output ∷ []) (Sent d.from d.to d.bytes) (refl, tt) among in
      absurd (subst (λ o. IsTold o by.done.by (answers_of by.done.before.state)) (sym same) by.holds)
