-- The packets that are extracted from items, and from others after them.
use Rattle.std.proofs.Common.{◌≡◌, ℕ, suc, List, [], ◌∷◌, ◌++◌, length, Bool, true, false, cond, Option, Some, None, Ok, Err, refl, sym, ap, subst, ◌∙◌, append_assoc, append-nil}
use Rattle.std.proofs.lemmas.List.Concat.{flat_map-append}
use Rattle.std.specs.Prelude.{unwrap_or}
use Rattle.std.specs.List.{AllByRecursion}
use Rattle.std.specs.Option.{option_to_list}
use Rattle.recording.specs.declared.number.ByteOrder.TheVariants.{Little}
use Rattle.recording.specs.Captured.{RecordValue}
use Rattle.recording.specs.Records.{Item}
use Rattle.recording.specs.Spelling.{blocks_bytes}
use Rattle.recording_packets.specs.declared.fragments.PacketKey.{PacketKey}
use Rattle.recording_packets.specs.Intake.{ArrivalValue, after_packet, arrivals, arrived}
use Rattle.recording_writing.specs.Files.{IsPacket, file_of, links_of, packets_blocks}
use Rattle.recording_writing.proofs.FileLemmas.{bytes_grow, file_grows, links_grow}
use Rattle.someipctl_io.specs.Sending.{Sends}
use Rattle.someipctl_io.proofs.SendingLemmas.{IsSending, IsSending-more, Sends-as, Sends-nil}
use Rattle.someipctl_recordings.specs.Sought.{is_sought, learned_from, learned_from_all, sought_of, sought_from}
use Rattle.someipctl_recordings.specs.Wanted.{WantedValue}
use Rattle.someipctl_extract.specs.declared.output.Output.{Output}
use Rattle.someipctl_extract.specs.Kept.{PartValue, fragment_key, packets_under}
use Rattle.someipctl_extract.specs.Extraction.{Extraction, after_record, after_records, datagrams_at, datagrams_from, gives, is_given, nothing_taken, nothing_written, packets_at, packets_of, with_datagram, with_datagrams, with_packet, with_packets}

-- ---- one after the other

pub datagrams-append : (w : WantedValue) (e : Extraction) (items others : List Item) → datagrams_from w e (items ++ others) ≡ datagrams_from w e items ++ datagrams_from w (after_records w e items) others
datagrams-append w e [] others = refl
datagrams-append w e (Ok r ∷ items) others =
    let own = datagrams_at w e r in
    ap (λ (l : List (Option (List RecordValue))). own ++ l) (datagrams-append w (after_record w e r) items others)
    ∙ sym (append_assoc own (datagrams_from w (after_record w e r) items) (datagrams_from w (after_records w (after_record w e r) items) others))
datagrams-append w e (Err fault ∷ items) others = datagrams-append w e items others

pub after_records-append : (w : WantedValue) (e : Extraction) (items others : List Item) → after_records w e (items ++ others) ≡ after_records w (after_records w e items) others
after_records-append w e [] others = refl
after_records-append w e (Ok r ∷ items) others = after_records-append w (after_record w e r) items others
after_records-append w e (Err fault ∷ items) others = after_records-append w e items others

pub packets_of-append : (ds more : List (Option (List RecordValue))) → packets_of (ds ++ more) ≡ packets_of ds ++ packets_of more
packets_of-append ds more = flat_map-append (λ d. unwrap_or d []) ds more

pub with_datagrams-append : (o : Output) (ds more : List (Option (List RecordValue))) → with_datagrams o (ds ++ more) ≡ with_datagrams (with_datagrams o ds) more
with_datagrams-append o [] more = refl
with_datagrams-append o (d ∷ ds) more = with_datagrams-append (with_datagram o d) ds more

pub with_packets-append : (o : Output) (ks more : List RecordValue) → with_packets o (ks ++ more) ≡ with_packets (with_packets o ks) more
with_packets-append o [] more = refl
with_packets-append o (k ∷ ks) more = with_packets-append (with_packet o k) ks more

-- ---- the link types

pub packets-links : (o : Output) (ks : List RecordValue) → (with_packets o ks).packets ≡ links_of o.packets ks
packets-links o [] = refl
packets-links o (k ∷ ks) = packets-links (with_packet o k) ks

pub datagrams-links : (o : Output) (ds : List (Option (List RecordValue))) → (with_datagrams o ds).packets ≡ links_of o.packets (packets_of ds)
datagrams-links o [] = refl
datagrams-links o (None ∷ ds) = datagrams-links (with_datagram o None) ds
datagrams-links o (Some ks ∷ ds) =
    datagrams-links (with_packets o ks) ds ∙ ap (λ (links : List ℕ). links_of links (packets_of ds)) (packets-links o ks)
    ∙ sym (links_grow o.packets ks (packets_of ds))

-- ---- the file

-- the packets of items
abbrev pub packets_in : WantedValue → List Item → List RecordValue
packets_in w items = packets_of (datagrams_from w (nothing_taken w) items)

-- the bytes of packets that come next
abbrev pub bytes_from : WantedValue → Extraction → Output → List Item → List ℕ
bytes_from w e o items = blocks_bytes Little (packets_blocks o.packets (packets_of (datagrams_from w e items)))

abbrev pub extraction_of : WantedValue → List Item → Extraction
extraction_of w items = after_records w (nothing_taken w) items

abbrev pub output_of : WantedValue → List Item → Output
output_of w items = with_datagrams nothing_written (datagrams_from w (nothing_taken w) items)

pub packets-append : (w : WantedValue) (items others : List Item) → packets_in w (items ++ others) ≡ packets_in w items ++ packets_of (datagrams_from w (extraction_of w items) others)
packets-append w items others = ap packets_of (datagrams-append w (nothing_taken w) items others) ∙ packets_of-append (datagrams_from w (nothing_taken w) items) (datagrams_from w (extraction_of w items) others)

pub file-append : (w : WantedValue) (items others : List Item) → file_of (packets_in w (items ++ others)) ≡ file_of (packets_in w items) ++ bytes_from w (extraction_of w items) (output_of w items) others
file-append w items others =
    let more = packets_of (datagrams_from w (extraction_of w items) others) in
    ap file_of (packets-append w items others)
    ∙ file_grows (packets_in w items) more
    ∙ ap (λ (links : List ℕ). file_of (packets_in w items) ++ blocks_bytes Little (packets_blocks links more)) (sym (datagrams-links nothing_written (datagrams_from w (nothing_taken w) items)))

pub output-append : (w : WantedValue) (items others : List Item) → output_of w (items ++ others) ≡ with_datagrams (output_of w items) (datagrams_from w (extraction_of w items) others)
output-append w items others =
    ap (with_datagrams nothing_written) (datagrams-append w (nothing_taken w) items others) ∙ with_datagrams-append nothing_written (datagrams_from w (nothing_taken w) items) (datagrams_from w (extraction_of w items) others)

-- the bytes of packets, behind those of an output
abbrev pub bytes_behind : Output → List RecordValue → List ℕ
bytes_behind o ks = blocks_bytes Little (packets_blocks o.packets ks)

-- one of them is printed
pub sends_one : (a b c : Option (List ℕ)) (held waits new : List ℕ) (o after : Output) (k : RecordValue) (ks others : List RecordValue) (all : List ℕ)
    → IsSending a held b waits (bytes_behind o ks) all → ks ≡ k ∷ others → after ≡ with_packets o (k ∷ []) → Sends b waits c new (bytes_behind o (k ∷ [])) → IsSending a held c new (bytes_behind after others) all
sends_one a b c held waits new o after k ks others all s is written sends =
    subst (λ (q : Output). IsSending a held c new (bytes_behind q others) all) (sym written)
    (IsSending-more a b c held waits new (bytes_behind o ks) (bytes_behind o (k ∷ [])) (bytes_behind (with_packet o k) others) all s (ap (bytes_behind o) is ∙ bytes_grow o.packets (k ∷ []) others) sends)

-- ---- the packets of a datagram

-- those that are kept of the IPv4 packet, and the last
pub bytes_kept : (o : Output) (own : Option PacketKey) (key : PacketKey) (kept : List PartValue) (r : RecordValue) (ks : List RecordValue) → own ≡ Some key → packets_under key kept ≡ Some ks
    → bytes_behind o ks ++ bytes_behind (with_packets o ks) (r ∷ []) ≡ bytes_behind o (packets_of (packets_at own kept r ∷ []))
bytes_kept o own key kept r ks is under =
    rw (is, under)
    (ap (λ (links : List ℕ). bytes_behind o ks ++ blocks_bytes Little (packets_blocks links (r ∷ []))) (packets-links o ks) ∙ sym (bytes_grow o.packets ks (r ∷ []))
    ∙ ap (bytes_behind o) (sym (append-nil (ks ++ r ∷ []))))

pub output_kept : (o : Output) (own : Option PacketKey) (key : PacketKey) (kept : List PartValue) (r : RecordValue) (ks : List RecordValue) → own ≡ Some key → packets_under key kept ≡ Some ks
    → with_packets (with_packets o ks) (r ∷ []) ≡ with_datagram o (packets_at own kept r)
output_kept o own key kept r ks is under = rw (is, under) (sym (with_packets-append o ks (r ∷ [])))

-- ---- numbers that fit

abbrev pub AreFit : List RecordValue → Type 0
AreFit ks = AllByRecursion IsPacket ks

pub fits-append : (ks more : List RecordValue) → AreFit ks → AreFit more → AreFit (ks ++ more)
fits-append [] more one other = other
fits-append (k ∷ ks) more one other = (one.0, fits-append ks more one.1 other)

pub fits_kept : (own : Option PacketKey) (key : PacketKey) (kept : List PartValue) (r : RecordValue) (ks : List RecordValue) → own ≡ Some key → packets_under key kept ≡ Some ks
    → AreFit ks → IsPacket r → AreFit (packets_of (packets_at own kept r ∷ []))
fits_kept own key kept r ks is under fits one = rw (is, under) (subst AreFit (sym (append-nil (ks ++ r ∷ []))) (fits-append ks (r ∷ []) fits (one, tt)))

pub fits_sought : (w : WantedValue) (e : Extraction) (r : RecordValue) (key : Option PacketKey) (kept : List PartValue) → gives w e.sought r ≡ true → key ≡ fragment_key r → kept ≡ e.kept
    → AreFit (packets_of (packets_at key kept r ∷ [])) → AreFit (packets_of (datagrams_from w e (Ok r ∷ [])))
fits_sought w e r key kept is own same fits =
    subst AreFit
    (ap (λ k. packets_of (packets_at k kept r ∷ [])) own ∙ ap (λ q. packets_of (packets_at (fragment_key r) q r ∷ [])) same
    ∙ sym (ap (λ t. packets_of (cond t (packets_at (fragment_key r) e.kept r ∷ []) [] ++ [])) is))
    fits

pub fits_other : (w : WantedValue) (e : Extraction) (r : RecordValue) → gives w e.sought r ≡ false → AreFit (packets_of (datagrams_from w e (Ok r ∷ [])))
fits_other w e r is = subst AreFit (sym (ap (λ t. packets_of (cond t (packets_at (fragment_key r) e.kept r ∷ []) [] ++ [])) is)) tt

-- ---- what a packet gives

-- a packet gives a datagram that is asked for, or none
pub sends_sought : (a b : Option (List ℕ)) (held waits : List ℕ) (w : WantedValue) (e : Extraction) (o : Output) (r : RecordValue) (key : Option PacketKey) (kept : List PartValue)
    → gives w e.sought r ≡ true → key ≡ fragment_key r → kept ≡ e.kept → Sends a held b waits (bytes_behind o (packets_of (packets_at key kept r ∷ []))) → Sends a held b waits (bytes_from w e o (Ok r ∷ []))
sends_sought a b held waits w e o r key kept is own same sends =
    Sends-as a b held waits _ _
    (ap (λ k. bytes_behind o (packets_of (packets_at k kept r ∷ []))) own ∙ ap (λ q. bytes_behind o (packets_of (packets_at (fragment_key r) q r ∷ []))) same
    ∙ sym (ap (λ t. bytes_behind o (packets_of (cond t (packets_at (fragment_key r) e.kept r ∷ []) [] ++ []))) is))
    sends

pub sends_other : (a : Option (List ℕ)) (held : List ℕ) (w : WantedValue) (e : Extraction) (o : Output) (r : RecordValue) → gives w e.sought r ≡ false → Sends a held a held (bytes_from w e o (Ok r ∷ []))
sends_other a held w e o r is =
    Sends-as a a held held _ _ (sym (ap (λ t. bytes_behind o (packets_of (cond t (packets_at (fragment_key r) e.kept r ∷ []) [] ++ []))) is)) (Sends-nil a held)

-- ---- as many as `recording` tells of

one_or_none : (w : WantedValue) (e : Extraction) (r : RecordValue) (arrival : Option ArrivalValue) (d : Option (List RecordValue)) (more : List ArrivalValue) (ds : List (Option (List RecordValue)))
    → length ds ≡ length (sought_of w (learned_from_all e.sought.learner (option_to_list arrival ++ [])) more)
    → length (cond (is_given w e.sought.learner arrival) (d ∷ []) [] ++ ds) ≡ length (sought_of w e.sought.learner (option_to_list arrival ++ more))
one_or_none w e r None d more ds is = is
one_or_none w e r (Some a) d more ds is = cases (is_sought w e.sought.learner a)
  where
    cases : (t : Bool) → length (cond t (d ∷ []) [] ++ ds) ≡ length (cond t (a ∷ sought_of w (learned_from e.sought.learner a) more) (sought_of w (learned_from e.sought.learner a) more))
    cases true = ap suc is
    cases false = is

pub as_many : (w : WantedValue) (e : Extraction) (items : List Item) → length (datagrams_from w e items) ≡ length (sought_from w e.sought items)
as_many w e [] = refl
as_many w e (Ok r ∷ items) =
    one_or_none w e r (arrived w.packets e.sought.intake r) (packets_at (fragment_key r) e.kept r) (arrivals w.packets (after_packet w.packets e.sought.intake r) items)
    (datagrams_from w (after_record w e r) items) (as_many w (after_record w e r) items)
as_many w e (Err fault ∷ items) = as_many w e items
