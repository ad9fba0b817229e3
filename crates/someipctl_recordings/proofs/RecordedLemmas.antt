-- What is shown of the datagrams of recordings.
use Rattle.std.proofs.Common.{◌≡◌, ℕ, List, [], ◌∷◌, ◌++◌, Option, None, Some, Ok, Err, Bool, true, false, if◌then◌else◌, refl, sym, subst, ap, ◌∙◌, append_assoc}
use Rattle.std.proofs.lemmas.List.{append-nil}
use Rattle.recording.specs.Captured.{RecordValue}
use Rattle.recording.specs.Records.{Item}
use Rattle.recording_packets.specs.Intake.{ArrivalValue, IntakeValue, after_packet, after_packets, arrivals, arrived}
use Rattle.recording_packets.proofs.IntakeLemmas.{after_packets-append, arrivals-append}
use Rattle.someipctl_recordings.specs.Files.{fault_among}
use Rattle.audit_endpoints.specs.WatchedEndpoints.{Watch}
use Rattle.someipctl_recordings.specs.Sought.{Sought, after_items, is_sought, learned_from, learned_from_all, sought_of}
use Rattle.someipctl_recordings.specs.Wanted.{WantedValue}
use Rattle.someipctl_recordings.specs.Asked.{AskedValue, asked_from}
use Rattle.someipctl_recordings.specs.RecordedText.{AreRecorded, IsRecordedText, Progress, after_all, after_datagram}
use Rattle.someipctl_io.proofs.SendingLemmas.{Sends-nil}
use Rattle.someipctl_show.specs.TextKinds.{Joined, SendsOne}

-- ---- what is asked for

join_if : (b : Bool) (a : ArrivalValue) (all ds others : List ArrivalValue) → all ≡ ds ++ others → (if b then a ∷ all else all) ≡ (if b then a ∷ ds else ds) ++ others
join_if true a all ds others is = ap (λ (l : List ArrivalValue). a ∷ l) is
join_if false a all ds others is = is

-- those of datagrams, and of others after them
sought-append : (w : WantedValue) (learner : Option Watch) (ds others : List ArrivalValue)
    → sought_of w learner (ds ++ others) ≡ sought_of w learner ds ++ sought_of w (learned_from_all learner ds) others
sought-append w learner [] others = refl
sought-append w learner (a ∷ ds) others =
    join_if (is_sought w learner a) a (sought_of w (learned_from learner a) (ds ++ others)) (sought_of w (learned_from learner a) ds) (sought_of w (learned_from_all (learned_from learner a) ds) others)
    (sought-append w (learned_from learner a) ds others)

learned-append : (learner : Option Watch) (ds others : List ArrivalValue) → learned_from_all learner (ds ++ others) ≡ learned_from_all (learned_from_all learner ds) others
learned-append learner [] others = refl
learned-append learner (a ∷ ds) others = learned-append (learned_from learner a) ds others

-- the datagrams of items and of others
pub asked-append : (asked : AskedValue) (s : Sought) (items others : List Item)
    → asked_from asked s (items ++ others) ≡ asked_from asked s items ++ asked_from asked (after_items asked.wanted s items) others
asked-append asked s items others =
    let ds = arrivals asked.wanted.packets s.intake items in
    let more = arrivals asked.wanted.packets (after_packets asked.wanted.packets s.intake items) others in
    ap (sought_of asked.wanted s.learner) (arrivals-append asked.wanted.packets s.intake items others) ∙ sought-append asked.wanted s.learner ds more

pub after_items-append : (w : WantedValue) (s : Sought) (items others : List Item) → after_items w s (items ++ others) ≡ after_items w (after_items w s items) others
after_items-append w s items others =
    let ds = arrivals w.packets s.intake items in
    let more = arrivals w.packets (after_packets w.packets s.intake items) others in
    ap (λ q. record { intake = q; learner = learned_from_all s.learner (arrivals w.packets s.intake (items ++ others)) }) (after_packets-append w.packets s.intake items others)
    ∙ ap (λ l. record { intake = after_packets w.packets (after_packets w.packets s.intake items) others; learner = l })
    (ap (learned_from_all s.learner) (arrivals-append w.packets s.intake items others) ∙ learned-append s.learner ds more)

pub fault-append : (items others : List Item) → fault_among items ≡ None → fault_among (items ++ others) ≡ fault_among others
fault-append [] others none = refl
fault-append (Ok r ∷ items) others none = fault-append items others none
fault-append (Err fault ∷ items) others none = absurd cc

-- ---- their texts

-- a text of datagrams, and of others after them
pub recorded_join : (asked : AskedValue) (p : Progress) (ds others : List ArrivalValue) (text : List ℕ) → Joined (AreRecorded asked p ds) (AreRecorded asked (after_all asked p ds) others) text
    → AreRecorded asked p (ds ++ others) text
recorded_join asked p [] others text both = subst (AreRecorded asked p others) (sym (both.2 ∙ ap (λ (t : List ℕ). t ++ both.1) both.3)) both.4
recorded_join asked p (d ∷ ds) others text both =
    let own = both.3 in (
      own.0,
      own.1 ++ both.1,
      both.2 ∙ ap (λ (t : List ℕ). t ++ both.1) own.2 ∙ append_assoc own.0 own.1 both.1,
      own.3,
      recorded_join asked (after_datagram asked p d) ds others (own.1 ++ both.1) (own.1, both.1, refl, own.4, both.4),
    )

pub after-append : (asked : AskedValue) (p : Progress) (ds others : List ArrivalValue) → after_all asked p (ds ++ others) ≡ after_all asked (after_all asked p ds) others
after-append asked p [] others = refl
after-append asked p (d ∷ ds) others = after-append asked (after_datagram asked p d) ds others

-- ---- the next record

-- it gives a datagram that is asked for
pub asked_one : (asked : AskedValue) (s : Sought) (r : RecordValue) (a : ArrivalValue) → arrived asked.wanted.packets s.intake r ≡ Some a → is_sought asked.wanted s.learner a ≡ true
    → asked_from asked s (Ok r ∷ []) ≡ a ∷ []
asked_one asked s r a is wanted = rw (is, wanted) refl

-- one that is not
pub asked_other : (asked : AskedValue) (s : Sought) (r : RecordValue) (a : ArrivalValue) → arrived asked.wanted.packets s.intake r ≡ Some a → is_sought asked.wanted s.learner a ≡ false
    → asked_from asked s (Ok r ∷ []) ≡ []
asked_other asked s r a is wanted = rw (is, wanted) refl

-- none
pub asked_none : (asked : AskedValue) (s : Sought) (r : RecordValue) → arrived asked.wanted.packets s.intake r ≡ None → asked_from asked s (Ok r ∷ []) ≡ []
asked_none asked s r is = rw is refl

-- what is known then
pub after_came : (w : WantedValue) (s : Sought) (r : RecordValue) (a : ArrivalValue) (intake : IntakeValue) (learner : Option Watch) → arrived w.packets s.intake r ≡ Some a → intake ≡ after_packet w.packets s.intake r
    → learner ≡ learned_from s.learner a → record { intake = intake; learner = learner } ≡ after_items w s (Ok r ∷ [])
after_came w s r a intake learner came taken learned = rw (came, taken, learned) refl

pub after_none_came : (w : WantedValue) (s : Sought) (r : RecordValue) (intake : IntakeValue) → arrived w.packets s.intake r ≡ None → intake ≡ after_packet w.packets s.intake r
    → record { intake = intake; learner = s.learner } ≡ after_items w s (Ok r ∷ [])
after_none_came w s r intake came taken = rw (came, taken) refl

pub recorded_one : (asked : AskedValue) (p : Progress) (ds : List ArrivalValue) (a : ArrivalValue) → ds ≡ a ∷ [] → (text : List ℕ) → IsRecordedText asked p a text → AreRecorded asked p ds text
recorded_one asked p ds a is text one = subst (λ (l : List ArrivalValue). AreRecorded asked p l text) (sym is) (text, [], sym (append-nil text), one, refl)

pub after_one : (asked : AskedValue) (p : Progress) (ds : List ArrivalValue) (a : ArrivalValue) → ds ≡ a ∷ [] → after_all asked p ds ≡ after_datagram asked p a
after_one asked p ds a is = ap (after_all asked p) is

pub recorded_none : (asked : AskedValue) (p : Progress) (ds : List ArrivalValue) → ds ≡ [] → (a : Option (List ℕ)) (held : List ℕ) → SendsOne (AreRecorded asked p ds) a held a held
recorded_none asked p ds none a held = ([], subst (λ (l : List ArrivalValue). AreRecorded asked p l []) (sym none) refl, Sends-nil a held)

pub after_none : (asked : AskedValue) (p : Progress) (ds : List ArrivalValue) → ds ≡ [] → p ≡ after_all asked p ds
after_none asked p ds none = sym (ap (after_all asked p) none)
