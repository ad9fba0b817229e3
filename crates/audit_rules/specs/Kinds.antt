-- The kinds of findings, as the summary of an audit names them.
use Rattle.std.specs.Prelude.{ℕ, ◌==◌, if◌then◌else◌, List, [], ◌∷◌, map, codes}
use Rattle.audit_rules.specs.declared.kind.Kind.{Kind}
use Rattle.audit_rules.specs.declared.kind.Kind.TheVariants.{Malformed, BadRun, NoEndpoint, Reboot, SdSession, SdOvertaken, Unanswered, Late, Error, Unasked, Repeated, KeyReused, Interface, NotOffered, EventRepeated, EventOvertaken, EventGap, EventUnsubscribed, Silent, Segments, SegmentsMissing, OfferExpired, OfferMoved, Nack, SubscribeUnanswered, UnaskedAck, UnaskedNack, Full}

-- the words of a kind
abbrev pub kind_words : Kind → List ℕ
kind_words Malformed = codes "malformed"
kind_words BadRun = codes "bad run"
kind_words NoEndpoint = codes "no endpoint"
kind_words Reboot = codes "reboot"
kind_words SdSession = codes "sd session"
kind_words SdOvertaken = codes "sd overtaken"
kind_words Unanswered = codes "unanswered"
kind_words Late = codes "late"
kind_words Error = codes "error"
kind_words Unasked = codes "unasked"
kind_words Repeated = codes "repeated"
kind_words KeyReused = codes "key reused"
kind_words Interface = codes "interface"
kind_words NotOffered = codes "not offered"
kind_words EventRepeated = codes "event repeated"
kind_words EventOvertaken = codes "event overtaken"
kind_words EventGap = codes "event gap"
kind_words EventUnsubscribed = codes "event unsubscribed"
kind_words Silent = codes "silent"
kind_words Segments = codes "segments"
kind_words SegmentsMissing = codes "segments missing"
kind_words OfferExpired = codes "offer expired"
kind_words OfferMoved = codes "offer moved"
kind_words Nack = codes "nack"
kind_words SubscribeUnanswered = codes "subscribe unanswered"
kind_words UnaskedAck = codes "unasked ack"
kind_words UnaskedNack = codes "unasked nack"
kind_words Full = codes "full"

-- its name in an object: its words, with `-` between them
abbrev pub kind_name : Kind → List ℕ
kind_name kind = map (λ b. if b == 0x20 then 0x2D else b) (kind_words kind)

-- all of them, in the order of the summary
unfoldable pub all_kinds : List Kind
all_kinds =
    Malformed ∷ BadRun ∷ NoEndpoint ∷ Reboot ∷ SdSession ∷ SdOvertaken ∷ Unanswered ∷ Late ∷ Error ∷ Unasked ∷ Repeated ∷ KeyReused ∷ Interface ∷ NotOffered ∷ EventRepeated
    ∷ EventOvertaken ∷ EventGap ∷ EventUnsubscribed ∷ Silent ∷ Segments ∷ SegmentsMissing ∷ OfferExpired ∷ OfferMoved ∷ Nack ∷ SubscribeUnanswered ∷ UnaskedAck ∷ UnaskedNack ∷ Full ∷ []

-- the number of a kind in that order, by which kinds are told apart
abbrev pub kind_number : Kind → ℕ
kind_number Malformed = 0
kind_number BadRun = 1
kind_number NoEndpoint = 2
kind_number Reboot = 3
kind_number SdSession = 4
kind_number SdOvertaken = 5
kind_number Unanswered = 6
kind_number Late = 7
kind_number Error = 8
kind_number Unasked = 9
kind_number Repeated = 10
kind_number KeyReused = 11
kind_number Interface = 12
kind_number NotOffered = 13
kind_number EventRepeated = 14
kind_number EventOvertaken = 15
kind_number EventGap = 16
kind_number EventUnsubscribed = 17
kind_number Silent = 18
kind_number Segments = 19
kind_number SegmentsMissing = 20
kind_number OfferExpired = 21
kind_number OfferMoved = 22
kind_number Nack = 23
kind_number SubscribeUnanswered = 24
kind_number UnaskedAck = 25
kind_number UnaskedNack = 26
kind_number Full = 27
