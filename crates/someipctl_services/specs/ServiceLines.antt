-- The lines of what is told of offers and subscriptions, field by field.
use Rattle.std.specs.Prelude.{ℕ, List, [], ◌∷◌, codes}
use Rattle.audit_services.specs.declared.offered.OfferTerms.{OfferTerms}
use Rattle.audit_services.specs.declared.offered.Offered.{Offered}
use Rattle.audit_services.specs.declared.stay.Ended.{Ended}
use Rattle.audit_services.specs.declared.subscribed.NoTerms.{NoTerms}
use Rattle.audit_services.specs.declared.subscribed.Subscribed.{Subscribed}
use Rattle.audit_services.specs.declared.why.Why.{Why}
use Rattle.audit_services.specs.declared.why.Why.TheVariants as why
use Rattle.recording.specs.declared.Time.{Time}
use Rattle.someip_services.specs.declared.told.FullBook.{FullBook}
use Rattle.someip_services.specs.declared.told.FullBook.TheVariants as full
use Rattle.someip_services.specs.declared.told.Told.{Told}
use Rattle.someip_services.specs.declared.told.Told.TheVariants.{Full, Offer, Subscription}
use Rattle.someipctl_io.specs.ToldLines.{Content, ToldField, ToldLine, address, byte, endpoint, field, id, number, text, time}
use Rattle.someipctl_audit.specs.AuditText.{time_at}
use Rattle.someipctl_show.specs.VerdictForms.{wordless}

-- why an interval ended, in a word
abbrev pub why_name : Why → List ℕ
why_name why.Open = codes "open"
why_name why.Stopped = codes "stopped"
why_name why.Expired = codes "expired"
why_name why.Reboot = codes "reboot"
why_name why.Moved = codes "moved"
why_name why.Refused = codes "refused"
why_name why.Offer = codes "offer"

-- what is full, in a word
abbrev pub book_name : FullBook → List ℕ
book_name full.Offers = codes "offers"
book_name full.Subscriptions = codes "subscriptions"
book_name full.Sessions = codes "sessions"

-- a time
abbrev pub time_told : Time → Content
time_told t = time t.seconds t.nanoseconds

-- a moment in milliseconds, as a time
abbrev pub moment_told : ℕ → Content
moment_told millis = time_told (time_at millis)

-- plain `offer SERVICE.INSTANCE major V minor N ENDPOINT from TIME until TIME WHY`
abbrev pub offer_fields : Ended Offered OfferTerms → List ToldField
offer_fields e =
    field (codes "offer ") (codes "service") (id e.key.service)
    ∷ (field (codes ".") (codes "instance") (id e.key.instance)
    ∷ (field (codes " major ") (codes "major") (byte e.key.major)
    ∷ (field (codes " minor ") (codes "minor") (number e.interval.value.minor)
    ∷ (field (codes " ") (codes "endpoint") (endpoint e.interval.value.endpoint)
    ∷ (field (codes " from ") (codes "since") (moment_told e.interval.from)
    ∷ (field (codes " until ") (codes "until") (moment_told e.interval.until)
    ∷ (field (codes " ") (codes "why") (text (why_name e.interval.why)) ∷ [])))))))

-- plain `subscription SERVICE.INSTANCE major V group ID ENDPOINT at SERVER from TIME until TIME WHY`
abbrev pub subscription_fields : Ended Subscribed NoTerms → List ToldField
subscription_fields e =
    field (codes "subscription ") (codes "service") (id e.key.service)
    ∷ (field (codes ".") (codes "instance") (id e.key.instance)
    ∷ (field (codes " major ") (codes "major") (byte e.key.major)
    ∷ (field (codes " group ") (codes "group") (id e.key.eventgroup)
    ∷ (field (codes " ") (codes "endpoint") (endpoint e.key.endpoint)
    ∷ (field (codes " at ") (codes "server") (address e.key.server)
    ∷ (field (codes " from ") (codes "since") (moment_told e.interval.from)
    ∷ (field (codes " until ") (codes "until") (moment_told e.interval.until)
    ∷ (field (codes " ") (codes "why") (text (why_name e.interval.why)) ∷ []))))))))

-- plain `full NAME`
abbrev pub full_fields : FullBook → List ToldField
full_fields book = field (codes "full ") (codes "name") (text (book_name book)) ∷ []

abbrev pub told_line : Told → ToldLine
told_line (Offer ended) = wordless (codes "offer") (offer_fields ended)
told_line (Subscription ended) = wordless (codes "subscription") (subscription_fields ended)
told_line (Full book) = wordless (codes "full") (full_fields book)
