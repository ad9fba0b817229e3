-- What an entry makes of a Subscribe that waits for its answer (SOME/IP Service Discovery Protocol, "Subscribe Eventgroup
-- entry", "Subscribe Eventgroup Acknowledgement entry").
use Rattle.std.specs.Prelude.{ℕ, ◌+◌, ◌==◌, nat_le, Bool, not, ◌||◌, if◌then◌else◌, Option, None, Some}
use Rattle.std.specs.Ordering.{eq_by_cmp}
use Rattle.std.specs.declared.net.ipv4_addr.Ipv4Addr.{Ipv4Addr}
use Rattle.someip_tables.specs.Endpoints.{address_cmp}
use Rattle.someip_tables.specs.Retained.{kept_if}
use Rattle.audit_sd.specs.declared.subscriptions.entry.Asked.{Asked}
use Rattle.audit_sd.specs.declared.subscriptions.entry.EntryKind.{EntryKind}
use Rattle.audit_sd.specs.declared.subscriptions.entry.EntryKind.TheVariants.{Answer, Subscribe}
use Rattle.audit_sd.specs.declared.subscriptions.entry.SubscribeEntry.{SubscribeEntry}
use Rattle.audit_sd.specs.declared.subscriptions.finding.Finding.{Finding}
use Rattle.audit_sd.specs.declared.subscriptions.finding.Finding.TheVariants.{Nack, UnaskedAck, UnaskedNack}
use Rattle.audit_sd.specs.declared.subscriptions.key.SubscriptionKey.{SubscriptionKey}

-- the moment until which a Subscribe waits
abbrev pub waits_until : Asked → Option ℕ
waits_until asked = Some asked.until

-- a Subscribe that came at a moment, where an answer may take so many milliseconds
abbrev pub asked_at : ℕ → ℕ → SubscribeEntry → Asked
asked_at now answer_ms entry = record { origin = entry.origin; until = now + answer_ms }

-- a subscription is of an address: it is that of its client or of its server
abbrev pub is_of : Ipv4Addr → SubscriptionKey → Bool
is_of address key = eq_by_cmp address_cmp key.client address || eq_by_cmp address_cmp key.server address

-- client and server own what is kept of it
abbrev pub owners_of : {V : Type 0} → SubscriptionKey → V → Ipv4Addr × Ipv4Addr
owners_of key value = (key.client, key.server)

-- what is told of an answer: a Nack, whatever it answers
abbrev pub told_of_answer : SubscribeEntry → Option Finding
told_of_answer entry = if entry.ttl == 0 then Some Nack else None

-- what an entry is told as that nobody asked for: an Ack or a Nack may be, a Subscribe or a StopSubscribe is not
abbrev pub unasked_as : EntryKind → SubscribeEntry → Option Finding
unasked_as Subscribe entry = None
unasked_as Answer entry = Some (if entry.ttl == 0 then UnaskedNack else UnaskedAck)

-- a Subscribe has waited too long
abbrev pub is_late : ℕ → Asked → Bool
is_late now asked = nat_le asked.until now

-- a Subscribe, unless it has waited too long
abbrev pub unless_late : ℕ → Option Asked → Option Asked
unless_late now = kept_if (λ asked. not (is_late now asked))
