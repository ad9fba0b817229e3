-- What counts where a Client ID is asked for.
use Rattle.std.proofs.Common.{◌≡◌, ◌∙◌, ℕ, Bool, true, false, ◌&&◌, if◌then◌else◌, List, [], Option, None, Some, refl, ap}
use Rattle.recording.specs.declared.Time.{Time}
use Rattle.audit_stats.specs.Stats.{Fact}
use Rattle.someip_tables.specs.declared.hashed.Origin.{Origin}
use Rattle.someipctl_recordings.specs.Wanted.{WantedValue, is_in_span}
use Rattle.someipctl_audit.specs.Subjects.{about_event, is_of_addresses, is_of_client, is_of_services}

none_counts : (a b c : Bool) (facts : List Fact) → (if ((a && false) && b) && c then facts else []) ≡ []
none_counts true b c facts = refl
none_counts false b c facts = refl

-- an event has no Client ID, so it is of none
pub no_event_counts : (w : WantedValue) (client : ℕ) (time : Option Time) (origin : Origin) (service event : ℕ) (facts : List Fact) → w.client ≡ Some client
    → (if ((is_of_services w.services (about_event service event) && is_of_client w.client (about_event service event)) && is_of_addresses w.addresses origin) && is_in_span w.from w.until time then facts else []) ≡ []
no_event_counts w client time origin service event facts is =
    ap (λ k. if ((is_of_services w.services (about_event service event) && is_of_client k (about_event service event)) && is_of_addresses w.addresses origin) && is_in_span w.from w.until time then facts else []) is
    ∙ none_counts (is_of_services w.services (about_event service event)) (is_of_addresses w.addresses origin) (is_in_span w.from w.until time) facts
