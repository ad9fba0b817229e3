-- Lines that are printed, and of which the kind is told.
use Rattle.std.proofs.Common.{◌≡◌, ℕ, Bool, false, true, List, [], ◌∷◌, ◌++◌, map, drop, take, Option, Result, Ok, Err, refl, ap}
use Rattle.std.specs.Prelude.{if◌then◌else◌}
use Rattle.std.specs.Result.{IsErr}
use Rattle.recording.specs.declared.Time.{Time}
use Rattle.someip_tables.specs.declared.hashed.Origin.{Origin}
use Rattle.someipctl_io.specs.declared.output.CannotWrite.{CannotWrite}
use Rattle.someipctl_io.specs.declared.told.Field.{Field}
use Rattle.someipctl_io.specs.declared.told.LineHead.{LineHead}
use Rattle.someipctl_io.specs.Sending.{Stops}
use Rattle.someipctl_io.specs.ToldItems.{datagram_field}
use Rattle.someipctl_io.specs.ToldViews.{view_field, view_head}
use Rattle.audit_rules.specs.declared.kind.Kind.{Kind}
use Rattle.someipctl_audit.specs.AuditText.{Puts}
use Rattle.someipctl_audit.specs.ToldFindings.{allowed_field, audit_head, endpoint_fields, origin_fields, time_field}
use Rattle.someipctl_recordings.specs.Origins.{frame_field}

-- printing it stopped
pub puts_err : (text : List ℕ) (kind : Kind) (r : Result Kind CannotWrite) (a : Option (List ℕ)) (held : List ℕ) (b : Option (List ℕ)) (waits : List ℕ) → IsErr r → Stops a held b text → Puts text kind r a held b waits
puts_err text kind (Ok k) a held b waits is stops = absurd (let same : false ≡ true = is in cc)
puts_err text kind (Err e) a held b waits is stops = stops

-- the packet stands before the time, if it is asked for
origins_are : (frames : Bool) (time : Option Time) (origin : Origin) (origins : List Field) → map view_field origins ≡ frame_field origin.numbers.frame ∷ time_field time ∷ []
    → map view_field (if frames then origins else drop 1 origins) ≡ origin_fields frames time origin
origins_are true time origin origins is = is
origins_are false time origin [] is = ap (drop 1) is
origins_are false time origin (o ∷ os) is = ap (drop 1) is

-- that it is allowed stands behind the endpoints, where it is
places_are : (allowed : Bool) (origin : Origin) (places : List Field) → map view_field places ≡ endpoint_fields origin ++ allowed_field true
    → map view_field (if allowed then places else take 2 places) ≡ endpoint_fields origin ++ allowed_field allowed
places_are true origin places is = is
places_are false origin [] is = ap (take 2) is
places_are false origin (p ∷ []) is = ap (take 2) is
places_are false origin (p ∷ (q ∷ ps)) is = ap (take 2) is

-- the head of a line is that of its datagram
pub head_is : (frames allowed : Bool) (time : Option Time) (origin : Origin) (h : LineHead) (number origins places : List Field)
    → h.number.now ≡ number → h.origin.now ≡ (if frames then origins else drop 1 origins) → h.place.now ≡ (if allowed then places else take 2 places)
    → map view_field number ≡ datagram_field origin.numbers.datagram ∷ [] → map view_field origins ≡ frame_field origin.numbers.frame ∷ time_field time ∷ []
    → map view_field places ≡ endpoint_fields origin ++ allowed_field true → view_head h ≡ audit_head frames allowed time origin
head_is frames allowed time origin h number origins places numbered originated placed number_is origins_is places_is =
    rw (numbered, originated, placed, number_is, origins_are frames time origin origins origins_is, places_are allowed origin places places_is) refl
