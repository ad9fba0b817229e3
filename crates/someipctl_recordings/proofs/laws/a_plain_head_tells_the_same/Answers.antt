use Rattle.std.proofs.Common.{◌≡◌, ℕ, Bool, true, false, List, [], ◌∷◌, ◌++◌, codes, Option, None, Some, refl, ap, ◌∙◌, append_assoc}
use Rattle.std.proofs.lemmas.List.{append-nil}
use Rattle.std.specs.Net.Text.{socket_v4_text}
use Rattle.recording.specs.declared.Time.{Time}
use Rattle.recording.specs.Packets.{DatagramValue}
use Rattle.recording_packets.specs.Intake.{ArrivalValue}
use Rattle.someipctl_io.specs.declared.form.Form.TheVariants.{Plain}
use Rattle.someipctl_io.specs.ToldItems.{datagram_head}
use Rattle.someipctl_io.specs.ToldLines.{content_text, end_text, fields_text, line_text, origin_text, word_part}
use Rattle.someipctl_recordings.specs.declared.asked.Heads.{Heads}
use Rattle.someipctl_recordings.specs.Gathered.{socket_of}
use Rattle.someipctl_recordings.specs.Origins.{endpoint_fields, fields_if, frame_field, origin_fields, said_of_time}
use Rattle.someipctl_recordings.specs.RecordedText.{frame_text, head_text, line_head, text_if, time_text}
use Rattle.someipctl_recordings.proofs.laws.a_plain_head_tells_the_same.Goals as goal

time-plain : (t : Option Time) → content_text (said_of_time t) ≡ time_text t
time-plain None = refl
time-plain (Some t) = refl

three-shape : (space time from to : List ℕ)
    → (([] ++ time) ++ space) ++ ((([] ++ from) ++ space) ++ ((([] ++ to) ++ space) ++ [])) ≡ time ++ (((space ++ from) ++ ((space ++ to) ++ [])) ++ space)
three-shape space time from to = simp (append_assoc, append-nil)

endpoints-plain : (d : DatagramValue) → origin_text (endpoint_fields d) ≡ head_text d
endpoints-plain d =
    three-shape (codes " ") (content_text (said_of_time d.time)) (socket_v4_text (socket_of d.from)) (socket_v4_text (socket_of d.to))
    ∙ ap (λ (t : List ℕ). t ++ (((codes " " ++ socket_v4_text (socket_of d.from)) ++ ((codes " " ++ socket_v4_text (socket_of d.to)) ++ [])) ++ codes " ")) (time-plain d.time)

heads-plain : (frame endpoints : Bool) (a : ArrivalValue)
    → origin_text (fields_if frame (frame_field a.frame ∷ []) ++ fields_if endpoints (endpoint_fields a.datagram)) ≡ text_if frame (frame_text a.frame) ++ text_if endpoints (head_text a.datagram)
heads-plain true true a = ap (λ (t : List ℕ). frame_text a.frame ++ t) (endpoints-plain a.datagram)
heads-plain true false a = refl
heads-plain false true a = endpoints-plain a.datagram
heads-plain false false a = refl

head-plain : (heads : Heads) (a : ArrivalValue) → origin_text (origin_fields heads a) ≡ line_head heads a
head-plain heads a = heads-plain heads.frame heads.endpoints a

line-shape : (head number word fields end : List ℕ) → (head ++ (number ++ word)) ++ (fields ++ end) ≡ head ++ ((number ++ word) ++ (fields ++ end))
line-shape head number word fields end = simp append_assoc

pub returns-clause-head : goal.returns-clause-head
returns-clause-head c = head-plain

pub returns-clause-line : goal.returns-clause-line
returns-clause-line c heads a k line =
    line-shape (origin_text (origin_fields heads a)) (fields_text Plain (datagram_head k).number) (word_part line.word) (fields_text Plain line.fields) (end_text Plain)
    ∙ ap (λ (t : List ℕ). t ++ line_text Plain (datagram_head k) line) (head-plain heads a)
