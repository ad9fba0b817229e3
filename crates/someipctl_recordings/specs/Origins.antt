-- Where an object of a recording says that its datagram came from.
use Rattle.std.specs.Prelude.{ℕ, Bool, true, false, List, [], ◌∷◌, ◌++◌, codes, Option, Some, None}
use Rattle.recording.specs.declared.Time.{Time}
use Rattle.recording.specs.Packets.{DatagramValue}
use Rattle.recording_packets.specs.Intake.{ArrivalValue}
use Rattle.someipctl_io.specs.declared.form.Form.{Form}
use Rattle.someipctl_io.specs.declared.form.Form.TheVariants.{Plain, Json}
use Rattle.someipctl_io.specs.ToldLines.{Content, ToldField, endpoint, field, nothing, number, time}
use Rattle.someipctl_recordings.specs.declared.asked.Heads.{Heads}
use Rattle.someipctl_recordings.specs.Gathered.{socket_of}

-- the number of a packet
abbrev pub frame_field : ℕ → ToldField
frame_field n = field (codes "#") (codes "frame") (number n)

-- a time, which may not be there
abbrev pub said_of_time : Option Time → Content
said_of_time None = nothing
said_of_time (Some t) = time t.seconds t.nanoseconds

-- the time and the endpoints of a datagram
abbrev pub endpoint_fields : DatagramValue → List ToldField
endpoint_fields d =
    field [] (codes "time") (said_of_time d.time)
    ∷ field [] (codes "from") (endpoint (socket_of d.from))
    ∷ field [] (codes "to") (endpoint (socket_of d.to)) ∷ []

-- fields where they are asked for
abbrev pub fields_if : {F : Type 0} → Bool → List F → List F
fields_if true fields = fields
fields_if false fields = []

-- those that are asked for
abbrev pub origin_fields : Heads → ArrivalValue → List ToldField
origin_fields heads a = fields_if heads.frame (frame_field a.frame ∷ []) ++ fields_if heads.endpoints (endpoint_fields a.datagram)

-- those of the lines in a form: before plain lines it is put as text
abbrev pub origin_in : Form → Heads → ArrivalValue → List ToldField
origin_in Plain heads a = []
origin_in Json heads a = origin_fields heads a

-- a datagram that is worked out by hand
abbrev pub twelfth : ArrivalValue
twelfth = record {
  frame = 12;
  datagram = record {
    time = Some (record { seconds = 1700000000; nanoseconds = 5000 });
    from = record { ip = 10 ∷ 0 ∷ 0 ∷ 1 ∷ []; port = 30501 };
    to = record { ip = 10 ∷ 0 ∷ 0 ∷ 2 ∷ []; port = 40001 };
    payload = [];
  };
}
