-- A datagram that is shown.
use Rattle.std.specs.Prelude.{ℕ, map}
use Rattle.recording.specs.View.{view_datagram}
use Rattle.recording_packets.specs.Intake.{ArrivalValue}
use Rattle.someipctl_io.specs.ToldViews.{view_field}
use Rattle.someipctl_show.specs.types.Types.{TypesValue}
use Rattle.someipctl_recordings.specs.declared.datagrams.Numbered.{Numbered}
use Rattle.someipctl_recordings.specs.declared.asked.Asked.{Asked}
use Rattle.someipctl_recordings.specs.Origins.{origin_in}
use Rattle.someipctl_recordings.specs.RecordedText.{Scene}

abbrev pub scene_by : TypesValue → Numbered → Scene
scene_by types n = record { types = types; form = n.form; origin = map view_field n.origin.now; k = n.k; now = n.now; datagram = view_datagram n.arrival.datagram }

-- the k-th datagram, which comes at a moment, as it is asked for
abbrev pub numbered_scene : TypesValue → Asked → (k now : ℕ) → ArrivalValue → Scene
numbered_scene types asked k now a =
    record { types = types; form = asked.form; origin = origin_in asked.form asked.heads a; k = k; now = now; datagram = a.datagram }
