-- What is asked of recordings: which of their datagrams are shown, and how.
use Rattle.std.specs.Prelude.{List, Option}
use Rattle.recording.specs.Records.{Item}
use Rattle.recording_packets.specs.Intake.{ArrivalValue}
use Rattle.someip_reassembly.specs.Parts.{Limits}
use Rattle.someipctl_io.specs.declared.form.Form.{Form}
use Rattle.someipctl_show.specs.types.Types.{TypesValue}
use Rattle.someipctl_recordings.specs.declared.asked.Heads.{Heads}
use Rattle.someipctl_recordings.specs.Wanted.{WantedValue}
use Rattle.someipctl_recordings.specs.Sought.{Sought, sought_from}

-- the datagrams that are asked for, the types of messages whose values are told, the form of the lines, what stands before
-- each, and the limits of messages that are put together, if they are
pub record AskedValue : Type 0 where
  pub wanted : WantedValue
  pub types : TypesValue
  pub form : Form
  pub heads : Heads
  pub whole : Option Limits

-- the datagrams of items that are asked for, in order, where this is known before them
abbrev pub asked_from : AskedValue → Sought → List Item → List ArrivalValue
asked_from asked s items = sought_from asked.wanted s items
