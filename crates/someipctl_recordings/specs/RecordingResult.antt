-- What `recording` does with files.
use Rattle.std.specs.Prelude.{ℕ, ◌≡◌, Bool, false, List, [], ◌++◌, Option, option_map}
use Rattle.std.specs.Io.KnownBytes.{Appends}
use Rattle.recording_packets.specs.declared.LeftOut.{LeftOut}
use Rattle.recording_packets.specs.Intake.{left_out_at}
use Rattle.someip_reassembly.specs.Parts.{Limits}
use Rattle.someipctl_recordings.specs.declared.asked.Asked.{Asked}
use Rattle.someipctl_recordings.specs.declared.asked.WholeLimits.{WholeLimits}
use Rattle.someipctl_recordings.specs.declared.recordings.FileFault.{FileFault}
use Rattle.someipctl_recordings.specs.declared.recordings.Shown.{Shown}
use Rattle.someipctl_recordings.specs.declared.recordings.ShownRecording.{ShownRecording}
use Rattle.someipctl_io.specs.Outcomes.{fault_outcome}
use Rattle.someipctl_recordings.specs.Files.{WereLeft, fault_in, items_of_files}
use Rattle.someipctl_recordings.specs.Gathered.{StoreValue}
use Rattle.someipctl_recordings.specs.Wanted.{view_wanted}
use Rattle.someipctl_recordings.specs.Asked.{AskedValue, asked_from}
use Rattle.someipctl_recordings.specs.Sought.{Sought, after_items, is_full, nothing_sought}
use Rattle.someipctl_recordings.specs.RecordedText.{AreRecorded, Progress, after_all, at_first}
use Rattle.someipctl_show.specs.TextKinds.{SendsOne}

-- ---- what is asked for

abbrev pub view_limits : WholeLimits → Limits
view_limits l = record { slots = l.slots; limit = l.limit; timeout = l.timeout_ms }

abbrev pub view_asked : Asked → AskedValue
view_asked asked = record {
  wanted = view_wanted asked.wanted;
  types = asked.types.now;
  form = asked.form;
  heads = asked.heads;
  whole = option_map view_limits asked.whole;
}

-- ---- the files

-- a text of what is asked of the files, up to the fault that ends them, if one does
abbrev pub IsRecordingText : AskedValue → List (List ℕ) → List ℕ → Type 0
IsRecordingText asked files text = AreRecorded asked (at_first asked) (asked_from asked (nothing_sought asked.wanted) (items_of_files files)) text

-- a fault was shown of a message that is asked for
abbrev pub is_faulty_of : AskedValue → List (List ℕ) → Bool
is_faulty_of asked files = (after_all asked (at_first asked) (asked_from asked (nothing_sought asked.wanted) (items_of_files files))).is_faulty

-- what is known after the files
abbrev pub sought_after : AskedValue → List (List ℕ) → Sought
sought_after asked files = after_items asked.wanted (nothing_sought asked.wanted) (items_of_files files)

-- how many packets of the files give no datagram, of those that are looked at
abbrev pub left_out_of : AskedValue → List (List ℕ) → LeftOut
left_out_of asked files = left_out_at (sought_after asked files).intake

-- an endpoint was named where no more could be learned
abbrev pub is_full_after : AskedValue → List (List ℕ) → Bool
is_full_after asked files = is_full (sought_after asked files).learner

-- a text of what is asked of the files was written, up to their fault, and what is told of them is so
pub record ShowsRecording (inputs : List (Option (List ℕ))) (asked : AskedValue) (shown : ShownRecording) (before after : Option (List ℕ)) : Type 0 where
  pub files : List (List ℕ)
  pub left : WereLeft inputs files
  pub ends : shown.fault ≡ fault_in files
  pub text : List ℕ
  pub shows : IsRecordingText asked files text
  pub wrote : Appends before after text
  pub tells : shown.outcome ≡ fault_outcome (is_faulty_of asked files)
  pub counts : shown.left_out ≡ left_out_of asked files
  pub full : shown.is_full ≡ is_full_after asked files

-- a beginning of such a text was written, which may be nothing
pub record BeginsRecording (inputs : List (Option (List ℕ))) (asked : AskedValue) (before after : Option (List ℕ)) : Type 0 where
  pub files : List (List ℕ)
  pub left : WereLeft inputs files
  pub sent : List ℕ
  pub unsent : List ℕ
  pub wrote : Appends before after sent
  pub shows : IsRecordingText asked files (sent ++ unsent)

-- ---- the same through a buffer

-- such a text was printed, of which a part may wait in the buffer
pub record PutsRecording (inputs : List (Option (List ℕ))) (asked : AskedValue) (shown : ShownRecording) (before after : Option (List ℕ)) (waits : List ℕ) : Type 0 where
  pub files : List (List ℕ)
  pub left : WereLeft inputs files
  pub ends : shown.fault ≡ fault_in files
  pub sends : SendsOne (IsRecordingText asked files) before [] after waits
  pub tells : shown.outcome ≡ fault_outcome (is_faulty_of asked files)
  pub counts : shown.left_out ≡ left_out_of asked files
  pub full : shown.is_full ≡ is_full_after asked files

-- ---- how far the files are shown

-- how far what was shown is, where the store is this one
abbrev pub progress_of : Shown → Option StoreValue → Progress
progress_of s store = record { datagrams = s.datagrams; now = s.now; store = store; is_faulty = s.is_faulty }

-- before the first file
abbrev pub nothing_shown : Shown
nothing_shown = record { datagrams = 0; now = 0; is_faulty = false }

-- what is told at the end, or at the fault
abbrev pub shown_recording : Shown → LeftOut → Bool → Option FileFault → ShownRecording
shown_recording s left_out full fault = record { outcome = fault_outcome s.is_faulty; left_out = left_out; is_full = full; fault = fault }
