-- What extracting from recordings writes and tells.
use Rattle.std.specs.Prelude.{◌≡◌, ℕ, List, [], Option}
use Rattle.std.specs.Io.KnownBytes.{Appends}
use Rattle.std.specs.List.{AllByRecursion}
use Rattle.recording.specs.Captured.{RecordValue}
use Rattle.recording_packets.specs.Intake.{left_out_at}
use Rattle.recording.specs.HeldItems.{held_of}
use Rattle.recording_writing.specs.Files.{IsPacket, file_of, items_read}
use Rattle.someipctl_io.specs.Sending.{Sends, Stops}
use Rattle.someipctl_recordings.specs.declared.FileFault.{FileFault}
use Rattle.someipctl_recordings.specs.Files.{WereLeft, fault_in, items_of_files}
use Rattle.someipctl_recordings.specs.Sought.{is_full}
use Rattle.someipctl_recordings.specs.Wanted.{WantedValue}
use Rattle.someipctl_extract.specs.declared.extract.ExtractedRecording.{ExtractedRecording}
use Rattle.someipctl_extract.specs.declared.extract.Extractor.{Extractor}
use Rattle.someipctl_extract.specs.declared.output.Losses.{Losses}
use Rattle.someipctl_extract.specs.Extraction.{Extraction, after_records, datagrams_from, nothing_taken, nothing_written, packets_of, with_datagrams}

-- the packets of each datagram of files that is asked for
abbrev pub datagrams_of : WantedValue → List (List ℕ) → List (Option (List RecordValue))
datagrams_of w files = datagrams_from w (nothing_taken w) (items_of_files files)

-- all of them
abbrev pub extracted_from : WantedValue → List (List ℕ) → List RecordValue
extracted_from w files = packets_of (datagrams_of w files)

-- what the file of them lost
abbrev pub losses_of : WantedValue → List (List ℕ) → Losses
losses_of w files = (with_datagrams nothing_written (datagrams_of w files)).losses

-- what is known after the files
abbrev pub known_after : WantedValue → List (List ℕ) → Extraction
known_after w files = after_records w (nothing_taken w) (items_of_files files)

-- what is told at the end, or at the fault
abbrev pub extracted_recording : Extraction → Losses → Option FileFault → ExtractedRecording
extracted_recording e losses fault = record {
  losses = losses;
  left_out = left_out_at e.sought.intake;
  is_full = is_full e.sought.learner;
  fault = fault;
}

-- the file of the packets that are extracted was written, which is read as just these, and what is told is so
pub record Extracts (inputs : List (Option (List ℕ))) (w : WantedValue) (done : ExtractedRecording) (before after : Option (List ℕ)) : Type 0 where
  pub files : List (List ℕ)
  pub left : WereLeft inputs files
  pub wrote : Appends before after (file_of (extracted_from w files))
  pub read : held_of (file_of (extracted_from w files)) ≡ items_read (extracted_from w files)
  pub tells : done ≡ extracted_recording (known_after w files) (losses_of w files) (fault_in files)

-- a beginning of it was written, which may be nothing
pub record BeginsExtract (inputs : List (Option (List ℕ))) (w : WantedValue) (before after : Option (List ℕ)) : Type 0 where
  pub files : List (List ℕ)
  pub left : WereLeft inputs files
  pub stops : Stops before [] after (file_of (extracted_from w files))

-- the file was printed, of which a part may wait in the buffer
pub record PutsExtract (inputs : List (Option (List ℕ))) (w : WantedValue) (done : ExtractedRecording) (before after : Option (List ℕ)) (waits : List ℕ) : Type 0 where
  pub files : List (List ℕ)
  pub left : WereLeft inputs files
  pub sends : Sends before [] after waits (file_of (extracted_from w files))
  pub fits : AllByRecursion IsPacket (extracted_from w files)
  pub tells : done ≡ extracted_recording (known_after w files) (losses_of w files) (fault_in files)

-- what is known, of the program's values
abbrev pub view_extraction : Extractor → Extraction
view_extraction x = record { sought = record { intake = x.intake; learner = x.learner }; kept = x.kept }
