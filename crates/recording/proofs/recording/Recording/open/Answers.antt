use Rattle.std.proofs.Common.{◌≡◌, Ok, drop, ap, arith}
use Rattle.recording.specs.declared.error.RecordingError.TheVariants.{NotRecording}
use Rattle.recording.specs.Records.{items_of, items_from, items_behind}
use Rattle.recording.proofs.RecordingLemmas.{recording_found, recording_only, recording_none}
use Rattle.recording.proofs.recording.Recording.open.Goals as goal

pub returns-clause-found : goal.returns-clause-found
returns-clause-found c =
    let file = c.args.file.now in
    let read : items_of file ≡ Ok (items_from c.in_ok-format.format c.new.result.items c.in_ok-format.place (drop c.in_ok-format.place file)) =
    rw c.new.ensures.items (ap (items_behind file) c.in_ok-format.ensures.start) in
    recording_found _ file (λ i. omega (arith, c.type_inv.file i)) read

pub returns-clause-only : goal.returns-clause-only
returns-clause-only c = λ items r.
    let file = c.args.file.now in
    let read : items_of file ≡ Ok (items_from c.in_ok-format.format c.new.result.items c.in_ok-format.place (drop c.in_ok-format.place file)) =
    rw c.new.ensures.items (ap (items_behind file) c.in_ok-format.ensures.start) in
    recording_only _ items file read r

pub returns-in_err-format-clause-only : goal.returns-in_err-format-clause-only
returns-in_err-format-clause-only c = λ items r. absurd (recording_none items c.args.file.now (NotRecording 0) (ap (items_behind c.args.file.now) c.in_err-format.ensures.no_start) r)
