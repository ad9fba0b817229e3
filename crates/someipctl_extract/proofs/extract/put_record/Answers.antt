use Rattle.std.proofs.Common.{◌∙◌, [], ◌∷◌, Ok, sym}
use Rattle.recording.specs.View.{view_record}
use Rattle.recording_writing.proofs.WritingLemmas.{Stops-none}
use Rattle.someipctl_io.specs.Sending.{Sends}
use Rattle.someipctl_io.proofs.SendingLemmas.{OnErr-any}
use Rattle.someipctl_recordings.specs.Wanted.{view_wanted}
use Rattle.someipctl_extract.specs.Extracted.{view_extraction}
use Rattle.someipctl_extract.proofs.ExtractionLemmas.{bytes_from, fits_other, fits_sought, sends_other, sends_sought}
use Rattle.someipctl_extract.proofs.extract.put_record.Goals.{then-branch+in_ok-put_datagram, else-branch}
use Rattle.someipctl_extract.proofs.extract.put_record.Goals as goal

pub returns-in_err-seeks-clause-err : goal.returns-in_err-seeks-clause-err
returns-in_err-seeks-clause-err g c = OnErr-any c.from_residual.result (Stops-none _ _ _)

pub returns-in_err-follow-clause-err : goal.returns-in_err-follow-clause-err
returns-in_err-follow-clause-err g c =
    let w = view_wanted c.args.wanted.now in
    let e = view_extraction c.args.extractor.now in
    let r = view_record c.args.found.now in
    let sends : Sends (g.W.Write.contents c.args.writer.now) c.args.buffer.now (g.W.Write.contents c.if-branch.writer) c.if-branch.buffer (bytes_from w e c.args.output.now (Ok r ∷ [])) =
    elim c.if-branch.branch [
      | then-branch+in_ok-put_datagram b ↦
          rw (b.buffer-is, b.writer-is)
          (sends_sought _ _ _ _ w e c.args.output.now r c.fragment_key-key.result c.seeks.new.self.kept (sym c.in_ok-seeks.ensures.sought ∙ b.if-branch.true) c.fragment_key-key.ensures c.in_ok-seeks.ensures.kept b.in_ok-put_datagram.ensures.ok)
      | else-branch b ↦ rw (b.buffer-is, b.writer-is) (sends_other _ _ w e c.args.output.now r (sym c.in_ok-seeks.ensures.sought ∙ b.if-branch.false))
    ] in
    OnErr-any c.from_residual-in_err-follow.result (record { unsent = c.if-branch.buffer; sends = sends })

pub returns-in_ok-follow-clause-ok : goal.returns-in_ok-follow-clause-ok
returns-in_ok-follow-clause-ok g c =
    let w = view_wanted c.args.wanted.now in
    let e = view_extraction c.args.extractor.now in
    let r = view_record c.args.found.now in
    elim c.if-branch.branch [
      | then-branch+in_ok-put_datagram b ↦
          rw (b.buffer-is, b.writer-is)
          (sends_sought _ _ _ _ w e c.args.output.now r c.fragment_key-key.result c.seeks.new.self.kept (sym c.in_ok-seeks.ensures.sought ∙ b.if-branch.true) c.fragment_key-key.ensures c.in_ok-seeks.ensures.kept b.in_ok-put_datagram.ensures.ok)
      | else-branch b ↦ rw (b.buffer-is, b.writer-is) (sends_other _ _ w e c.args.output.now r (sym c.in_ok-seeks.ensures.sought ∙ b.if-branch.false))
    ]

pub returns-in_default-clause-ok : goal.returns-in_default-clause-ok
returns-in_default-clause-ok g c =
    let w = view_wanted c.args.wanted.now in
    let e = view_extraction c.args.extractor.now in
    let r = view_record c.args.found.now in
    elim c.if-branch.branch [
      | then-branch+in_ok-put_datagram b ↦
          rw (b.buffer-is, b.writer-is)
          (sends_sought _ _ _ _ w e c.args.output.now r c.fragment_key-key.result c.seeks.new.self.kept (sym c.in_ok-seeks.ensures.sought ∙ b.if-branch.true) c.fragment_key-key.ensures c.in_ok-seeks.ensures.kept b.in_ok-put_datagram.ensures.ok)
      | else-branch b ↦ rw (b.buffer-is, b.writer-is) (sends_other _ _ w e c.args.output.now r (sym c.in_ok-seeks.ensures.sought ∙ b.if-branch.false))
    ]

pub returns-in_ok-follow-clause-fits : goal.returns-in_ok-follow-clause-fits
returns-in_ok-follow-clause-fits g c =
    let w = view_wanted c.args.wanted.now in
    let e = view_extraction c.args.extractor.now in
    let r = view_record c.args.found.now in
    elim c.if-branch.branch [
      | then-branch+in_ok-put_datagram b ↦
          fits_sought w e r c.fragment_key-key.result c.seeks.new.self.kept (sym c.in_ok-seeks.ensures.sought ∙ b.if-branch.true) c.fragment_key-key.ensures c.in_ok-seeks.ensures.kept b.in_ok-put_datagram.ensures.fits
      | else-branch b ↦ fits_other w e r (sym c.in_ok-seeks.ensures.sought ∙ b.if-branch.false)
    ]

pub returns-in_default-clause-fits : goal.returns-in_default-clause-fits
returns-in_default-clause-fits g c =
    let w = view_wanted c.args.wanted.now in
    let e = view_extraction c.args.extractor.now in
    let r = view_record c.args.found.now in
    elim c.if-branch.branch [
      | then-branch+in_ok-put_datagram b ↦
          fits_sought w e r c.fragment_key-key.result c.seeks.new.self.kept (sym c.in_ok-seeks.ensures.sought ∙ b.if-branch.true) c.fragment_key-key.ensures c.in_ok-seeks.ensures.kept b.in_ok-put_datagram.ensures.fits
      | else-branch b ↦ fits_other w e r (sym c.in_ok-seeks.ensures.sought ∙ b.if-branch.false)
    ]
