use Rattle.std.proofs.Common.{◌∙◌}
use Rattle.someipctl_explore.specs.Noting.{progress_line}
use Rattle.someipctl_explore.proofs.NoteLemmas.{begun}
use Rattle.someipctl_explore.proofs.notes.put_progress.Goals as goal

-- src/notes.rt:41:1
pub returns : goal.returns
returns g c =
    begun (g.N.Write.contents c.args.writer.now) (g.N.Write.contents c.write_text.new.writer) c.as_bytes.result.now (progress_line c.args.judged) (c.as_bytes.ensures.value ∙ c.in-Ok.ensures)
    c.in-Err.ensures.err
