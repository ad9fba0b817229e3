use Rattle.std.proofs.Common.{◌∙◌, sym}
use Rattle.someipctl_show.proofs.CaptureLemmas.{list_all-blank}
use Rattle.someipctl_show.proofs.capture.says_nothing.Goals as goal

pub returns-else-starts_with : goal.returns-else-starts_with
returns-else-starts_with c =
    rw (sym c.starts_with.ensures.value ∙ c.if-starts_with.false) (c.is_blank.ensures ∙ list_all-blank c.args.line.now)
