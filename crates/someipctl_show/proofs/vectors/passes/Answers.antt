use Rattle.std.proofs.Common.{ap, ◌∙◌}
use Rattle.std.specs.Str.{bytes_eq}
use Rattle.someipctl_show.proofs.vectors.passes.Goals as goal

pub returns : goal.returns
returns c =
    (c.in_ok-text.text.items, c.in_ok-text.ensures, c.eq.ensures ∙ ap (bytes_eq c.in_ok-text.text.items) c.in_ok-expected.ensures)
