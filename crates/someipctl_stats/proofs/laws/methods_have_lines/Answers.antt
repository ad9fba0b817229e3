use Rattle.std.proofs.Common.{ap, codes, refl}
use Rattle.std.specs.Fmt.{digits}
use Rattle.hex.specs.Hex.{encode_with}
use Rattle.json.specs.Print.{escape_byte}
use Rattle.audit_stats.specs.Examples.{method}
use Rattle.someipctl_io.specs.declared.form.Form.TheVariants.{Json, Plain}
use Rattle.someipctl_io.specs.ToldLines.{line_text}
use Rattle.someipctl_show.specs.VerdictForms.{no_head, wordless}
use Rattle.someipctl_stats.specs.Examples.{answered}
use Rattle.someipctl_stats.specs.StatsLines.{method_fields, times_told}
use Rattle.someipctl_stats.proofs.ExampleLemmas.{summary}
use Rattle.someipctl_stats.proofs.laws.methods_have_lines.Goals as goal

pub returns-clause-plain : goal.returns-clause-plain
unfolding digits encode_with escape_byte
returns-clause-plain c = refl

pub returns-clause-object : goal.returns-clause-object
unfolding digits encode_with escape_byte
returns-clause-object c = refl

pub returns-clause-plain_times : goal.returns-clause-plain_times
unfolding digits encode_with escape_byte
returns-clause-plain_times c = ap (λ s. line_text Plain no_head (wordless (codes "method") (method_fields method answered (times_told s)))) summary

pub returns-clause-object_times : goal.returns-clause-object_times
unfolding digits encode_with escape_byte
returns-clause-object_times c = ap (λ s. line_text Json no_head (wordless (codes "method") (method_fields method answered (times_told s)))) summary
