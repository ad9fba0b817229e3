use Rattle.std.proofs.Common.{sym}
use Rattle.someipctl_io.specs.ToldLines.{line_json}
use Rattle.someipctl_io.proofs.JsonLemmas.{document-json_text, print-json_text}
use Rattle.someipctl_io.proofs.ObjectLemmas.{line-numbers, line-object}
use Rattle.someipctl_io.proofs.laws.an_object_reads_as_its_line.Goals as goal

pub returns-clause-object : goal.returns-clause-object
returns-clause-object c = line-object

pub returns-clause-reads : goal.returns-clause-reads
returns-clause-reads c = λ head line numbers shallow. document-json_text (line_json head line) numbers shallow

pub returns-clause-printed : goal.returns-clause-printed
returns-clause-printed c = λ j. sym (print-json_text j)

pub returns-clause-numbers : goal.returns-clause-numbers
returns-clause-numbers c = line-numbers
