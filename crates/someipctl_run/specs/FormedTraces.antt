-- Traces in their forms, as Rust values.
use Rattle.std.specs.Prelude.{ℕ, List}
use Rattle.someipctl_io.specs.declared.form.Form.TheVariants.{Json}
use Rattle.someipctl_run.specs.Expected.{PrintedLine, printed_from, printed_lines}
use Rattle.someipctl_run.specs.ToldTraces.{whole_trace}
use Rattle.someipctl_run.specs.Traces.{marked_trace, shown_lines}
use Rattle.someipctl_run.specs.declared.form.FormedTrace.{FormedTrace}

-- what is printed of a trace
abbrev pub trace_in_form : FormedTrace → List ℕ
trace_in_form t = marked_trace (shown_lines t.form t.step_lines.now) t.nodes.now t.lines.now t.verdict

-- what is printed of it as objects
abbrev pub objects_in_form : FormedTrace → List ℕ
objects_in_form t = whole_trace Json (shown_lines t.form t.step_lines.now) t.nodes.now t.lines.now t.verdict

-- its plain form line by line, with the verdict as the last line
abbrev pub lines_in_form : FormedTrace → List PrintedLine
lines_in_form t = printed_lines t.form t.step_lines.now t.nodes.now t.lines.now t.verdict

-- its lines without the verdict, the datagrams of which are numbered from 1
abbrev pub lines_before_verdict : FormedTrace → List PrintedLine
lines_before_verdict t = printed_from t.form t.step_lines.now t.nodes.now 1 t.lines.now
