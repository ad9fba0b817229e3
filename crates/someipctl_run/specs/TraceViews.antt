-- What a line of a trace tells, as Rust values.
use Rattle.std.specs.Prelude.{map, take}
use Rattle.someipctl_io.specs.ToldItems.{told}
use Rattle.someipctl_io.specs.ToldLines.{ToldLine}
use Rattle.someipctl_io.specs.ToldViews.{view_field}
use Rattle.someipctl_run.specs.declared.told_line.TraceLine.{TraceLine}

-- the fields are those that are counted
abbrev pub view_trace_line : TraceLine → ToldLine
view_trace_line line = told line.kind.now (map view_field (take line.count line.fields))
