-- What the fields, heads and lines of a program tell.
use Rattle.std.specs.Prelude.{map, option_map}
use Rattle.someipctl_io.specs.declared.told.Said.{Said}
use Rattle.someipctl_io.specs.declared.told.Said.TheVariants as says
use Rattle.someipctl_io.specs.declared.told.Field.{Field}
use Rattle.someipctl_io.specs.declared.told.LineHead.{LineHead}
use Rattle.someipctl_io.specs.declared.told.Line.{Line}
use Rattle.someipctl_io.specs.ToldLines.{Content, text, number, millis, id, byte, bytes, flag, mark, nothing, address, endpoint, time, ToldField, ToldHead, ToldLine}

abbrev pub view_said : Said → Content
view_said (says.Text t) = text t.now
view_said (says.Number n) = number n
view_said (says.Millis n) = millis n
view_said (says.Id n) = id n
view_said (says.Byte n) = byte n
view_said (says.Bytes bs) = bytes bs.now
view_said (says.Flag b) = flag b
view_said says.Mark = mark
view_said says.Nothing = nothing
view_said (says.Address a) = address a
view_said (says.Endpoint e) = endpoint e
view_said (says.Time seconds nanoseconds) = time seconds nanoseconds

abbrev pub view_field : Field → ToldField
view_field f = record { lead = f.lead.now; key = f.key.now; content = view_said f.said }

abbrev pub view_head : LineHead → ToldHead
view_head h = record { number = map view_field h.number.now; origin = map view_field h.origin.now; place = map view_field h.place.now }

abbrev pub view_line : Line → ToldLine
view_line l = record { kind = l.kind.now; word = option_map (λ w. w.now) l.word; fields = map view_field l.fields.now }
