-- What shapes with names stand for.
use Rattle.std.specs.Prelude.{map, List, String, string_bytes}
use Rattle.std.specs.declared.alloc.Global.{Global}
use Rattle.someip_payload_values.specs.declared.shape.Shape.{Shape}
use Rattle.someip_payload_values.specs.View.{form}
use Rattle.someip_payload.specs.Named.{NamedForms}

abbrev pub named_view : List (String Global × Shape) → NamedForms
named_view entries = map (λ e. (string_bytes e.0, form e.1)) entries
