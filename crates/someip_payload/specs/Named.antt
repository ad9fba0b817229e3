-- Forms with names.
use Rattle.std.specs.Prelude.{ℕ, List, Option}
use Rattle.std.specs.Map.{lookup}
use Rattle.std.specs.Str.{bytes_eq}
use Rattle.someip_payload_values.specs.Data.{Form}

-- names and what they stand for
abbrev pub NamedForms : Type 0
NamedForms = List (List ℕ × Form)

-- what a name stands for
abbrev pub form_named : NamedForms → List ℕ → Option Form
form_named forms n = lookup (bytes_eq n) forms
