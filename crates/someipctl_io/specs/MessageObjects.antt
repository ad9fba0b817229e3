-- The members of a message, between those whose texts have no fixed length.
use Rattle.std.specs.Prelude.{ℕ, List, [], ◌∷◌, ◌++◌, codes}
use Rattle.someipctl_io.specs.declared.form.Form.TheVariants.{Json}
use Rattle.someipctl_io.specs.JsonTexts.{key_text}
use Rattle.someipctl_io.specs.ToldLines.{id, byte, field, field_text, fields_text}

-- up to its length
abbrev pub ids_members : ℕ → ℕ → List ℕ
ids_members service method =
    fields_text Json (field (codes " ") (codes "service") (id service) ∷ field (codes ".") (codes "method") (id method) ∷ [])
    ++ (codes "," ++ key_text (codes "length"))

-- between its length and its interface version
abbrev pub session_members : ℕ → ℕ → List ℕ
session_members client session = fields_text Json (field (codes " client ") (codes "client") (id client) ∷ field (codes " session ") (codes "session") (id session) ∷ [])

-- between its session and the name of its type
abbrev pub interface_members : ℕ → List ℕ
interface_members interface =
    field_text Json (field (codes " interface ") (codes "interface") (byte interface)) ++ (codes "," ++ (key_text (codes "type") ++ codes "\""))

-- between the name of its type and its payload
abbrev pub code_members : ℕ → List ℕ
code_members code =
    codes "\"" ++ (field_text Json (field (codes " code ") (codes "code") (byte code)) ++ (codes "," ++ (key_text (codes "payload") ++ codes "\"")))
