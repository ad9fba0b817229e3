-- Fields of a value that are written one after the other.
use Rattle.std.proofs.Common.{◌≡◌, ℕ, ◌<◌, List, [], ◌∷◌, ◌++◌, Option, codes, refl, sym, ap, ◌∙◌, append_assoc}
use Rattle.std.proofs.lemmas.List.{append-nil}
use Rattle.std.proofs.lemmas.Bool.{lt-ltb}
use Rattle.std.proofs.lemmas.Grind.{flat_map-append}
use Rattle.someip_payload_values.specs.Data.{Form, Data}
use Rattle.someipctl_io.specs.declared.form.Form.TheVariants.{Json}
use Rattle.someipctl_io.specs.ToldLines.{field, field_text, fields_text, number, value}
use Rattle.someipctl_show.specs.types.ValueFields.{name_fields, read_fields, used_fields}
use Rattle.json.specs.Json.{Json as JsonValue}
use Rattle.json.specs.Print.{print, print_from}
use Rattle.json.specs.Token.{Token}
use Rattle.json.specs.Tree.{json_tokens}
use Rattle.someipctl_io.specs.JsonTexts.{json_text, key_text}
use Rattle.someipctl_io.proofs.JsonLemmas.{print-json_text}

member-print : (key : List ℕ) (j : JsonValue) → print (Token.key key ∷ json_tokens j) ≡ key_text key ++ json_text j
unfolding print_from
member-print key j = ap (λ (t : List ℕ). key_text key ++ t) (print-json_text j)

-- a comma, and then what a writer makes of a key and a value
pub field-written : (out before after key : List ℕ) (j : JsonValue) (tokens : List Token)
    → before ≡ out ++ 44 ∷ [] → tokens ≡ Token.key key ∷ json_tokens j → after ≡ before ++ print tokens → after ≡ out ++ (codes "," ++ (key_text key ++ json_text j))
field-written out before after key j tokens held are made =
    made ∙ ap (λ (t : List ℕ). t ++ print tokens) held ∙ append_assoc out (44 ∷ []) (print tokens)
    ∙ ap (λ (t : List ℕ). out ++ (44 ∷ t)) (ap print are ∙ member-print key j)

-- two fields, one after the other
pub two-fields : (out first second a b : List ℕ) → first ≡ out ++ a → second ≡ first ++ b → second ≡ out ++ (a ++ (b ++ []))
two-fields out first second a b one other = other ∙ ap (λ (t : List ℕ). t ++ b) one ∙ append_assoc out a b ∙ ap (λ (t : List ℕ). out ++ (a ++ t)) (sym (append-nil b))

pub used-some : (used all : ℕ) → used < all
    → fields_text Json (used_fields used all) ≡ field_text Json (field [] (codes "used") (number used)) ++ (field_text Json (field [] (codes "of") (number all)) ++ [])
used-some used all less = rw (lt-ltb used all less) refl

-- the fields of a value, one after the other
pub read-written : (out named valued done : List ℕ) (name : Option (List ℕ)) (f : Form) (told : Data) (used all : ℕ)
    → named ≡ out ++ fields_text Json (name_fields name) → valued ≡ named ++ field_text Json (field (codes " ") (codes "value") (value f told)) → done ≡ valued ++ fields_text Json (used_fields used all)
    → done ≡ out ++ fields_text Json (read_fields name f told used all)
read-written out named valued done name f told used all one two three =
    let n = fields_text Json (name_fields name) in
    let v = field_text Json (field (codes " ") (codes "value") (value f told)) in
    let u = fields_text Json (used_fields used all) in
    three ∙ ap (λ (t : List ℕ). t ++ u) (two ∙ ap (λ (t : List ℕ). t ++ v) one)
    ∙ append_assoc (out ++ n) v u ∙ append_assoc out n (v ++ u)
    ∙ ap (λ (t : List ℕ). out ++ t) (sym (flat_map-append (field_text Json) (name_fields name) (field (codes " ") (codes "value") (value f told) ∷ used_fields used all)))
