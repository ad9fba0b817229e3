use Rattle.std.proofs.Common.{◌≡◌, ℕ, ◌+◌, Bool, true, false, List, [], ◌∷◌, ◌++◌, codes, decimal, Option, None, Some, Result, Ok, Err, refl, ap, sym, ◌∙◌, append_assoc}
use Rattle.std.specs.Prelude.{if◌then◌else◌, length, nat_lt}
use Rattle.std.proofs.lemmas.List.{append-nil}
use Rattle.someip_payload_values.specs.declared.error.PayloadError.{PayloadError}
use Rattle.someip_payload_values.specs.Data.{Form, Data}
use Rattle.someip_payload_values.specs.Names.{fault_name, fault_place}
use Rattle.someip_payload_values.specs.ValueText.{data_text}
use Rattle.someip_payload_codec.specs.Reading.{decoded}
use Rattle.someipctl_io.specs.declared.form.Form.TheVariants.{Plain}
use Rattle.someipctl_io.specs.ToldItems.{datagram_head, value_lines}
use Rattle.someipctl_io.specs.ToldLines.{ToldField, field, fields_text, number, value}
use Rattle.someipctl_show.specs.types.Types.{TypedMessageValue, table_for}
use Rattle.someipctl_show.specs.types.ValueFields.{AreDecodedFields, AreFieldsBy, fault_fields, name_fields, read_fields}
use Rattle.someipctl_show.specs.types.ValueLine.{IsDecodedLine, IsLineBy, fault_line, name_text, read_line}
use Rattle.someipctl_show.proofs.laws.a_plain_value_tells_the_same.Goals as goal

-- the line that fields make
abbrev made : ℕ → List ToldField → List ℕ
made k fields = value_lines Plain (datagram_head k) (fields_text Plain fields)

whole-shape : (k word space told end : List ℕ) → ((k ++ []) ++ word) ++ (((space ++ told) ++ []) ++ end) ≡ k ++ (word ++ space) ++ [] ++ told ++ [] ++ end
whole-shape k word space told end = simp (append_assoc, append-nil)

part-shape : (k word space told used n of all end : List ℕ)
    → ((k ++ []) ++ word) ++ (((space ++ told) ++ ((used ++ n) ++ ((of ++ all) ++ []))) ++ end) ≡ k ++ (word ++ space) ++ [] ++ told ++ (used ++ n ++ of ++ all) ++ end
part-shape k word space told used n of all end = simp (append_assoc, append-nil)

named-shape : (k word space name told end : List ℕ)
    → ((k ++ []) ++ word) ++ (((space ++ name) ++ ((space ++ told) ++ [])) ++ end) ≡ k ++ (word ++ space) ++ (name ++ space) ++ told ++ [] ++ end
named-shape k word space name told end = simp (append_assoc, append-nil)

named-part-shape : (k word space name told used n of all end : List ℕ)
    → ((k ++ []) ++ word) ++ (((space ++ name) ++ ((space ++ told) ++ ((used ++ n) ++ ((of ++ all) ++ [])))) ++ end)
    ≡ k ++ (word ++ space) ++ (name ++ space) ++ told ++ (used ++ n ++ of ++ all) ++ end
named-part-shape k word space name told used n of all end = simp (append_assoc, append-nil)

fault-shape : (k word fault name at place end : List ℕ)
    → ((k ++ []) ++ word) ++ (((fault ++ name) ++ ((at ++ place) ++ [])) ++ end) ≡ k ++ (word ++ fault) ++ name ++ at ++ place ++ end
fault-shape k word fault name at place end = simp (append_assoc, append-nil)

-- a value, whether it takes all bytes or not
value-plain : (part : Bool) (k : ℕ) (name : Option (List ℕ)) (f : Form) (told : Data) (used all : ℕ)
    → made k (name_fields name ++ (field (codes " ") (codes "value") (value f told)
    ∷ (if part then field (codes " used ") (codes "used") (number used) ∷ field (codes " of ") (codes "of") (number all) ∷ [] else [])))
    ≡ decimal k ++ codes " value " ++ name_text name ++ data_text f told ++ (if part then codes " used " ++ decimal used ++ codes " of " ++ decimal all else []) ++ codes "\n"
value-plain false k None f told used all = whole-shape (decimal k) (codes " value") (codes " ") (data_text f told) (codes "\n")
value-plain true k None f told used all = part-shape (decimal k) (codes " value") (codes " ") (data_text f told) (codes " used ") (decimal used) (codes " of ") (decimal all) (codes "\n")
value-plain false k (Some name) f told used all = named-shape (decimal k) (codes " value") (codes " ") name (data_text f told) (codes "\n")
value-plain true k (Some name) f told used all =
    named-part-shape (decimal k) (codes " value") (codes " ") name (data_text f told) (codes " used ") (decimal used) (codes " of ") (decimal all) (codes "\n")

read-plain : (k : ℕ) (name : Option (List ℕ)) (f : Form) (told : Data) (used all : ℕ) → made k (read_fields name f told used all) ≡ read_line k name (data_text f told) used all
read-plain k name f told used all = value-plain (nat_lt used all) k name f told used all

fault-plain : (k : ℕ) (name : List ℕ) (place : ℕ) → made k (fault_fields name place) ≡ fault_line k name place
fault-plain k name place = fault-shape (decimal k) (codes " value") (codes " fault ") name (codes " at ") (decimal place) (codes "\n")

-- ---- fields, and their line

decoded_line : (k place : ℕ) (name : Option (List ℕ)) (f : Form) (all : ℕ) (read : Result (Data × ℕ) PayloadError) (fields : List ToldField)
    → AreDecodedFields place name f all read fields → IsDecodedLine k place name f all read (made k fields)
decoded_line k place name f all (Ok (d, used)) fields are =
    (data_text f are.0, (are.0, are.1, refl), ap (made k) are.2 ∙ read-plain k name f are.0 used all)
decoded_line k place name f all (Err fault) fields are = ap (made k) are ∙ fault-plain k (fault_name fault) (place + 16 + fault_place fault)

line_by : (table : Option TypedMessageValue) (k place : ℕ) (payload : List ℕ) (fields : List ToldField) → AreFieldsBy table place payload fields → IsLineBy table k place payload (made k fields)
line_by None k place payload fields are = ap (made k) are
line_by (Some t) k place payload fields are = decoded_line k place t.name t.form (length payload) (decoded t.form payload) fields are

decoded_fields : (k place : ℕ) (name : Option (List ℕ)) (f : Form) (all : ℕ) (read : Result (Data × ℕ) PayloadError) (line : List ℕ)
    → IsDecodedLine k place name f all read line → (fields : List ToldField) × AreDecodedFields place name f all read fields × (line ≡ made k fields)
decoded_fields k place name f all (Ok (d, used)) line is =
    let told = is.1.0 in
    (read_fields name f told used all, (told, is.1.1, refl), is.2 ∙ ap (λ (t : List ℕ). read_line k name t used all) is.1.2 ∙ sym (read-plain k name f told used all))
decoded_fields k place name f all (Err fault) line is =
    (fault_fields (fault_name fault) (place + 16 + fault_place fault), refl, is ∙ sym (fault-plain k (fault_name fault) (place + 16 + fault_place fault)))

fields_by : (table : Option TypedMessageValue) (k place : ℕ) (payload line : List ℕ) → IsLineBy table k place payload line
    → (fields : List ToldField) × AreFieldsBy table place payload fields × (line ≡ made k fields)
fields_by None k place payload line is = ([], refl, is)
fields_by (Some t) k place payload line is = decoded_fields k place t.name t.form (length payload) (decoded t.form payload) line is

pub returns-clause-line : goal.returns-clause-line
returns-clause-line c types k place m fields are = line_by (table_for types m.header) k place m.payload fields are

pub returns-clause-fields : goal.returns-clause-fields
returns-clause-fields c types k place m line is = fields_by (table_for types m.header) k place m.payload line is
