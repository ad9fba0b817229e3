-- Which findings of a group are shown, and how many more there were.
use Rattle.std.specs.Prelude.{ℕ, ◌==◌, Bool, true, false, if◌then◌else◌, List, [], ◌∷◌, ◌++◌, codes, Option, None, Some}
use Rattle.std.specs.List.{flat_map}
use Rattle.std.specs.Option.{option_and_then}
use Rattle.std.specs.FinMap as finite
use Rattle.someip_tables.specs.declared.hashed.Origin.{Origin}
use Rattle.someip_audit.specs.declared.groups.GroupKey.{GroupKey}
use Rattle.someip_audit.specs.declared.groups.Grouped.{Grouped}
use Rattle.someip_audit.specs.groups.GroupTables.{Groups, after_one, is_one_told, more_by}
use Rattle.someipctl_io.specs.declared.form.Form.{Form}
use Rattle.someipctl_io.specs.declared.form.Form.TheVariants.{Plain, Json}
use Rattle.someipctl_io.specs.ToldLines.{Content, ToldField, endpoint, field, id, line_text, mark, nothing, number, text}
use Rattle.someipctl_show.specs.VerdictForms.{head_of, no_head, wordless}
use Rattle.audit_rules.specs.declared.kind.Kind.{Kind}
use Rattle.someipctl_audit.specs.declared.subject.Subject.{Subject}
use Rattle.audit_rules.specs.Kinds.{all_kinds, kind_name, kind_number, kind_words}

-- ---- what those of a group have in common

-- their kind, the service and the method that they name, and the endpoints of their datagrams
abbrev pub group_key : Kind → Option Subject → Origin → GroupKey
group_key kind subject origin = record {
  kind = kind_number kind;
  service = option_and_then (λ (s : Subject). s.service) subject;
  method = option_and_then (λ (s : Subject). s.method) subject;
  from = origin.from;
  to = origin.to;
}

-- ---- which are shown

-- a book of groups at the beginning, where grouping is asked for
abbrev pub groups_begun : Bool → Option Groups
groups_begun false = None
groups_begun true = Some (record { limit = 65536; numbers = finite.empty })

-- one more of a group is shown: without a book each is
abbrev pub is_one_shown : Option Groups → GroupKey → Bool
is_one_shown None key = true
is_one_shown (Some book) key = is_one_told key book

-- one more of a group came
abbrev pub grouped : GroupKey → Option Groups → Option Groups
grouped key None = None
grouped key (Some book) = Some (after_one key book)

-- ---- how many more there were

abbrev pub id_or_nothing : Option ℕ → Content
id_or_nothing None = nothing
id_or_nothing (Some n) = id n

abbrev pub group_fields : Grouped → List ToldField
group_fields one =
    field (codes " ") (codes "service") (id_or_nothing one.key.service) ∷ field (codes ".") (codes "method") (id_or_nothing one.key.method)
    ∷ field (codes " ") (codes "from") (endpoint one.key.from) ∷ field (codes " ") (codes "to") (endpoint one.key.to)
    ∷ field (codes " ") (codes "more") (number one.more) ∷ []

-- plain `KIND SERVICE.METHOD FROM TO N more`, with - for a service or a method that is not named
abbrev pub grouped_line : Form → Kind → Grouped → List ℕ
grouped_line Plain kind one =
    line_text Plain (head_of (field [] (codes "kind") (text (kind_words kind)) ∷ [])) (wordless (kind_name kind) (group_fields one ++ field (codes " more") (codes "rest") mark ∷ []))
grouped_line Json kind one = line_text Json no_head (wordless (kind_name kind) (group_fields one))

-- that line, where the group is of the kind
abbrev pub line_of_kind : Form → Kind → Grouped → List ℕ
line_of_kind form kind one = if one.key.kind == kind_number kind then grouped_line form kind one else []

abbrev pub lines_of_kind : Form → List Grouped → Kind → List ℕ
lines_of_kind form groups kind = flat_map (line_of_kind form kind) groups

-- those of each kind, in the order of the summary
abbrev pub grouped_lines : Form → List Grouped → List Kind → List ℕ
grouped_lines form groups kinds = flat_map (lines_of_kind form groups) kinds

abbrev pub groups_text : Form → Option Groups → List ℕ
groups_text form None = []
groups_text form (Some book) = grouped_lines form (more_by book) all_kinds
