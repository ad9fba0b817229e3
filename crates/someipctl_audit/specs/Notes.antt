-- What is noted of the findings that are told: what came of each group, and by the rules of a bench.
use Rattle.std.specs.Prelude.{ℕ, ◌==◌, Bool, true, false, if◌then◌else◌, List, [], ◌∷◌, ◌++◌, codes}
use Rattle.std.specs.List.{flat_map}
use Rattle.audit_rules.specs.declared.kind.Kind.{Kind}
use Rattle.audit_rules.specs.declared.rule.Rule.{Rule}
use Rattle.audit_rules.specs.declared.rules.Weight.{Weight}
use Rattle.audit_rules.specs.declared.rules.Weight.TheVariants.{Allowed, Bounded, Counts}
use Rattle.audit_rules.specs.declared.weights.Exceeded.{Exceeded}
use Rattle.audit_rules.specs.Fitting.{weight_by}
use Rattle.audit_rules.specs.Kinds.{all_kinds, kind_name, kind_number, kind_words}
use Rattle.audit_rules.specs.Weighing.{Weights, exceeded, weighed, weights_begun}
use Rattle.someip_audit.specs.declared.groups.group_key.GroupKey.{GroupKey}
use Rattle.someipctl_io.specs.declared.form.Form.{Form}
use Rattle.someipctl_io.specs.declared.form.Form.TheVariants.{Plain, Json}
use Rattle.someipctl_io.specs.ToldLines.{ToldField, field, line_text, number, text}
use Rattle.someipctl_show.specs.VerdictForms.{head_of, no_head, wordless}
use Rattle.someipctl_audit.specs.declared.noted.Noted.{Noted}
use Rattle.someipctl_audit.specs.Groupings.{grouped, groups_begun, groups_text, id_or_nothing, is_one_shown}

-- before any finding came; findings may be grouped
abbrev pub noted_begun : Bool → List Rule → Noted
noted_begun group bench = record { groups = groups_begun group; weights = weights_begun bench }

-- one more of a group is shown
abbrev pub is_shown : Noted → GroupKey → Bool
is_shown noted key = is_one_shown noted.groups key

-- one more came
abbrev pub note : GroupKey → Noted → Noted
note key noted = record { groups = grouped key noted.groups; weights = weighed key.kind key.service key.method noted.weights }

-- ---- by the rules

-- findings of such a group are allowed
abbrev pub is_allowed_as : Weight → Bool
is_allowed_as Counts = false
is_allowed_as Allowed = true
is_allowed_as (Bounded place) = false

abbrev pub is_allowed : List Rule → GroupKey → Bool
is_allowed bench key = is_allowed_as (weight_by bench key.kind key.service key.method)

-- ---- in the summary

-- `allowed N`: how many findings are allowed, if any are
abbrev pub allowed_fields : ℕ → List ToldField
allowed_fields n = field (codes " ") (codes "count") (number n) ∷ []

abbrev pub allowed_line : Form → ℕ → List ℕ
allowed_line Plain n = line_text Plain (head_of (field [] (codes "kind") (text (codes "allowed")) ∷ [])) (wordless (codes "allowed") (allowed_fields n))
allowed_line Json n = line_text Json no_head (wordless (codes "allowed") (allowed_fields n))

abbrev pub allowed_text : Form → ℕ → List ℕ
allowed_text form n = if n == 0 then [] else allowed_line form n

-- `KIND SERVICE.METHOD at most N came M`, with - for a service or a method that the rule does not name
abbrev pub exceeded_fields : Exceeded → List ToldField
exceeded_fields one =
    field (codes " ") (codes "service") (id_or_nothing one.service) ∷ field (codes ".") (codes "method") (id_or_nothing one.method)
    ∷ field (codes " at most ") (codes "most") (number one.most) ∷ field (codes " came ") (codes "came") (number one.came) ∷ []

abbrev pub exceeded_line : Form → Kind → Exceeded → List ℕ
exceeded_line Plain kind one = line_text Plain (head_of (field [] (codes "kind") (text (kind_words kind)) ∷ [])) (wordless (kind_name kind) (exceeded_fields one))
exceeded_line Json kind one = line_text Json no_head (wordless (kind_name kind) (exceeded_fields one))

-- that line, where more than may came of the kind
abbrev pub exceeded_of_kind : Form → Kind → Exceeded → List ℕ
exceeded_of_kind form kind one = if one.kind == kind_number kind then exceeded_line form kind one else []

abbrev pub all_of_kind : Form → List Exceeded → Kind → List ℕ
all_of_kind form list kind = flat_map (exceeded_of_kind form kind) list

-- those of each kind, in the order of the summary, and of one kind by the rules in their order
abbrev pub exceeded_lines : Form → List Exceeded → List Kind → List ℕ
exceeded_lines form list kinds = flat_map (all_of_kind form list) kinds

abbrev pub weights_text : Form → Weights → List ℕ
weights_text form weights = allowed_text form weights.allowed ++ exceeded_lines form (exceeded weights) all_kinds

abbrev pub noted_text : Form → Noted → List ℕ
noted_text form noted = groups_text form noted.groups ++ weights_text form noted.weights
