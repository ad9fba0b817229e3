-- What an audit counts, step by step.
use Rattle.std.specs.Prelude.{◌≡◌, ℕ, ◌+◌, max, List, length, slice_index, slice_set, Option, None, Some}
use Rattle.std.specs.List.{flat_map}
use Rattle.someip_audit.specs.Audits.{Report}
use Rattle.someipctl_io.specs.declared.form.Form.{Form}
use Rattle.audit_rules.specs.declared.kind.Kind.{Kind}
use Rattle.someipctl_audit.specs.declared.tally.Tally.{Tally}
use Rattle.audit_rules.specs.Kinds.{kind_number}
use Rattle.someipctl_audit.specs.AuditText.{Looked, audited_line, count_of, kind_line}

-- one more finding of a kind
abbrev pub tally_after : Kind → Tally → Tally
tally_after kind t = record t { reports = t.reports + 1; findings = t.findings + 1; kinds = slice_set t.kinds (kind_number kind) (slice_index t.kinds (kind_number kind) + 1) }

-- one more that is not told
abbrev pub tally_passed : Tally → Tally
tally_passed t = record t { reports = t.reports + 1 }

-- one more datagram, with so many messages where it is looked at
abbrev pub tally_looked : Option ℕ → Tally → Tally
tally_looked None t = record t { passed = t.passed + 1 }
tally_looked (Some n) t = record t { datagrams = t.datagrams + 1; messages = t.messages + n }

-- the greatest number after that: of all findings, of those that are told, and of those of the kind; of the datagrams, or of those that are not looked at, and of their messages
abbrev pub most_told : Kind → Tally → ℕ
most_told kind t = max (max (t.reports + 1) (t.findings + 1)) (slice_index t.kinds (kind_number kind) + 1)

abbrev pub most_looked : Option ℕ → Tally → ℕ
most_looked None t = t.passed + 1
most_looked (Some n) t = max (t.datagrams + 1) (t.messages + n)

-- these reports and datagrams were counted
pub record Counts (t : Tally) (reports : List Report) (looked : Looked) : Type 0 where
  pub datagrams : t.datagrams ≡ looked.datagrams
  pub messages : t.messages ≡ looked.messages
  pub passed : t.passed ≡ looked.passed
  pub findings : t.findings ≡ length reports
  pub size : length t.kinds ≡ 28
  pub kinds : (kind : Kind) → slice_index t.kinds (kind_number kind) ≡ count_of kind reports

-- ---- the text of what was counted

abbrev pub looked_in : Tally → Looked
looked_in t = record { datagrams = t.datagrams; messages = t.messages; passed = t.passed; ended = None }

abbrev pub tally_line : Form → Tally → List ℕ
tally_line form t = audited_line form (looked_in t) t.findings

abbrev pub tally_kinds : Form → List ℕ → List Kind → List ℕ
tally_kinds form numbers kinds = flat_map (λ kind. kind_line form kind (slice_index numbers (kind_number kind))) kinds
