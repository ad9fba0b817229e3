-- The lines of reports, of which those of a group beyond the third are left out.
use Rattle.std.specs.Prelude.{⊤}
use Rattle.std.proofs.Common.{◌≡◌, ℕ, Bool, true, false, List, [], ◌∷◌, ◌++◌, map, filter, if◌then◌else◌, None, refl, sym, ap, ◌∙◌, append_assoc}
use Rattle.std.specs.List.{flat_map}
use Rattle.someip_tables.specs.declared.hashed.Origin.{Origin}
use Rattle.someip_audit.specs.declared.FellDue.{FellDue}
use Rattle.someip_audit.specs.declared.Finding.{Finding}
use Rattle.audit_rules.specs.Weighing.{Weights, weighed}
use Rattle.someipctl_audit.specs.declared.noted.Noted.{Noted}
use Rattle.someip_audit.specs.Audits.{Report, fell, found}
use Rattle.someipctl_audit.specs.AuditText.{group_of, noted_all, line_if, shown_lines}
use Rattle.someipctl_audit.specs.Notes.{note, is_shown}

pub noted_all-append : (noted : Noted) (one more : List Report) → noted_all noted (one ++ more) ≡ noted_all (noted_all noted one) more
noted_all-append noted [] more = refl
noted_all-append noted (report ∷ one) more = noted_all-append (note (group_of report) noted) one more

pub shown_lines-append : (line : Report → List ℕ) (noted : Noted) (one more : List Report)
    → shown_lines line noted (one ++ more) ≡ shown_lines line noted one ++ shown_lines line (noted_all noted one) more
shown_lines-append line noted [] more = refl
shown_lines-append line noted (report ∷ one) more =
    ap (λ (t : List ℕ). line_if (is_shown noted (group_of report)) (line report) ++ t) (shown_lines-append line (note (group_of report) noted) one more)
    ∙ sym (append_assoc (line_if (is_shown noted (group_of report)) (line report)) (shown_lines line (note (group_of report) noted) one) (shown_lines line (noted_all (note (group_of report) noted) one) more))

-- each has its line where none are grouped
pub all_shown : (line : Report → List ℕ) (weights : Weights) (reports : List Report) → shown_lines line (record { groups = None; weights = weights }) reports ≡ flat_map line reports
all_shown line weights [] = refl
all_shown line weights (report ∷ reports) =
    ap (λ (t : List ℕ). line report ++ t) (all_shown line (weighed (group_of report).kind (group_of report).service (group_of report).method weights) reports)

-- ---- lines that are the same

abbrev pub AllSame : (line other : Report → List ℕ) → List Report → Type 0
AllSame line other [] = ⊤
AllSame line other (report ∷ reports) = (line report ≡ other report) × AllSame line other reports

module _ (line other : Report → List ℕ) where
  pub same_lines : (noted : Noted) (reports : List Report) → AllSame line other reports → shown_lines line noted reports ≡ shown_lines other noted reports
  same_lines noted [] same = refl
  same_lines noted (report ∷ reports) same =
      ap (λ (t : List ℕ). line_if (is_shown noted (group_of report)) t ++ shown_lines line (note (group_of report) noted) reports) same.0
      ∙ ap (λ (t : List ℕ). line_if (is_shown noted (group_of report)) (other report) ++ t) (same_lines (note (group_of report) noted) reports same.1)

  pub all_append : (one more : List Report) → AllSame line other one → AllSame line other more → AllSame line other (one ++ more)
  all_append [] more same rest = rest
  all_append (report ∷ one) more same rest = (same.0, all_append one more same.1 rest)

  pub all_filter : (p : Report → Bool) (reports : List Report) → AllSame line other reports → AllSame line other (filter p reports)
  all_filter p [] same = tt
  all_filter p (report ∷ reports) same = cases (p report) (all_filter p reports same.1)
    where
      cases : (b : Bool) → AllSame line other (filter p reports) → AllSame line other (if b then report ∷ filter p reports else filter p reports)
      cases true rest = (same.0, rest)
      cases false rest = rest

  pub all_fell : ((told : FellDue) → line (fell told) ≡ other (fell told)) → (told : List FellDue) → AllSame line other (map fell told)
  all_fell each [] = tt
  all_fell each (one ∷ told) = (each one, all_fell each told)

  pub all_found : (origin : Origin) → ((finding : Finding) → line (found origin finding) ≡ other (found origin finding)) → (findings : List Finding) → AllSame line other (map (found origin) findings)
  all_found origin each [] = tt
  all_found origin each (one ∷ findings) = (each one, all_found origin each findings)
