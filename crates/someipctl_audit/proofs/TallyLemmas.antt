-- What was counted.
use Rattle.std.proofs.Common.{◌≡◌, ◌==◌, ℕ, ◌+◌, ◌<◌, Bool, true, false, List, [], ◌∷◌, ◌++◌, length, Option, refl, sym, ap, ◌∙◌, cond, lit<, add-zero, eqb-true, length-append}
use Rattle.std.proofs.lemmas.Bool.{eqb-false}
use Rattle.std.proofs.lemmas.List.{get_or-set_other, get_or-set_same, length-set}
use Rattle.std.proofs.lemmas.List.Sums.{sum_by_push}
use Rattle.std.specs.List.{flat_map, slice_index, slice_set}
use Rattle.someipctl_audit.specs.declared.noted.Noted.{Noted}
use Rattle.recording_packets.specs.declared.LeftOut.{LeftOut}
use Rattle.someip_audit.specs.Audits.{AuditState, Report}
use Rattle.someipctl_io.specs.declared.form.Form.{Form}
use Rattle.someipctl_io.specs.declared.form.Form.TheVariants.{Json, Plain}
use Rattle.someipctl_io.specs.Sending.{Sends, Stops}
use Rattle.audit_rules.specs.declared.kind.Kind.{Kind}
use Rattle.audit_rules.specs.declared.kind.Kind.TheVariants.{Malformed}
use Rattle.someipctl_audit.specs.declared.tally.Tally.{Tally}
use Rattle.audit_rules.specs.Kinds.{all_kinds, kind_number}
use Rattle.someipctl_audit.specs.AuditText.{Looked, audited_line, closing_text, count_of, kind_line, kind_of, summary_text}
use Rattle.someipctl_audit.specs.SeenIn.{ended_with}
use Rattle.someipctl_audit.specs.Notes.{noted_text}
use Rattle.someipctl_audit.specs.Unjudged.{unjudged_text}
use Rattle.someipctl_audit.specs.Tallies.{Counts, tally_after, tally_kinds, looked_in, tally_line}

-- ---- the summary

same_kinds : (form : Form) (t : Tally) (reports : List Report) (looked : Looked) (kinds : List Kind) → Counts t reports looked
    → tally_kinds form t.kinds kinds ≡ flat_map (λ kind. kind_line form kind (count_of kind reports)) kinds
same_kinds form t reports looked [] counts = refl
same_kinds form t reports looked (kind ∷ kinds) counts =
    ap (λ n. kind_line form kind n ++ tally_kinds form t.kinds kinds) (counts.kinds kind)
    ∙ ap (λ (text : List ℕ). kind_line form kind (count_of kind reports) ++ text) (same_kinds form t reports looked kinds counts)

same_line : (form : Form) (t : Tally) (reports : List Report) (looked : Looked) (n : ℕ) → Counts t reports looked → audited_line form (looked_in t) n ≡ audited_line form looked n
same_line Plain t reports looked n counts = rw (counts.datagrams, counts.messages) refl
same_line Json t reports looked n counts = rw (counts.datagrams, counts.messages) refl

pub same_summary : (form : Form) (t : Tally) (reports : List Report) (looked : Looked) → Counts t reports looked
    → tally_line form t ++ tally_kinds form t.kinds all_kinds ≡ summary_text form looked reports
same_summary form t reports looked counts =
    ap (λ (text : List ℕ). text ++ tally_kinds form t.kinds all_kinds) (same_line form t reports looked t.findings counts)
    ∙ ap (λ n. audited_line form looked n ++ tally_kinds form t.kinds all_kinds) counts.findings
    ∙ ap (λ (text : List ℕ). audited_line form looked (length reports) ++ text) (same_kinds form t reports looked all_kinds counts)

-- ---- the summary, and what an audit could not judge at its end

module _ (left_out : LeftOut) (ended : Option AuditState) (looked : Looked) (noted : Noted) (reports : List Report) where
  pub closing_sends : (form : Form) (a : Option (List ℕ)) (held : List ℕ) (b : Option (List ℕ)) (waits : List ℕ)
      → Sends a held b waits (summary_text form looked reports ++ (noted_text form noted ++ unjudged_text form left_out looked.passed ended))
      → Sends a held b waits (closing_text form left_out (ended_with ended looked) noted reports)
  closing_sends Plain a held b waits sends = sends
  closing_sends Json a held b waits sends = sends

  pub closing_stops : (form : Form) (a : Option (List ℕ)) (held : List ℕ) (b : Option (List ℕ))
      → Stops a held b (summary_text form looked reports ++ (noted_text form noted ++ unjudged_text form left_out looked.passed ended))
      → Stops a held b (closing_text form left_out (ended_with ended looked) noted reports)
  closing_stops Plain a held b stops = stops
  closing_stops Json a held b stops = stops

-- ---- one more

-- what is noted is counted apart
pub counts_regrouped : (t : Tally) (noted : Noted) (reports : List Report) (looked : Looked) → Counts t reports looked → Counts (record t { noted = noted }) reports looked
counts_regrouped t noted reports looked counts = record {
  datagrams = counts.datagrams;
  messages = counts.messages;
  passed = counts.passed;
  findings = counts.findings;
  size = counts.size;
  kinds = counts.kinds;
}

below : (kind : Kind) → kind_number kind < 28
below Malformed = lit< tt
below _ = lit< tt

one_more : (numbers : List ℕ) (n m : ℕ) → n < length numbers → slice_index (slice_set numbers n (slice_index numbers n + 1)) m ≡ slice_index numbers m + cond (n == m) 1 0
one_more numbers n m within = go (n == m) refl
  where
    go : (same : Bool) → (n == m) ≡ same → slice_index (slice_set numbers n (slice_index numbers n + 1)) m ≡ slice_index numbers m + cond same 1 0
    go true is =
        let same = eqb-true n m is in
        rw (← same) (get_or-set_same numbers n (slice_index numbers n + 1) 0 within)
    go false is =
        get_or-set_other numbers n m (slice_index numbers n + 1) 0 (λ same. eqb-false n m is (sym same))
        ∙ sym (add-zero (slice_index numbers m))

pub counts_more : (t : Tally) (reports : List Report) (looked : Looked) (report : Report) → Counts t reports looked → Counts (tally_after (kind_of report) t) (reports ++ report ∷ []) looked
counts_more t reports looked report counts =
    let n = kind_number (kind_of report) in
    let within : n < length t.kinds = rw counts.size (below (kind_of report)) in
    record {
      datagrams = counts.datagrams;
      messages = counts.messages;
      passed = counts.passed;
      findings = ap (λ n. n + 1) counts.findings ∙ sym (length-append reports (report ∷ []));
      size = length-set t.kinds n (slice_index t.kinds n + 1) ∙ counts.size;
      kinds = λ kind.
          one_more t.kinds n (kind_number kind) within
          ∙ ap (λ k. k + cond (n == kind_number kind) 1 0) (counts.kinds kind)
          ∙ sym (sum_by_push (λ r. cond (kind_number (kind_of r) == kind_number kind) 1 0) reports report);
    }
