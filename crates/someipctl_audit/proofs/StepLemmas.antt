-- What is printed of one datagram, step by step.
use Rattle.std.proofs.Common.{◌≡◌, ℕ, ◌+◌, List, [], ◌∷◌, ◌++◌, map, filter, if◌then◌else◌, Option, Some, None, Result, Ok, Err, refl, sym, ap, subst, ◌∙◌, append_assoc, inl, inr}
use Rattle.std.specs.Result.{OnOk}
use Rattle.std.proofs.lemmas.List.{append-nil, map-append}
use Rattle.std.proofs.lemmas.List.Elements.{filter-append}
use Rattle.recording.specs.declared.Time.{Time}
use Rattle.someip_tables.specs.declared.hashed.Origin.{Origin}
use Rattle.someip_audit.specs.declared.FellDue.{FellDue}
use Rattle.someip_audit.specs.declared.Finding.{Finding}
use Rattle.someip_audit.specs.FellDues.{after_due}
use Rattle.someipctl_audit.specs.declared.noted.Noted.{Noted}
use Rattle.someip_audit.specs.Audits.{AuditState, Drains, Hears, IsNext, IsNoneDue, Report, Seen, after_seen, fell, found, seen_messages, seen_shown}
use Rattle.someipctl_io.specs.Sending.{Sends, Stops}
use Rattle.someipctl_io.proofs.SendingLemmas.{Sends-nil, Sends-trans, Stops-after}
use Rattle.someipctl_audit.specs.declared.tally.Tally.{Tally}
use Rattle.someipctl_audit.specs.AskedAudits.{AskedAudit}
use Rattle.someipctl_audit.specs.AuditText.{Looked, group_of, noted_all, is_due_told, kind_of, shown_lines}
use Rattle.someipctl_audit.specs.Notes.{note}
use Rattle.someipctl_audit.specs.SeenIn.{DrainsSome, looked_more}
use Rattle.someipctl_audit.specs.Steps.{CountsMore, PutsDue, PutsSeen, StopsDue, StopsSeen, fell_told, is_told_at, line_at, lines_at, told_at}
use Rattle.someipctl_audit.specs.Tallies.{Counts, tally_after, tally_looked}
use Rattle.someipctl_audit.proofs.TallyLemmas.{counts_more, counts_regrouped}
use Rattle.someipctl_audit.proofs.ShownLemmas.{all_fell, all_filter, noted_all-append, same_lines, shown_lines-append}

pub stops_here : (a : Option (List ℕ)) (held : List ℕ) (b : Option (List ℕ)) (waits text : List ℕ) → Sends a held b waits text → Stops a held b text
stops_here a held b waits text sends = record { unsent = waits; sends = sends }

pub on_ok_two : {T E P Q R : Type 0} (r : Result T E) → (P → Q → R) → OnOk r P → OnOk r Q → OnOk r R
on_ok_two (Ok x) f p q = f p q
on_ok_two (Err e) f p q = tt

-- ---- counting

pub counts_none : (t : Tally) → CountsMore t t []
counts_none t = (λ reports looked counts. subst (λ (l : List Report). Counts t l looked) (sym (append-nil reports)) counts, refl)

-- one report, in its group
pub counts_one : (before after : Tally) (report : Report) → after ≡ tally_after (kind_of report) (record before { noted = note (group_of report) before.noted }) → CountsMore before after (report ∷ [])
counts_one before after report is = (
  λ reports looked counts.
      subst (λ t. Counts t (reports ++ report ∷ []) looked) (sym is)
      (counts_more (record before { noted = note (group_of report) before.noted }) reports looked report (counts_regrouped before (note (group_of report) before.noted) reports looked counts)),
  ap (λ (t : Tally). t.noted) is,
)

pub counts_both : (before between later : Tally) (one more : List Report) → CountsMore before between one → CountsMore between later more → CountsMore before later (one ++ more)
counts_both before between later one more first others = (
  λ reports looked counts.
      subst (λ (l : List Report). Counts later l looked) (append_assoc reports one more) (others.0 (reports ++ one) looked (first.0 reports looked counts)),
  others.1 ∙ ap (λ g. noted_all g more) first.1 ∙ sym (noted_all-append before.noted one more),
)

-- ---- what is told

pub told_more : (asked : AskedAudit) (time : Option Time) (one more : List Report) → told_at asked time (one ++ more) ≡ told_at asked time one ++ told_at asked time more
told_more asked time one more = filter-append (is_told_at asked time) one more

pub fell_told_more : (asked : AskedAudit) (one more : List FellDue) → fell_told asked (one ++ more) ≡ fell_told asked one ++ fell_told asked more
fell_told_more asked one more = ap (filter (is_told_at asked None)) (map-append fell one more) ∙ told_more asked None (map fell one) (map fell more)

-- what fell due is told whatever the time of a datagram
pub fell_told_at : (asked : AskedAudit) (time : Option Time) (told : List FellDue) → fell_told asked told ≡ told_at asked time (map fell told)
fell_told_at asked time [] = refl
fell_told_at asked time (one ∷ told) = ap (λ (l : List Report). if is_due_told asked one then fell one ∷ l else l) (fell_told_at asked time told)

-- the lines of some, and of others behind them
pub lines_on : (asked : AskedAudit) (time : Option Time) (noted after : Noted) (one more : List Report) → after ≡ noted_all noted (told_at asked time one)
    → lines_at asked time noted one ++ lines_at asked time after more ≡ lines_at asked time noted (one ++ more)
lines_on asked time noted after one more is =
    ap (λ g. lines_at asked time noted one ++ lines_at asked time g more) is
    ∙ sym (shown_lines-append (line_at asked time) noted (told_at asked time one) (told_at asked time more))
    ∙ ap (shown_lines (line_at asked time) noted) (sym (told_more asked time one more))

-- ---- what fell due

-- some of what fell due was printed and counted, and the audit is this one then
pub record IsDraining (asked : AskedAudit) (now : ℕ) (before current : AuditState) (tally counted : Tally) (a : Option (List ℕ)) (held : List ℕ) (b : Option (List ℕ)) (waits : List ℕ) : Type 0 where
  pub told : List FellDue
  pub drains : (others : List FellDue) (after : AuditState) → Drains now current others after → Drains now before (told ++ others) after
  pub some : (others : List FellDue) → DrainsSome now current others → DrainsSome now before (told ++ others)
  pub sends : Sends a held b waits (lines_at asked None tally.noted (map fell told))
  pub counts : CountsMore tally counted (fell_told asked told)

pub draining_begin : (asked : AskedAudit) (now : ℕ) (state : AuditState) (tally : Tally) (a : Option (List ℕ)) (held : List ℕ) → IsDraining asked now state state tally tally a held a held
draining_begin asked now state tally a held = record { told = []; drains = λ others after d. d; some = λ others d. d; sends = Sends-nil a held; counts = counts_none tally }

lines_more : (asked : AskedAudit) (noted after : Noted) (told : List FellDue) (one : FellDue) → after ≡ noted_all noted (fell_told asked told)
    → lines_at asked None noted (map fell told) ++ lines_at asked None after (fell one ∷ []) ≡ lines_at asked None noted (map fell (told ++ one ∷ []))
lines_more asked noted after told one is =
    lines_on asked None noted after (map fell told) (fell one ∷ []) is ∙ ap (lines_at asked None noted) (sym (map-append fell told (one ∷ [])))

pub draining_more : (asked : AskedAudit) (now : ℕ) (before current next : AuditState) (tally counted more : Tally) (a : Option (List ℕ)) (held : List ℕ) (b : Option (List ℕ)) (waits : List ℕ) (c : Option (List ℕ)) (new : List ℕ) (one : FellDue)
    → IsDraining asked now before current tally counted a held b waits → IsNext now current one → next ≡ after_due now (Some one) current
    → Sends b waits c new (lines_at asked None counted.noted (fell one ∷ [])) → CountsMore counted more (fell_told asked (one ∷ [])) → IsDraining asked now before next tally more a held c new
draining_more asked now before current next tally counted more a held b waits c new one is first left sends counted_is = record {
  told = is.told ++ one ∷ [];
  drains = λ others after d.
      subst (λ (l : List FellDue). Drains now before l after) (sym (append_assoc is.told (one ∷ []) others)) (is.drains (one ∷ others) after (first, subst (λ s. Drains now s others after) left d));
  some = λ others d.
      subst (DrainsSome now before) (sym (append_assoc is.told (one ∷ []) others)) (is.some (one ∷ others) (first, subst (λ s. DrainsSome now s others) left d));
  sends = subst (Sends a held c new) (lines_more asked tally.noted counted.noted is.told one is.counts.1)
      (Sends-trans a b c held waits new (lines_at asked None tally.noted (map fell is.told)) (lines_at asked None counted.noted (fell one ∷ [])) is.sends sends);
  counts = subst (CountsMore tally more) (sym (fell_told_more asked is.told (one ∷ []))) (counts_both tally counted more (fell_told asked is.told) (fell_told asked (one ∷ [])) is.counts counted_is);
}

-- none is left
pub draining_end : (asked : AskedAudit) (now : ℕ) (before current after : AuditState) (tally counted : Tally) (a : Option (List ℕ)) (held : List ℕ) (b : Option (List ℕ)) (waits : List ℕ)
    → IsDraining asked now before current tally counted a held b waits → IsNoneDue now current → after ≡ after_due now None current → PutsDue asked now before after tally counted a held b waits
draining_end asked now before current after tally counted a held b waits is none left = record {
  told = is.told;
  drains = subst (λ (l : List FellDue). Drains now before l after) (append-nil is.told) (is.drains [] after (none, left));
  sends = is.sends;
  counts = is.counts;
}

-- printing the next one stops
pub draining_stop : (asked : AskedAudit) (now : ℕ) (before current : AuditState) (tally counted : Tally) (a : Option (List ℕ)) (held : List ℕ) (b : Option (List ℕ)) (waits : List ℕ) (c : Option (List ℕ)) (one : FellDue)
    → IsDraining asked now before current tally counted a held b waits → IsNext now current one → Stops b waits c (lines_at asked None counted.noted (fell one ∷ [])) → StopsDue asked now before tally.noted a held c
draining_stop asked now before current tally counted a held b waits c one is first stops = record {
  told = is.told ++ one ∷ [];
  some = is.some (one ∷ []) (first, tt);
  stops = subst (Stops a held c) (lines_more asked tally.noted counted.noted is.told one is.counts.1)
      (Stops-after a b c held waits (lines_at asked None tally.noted (map fell is.told)) (lines_at asked None counted.noted (fell one ∷ [])) is.sends stops);
}

-- it ends before the next one
pub draining_rest : (asked : AskedAudit) (now : ℕ) (before current : AuditState) (tally counted : Tally) (a : Option (List ℕ)) (held : List ℕ) (b : Option (List ℕ)) (waits : List ℕ)
    → IsDraining asked now before current tally counted a held b waits → StopsDue asked now before tally.noted a held b
draining_rest asked now before current tally counted a held b waits is = record {
  told = is.told;
  some = subst (DrainsSome now before) (append-nil is.told) (is.some [] tt);
  stops = stops_here a held b waits (lines_at asked None tally.noted (map fell is.told)) is.sends;
}

-- ---- a datagram

fell_lines : (asked : AskedAudit) (time : Option Time) (noted : Noted) (told : List FellDue) → lines_at asked None noted (map fell told) ≡ lines_at asked time noted (map fell told)
fell_lines asked time noted told =
    same_lines (line_at asked None) (line_at asked time) noted (fell_told asked told)
    (all_filter (line_at asked None) (line_at asked time) (is_told_at asked None) (map fell told) (all_fell (line_at asked None) (line_at asked time) (λ one. refl) told))
    ∙ ap (shown_lines (line_at asked time) noted) (fell_told_at asked time told)

seen_lines : (asked : AskedAudit) (time : Option Time) (origin : Origin) (noted after : Noted) (told : List FellDue) (findings : List Finding) → after ≡ noted_all noted (fell_told asked told)
    → lines_at asked None noted (map fell told) ++ lines_at asked time after (map (found origin) findings) ≡ lines_at asked time noted (map fell told ++ map (found origin) findings)
seen_lines asked time origin noted after told findings is =
    ap (λ (t : List ℕ). t ++ lines_at asked time after (map (found origin) findings)) (fell_lines asked time noted told)
    ∙ lines_on asked time noted after (map fell told) (map (found origin) findings) (is ∙ ap (noted_all noted) (fell_told_at asked time told))

noted_looked : (t : Tally) (n : Option ℕ) → (tally_looked n t).noted ≡ t.noted
noted_looked t None = refl
noted_looked t (Some n) = refl

counts_looked : (t : Tally) (n : Option ℕ) (reports : List Report) (looked : Looked) → Counts t reports looked → Counts (tally_looked n t) reports (looked_more n looked)
counts_looked t None reports looked counts = record {
  datagrams = counts.datagrams;
  messages = counts.messages;
  passed = ap (λ k. k + 1) counts.passed;
  findings = counts.findings;
  size = counts.size;
  kinds = counts.kinds;
}
counts_looked t (Some n) reports looked counts = record {
  datagrams = ap (λ k. k + 1) counts.datagrams;
  messages = ap (λ k. k + n) counts.messages;
  passed = counts.passed;
  findings = counts.findings;
  size = counts.size;
  kinds = counts.kinds;
}

drains_some : (now : ℕ) (before after : AuditState) (told : List FellDue) → Drains now before told after → DrainsSome now before told
drains_some now before after [] drains = tt
drains_some now before after (one ∷ told) drains = (drains.0, drains_some now (after_due now (Some one) before) after told drains.1)

-- all of it was heard
heard : (seen : Seen) (before between after : AuditState) (told : List FellDue) (findings : List Finding) → Drains seen.now before told between
    → findings ≡ seen_shown seen between → after ≡ after_seen seen between → Hears before seen (map fell told ++ map (found seen.origin) findings) after
heard seen before between after told findings drains shown left = record {
  told = told;
  between = between;
  drains = drains;
  reported = ap (λ (l : List Finding). map fell told ++ map (found seen.origin) l) shown;
  left = left;
}

pub seen_end : (asked : AskedAudit) (time : Option Time) (seen : Seen) (before between after : AuditState) (tally counted looked_at later : Tally) (a : Option (List ℕ)) (held : List ℕ) (b : Option (List ℕ)) (waits : List ℕ) (c : Option (List ℕ)) (new : List ℕ)
    (findings : List Finding) → PutsDue asked seen.now before between tally counted a held b waits → findings ≡ seen_shown seen between → after ≡ after_seen seen between
    → looked_at ≡ tally_looked (seen_messages seen between) counted → Sends b waits c new (lines_at asked time looked_at.noted (map (found seen.origin) findings)) → CountsMore looked_at later (told_at asked time (map (found seen.origin) findings))
    → PutsSeen asked time seen before after tally later a held c new
unfolding heard
seen_end asked time seen before between after tally counted looked_at later a held b waits c new findings due shown left is sends more = record {
  told = map fell due.told ++ map (found seen.origin) findings;
  hears = heard seen before between after due.told findings due.drains shown left;
  sends = subst (Sends a held c new) (seen_lines asked time seen.origin tally.noted looked_at.noted due.told findings (same ∙ due.counts.1))
      (Sends-trans a b c held waits new (lines_at asked None tally.noted (map fell due.told)) (lines_at asked time looked_at.noted (map (found seen.origin) findings)) due.sends sends);
  counts = λ reports looked counts.
      let fallen = fell_told asked due.told in
      let shown_told = told_at asked time (map (found seen.origin) findings) in
      let one = counts_looked counted (seen_messages seen between) (reports ++ fallen) looked (due.counts.0 reports looked counts) in
      subst (λ (l : List Report). Counts later l (looked_more (seen_messages seen between) looked))
      (append_assoc reports fallen shown_told
      ∙ ap (λ (l : List Report). reports ++ l) (ap (λ (l : List Report). l ++ shown_told) (fell_told_at asked time due.told) ∙ sym (told_more asked time (map fell due.told) (map (found seen.origin) findings))))
      (more.0 (reports ++ fallen) (looked_more (seen_messages seen between) looked) (subst (λ t. Counts t (reports ++ fallen) (looked_more (seen_messages seen between) looked)) (sym is) one));
  noted = more.1 ∙ ap (λ g. noted_all g (told_at asked time (map (found seen.origin) findings))) (same ∙ due.counts.1 ∙ ap (noted_all tally.noted) (fell_told_at asked time due.told))
      ∙ sym (noted_all-append tally.noted (told_at asked time (map fell due.told)) (told_at asked time (map (found seen.origin) findings)))
      ∙ ap (noted_all tally.noted) (sym (told_more asked time (map fell due.told) (map (found seen.origin) findings)));
}
  where
    same : looked_at.noted ≡ counted.noted
    same = ap (λ (t : Tally). t.noted) is ∙ noted_looked counted (seen_messages seen between)

-- it stops among what fell due
pub seen_stop_due : (asked : AskedAudit) (time : Option Time) (seen : Seen) (before : AuditState) (noted : Noted) (a : Option (List ℕ)) (held : List ℕ) (b : Option (List ℕ)) → StopsDue asked seen.now before noted a held b → StopsSeen asked time seen before noted a held b
seen_stop_due asked time seen before noted a held b due = record {
  told = map fell due.told;
  some = inl (due.told, due.some, refl);
  stops = subst (Stops a held b) (fell_lines asked time noted due.told) due.stops;
}

-- it stops after what fell due
pub seen_stop : (asked : AskedAudit) (time : Option Time) (seen : Seen) (before between : AuditState) (tally counted : Tally) (a : Option (List ℕ)) (held : List ℕ) (b : Option (List ℕ)) (waits : List ℕ)
    → PutsDue asked seen.now before between tally counted a held b waits → StopsSeen asked time seen before tally.noted a held b
seen_stop asked time seen before between tally counted a held b waits due = record {
  told = map fell due.told;
  some = inl (due.told, drains_some seen.now before between due.told due.drains, refl);
  stops = subst (Stops a held b) (fell_lines asked time tally.noted due.told) (stops_here a held b waits (lines_at asked None tally.noted (map fell due.told)) due.sends);
}

-- it stops among what it shows
pub seen_stop_found : (asked : AskedAudit) (time : Option Time) (seen : Seen) (before between after : AuditState) (tally counted looked_at : Tally) (a : Option (List ℕ)) (held : List ℕ) (b : Option (List ℕ)) (waits : List ℕ) (c : Option (List ℕ))
    (findings : List Finding) → PutsDue asked seen.now before between tally counted a held b waits → findings ≡ seen_shown seen between → after ≡ after_seen seen between
    → looked_at ≡ tally_looked (seen_messages seen between) counted → Stops b waits c (lines_at asked time looked_at.noted (map (found seen.origin) findings)) → StopsSeen asked time seen before tally.noted a held c
seen_stop_found asked time seen before between after tally counted looked_at a held b waits c findings due shown left is stops = record {
  told = map fell due.told ++ map (found seen.origin) findings;
  some = inr (after, heard seen before between after due.told findings due.drains shown left);
  stops = subst (Stops a held c)
      (seen_lines asked time seen.origin tally.noted looked_at.noted due.told findings (ap (λ (t : Tally). t.noted) is ∙ noted_looked counted (seen_messages seen between) ∙ due.counts.1))
      (Stops-after a b c held waits (lines_at asked None tally.noted (map fell due.told)) (lines_at asked time looked_at.noted (map (found seen.origin) findings)) due.sends stops);
}
