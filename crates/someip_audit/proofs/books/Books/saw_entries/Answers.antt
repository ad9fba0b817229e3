use Rattle.std.proofs.Common.{◌+◌, ap, map, drop, sym, ◌∙◌}
use Rattle.sd_wire.specs.contents.Values.{view_read}
use Rattle.someip_audit.specs.SdShown.{entries_shown, entry_shown, working}
use Rattle.someip_audit.proofs.FrontLemmas.{begun_later, begun_sooner, entries_front, entry_front, front_further, front_moved, on_err_any}
use Rattle.audit_endpoints.proofs.LearnerLemmas.{next_left}
use Rattle.someip_audit.proofs.books.Books.saw_entries.Goals as goal

pub returns-in_err-saw_entry-clause-err : goal.returns-in_err-saw_entry-clause-err
returns-in_err-saw_entry-clause-err g c =
    let left = next_left c.args.entries.now c.loop-entry.entry-index c.entry-item.result c.loop-entry-test.true c.entry-item.is in
    let same = c.loop-entry.invariant.same in
    on_err_any c.from_residual.result
    (begun_later _ c.loop-entry.findings.items _ _ c.loop-entry.invariant.front
    (rw (← same, left)
    (begun_sooner _ _ _ _ c.in_err-saw_entry.ensures.err
    (entries_front c.args.now c.args.origin.now (map view_read (drop (c.loop-entry.entry-index + 1) c.args.entries.now)) (entry_shown c.args.now c.args.origin.now (view_read c.entry-item.result) (working c.loop-entry.self c.loop-entry.findings.items))))))

pub loop-entry-preserved : goal.loop-entry-preserved
loop-entry-preserved g c =
    let left = next_left c.args.entries.now c.loop-entry.entry-index c.entry-item.result c.loop-entry-test.true c.entry-item.is in
    record {
      same =
          ap (entries_shown c.args.now c.args.origin.now (map view_read (drop (c.loop-entry.entry-index + 1) c.args.entries.now))) c.in_ok-saw_entry.ensures.ok
          ∙ sym (ap (λ es. entries_shown c.args.now c.args.origin.now (map view_read es) (working c.loop-entry.self c.loop-entry.findings.items)) left)
          ∙ c.loop-entry.invariant.same;
      front =
          front_further _ c.loop-entry.findings.items _ c.loop-entry.invariant.front
          (front_moved _ _ c.saw_entry.new.self _ c.in_ok-saw_entry.ensures.ok
          (entry_front c.args.now c.args.origin.now (view_read c.entry-item.result) (working c.loop-entry.self c.loop-entry.findings.items)));
    }
