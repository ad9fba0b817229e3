use Rattle.std.proofs.Common.{false, refl, ap, ◌∙◌}
use Rattle.someipctl_io.specs.Outcomes.{fault_outcome}
use Rattle.someipctl_io.proofs.SendingLemmas.{OnErr-any}
use Rattle.someipctl_audit.specs.AskedAudits.{view_asked}
use Rattle.someipctl_audit.proofs.RunLemmas.{end_puts, end_stops}
use Rattle.someipctl_audit.proofs.ToldLemmas.{stops_any}
use Rattle.someipctl_audit.proofs.audits.put_end.Goals as goal

pub returns-in_err-put_closing-clause-stops : goal.returns-in_err-put_closing-clause-stops
returns-in_err-put_closing-clause-stops g c = λ reports looked counts.
    OnErr-any c.from_residual-in_err-put_closing.result
    (end_stops (view_asked c.args.asked.now) c.args.left_out c.args.gone.now c.args.auditing.now.audit c.put_last.new.audit c.put_last.new.tally reports looked _ _ _ _ _ c.in_ok-put_last.ensures.puts counts (λ all counted. c.in_err-put_closing.ensures.stops all looked counted))

pub returns-in_err-fails-clause-stops : goal.returns-in_err-fails-clause-stops
returns-in_err-fails-clause-stops g c = λ reports looked counts.
    OnErr-any c.from_residual-in_err-fails.result
    (end_stops (view_asked c.args.asked.now) c.args.left_out c.args.gone.now c.args.auditing.now.audit c.put_last.new.audit c.put_last.new.tally reports looked _ _ _ _ _ c.in_ok-put_last.ensures.puts counts (λ all counted. stops_any _ _ _))

pub returns-clause-puts : goal.returns-clause-puts
returns-clause-puts g c = λ reports looked counts.
    end_puts (view_asked c.args.asked.now) c.args.left_out c.args.gone.now c.args.auditing.now.audit c.put_last.new.audit c.put_last.new.tally reports looked _ _ _ _ _ _ (record { outcome = c.of.result; left_out = c.args.left_out; is_full = false; fault = c.args.fault }) c.in_ok-put_last.ensures.puts counts (λ all counted. c.in_ok-put_closing.ensures.puts all looked counted) (c.of.ensures ∙ ap fault_outcome c.in_ok-fails.ensures) refl
