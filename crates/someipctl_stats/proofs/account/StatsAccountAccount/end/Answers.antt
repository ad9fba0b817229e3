use Rattle.std.proofs.Common.{ap, inl, inr}
use Rattle.someipctl_io.proofs.SendingLemmas.{OnErr-any, Sends-nil}
use Rattle.someipctl_stats.specs.StatsAccount.{EndsStats, stats_text, view_asked}
use Rattle.someipctl_stats.proofs.AccountLemmas.{ends_audited, ends_unaudited}
use Rattle.someipctl_stats.proofs.account.StatsAccountAccount.end.Goals.{in-Some+in_ok-count_due, in_default}
use Rattle.someipctl_stats.proofs.account.StatsAccountAccount.end.Goals as goal

pub returns-in_err-count_due-clause-stops : goal.returns-in_err-count_due-clause-stops
returns-in_err-count_due-clause-stops g c =
    OnErr-any c.from_residual.result (inl (record { unsent = c.args.buffer.now; sends = Sends-nil (g.W.Write.contents c.args.writer.now) c.args.buffer.now }))

pub returns-in_err-put_stats-clause-stops : goal.returns-in_err-put_stats-clause-stops
returns-in_err-put_stats-clause-stops g c =
    let now = view_asked c.match-self.self-inside.asked in
    let later = c.match-self.self-inside.counting in
    let asked = view_asked c.self.inside.asked in
    let ends : EndsStats c.args.self.now c.args.last (stats_text now.form later) = elim c.match-self.branch [
      | in-Some+in_ok-count_due w ↦ ends_audited c.args.self.now asked now c.self.inside.audit c.self.inside.counting later w.in-Some.audit w.count_due.new.audit w.count_due.new.figures c.args.last
          c.self.view_is w.in-Some.is (ap (λ i. view_asked i.asked) w.self-inside-is) w.in_ok-count_due.ensures (ap (λ i. i.counting) w.self-inside-is)
      | in_default w ↦ ends_unaudited c.args.self.now asked now c.self.inside.audit c.self.inside.counting later c.args.last
          c.self.view_is w.in_default.is (ap (λ i. view_asked i.asked) w.self-inside-is) (ap (λ i. i.counting) w.self-inside-is)
    ] in
    OnErr-any c.from_residual-in_err-put_stats.result (inr (record { text = _; ends_so = ends; stops = c.in_err-put_stats.ensures.err }))

pub returns-clause-puts : goal.returns-clause-puts
returns-clause-puts g c =
    let now = view_asked c.match-self.self-inside.asked in
    let later = c.match-self.self-inside.counting in
    let asked = view_asked c.self.inside.asked in
    let ends : EndsStats c.args.self.now c.args.last (stats_text now.form later) = elim c.match-self.branch [
      | in-Some+in_ok-count_due w ↦ ends_audited c.args.self.now asked now c.self.inside.audit c.self.inside.counting later w.in-Some.audit w.count_due.new.audit w.count_due.new.figures c.args.last
          c.self.view_is w.in-Some.is (ap (λ i. view_asked i.asked) w.self-inside-is) w.in_ok-count_due.ensures (ap (λ i. i.counting) w.self-inside-is)
      | in_default w ↦ ends_unaudited c.args.self.now asked now c.self.inside.audit c.self.inside.counting later c.args.last
          c.self.view_is w.in_default.is (ap (λ i. view_asked i.asked) w.self-inside-is) (ap (λ i. i.counting) w.self-inside-is)
    ] in
    record { text = _; ends_so = ends; sends = c.in_ok-put_stats.ensures.ok }
