use Rattle.std.proofs.Common.{◌≡◌, ◌∙◌, ap, inl, not, sym}
use Rattle.someipctl_accounts.specs.Accounts.{view_came}
use Rattle.someipctl_io.proofs.SendingLemmas.{OnErr-any, Sends-nil}
use Rattle.someipctl_audit.specs.Scenes.{view_seen}
use Rattle.someipctl_stats.specs.StatsAccount.{audit_before, view_asked}
use Rattle.someipctl_stats.proofs.AccountLemmas.{begun, stood, takes_so}
use Rattle.someipctl_stats.proofs.account.StatsAccountAccount.take.Goals.{then-is_none+in_ok-begin, else-is_none}
use Rattle.someipctl_stats.proofs.account.StatsAccountAccount.take.Goals as goal

pub returns-in_err-begin-clause-stops : goal.returns-in_err-begin-clause-stops
returns-in_err-begin-clause-stops g c =
    OnErr-any c.from_residual.result (inl (record { unsent = c.args._buffer.now; sends = Sends-nil (g.W.Write.contents c.args._writer.now) c.args._buffer.now }))

pub returns-in_err-count_datagram-in-Some-clause-stops : goal.returns-in_err-count_datagram-in-Some-clause-stops
returns-in_err-count_datagram-in-Some-clause-stops g c =
    OnErr-any c.from_residual-in_err-count_datagram-in-Some.result (inl (record { unsent = c.args._buffer.now; sends = Sends-nil (g.W.Write.contents c.args._writer.now) c.args._buffer.now }))

pub returns-clause-puts : goal.returns-clause-puts
returns-clause-puts g c =
    let asked = view_asked c.self.inside.asked in
    let seen = view_seen c.args.seen.now in
    let at : c.in-Some.audit ≡ audit_before asked c.self.inside.audit seen = elim c.if-is_none.branch [
      | then-is_none+in_ok-begin w ↦ begun asked seen c.self.inside.audit c.if-is_none.self-inside.audit c.in-Some.audit (c.is_none.ensures ∙ ap not w.if-is_none.true) (ap (λ i. i.audit) w.self-inside-is ∙ w.in_ok-begin.ensures) c.in-Some.is
      | else-is_none w ↦ stood asked seen c.self.inside.audit c.in-Some.audit (sym (ap (λ i. i.audit) w.self-inside-is) ∙ c.in-Some.is)
    ] in
    let same_asked : view_asked c.if-is_none.self-inside.asked ≡ asked = elim c.if-is_none.branch [
      | then-is_none+in_ok-begin w ↦ ap (λ i. view_asked i.asked) w.self-inside-is
      | else-is_none w ↦ ap (λ i. view_asked i.asked) w.self-inside-is
    ] in
    let same_counting : c.if-is_none.self-inside.counting ≡ c.self.inside.counting = elim c.if-is_none.branch [
      | then-is_none+in_ok-begin w ↦ ap (λ i. i.counting) w.self-inside-is
      | else-is_none w ↦ ap (λ i. i.counting) w.self-inside-is
    ] in
    record {
      text = _;
      takes_it = takes_so c.args.self.now asked (view_asked c.if-is_none.self-inside.asked) c.self.inside.audit c.self.inside.counting c.if-is_none.self-inside.counting c.count_datagram.new.counting
          (view_came c.args.seen.now) c.in-Some.audit c.count_datagram.new.audit c.self.view_is same_asked same_counting at c.in_ok-count_datagram-in-Some.ensures;
      sends = Sends-nil (g.W.Write.contents c.args._writer.now) c.args._buffer.now;
    }
