use Rattle.std.proofs.Common.{inl, inr}
use Rattle.someipctl_accounts.specs.Accounts.{view_came}
use Rattle.someipctl_io.proofs.SendingLemmas.{OnErr-any, Sends-nil}
use Rattle.someipctl_services.specs.ServiceText.{view_asked}
use Rattle.someipctl_services.proofs.TextLemmas.{takes_so}
use Rattle.someipctl_services.proofs.account.ServiceAccountAccount.take.Goals as goal

pub returns-in_err-saw-clause-stops : goal.returns-in_err-saw-clause-stops
returns-in_err-saw-clause-stops g c =
    OnErr-any c.from_residual.result (inl (record { unsent = c.args.buffer.now; sends = Sends-nil (g.W.Write.contents c.args.writer.now) c.args.buffer.now }))

pub returns-in_err-put_all-clause-stops : goal.returns-in_err-put_all-clause-stops
returns-in_err-put_all-clause-stops g c =
    OnErr-any c.from_residual-in_err-put_all.result
    (inr (record {
      text = _;
      after = _;
      takes_it = takes_so c.args.self.now (view_asked c.self.inside.asked) c.self.inside.history c.saw.new.self (view_came c.args.seen.now) c.told.result.now c.self.view_is c.in_ok-saw.ensures c.told.ensures;
      stops = c.in_err-put_all.ensures.err;
    }))

pub returns-clause-puts : goal.returns-clause-puts
returns-clause-puts g c = record {
  text = _;
  takes_it = takes_so c.args.self.now (view_asked c.self.inside.asked) c.self.inside.history c.saw.new.self (view_came c.args.seen.now) c.told.result.now c.self.view_is c.in_ok-saw.ensures c.told.ensures;
  sends = c.in_ok-put_all.ensures.ok;
}
