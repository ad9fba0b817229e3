use Rattle.std.proofs.Common.{inl, inr}
use Rattle.someipctl_io.proofs.SendingLemmas.{OnErr-any, Sends-nil}
use Rattle.someipctl_services.specs.ServiceText.{view_asked}
use Rattle.someipctl_services.proofs.TextLemmas.{ends_so}
use Rattle.someipctl_services.proofs.account.ServiceAccountAccount.end.Goals as goal

pub returns-in_err-end-clause-stops : goal.returns-in_err-end-clause-stops
returns-in_err-end-clause-stops g c =
    OnErr-any c.from_residual.result (inl (record { unsent = c.args.buffer.now; sends = Sends-nil (g.W.Write.contents c.args.writer.now) c.args.buffer.now }))

pub returns-in_err-put_all-clause-stops : goal.returns-in_err-put_all-clause-stops
returns-in_err-put_all-clause-stops g c =
    OnErr-any c.from_residual-in_err-put_all.result
    (inr (record {
      text = _;
      ends_so = ends_so c.args.self.now (view_asked c.self.inside.asked) c.self.inside.history c.end.new.self c.args.last c.told.result.now c.self.view_is c.in_ok-end.ensures c.told.ensures;
      stops = c.in_err-put_all.ensures.err;
    }))

pub returns-clause-puts : goal.returns-clause-puts
returns-clause-puts g c = record {
  text = _;
  ends_so = ends_so c.args.self.now (view_asked c.self.inside.asked) c.self.inside.history c.end.new.self c.args.last c.told.result.now c.self.view_is c.in_ok-end.ensures c.told.ensures;
  sends = c.in_ok-put_all.ensures.ok;
}
