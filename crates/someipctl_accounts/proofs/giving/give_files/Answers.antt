use Rattle.std.proofs.Common.{map}
use Rattle.recording_packets.specs.View.{view_chosen}
use Rattle.someipctl_io.proofs.SendingLemmas.{OnErr-any}
use Rattle.someipctl_accounts.proofs.GivingLemmas.{begins_nothing, puts_begun, puts_given}
use Rattle.someipctl_accounts.proofs.giving.give_files.Goals as goal

pub returns-in_err-buffer-clause-begun : goal.returns-in_err-buffer-clause-begun
returns-in_err-buffer-clause-begun g c =
    OnErr-any c.from_residual.result (begins_nothing g.A.Account.takes g.A.Account.ends (view_chosen c.args.chosen.now) c.args.account.now (map g.R.Read.remaining c.args.sources.now) (g.W.Write.contents c.args.writer.now))

pub returns-in_err-flush-clause-begun : goal.returns-in_err-flush-clause-begun
returns-in_err-flush-clause-begun g c =
    OnErr-any c.from_residual-in_err-flush.result
    (puts_begun g.A.Account.takes g.A.Account.ends (view_chosen c.args.chosen.now) c.args.account.now (map g.R.Read.remaining c.args.sources.now) _ _ _ _ _ c.in_ok-shown.ensures.puts c.in_err-flush.ensures.err)

pub returns-clause-given : goal.returns-clause-given
returns-clause-given g c =
    puts_given g.A.Account.takes g.A.Account.ends (view_chosen c.args.chosen.now) c.args.account.now (map g.R.Read.remaining c.args.sources.now) _ _ _ _ _ _ c.in_ok-shown.ensures.puts c.in_ok-flush.ensures.ok c.in_ok-flush.ensures.empty
