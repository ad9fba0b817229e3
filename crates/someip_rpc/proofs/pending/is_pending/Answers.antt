use Rattle.std.proofs.Common.{ap, ◌∙◌, ◌≡◌, rules}
use Rattle.std.specs.Option.{is_some}
use Rattle.someip_tables.specs.Tables.{map_of}
use Rattle.someip_rpc.specs.Ids.{call_cmp}
use Rattle.someip_rpc.proofs.PendingLemmas.{shown, some_copied}
use Rattle.someip_rpc.proofs.pending.is_pending.Goals as goal

pub returns : goal.returns
returns c =
    let some : c.is_some.result ≡ is_some c.get_unexpired.result = search rules in
    some ∙ some_copied c.get_unexpired.result
    ∙ ap is_some (shown c.args.now (map_of call_cmp c.args.pending.now) (record { message = c.args.message; session = c.args.session }) _ c.get_unexpired.ensures)
