use Rattle.std.proofs.Common.{ap, sym, ◌≡◌, false, rules}
use Rattle.someip_tables.specs.Lastings.{expired}
use Rattle.someip_tables.specs.Tables.{map_of}
use Rattle.someip_rpc.specs.Ids.{call_cmp, message_cmp}
use Rattle.someip_rpc.specs.IdOrder.{calls_total, exact_calls}
use Rattle.someip_rpc.specs.Calls.{Pending, Client}
use Rattle.someip_rpc.proofs.PendingLemmas.{none_of, no_keys, all_stands, live_few}
use Rattle.someip_rpc.proofs.client.ClientCore.tick.Goals as goal

pub returns-then-not-has_expired-clause-told : goal.returns-then-not-has_expired-clause-told
returns-then-not-has_expired-clause-told c =
    let no : c.has_expired.result ≡ false = search rules in
    let none = none_of (expired c.args.now (map_of call_cmp c.self.inside.pending)) c.has_expired.result c.has_expired.ensures no in
    rw (← c.self.view_is) (no_keys _ c.new.result.keys none c.new.ensures.len)

pub returns-then-not-has_expired-clause-ended : goal.returns-then-not-has_expired-clause-ended
returns-then-not-has_expired-clause-ended c =
    let no : c.has_expired.result ≡ false = search rules in
    let none = none_of (expired c.args.now (map_of call_cmp c.self.inside.pending)) c.has_expired.result c.has_expired.ensures no in
    let all = all_stands calls_total exact_calls c.args.now (map_of call_cmp c.self.inside.pending) none in
    let client : Pending → Client = λ p. record { pending = p; sessions = map_of message_cmp c.self.inside.sessions.entries } in
    rw (← c.self.view_is) (ap client (sym all))

pub invariant_of-self : goal.invariant_of-self
invariant_of-self c = live_few _ c.args.now _ c.drop_expired.ensures c.self.invariant
