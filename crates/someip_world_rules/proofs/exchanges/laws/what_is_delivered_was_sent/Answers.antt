use Rattle.std.proofs.Common.{◌⊎◌, inl, inr}
use Rattle.std.specs.Net.Socket.{v4_ip}
use Rattle.someip_world_rules.specs.Deliveries.{GoesOut, IsInjected, Sends}
use Rattle.someip_world_rules.specs.Liars.{IsOfLiar}
use Rattle.someip_world_rules.proofs.InjectionLemmas.{of_liar, sent_honestly}
use Rattle.someip_world_rules.proofs.Sendings.{sent_before}
use Rattle.someip_world_rules.proofs.exchanges.laws.what_is_delivered_was_sent.Goals as goal

pub returns-clause-sent : goal.returns-clause-sent
returns-clause-sent c nodes configs steps n sent d delivers =
    let was = sent_before nodes configs steps n sent d delivers in (was.0, cases was.1)
  where
    cases : GoesOut nodes configs steps sent d → Sends nodes configs steps sent d ⊎ (IsInjected nodes configs steps sent d × IsOfLiar nodes configs (v4_ip d.from))
    cases (inl sends) = inl sends
    cases (inr injected) = inr (injected, of_liar nodes configs steps sent d injected)

pub returns-clause-honest : goal.returns-clause-honest
returns-clause-honest c nodes configs steps n sent d delivers honest = (sent_honestly nodes configs steps n sent d delivers honest).1
