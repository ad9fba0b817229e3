use Rattle.std.proofs.Common.{◌≡◌, false, ap, ◌∙◌}
use Rattle.someip_rpc.specs.Requests.{has_no_room}
use Rattle.someip_rpc.specs.Servers.{Server}
use Rattle.someip_rpc.proofs.RequestLemmas.{one_more_open}
use Rattle.someip_rpc.proofs.server.ServerCore.hand_up.Goals as goal

pub invariant_of-self-2 : goal.invariant_of-self-2
invariant_of-self-2 c =
    let place : has_no_room c.self.inside.requests c.self.inside.next ≡ false = ap (λ (s : Server). has_no_room s.requests s.next) c.self.view_is ∙ c.requires in
    one_more_open _ _ _ _ place c.self.invariant c.in_ok-insert.ensures.ok
