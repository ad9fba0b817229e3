use Rattle.std.proofs.Common.{◌++◌, [], ◌∷◌, ap, ◌∙◌}
use Rattle.someip_world.proofs.PlaceLemmas.{is_told, pushed, pushed_none}
use Rattle.someip_world.proofs.log.Log.push.Goals as goal

pub invariant_of-self-in_default : goal.invariant_of-self-in_default
invariant_of-self-in_default c =
    pushed c.self.inside.lines.items c.push.new.self.items c.self.inside.datagrams.items _ c.args.line c.self.invariant c.in_ok-push.ensures.items
    (is_told c.datagram.result _ _ c.datagram.ensures c.is_some-is_datagram.ensures ∙ c.if-is_datagram.true)
    (c.in_default.ensures.items ∙ ap (λ p. c.self.inside.datagrams.items ++ p ∷ []) (c.len-place.ensures ∙ c.self.inside.lines.ok.0))

pub invariant_of-self-else-is_datagram : goal.invariant_of-self-else-is_datagram
invariant_of-self-else-is_datagram c =
    pushed_none c.self.inside.lines.items c.push.new.self.items c.self.inside.datagrams.items c.args.line c.self.invariant c.in_ok-push.ensures.items
    (is_told c.datagram.result _ _ c.datagram.ensures c.is_some-is_datagram.ensures ∙ c.if-is_datagram.false)
