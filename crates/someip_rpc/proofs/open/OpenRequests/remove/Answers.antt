use Rattle.std.proofs.Common.{◌≡◌, sym, ◌∙◌, rules}
use Rattle.someip_rpc.proofs.OpenLemmas.{requests_taken, indexes_taken, none_taken}
use Rattle.someip_rpc.proofs.open.OpenRequests.remove.Goals as goal

pub invariant_of-self : goal.invariant_of-self
invariant_of-self c =
    indexes_taken c.self.inside.index c.remove.new.self c.self.inside.held c.try_remove.new.self c.args.token c.in-Some.key c.remove.ensures.updates.0 c.self.invariant (sym c.in-Some.ensures.value) c.try_remove.ensures.updates.others

pub returns-in-Some : goal.returns-in-Some
returns-in-Some c =
    rw (← c.self.view_is)
    (requests_taken c.self.inside.index c.remove.new.self c.self.inside.held c.try_remove.new.self c.args.token c.in-Some.key c.remove.ensures.updates.0 c.self.invariant (sym c.in-Some.ensures.value)
    c.try_remove.ensures.updates.others)

pub returns-in_default : goal.returns-in_default
returns-in_default c =
    let same : c.remove.new.self.entries ≡ c.self.inside.index.entries = search rules in
    rw (← c.self.view_is) (none_taken c.self.inside.index c.remove.new.self c.self.inside.held c.args.token same (sym c.remove.ensures.value ∙ c.in_default.is))
