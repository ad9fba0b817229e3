use Rattle.std.proofs.Common.{◌≡◌, sym, ◌∙◌, rules}
use Rattle.std.specs.Option.{option_map}
use Rattle.slab.specs.Slab as slab
use Rattle.someip_rpc.proofs.OpenLemmas.{found, not_found}
use Rattle.someip_rpc.proofs.open.OpenRequests.get.Goals as goal

pub returns-in-None : goal.returns-in-None
returns-in-None c = rw (← c.self.view_is) (not_found c.self.inside.held c.self.inside.index c.args.token c.in-None.ensures.value)

pub returns-in-Some : goal.returns-in-Some
returns-in-Some c =
    let is : c.map.result ≡ option_map (λ h. h.request) (slab.get c.self.inside.held c.in-Some.key.now) = search rules in
    rw (← c.self.view_is) (is ∙ found c.self.inside.held c.self.inside.index c.args.token c.in-Some.key.now c.self.invariant (sym c.in-Some.ensures.value))
