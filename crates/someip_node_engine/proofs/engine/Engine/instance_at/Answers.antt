use Rattle.std.proofs.Common.{◌∙◌, sym, ap}
use Rattle.std.specs.FinMap as finite
use Rattle.std.proofs.lemmas.Cmp.{nat_cmp_total}
use Rattle.someip_tables.proofs.Trees.{get-map_of}
use Rattle.someip_node_rules.specs.forms.Setups.{instance_at}
use Rattle.someip_node_engine.proofs.engine.Engine.instance_at.Goals as goal

pub returns : goal.returns
returns g c =
    c.copied.ensures ∙ c.get.ensures.value ∙ sym (get-map_of nat_cmp_total c.self.inside.ports.entries c.args.port)
    ∙ ap (λ ports. finite.get ports c.args.port) c.self.invariant.0
    ∙ ap (λ t. instance_at t.config c.args.port) c.self.view_is
