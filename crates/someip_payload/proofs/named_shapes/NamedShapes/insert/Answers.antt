use Rattle.someip_payload.proofs.NamedLookups.{form_named-put}
use Rattle.someip_payload.proofs.named_shapes.NamedShapes.insert.Goals as goal

pub returns-clause-put : goal.returns-clause-put
returns-clause-put c = form_named-put c.self.inside.shapes c.insert.new.self c.args.self.now c.args.name c.args.shape c.self.view_is c.in_ok-insert.ensures.updates
