use Rattle.std.proofs.Common.{refl}
use Rattle.someip_node_engine.proofs.PublishingLemmas.{publishes_at}
use Rattle.someip_node_engine.proofs.engine.Engine.publish.Goals as goal

pub returns-clause-handled : goal.returns-clause-handled
returns-clause-handled g c =
    publishes_at _ c.args.self.now c.publish_by.new.server c.args.giving.now _ c.args.instance c.settings-settings.result.instance c.in-Some.service.now c.args.event
    c.settings-settings.result.limit c.settings-settings.result.is_up c.args.payload.now c.self.view_is c.in-Some.ensures.value refl c.settings-settings.ensures.up
    c.settings-settings.ensures.limit c.publish_by.result c.settings-settings.ensures.instance c.publish_by.ensures
