use Rattle.std.proofs.Common.{refl}
use Rattle.someip_node_engine.proofs.PublishingLemmas.{publishes_to_at}
use Rattle.someip_node_engine.proofs.engine.Engine.publish_to.Goals as goal

pub returns-clause-handled : goal.returns-clause-handled
returns-clause-handled g c =
    publishes_to_at _ c.args.self.now c.publish_to_by.new.server c.args.giving.now _ c.args.instance c.args.instance c.in-Some.service.now c.args.event
    c.settings-settings.result.limit c.settings-settings.result.is_up c.args.payload.now c.self.view_is c.in-Some.ensures.value refl c.settings-settings.ensures.up
    c.settings-settings.ensures.limit c.args.eventgroup c.args.endpoint c.subscriber_at-subscriber.result c.publish_to_by.result c.subscriber_at-subscriber.ensures c.publish_to_by.ensures
