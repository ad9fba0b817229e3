use Rattle.std.proofs.Common.{subst}
use Rattle.someip_node_rules.specs.rules.Inputs as input
use Rattle.someip_c_node.specs.Calls.{Calls}
use Rattle.someip_c_node.proofs.ActLemmas.{done, lent}
use Rattle.someip_c_node.proofs.node.CNode.does.Goals as goal

pub returns-in-Ok : goal.returns-in-Ok
returns-in-Ok c = done c.args.self.now c.call.result c.call.new.self c.in-Call.is
    (lent (λ payload. Calls (input.Call c.in-Call.kind c.in-Call.instance c.in-Call.method payload)) c.config.result.now c.in-Call.payload c.in-Ok.bytes c.as_slice.result.now c.args.self.now c.call.result c.call.new.self
    c.config.ensures c.in-Ok.ensures c.as_slice.ensures (subst (λ m. Calls (input.Call c.in-Call.kind c.in-Call.instance m c.as_slice.result.now) c.args.self.now c.call.result c.call.new.self) c.id.ensures c.call.ensures))

pub returns-in-Ok-payload_within : goal.returns-in-Ok-payload_within
returns-in-Ok-payload_within c = done c.args.self.now c.answer.result c.answer.new.self c.in-Answer.is
    (lent (λ payload. Calls (input.Answer c.in-Answer.token c.in-Answer.reply payload)) c.config-in-Answer.result.now c.in-Answer.payload c.in-Ok-payload_within.bytes c.as_slice-in-Ok-payload_within.result.now c.args.self.now c.answer.result c.answer.new.self
    c.config-in-Answer.ensures c.in-Ok-payload_within.ensures c.as_slice-in-Ok-payload_within.ensures c.answer.ensures)

pub returns-in-Ok-payload_within-2 : goal.returns-in-Ok-payload_within-2
returns-in-Ok-payload_within-2 c = done c.args.self.now c.publish.result c.publish.new.self c.in-Publish.is
    (lent (λ payload. Calls (input.Publish c.in-Publish.instance c.in-Publish.event payload)) c.config-in-Publish.result.now c.in-Publish.payload c.in-Ok-payload_within-2.bytes c.as_slice-in-Ok-payload_within-2.result.now c.args.self.now c.publish.result c.publish.new.self
    c.config-in-Publish.ensures c.in-Ok-payload_within-2.ensures c.as_slice-in-Ok-payload_within-2.ensures c.publish.ensures)

pub returns-in-Ok-payload_within-3 : goal.returns-in-Ok-payload_within-3
returns-in-Ok-payload_within-3 c = done c.args.self.now c.publish_to.result c.publish_to.new.self c.in-PublishTo.is
    (lent (λ payload. Calls (input.PublishTo c.in-PublishTo.eventgroup.instance c.in-PublishTo.eventgroup.id c.in-PublishTo.to c.in-PublishTo.event payload)) c.config-in-PublishTo.result.now c.in-PublishTo.payload c.in-Ok-payload_within-3.bytes c.as_slice-in-Ok-payload_within-3.result.now c.args.self.now c.publish_to.result c.publish_to.new.self
    c.config-in-PublishTo.ensures c.in-Ok-payload_within-3.ensures c.as_slice-in-Ok-payload_within-3.ensures c.publish_to.ensures)

pub returns-in-Subscribe : goal.returns-in-Subscribe
returns-in-Subscribe c = done c.args.self.now c.subscribe.result c.subscribe.new.self c.in-Subscribe.is c.subscribe.ensures

pub returns-in-Unsubscribe : goal.returns-in-Unsubscribe
returns-in-Unsubscribe c = done c.args.self.now c.unsubscribe.result c.unsubscribe.new.self c.in-Unsubscribe.is c.unsubscribe.ensures

pub returns-in-StopOffer : goal.returns-in-StopOffer
returns-in-StopOffer c = done c.args.self.now c.stop_offer.result c.stop_offer.new.self c.in-StopOffer.is c.stop_offer.ensures

pub returns-in-Restart : goal.returns-in-Restart
returns-in-Restart c = done c.args.self.now c.restart_after.result c.restart_after.new.self c.in-Restart.is c.restart_after.ensures
