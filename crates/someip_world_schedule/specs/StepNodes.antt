-- The node that a step names.
use Rattle.std.specs.Prelude.{ℕ, List}
use Rattle.someip_world_schedule.specs.declared.step.Step.{Step}
use Rattle.someip_world_schedule.specs.declared.step.Step.TheVariants.{Tick, Deliver, Call, Answer, Publish, PublishTo, Subscribe, Unsubscribe, StopOffer, Restart, Inject}

abbrev pub node_of : Step → List ℕ
node_of (Tick node ms) = node
node_of (Deliver number node) = node
node_of (Call node kind instance method payload) = node
node_of (Answer node token reply payload) = node
node_of (Publish node instance event payload) = node
node_of (PublishTo node eventgroup to event payload) = node
node_of (Subscribe node eventgroup) = node
node_of (Unsubscribe node eventgroup) = node
node_of (StopOffer node instance) = node
node_of (Restart node delay) = node
node_of (Inject node port to payload) = node
