-- Steps as a program has them: nodes have names, numbers fit their fields, and payloads hold bytes.
use Rattle.std.specs.Prelude.{ℕ, ◌≡◌, ◌<◌, ◌^◌, true, List}
use Rattle.std.specs.Net.Socket.{IsSocketAddrV4}
use Rattle.sd_core.specs.declared.eventgroup.Eventgroup.{Eventgroup}
use Rattle.sd_core.specs.declared.keys.InstanceId.{InstanceId}
use Rattle.someip_wire.specs.Spelling.{IsBytes}
use Rattle.someip_world_schedule.specs.declared.step.Step.{Step}
use Rattle.someip_world_schedule.specs.declared.step.Step.TheVariants.{Tick, Deliver, Call, Answer, Publish, PublishTo, Subscribe, Unsubscribe, StopOffer, Restart, Inject}
use Rattle.someip_world_schedule.specs.StepWords.{is_name}
use Rattle.someipctl_explore.specs.StepLines.{reply_code}

-- a node has a name
abbrev pub IsName : List ℕ → Type 0
IsName name = is_name name ≡ true

-- the IDs of an instance and of an eventgroup fit
abbrev pub FitsInstance : InstanceId → Type 0
FitsInstance instance = (instance.service < 2 ^ 16) × (instance.instance < 2 ^ 16)

abbrev pub FitsGroup : Eventgroup → Type 0
FitsGroup eventgroup = FitsInstance eventgroup.instance × (eventgroup.id < 2 ^ 16)

abbrev pub IsWhole : Step → Type 0
IsWhole (Tick node ms) = IsName node × (ms < 2 ^ 64)
IsWhole (Deliver number node) = IsName node × (number < 2 ^ 64)
IsWhole (Call node kind instance method payload) = IsName node × FitsInstance instance × (method < 0x8000) × IsBytes payload
IsWhole (Answer node token reply payload) = IsName node × (token < 2 ^ 64) × (reply_code reply < 2 ^ 8) × IsBytes payload
IsWhole (Publish node instance event payload) = IsName node × FitsInstance instance × (event < 2 ^ 16) × IsBytes payload
IsWhole (PublishTo node eventgroup to event payload) =
    IsName node × FitsGroup eventgroup × IsSocketAddrV4 to × (event < 2 ^ 16) × IsBytes payload
IsWhole (Subscribe node eventgroup) = IsName node × FitsGroup eventgroup
IsWhole (Unsubscribe node eventgroup) = IsName node × FitsGroup eventgroup
IsWhole (StopOffer node instance) = IsName node × FitsInstance instance
IsWhole (Restart node delay) = IsName node × (delay < 2 ^ 64)
IsWhole (Inject node port to payload) = IsName node × ((0 < port) × (port < 2 ^ 16)) × IsSocketAddrV4 to × IsBytes payload
