use Rattle.someip_world_schedule.proofs.PayloadLemmas.{bytes_repeated}
use Rattle.someip_world_schedule.proofs.step_payload.StepPayload.holds_bytes.Goals as goal

pub returns : goal.returns
returns c =
    rw (← c.self.view_is)
    (bytes_repeated c.self.inside.bytes.items (rw c.as_slice.ensures.value at c.are_bytes.ensures) c.self.inside.count c.self.inside.repeated (c.are_bytes-2.ensures 0))
