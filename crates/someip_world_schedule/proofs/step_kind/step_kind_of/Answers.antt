use Rattle.someip_world_schedule.proofs.step_kind.step_kind_of.Goals as goal

pub returns : goal.returns
returns c = c.named.ensures
