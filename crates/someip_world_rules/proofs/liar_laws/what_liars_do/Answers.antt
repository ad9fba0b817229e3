use Rattle.std.proofs.Common.{ap, if◌then◌else◌, Ok, Err}
use Rattle.someip_world_rules.specs.Deeds.{Injects}
use Rattle.someip_world_rules.specs.declared.step_fault.StepFault.TheVariants.{PayloadTooLong}
use Rattle.someip_world_rules.proofs.liar_laws.what_liars_do.Goals as goal

pub returns-clause-sent : goal.returns-clause-sent
returns-clause-sent c h lines node port to bytes short =
    ap (λ long. if long then Err PayloadTooLong else Ok (Injects (record { ip = h.config.address; port = port }) to bytes)) short

pub returns-clause-long : goal.returns-clause-long
returns-clause-long c h lines node port to bytes long =
    ap (λ b. if b then Err PayloadTooLong else Ok (Injects (record { ip = h.config.address; port = port }) to bytes)) long
