use Rattle.std.proofs.Common.{Ok, ap, refl, sym, ◌∙◌}
use Rattle.someip_world_rules.specs.Runs.{world_of}
use Rattle.someip_world.proofs.RunLemmas.{begun, failed, run_told, starts}
use Rattle.someip_world.proofs.world_run.run_nodes.Goals as goal

pub returns-in-Ok-clause-told : goal.returns-in-Ok-clause-told
returns-in-Ok-clause-told g c =
    let all = starts c.args.setup.now c.args.actors.now.items c.requires in
    let shows = begun c.args.setup.now _ c.args.actors.now.items _ refl c.requires c.new-log.ensures in (
      all.0,
      all.1,
      run_told c.args.setup.now all.0 c.args.steps.now _ _ refl (c.in-Ok.ensures.runs (world_of c.args.setup.now all.0) shows) ∙ ap Ok (sym c.into_lines.ensures),
    )

pub returns-in-Err-clause-told : goal.returns-in-Err-clause-told
returns-in-Err-clause-told g c =
    let all = starts c.args.setup.now c.args.actors.now.items c.requires in
    let shows = begun c.args.setup.now _ c.args.actors.now.items _ refl c.requires c.new-log.ensures in
    failed c.args.setup.now all.0 c.args.steps.now c.in-Err.error c.run_all.new.log all.1 (c.in-Err.ensures.runs (world_of c.args.setup.now all.0) shows)
