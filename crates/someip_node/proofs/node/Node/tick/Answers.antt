use Rattle.std.proofs.Common.{◌∙◌, ◌+◌, sym, subst}
use Rattle.sd_core.specs.SeekTables.{KnowsWanted}
use Rattle.someip_node_engine.specs.Passings.{BringsNothing}
use Rattle.someip_node.proofs.QuietLemmas.{quiet_step, ran_out}
use Rattle.someip_node_rules.specs.rules.Inputs.{Tick}
use Rattle.someip_node.proofs.HandledLemmas.{handled_given}
use Rattle.someip_node_rules.proofs.histories.Stands.{answers}
use Rattle.someip_node.proofs.RefusalLemmas.{call_refused}
use Rattle.someip_node.proofs.WithinLemmas.{handled_fits}
use Rattle.someip_node.proofs.node.Node.tick.Goals as goal

pub returns-clause-reacts : goal.returns-clause-reacts
returns-clause-reacts g c = λ h is.
    handled_given h (Tick c.args.ms) c.self.inside.engine
    (answers c.self.inside.failed c.self.inside.engine h c.in_ok-giving.ensures.works (c.self.view_is ∙ is))
    c.take_tick-done.result c.in_ok-giving.giving c.take_tick-done.new.giving c.take_tick-done.new.self _ _
    c.in_ok-giving.ensures.outputs c.in_ok-giving.ensures.replies c.take_tick-done.ensures.handled c.take_tick-done.ensures.config c.finish.ensures.failed c.finish.ensures.given

pub returns-clause-quiet : goal.returns-clause-quiet
returns-clause-quiet g c = λ h done stands is none out.
    let same = answers c.self.inside.failed c.self.inside.engine h c.in_ok-giving.ensures.works (c.self.view_is ∙ stands) in
    let grew = ran_out c.take_tick-done.result _ c.take_tick-done.ensures.grows (sym c.finish.ensures.given ∙ out) in
    grew.1 (subst (λ t. BringsNothing (t.clock + c.args.ms) t) (sym same) (quiet_step h c.args.ms done (subst (λ t. KnowsWanted t.seek) same grew.0) is none))

pub returns-clause-errors : goal.returns-clause-errors
returns-clause-errors g c =
    call_refused (Tick c.args.ms) c.take_tick-done.result c.in_ok-giving.giving c.take_tick-done.new.giving c.self.inside.engine c.take_tick-done.new.self _
    c.take_tick-done.ensures.handled c.finish.ensures.given

pub invariant_of-self : goal.invariant_of-self
invariant_of-self g c = λ fine.
    handled_fits (Tick c.args.ms) c.self.inside.engine c.in_ok-giving.giving c.take_tick-done.new.self c.take_tick-done.new.giving
    (c.self.invariant c.in_ok-giving.ensures.works) c.take_tick-done.result c.take_tick-done.ensures.handled (sym c.finish.ensures.failed ∙ fine)
