use Rattle.someip_node_engine.proofs.PassingLemmas.{brings_nothing, not_both, nothing_passed, on_err, passed_told_ok}
use Rattle.someip_node_engine.proofs.engine.Engine.tick.Goals as goal

pub returns-then-is_nothing-clause-work : goal.returns-then-is_nothing-clause-work
returns-then-is_nothing-clause-work g c =
    nothing_passed c.args.self.now c.pass.new.self c.args.giving.now c.args.ms c.args.now _ c.requires c.in_ok-passed.ensures.passed c.in_ok-passed.ensures.ticked (c.is_nothing.ensures.0 c.if-is_nothing.true)

pub returns-clause-work : goal.returns-clause-work
returns-clause-work g c =
    passed_told_ok c.args.self.now c.pass.new.self c.give_passed.new.self c.args.giving.now c.give_passed.new.giving c.args.ms c.args.now _ c.give_passed.result c.requires c.in_ok-passed.ensures.passed
    c.in_ok-passed.ensures.ticked c.give_passed.ensures.work

pub returns-clause-grows : goal.returns-clause-grows
returns-clause-grows g c =
    on_err c.give_passed.result (λ none. not_both _ c.if-is_nothing.false (c.is_nothing.ensures.1 (brings_nothing c.args.self.now c.args.now _ c.in_ok-passed.ensures.passed none)))
