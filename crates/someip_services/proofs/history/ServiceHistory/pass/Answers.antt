use Rattle.someip_services.proofs.ServiceLemmas.{fewer_stand, goes_last, goes_more}
use Rattle.someip_services.proofs.history.ServiceHistory.pass.Goals as goal

pub loop-at-smaller : goal.loop-at-smaller
loop-at-smaller c = fewer_stand c.in-Some.at c.loop-at.self c.expire.new.self c.in-Some.ensures.1 c.in_ok-expire.ensures

pub loop-at-preserved : goal.loop-at-preserved
loop-at-preserved c =
    goes_more c.args.now c.in-Some.at c.args.self.now c.loop-at.self c.expire.new.self c.loop-at.invariant c.in-Some.ensures.0 c.in-Some.ensures.1 c.in_ok-expire.ensures

pub returns : goal.returns
returns c = goes_last c.args.now c.args.self.now c.loop-at.self c.loop-at.invariant c.in_default.ensures
