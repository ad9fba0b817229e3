use Rattle.someip_rpc.proofs.CopyLemmas.{same_entries_of_sets, same_set}
use Rattle.someip_rpc.proofs.service.ServiceRulesClone.clone.Goals as goal

pub returns : goal.returns
returns c = record {
  cases = (
    λ i. record c.args.self.now {
      methods = same_set c.args.self.now.methods c.in_ok-methods.methods c.in_ok-methods.ensures.cases i;
      oneways = same_set c.args.self.now.oneways c.in_ok-oneways.oneways c.in_ok-oneways.ensures.cases i;
      events = c.in_ok-events.events;
    },
    same_entries_of_sets c.args.self.now.events c.in_ok-events.events c.in_ok-events.ensures.cases,
  );
}
