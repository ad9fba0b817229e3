use Rattle.someip_node_engine.proofs.engine.Engine.empty_store.Goals as goal

pub returns-in-Ok-clause-moments : goal.returns-in-Ok-clause-moments
returns-in-Ok-clause-moments g c = c.in-Ok.ensures.moments 0
