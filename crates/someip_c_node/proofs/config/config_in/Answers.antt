use Rattle.someip_c_node.proofs.ConfigLemmas.{found_ok, good_ok, refused_err}
use Rattle.someip_c_node.proofs.config.config_in.Goals as goal

pub returns-in-Ok-clause-found : goal.returns-in-Ok-clause-found
returns-in-Ok-clause-found c = found_ok c.in-Ok.setup c.args.text.now c.args.name.now c.config_of.result c.in-Ok.ensures.said c.config_of.ensures.found

pub returns-in-Ok-clause-good : goal.returns-in-Ok-clause-good
returns-in-Ok-clause-good c = good_ok c.in-Ok.setup c.args.name.now c.config_of.result c.config_of.ensures.good c.config_of.ensures.found

pub returns-in-Ok-clause-refused : goal.returns-in-Ok-clause-refused
returns-in-Ok-clause-refused c = refused_err c.in-Ok.setup c.args.text.now c.args.name.now c.config_of.result c.in-Ok.ensures.said c.config_of.ensures.refused
