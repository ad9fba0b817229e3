use Rattle.std.proofs.Common.{rules}
use Rattle.someip_world_setup_keys.specs.declared.error.SetupError.TheVariants.{NotToml}
use Rattle.someip_c_node.proofs.FaultLemmas.{no_text, told_ok}
use Rattle.someip_c_node.proofs.fault_words.fault_of_setup.Goals as goal

pub returns-in_default-clause-words : goal.returns-in_default-clause-words
returns-in_default-clause-words c = told_ok c.args.text.now NotToml c.words_of.result (no_text c.args.text.now (search rules)) c.words_of.ensures.words
