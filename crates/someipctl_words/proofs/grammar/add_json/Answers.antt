use Rattle.someipctl_words.proofs.grammar.add_json.Goals as goal

pub returns-clause-app : goal.returns-clause-app
returns-clause-app c app is = c.taking.ensures.app _ _ is c.flag-json.ensures.rule
