use Rattle.someipctl_words.proofs.grammar.add_inputs.Goals as goal

pub returns-clause-app : goal.returns-clause-app
returns-clause-app c app is =
    let first = c.taking-first.ensures.app _ _ is c.needed.ensures.rule in
    c.taking.ensures.app _ _ first c.needed-2.ensures.rule
