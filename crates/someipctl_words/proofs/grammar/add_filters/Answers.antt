use Rattle.someipctl_words.proofs.grammar.add_filters.Goals as goal

pub returns-clause-app : goal.returns-clause-app
returns-clause-app c app is =
    let first = c.taking.ensures.app _ _ is c.valued_option-service.ensures.rule in
    c.taking-2.ensures.app _ _ first c.valued_option-types.ensures.rule
