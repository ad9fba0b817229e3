use Rattle.someipctl_words.proofs.explore_words.add_conditions.Goals as goal

pub returns-clause-app : goal.returns-clause-app
returns-clause-app c app is =
    let first = c.taking-first.ensures.app _ _ is c.repeated_option-once.ensures.rule in
    c.taking.ensures.app _ _ first c.repeated_option-never.ensures.rule
