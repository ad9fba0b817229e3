use Rattle.someipctl_words.proofs.grammar.add_whole.Goals as goal

pub returns-clause-app : goal.returns-clause-app
returns-clause-app c app is =
    let first = c.taking-first.ensures.app _ _ is c.flag-whole.ensures.rule in
    let second = c.taking-second.ensures.app _ _ first c.valued_option-limit.ensures.rule in
    let third = c.taking-third.ensures.app _ _ second c.valued_option-slots.ensures.rule in
    c.taking.ensures.app _ _ third c.valued_option-timeout.ensures.rule
