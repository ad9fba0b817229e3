use Rattle.someipctl_words.proofs.grammar.add_settings.Goals as goal

pub returns-clause-app : goal.returns-clause-app
returns-clause-app c app is =
    let first = c.taking.ensures.app _ _ is c.valued_option-answer.ensures.rule in
    let second = c.taking-first.ensures.app _ _ first c.valued_option-settle.ensures.rule in
    let third = c.add_session_settings.ensures.app _ second in
    c.taking-2.ensures.app _ _ third c.valued_option-rules.ensures.rule
