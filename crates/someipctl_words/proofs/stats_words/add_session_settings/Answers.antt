use Rattle.someipctl_words.proofs.stats_words.add_session_settings.Goals as goal

pub returns-clause-app : goal.returns-clause-app
returns-clause-app c app is =
    let first = c.taking.ensures.app _ _ is c.valued_option-overtake.ensures.rule in
    c.taking-2.ensures.app _ _ first c.valued_option-sessions.ensures.rule
