use Rattle.someipctl_words.proofs.grammar.add_heads.Goals as goal

pub returns-clause-app : goal.returns-clause-app
returns-clause-app c app is =
    let first = c.taking.ensures.app _ _ is c.flag-frames.ensures.rule in
    c.taking-2.ensures.app _ _ first c.flag-endpoints.ensures.rule
