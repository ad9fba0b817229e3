use Rattle.someipctl_words.proofs.grammar.add_findings.Goals as goal

pub returns-clause-app : goal.returns-clause-app
returns-clause-app c app is =
    let first = c.taking-first.ensures.app _ _ is c.flag-frames.ensures.rule in
    let second = c.taking.ensures.app _ _ first c.flag-group.ensures.rule in
    c.taking-2.ensures.app _ _ second c.valued_option-service.ensures.rule
