use Rattle.someipctl_words.proofs.grammar.add_packets.Goals as goal

pub returns-clause-app : goal.returns-clause-app
returns-clause-app c app is =
    let first = c.taking-first.ensures.app _ _ is c.valued_option-interface.ensures.rule in
    let second = c.taking-second.ensures.app _ _ first c.valued_option-vlan.ensures.rule in
    c.taking.ensures.app _ _ second c.valued_option-dedup.ensures.rule
