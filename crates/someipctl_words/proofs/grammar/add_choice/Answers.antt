use Rattle.someipctl_words.proofs.grammar.add_choice.Goals as goal

pub returns-clause-app : goal.returns-clause-app
returns-clause-app c app is =
    let first = c.taking-first.ensures.app _ _ is c.valued_option-address.ensures.rule in
    let second = c.taking-second.ensures.app _ _ first c.valued_option-client.ensures.rule in
    let third = c.taking-third.ensures.app _ _ second c.valued_option-from.ensures.rule in
    let fourth = c.taking.ensures.app _ _ third c.valued_option-until.ensures.rule in
    c.taking-2.ensures.app _ _ fourth c.flag-learned.ensures.rule
