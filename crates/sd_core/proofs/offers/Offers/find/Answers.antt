use Rattle.std.proofs.Common.{ap, ◌∙◌, rules}
use Rattle.std.specs.FinMap as finite
use Rattle.std.proofs.lemmas.Result.{IfOk-weaker, on_err_weaker}
use Rattle.someip_tables.specs.Retained.{retain}
use Rattle.someip_tables.specs.Tables.{map_of}
use Rattle.sd_core.specs.Keys.{instance_cmp}
use Rattle.sd_core.proofs.OfferLemmas.{offering_answers, answering_keys, none_answers}
use Rattle.sd_core.proofs.offers.Offers.find.Goals as goal

pub returns-clause-found : goal.returns-clause-found
returns-clause-found c =
    let held = ap (λ es. retain (map_of instance_cmp es) (offering_answers c.args.sought)) c.held.ensures in
    rw (← c.self.view_is)
    (IfOk-weaker c.keys_where.result _ _
    (λ n is. is ∙ ap finite.keys held ∙ answering_keys c.args.sought (map_of instance_cmp c.self.inside.offerings))
    (c.keys_where.ensures.chosen (offering_answers c.args.sought) (λ key value answer said. search rules)))

pub returns-clause-grows : goal.returns-clause-grows
returns-clause-grows c =
    let held = ap (λ es. retain (map_of instance_cmp es) (offering_answers c.args.sought)) c.held.ensures in
    rw (← c.self.view_is)
    (on_err_weaker c.keys_where.result (λ some is. some (held ∙ none_answers c.args.sought (map_of instance_cmp c.self.inside.offerings) is))
    (c.keys_where.ensures.grows (offering_answers c.args.sought) (λ key value answer said. search rules)))
