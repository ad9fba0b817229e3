use Rattle.std.proofs.Common.{ap, ◌∙◌, rules}
use Rattle.std.specs.FinMap as finite
use Rattle.std.proofs.lemmas.Result.{IfOk-weaker, on_err_weaker}
use Rattle.someip_tables.specs.Retained.{retain}
use Rattle.someip_tables.specs.Tables.{map_of}
use Rattle.sd_core.specs.Keys.{instance_cmp}
use Rattle.sd_core.proofs.SeekLemmas.{is_of, peer_keys, none_of_peer}
use Rattle.sd_core.proofs.seeker.known_now.Goals as goal

pub returns-clause-known : goal.returns-clause-known
returns-clause-known c =
    let held = ap (λ es. retain (map_of instance_cmp es) (is_of c.args.peer c.args.now)) c.held.ensures in
    IfOk-weaker c.keys_where.result _ _
    (λ n is. is ∙ ap finite.keys held ∙ peer_keys c.args.peer c.args.now (map_of instance_cmp c.args.wants.now))
    (c.keys_where.ensures.chosen (is_of c.args.peer c.args.now) (λ key value answer said. search rules))

pub returns-clause-grows : goal.returns-clause-grows
returns-clause-grows c =
    let held = ap (λ es. retain (map_of instance_cmp es) (is_of c.args.peer c.args.now)) c.held.ensures in
    on_err_weaker c.keys_where.result (λ some is. some (held ∙ none_of_peer c.args.peer c.args.now (map_of instance_cmp c.args.wants.now) is))
    (c.keys_where.ensures.grows (is_of c.args.peer c.args.now) (λ key value answer said. search rules))
