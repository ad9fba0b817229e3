use Rattle.std.proofs.Common.{◌≡◌, ◌∙◌, ◌+◌, false, ◌∷◌, filter, drop, ap, sym, append_assoc}
use Rattle.std.specs.Option.{option_map_or}
use Rattle.std.specs.FinMap as finite
use Rattle.std.proofs.lemmas.List.{append-nil, drop_more}
use Rattle.someip_tables.specs.Tables.{map_of}
use Rattle.sd_core.proofs.AmongLemmas.{keys-among}
use Rattle.sd_core.proofs.SubscriptionRunLemmas.{past_all}
use Rattle.sd_core.proofs.among.keys_among.Goals as goal
use Rattle.sd_core.proofs.among.keys_among.Goals.{then-passes+in_ok-push, else-passes}

pub loop-key-preserved : goal.loop-key-preserved
loop-key-preserved g c = λ p answers.
    let those = c.args.those.now in
    let k = c.key-item.result in
    let is : option_map_or (p k) (finite.get (map_of g.K.Ord.cmp c.args.table.now.entries) k) false ≡ c.passes.result = sym (c.passes.ensures p answers) in
    let next : drop c.loop-key.key-index those ≡ k ∷ drop (c.loop-key.key-index + 1) those =
    drop_more those c.loop-key.key-index k c.loop-key-test.true ∙ ap (λ x. x ∷ drop (c.loop-key.key-index + 1) those) (sym c.key-item.is) in
    let all = rw (next, is) at (c.loop-key.invariant p answers) in
    elim c.if-passes.branch [
      | then-passes+in_ok-push w ↦ rw (w.keys-is, w.in_ok-push.ensures.items, append_assoc) (rw w.if-passes.true at all)
      | else-passes w ↦ rw w.keys-is (rw w.if-passes.false at all)
    ]

pub returns : goal.returns
returns g c = λ p weaker answers is holds.
    let those = c.args.those.now in
    let all = rw (past_all those c.loop-key.key-index c.loop-key-test.false) at (c.loop-key.invariant p answers) in
    sym (append-nil c.loop-key.keys.items) ∙ all ∙ ap (filter _) is ∙ keys-among g.met.K.Ord.total g.met.K.Key.exact (map_of g.K.Ord.cmp c.args.table.now.entries) p weaker holds
