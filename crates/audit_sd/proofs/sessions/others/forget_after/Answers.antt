use Rattle.std.proofs.Common.{◌≡◌, ◌+◌, true, is_some, ap, arith, ◌∙◌}
use Rattle.std.specs.BTreeMap.{btree_map_len}
use Rattle.someip_tables.specs.Tables.{map_of}
use Rattle.someip_tables.proofs.Trees.{map_of-remove}
use Rattle.audit_sd.specs.sessions.SessionBooks.{pair_cmp}
use Rattle.audit_sd.specs.sessions.PairOrder.{pairs_total, exact_pairs}
use Rattle.audit_sd.proofs.about_sessions.OtherLemmas.{less_itself, less_removed}
use Rattle.audit_sd.proofs.about_sessions.PairLemmas.{known_is}
use Rattle.audit_sd.proofs.sessions.others.forget_after.Goals as goal

pub loop-pair-init : goal.loop-pair-init
loop-pair-init c = less_itself c.args.sender c.args.destination (map_of pair_cmp c.args.last.now.entries)

pub loop-pair-preserved : goal.loop-pair-preserved
loop-pair-preserved c =
    less_removed c.args.sender c.args.destination (map_of pair_cmp c.args.last.now.entries) (map_of pair_cmp c.loop-pair.last.entries) (map_of pair_cmp c.remove.new.self.entries) c.in-Some.pair c.loop-pair.invariant
    c.in-Some.ensures.other (map_of-remove pairs_total exact_pairs c.loop-pair.last.entries c.remove.new.self.entries c.in-Some.pair c.remove.ensures.updates.0)

pub loop-pair-smaller : goal.loop-pair-smaller
loop-pair-smaller c =
    let there : is_some c.remove.result ≡ true = ap (λ v. is_some v) (c.remove.ensures.value ∙ known_is c.loop-pair.last c.in-Some.pair) ∙ c.in-Some.ensures.held in
    let one : btree_map_len c.remove.new.self + 1 ≡ btree_map_len c.loop-pair.last = rw there at c.remove.ensures.len in
    omega (arith, one)
