use Rattle.std.proofs.Common.{nat_lt, ◌||◌, is_some, ap, ◌∙◌}
use Rattle.audit_sd.proofs.about_sessions.PairLemmas.{known_is, len_is}
use Rattle.audit_sd.proofs.sessions.session_book.may_hold.Goals as goal

pub returns : goal.returns
returns c =
    let held = (rw c.pair_of.ensures at c.contains_key.ensures) ∙ ap (λ v. is_some v) (known_is c.args.last.now (c.args.message.now.from, c.args.message.now.to)) in
    let count = len_is c.args.last.now c.len.result c.len.ensures.len c.len.ensures.ordered in
    c.may_hold.ensures ∙ (λ i. held i || nat_lt (count i) c.args.room.limit)
