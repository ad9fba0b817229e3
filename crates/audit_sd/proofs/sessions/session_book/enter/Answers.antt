use Rattle.std.proofs.Common.{◌≡◌, true, false, sym, ap, ◌∙◌, rules}
use Rattle.std.specs.FinMap as finite
use Rattle.someip_tables.specs.Tables.{map_of}
use Rattle.someip_tables.proofs.Trees.{map_of-insert}
use Rattle.sd_session.specs.Peers.{shows_reboot}
use Rattle.audit_sd.specs.sessions.SessionRules.{as_last, judged, stamp_of}
use Rattle.audit_sd.specs.sessions.SessionBooks.{pair_cmp, last_of, is_other}
use Rattle.audit_sd.specs.sessions.PairOrder.{pairs_total, exact_pairs}
use Rattle.audit_sd.proofs.about_sessions.PairLemmas.{known_is, others_forgotten}
use Rattle.audit_sd.proofs.sessions.session_book.enter.Goals as goal
use Rattle.audit_sd.proofs.sessions.session_book.enter.Goals.{then-shows_reboot, else-shows_reboot}

pub returns-in_default-clause-grows : goal.returns-in_default-clause-grows
returns-in_default-clause-grows c = rw (← c.pair_of.ensures) (sym (known_is c.args.last.now c.pair_of.result) ∙ search rules)

pub returns-clause-told : goal.returns-clause-told
returns-clause-told c =
    c.judge.ensures
    ∙ ap (λ last. judged last c.args.message.now.stamp) (c.stamp_of-known.ensures ∙ ap stamp_of ((rw c.pair_of.ensures at c.in-Ok.ensures.old) ∙ known_is c.args.last.now (c.args.message.now.from, c.args.message.now.to)))

pub returns-clause-after : goal.returns-clause-after
returns-clause-after c =
    let known : c.stamp_of-known.result ≡ stamp_of (last_of c.args.message.now (map_of pair_cmp c.args.last.now.entries)) = c.stamp_of-known.ensures ∙ ap stamp_of ((rw c.pair_of.ensures at c.in-Ok.ensures.old) ∙ known_is c.args.last.now (c.args.message.now.from, c.args.message.now.to)) in
    let is : c.shows_reboot.result ≡ shows_reboot (stamp_of (last_of c.args.message.now (map_of pair_cmp c.args.last.now.entries))) c.args.message.now.stamp = c.shows_reboot.ensures ∙ ap (λ last. shows_reboot last c.args.message.now.stamp) known in
    let put : map_of pair_cmp c.insert.new.self.entries ≡ finite.insert (map_of pair_cmp c.args.last.now.entries) (c.args.message.now.from, c.args.message.now.to) (as_last c.args.message.now) = map_of-insert pairs_total exact_pairs c.args.last.now.entries c.insert.new.self.entries (c.args.message.now.from, c.args.message.now.to) _ (rw c.pair_of.ensures at c.in-Ok.ensures.updates.0) in
    elim c.if-shows_reboot.branch [
      | then-shows_reboot w ↦
          let yes : shows_reboot (stamp_of (last_of c.args.message.now (map_of pair_cmp c.args.last.now.entries))) c.args.message.now.stamp ≡ true = sym is ∙ w.if-shows_reboot.true in
          rw (w.last-is, yes) (w.forget_others.ensures ∙ ap (λ m. finite.retain_keys m (is_other c.args.message.now.from c.args.message.now.to)) put ∙ others_forgotten _ _ _ _)
      | else-shows_reboot w ↦
          let no : shows_reboot (stamp_of (last_of c.args.message.now (map_of pair_cmp c.args.last.now.entries))) c.args.message.now.stamp ≡ false = sym is ∙ w.if-shows_reboot.false in
          rw (w.last-is, no) put
    ]
