use Rattle.std.proofs.Common.{sym, ◌∙◌, rules, arith}
use Rattle.std.proofs.lemmas.Bool.{and_parts}
use Rattle.someip_tables.specs.Tables.{map_of}
use Rattle.someip_tables.proofs.MapLaws.{len-remove-≤}
use Rattle.someip_tables.specs.hashed.Rooms.{may_hold}
use Rattle.audit_sd.specs.subscriptions.SubscriptionKeys.{subscription_cmp}
use Rattle.audit_sd.specs.subscriptions.SubscriptionOrder.{subscriptions_total, exact_subscriptions}
use Rattle.audit_sd.proofs.about_subscriptions.SubscribeLemmas.{answered_within, owed_within, waits_within}
use Rattle.audit_sd.proofs.subscriptions.subscribe_book.SubscribeBook.saw.Goals as goal

pub invariant_of-self : goal.invariant_of-self
invariant_of-self c =
    let less = len-remove-≤ subscriptions_total exact_subscriptions (map_of subscription_cmp c.self.inside.waiting) c.args.entry.key in
    let owed = answered_within c.args.entry.key (map_of subscription_cmp c.self.inside.owed) in
    rw (c.remove.ensures, c.answer.ensures) (omega (arith, less, owed, c.self.invariant))

pub invariant_of-self-2 : goal.invariant_of-self-2
invariant_of-self-2 c =
    let may = and_parts (may_hold c.self.inside.room.limit (map_of subscription_cmp c.self.inside.waiting) c.args.entry.key) (may_hold c.self.inside.room.limit (map_of subscription_cmp c.self.inside.owed) c.args.entry.key)
    (sym c.has_room.ensures ∙ c.if-not-has_room.false) in (
      waits_within c.args.now c.self.inside.answer_ms c.args.entry c.self.inside.room.limit (map_of subscription_cmp c.self.inside.waiting) (map_of subscription_cmp c.take.new.waiting) c.take.result c.self.invariant.0
          may.0 c.take.ensures.waits c.take.ensures.none_waits,
      owed_within c.args.entry c.self.inside.room.limit (map_of subscription_cmp c.self.inside.owed) (map_of subscription_cmp c.take.new.owed) c.take.result c.self.invariant.1 may.1 c.take.ensures.owed (search rules),
    )
