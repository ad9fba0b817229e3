use Rattle.std.proofs.Common.{◌≡◌, true, false, rules}
use Rattle.someip_tables.specs.Agendas.{is_awaited}
use Rattle.someip_audit.proofs.FirstOfAll.{call_first, call_is_due, none_first, none_after, no_missing, missing_is_due, missing_first, missing_after, no_expired, expired_is_due, expired_first, expired_after, no_asked, asked_is_due, asked_first, asked_after, no_lost, lost_is_due, lost_first, lost_after, no_silent, silent_is_due, silent_first, silent_after}
use Rattle.someip_audit.proofs.books.Books.due.Goals as goal

pub returns-in-Some-clause-due : goal.returns-in-Some-clause-due
returns-in-Some-clause-due g c =
    rw (← c.self.view_is) (call_is_due (record { times = c.self.inside.times; calls = c.self.inside.calls; segments = c.self.inside.segments; offers = c.self.inside.offers; servers = c.self.inside.servers; subscriptions = c.self.inside.subscriptions; sessions = c.self.inside.sessions; receivers = c.self.inside.receivers; events = c.self.inside.events; cycles = c.self.inside.cycles; ways = c.self.inside.ways; watched = c.self.inside.watched; is_offered = c.self.inside.is_offered }) c.args.now c.next_due-segments.result c.next_due-offers.result c.next_due-subscriptions.result c.next_due-lost.result c.next_due-cycles.result c.next_expiry-end.result c.next_due-segments.ensures c.next_due-offers.ensures c.next_due-subscriptions.ensures c.next_due-lost.ensures c.next_due-cycles.ensures c.next_expiry-end.ensures
    c.unless_ended-silent.result c.earlier-later.result c.earlier-others.result c.earlier-rest.result c.earlier-next.result c.soonest-at.result c.unless_ended-silent.ensures c.earlier-later.ensures c.earlier-others.ensures c.earlier-rest.ensures c.earlier-next.ensures c.soonest-at.ensures
    c.in-Some.call c.in-Some.ensures.open c.in-Some.ensures.passed)

pub returns-in-Some-clause-first : goal.returns-in-Some-clause-first
returns-in-Some-clause-first g c =
    rw (← c.self.view_is) (call_first (record { times = c.self.inside.times; calls = c.self.inside.calls; segments = c.self.inside.segments; offers = c.self.inside.offers; servers = c.self.inside.servers; subscriptions = c.self.inside.subscriptions; sessions = c.self.inside.sessions; receivers = c.self.inside.receivers; events = c.self.inside.events; cycles = c.self.inside.cycles; ways = c.self.inside.ways; watched = c.self.inside.watched; is_offered = c.self.inside.is_offered }) c.args.now c.next_due-segments.result c.next_due-offers.result c.next_due-subscriptions.result c.next_due-lost.result c.next_due-cycles.result c.next_expiry-end.result c.next_due-segments.ensures c.next_due-offers.ensures c.next_due-subscriptions.ensures c.next_due-lost.ensures c.next_due-cycles.ensures c.next_expiry-end.ensures
    c.unless_ended-silent.result c.earlier-later.result c.earlier-others.result c.earlier-rest.result c.earlier-next.result c.soonest-at.result c.unless_ended-silent.ensures c.earlier-later.ensures c.earlier-others.ensures c.earlier-rest.ensures c.earlier-next.ensures c.soonest-at.ensures
    c.in-Some.call c.in-Some.ensures.passed c.in-Some.ensures.first)

pub returns-then-not-is_at-clause-none : goal.returns-then-not-is_at-clause-none
returns-then-not-is_at-clause-none g c =
    let no_next : is_awaited c.soonest-at.result c.earlier-next.result ≡ false = search rules in
    rw (← c.self.view_is) (none_first (record { times = c.self.inside.times; calls = c.self.inside.calls; segments = c.self.inside.segments; offers = c.self.inside.offers; servers = c.self.inside.servers; subscriptions = c.self.inside.subscriptions; sessions = c.self.inside.sessions; receivers = c.self.inside.receivers; events = c.self.inside.events; cycles = c.self.inside.cycles; ways = c.self.inside.ways; watched = c.self.inside.watched; is_offered = c.self.inside.is_offered }) c.args.now c.next_due-segments.result c.next_due-offers.result c.next_due-subscriptions.result c.next_due-lost.result c.next_due-cycles.result c.next_expiry-end.result c.next_due-segments.ensures c.next_due-offers.ensures c.next_due-subscriptions.ensures c.next_due-lost.ensures c.next_due-cycles.ensures c.next_expiry-end.ensures
    c.unless_ended-silent.result c.earlier-later.result c.earlier-others.result c.earlier-rest.result c.earlier-next.result c.soonest-at.result c.unless_ended-silent.ensures c.earlier-later.ensures c.earlier-others.ensures c.earlier-rest.ensures c.earlier-next.ensures c.soonest-at.ensures
    c.in_default.ensures.none no_next)

pub returns-then-not-is_at-clause-after : goal.returns-then-not-is_at-clause-after
returns-then-not-is_at-clause-after g c =
    let no_next : is_awaited c.soonest-at.result c.earlier-next.result ≡ false = search rules in
    rw (← c.self.view_is) (none_after (record { times = c.self.inside.times; calls = c.self.inside.calls; segments = c.self.inside.segments; offers = c.self.inside.offers; servers = c.self.inside.servers; subscriptions = c.self.inside.subscriptions; sessions = c.self.inside.sessions; receivers = c.self.inside.receivers; events = c.self.inside.events; cycles = c.self.inside.cycles; ways = c.self.inside.ways; watched = c.self.inside.watched; is_offered = c.self.inside.is_offered }) c.args.now c.next_due-segments.result c.next_due-offers.result c.next_due-subscriptions.result c.next_due-lost.result c.next_due-cycles.result c.next_expiry-end.result c.next_due-segments.ensures c.next_due-offers.ensures c.next_due-subscriptions.ensures c.next_due-lost.ensures c.next_due-cycles.ensures c.next_expiry-end.ensures
    c.unless_ended-silent.result c.earlier-later.result c.earlier-others.result c.earlier-rest.result c.earlier-next.result c.soonest-at.result c.unless_ended-silent.ensures c.earlier-later.ensures c.earlier-others.ensures c.earlier-rest.ensures c.earlier-next.ensures c.soonest-at.ensures
    c.in_default.ensures.none no_next c.due.new.self c.in_default.ensures.after)

pub returns-in_err-due-clause-none : goal.returns-in_err-due-clause-none
returns-in_err-due-clause-none g c =
    let there : is_awaited c.soonest-at.result c.earlier-next.result ≡ true = search rules in
    let first_is : is_awaited c.soonest-at.result c.next_due-segments.result ≡ true = search rules in
    absurd (no_missing (record { times = c.self.inside.times; calls = c.self.inside.calls; segments = c.self.inside.segments; offers = c.self.inside.offers; servers = c.self.inside.servers; subscriptions = c.self.inside.subscriptions; sessions = c.self.inside.sessions; receivers = c.self.inside.receivers; events = c.self.inside.events; cycles = c.self.inside.cycles; ways = c.self.inside.ways; watched = c.self.inside.watched; is_offered = c.self.inside.is_offered }) c.args.now c.next_due-segments.result c.next_due-offers.result c.next_due-subscriptions.result c.next_due-lost.result c.next_due-cycles.result c.next_expiry-end.result c.next_due-segments.ensures c.next_due-offers.ensures c.next_due-subscriptions.ensures c.next_due-lost.ensures c.next_due-cycles.ensures c.next_expiry-end.ensures
    c.unless_ended-silent.result c.earlier-later.result c.earlier-others.result c.earlier-rest.result c.earlier-next.result c.soonest-at.result c.unless_ended-silent.ensures c.earlier-later.ensures c.earlier-others.ensures c.earlier-rest.ensures c.earlier-next.ensures c.soonest-at.ensures
    c.in_default.ensures.none there first_is c.in_err-due.ensures.none)

pub returns-in_err-due-clause-after : goal.returns-in_err-due-clause-after
returns-in_err-due-clause-after g c =
    let there : is_awaited c.soonest-at.result c.earlier-next.result ≡ true = search rules in
    let first_is : is_awaited c.soonest-at.result c.next_due-segments.result ≡ true = search rules in
    absurd (no_missing (record { times = c.self.inside.times; calls = c.self.inside.calls; segments = c.self.inside.segments; offers = c.self.inside.offers; servers = c.self.inside.servers; subscriptions = c.self.inside.subscriptions; sessions = c.self.inside.sessions; receivers = c.self.inside.receivers; events = c.self.inside.events; cycles = c.self.inside.cycles; ways = c.self.inside.ways; watched = c.self.inside.watched; is_offered = c.self.inside.is_offered }) c.args.now c.next_due-segments.result c.next_due-offers.result c.next_due-subscriptions.result c.next_due-lost.result c.next_due-cycles.result c.next_expiry-end.result c.next_due-segments.ensures c.next_due-offers.ensures c.next_due-subscriptions.ensures c.next_due-lost.ensures c.next_due-cycles.ensures c.next_expiry-end.ensures
    c.unless_ended-silent.result c.earlier-later.result c.earlier-others.result c.earlier-rest.result c.earlier-next.result c.soonest-at.result c.unless_ended-silent.ensures c.earlier-later.ensures c.earlier-others.ensures c.earlier-rest.ensures c.earlier-next.ensures c.soonest-at.ensures
    c.in_default.ensures.none there first_is c.in_err-due.ensures.none)

pub returns-then-is_at-clause-due : goal.returns-then-is_at-clause-due
returns-then-is_at-clause-due g c =
    let there : is_awaited c.soonest-at.result c.earlier-next.result ≡ true = search rules in
    let first_is : is_awaited c.soonest-at.result c.next_due-segments.result ≡ true = search rules in
    rw (← c.self.view_is) (missing_is_due (record { times = c.self.inside.times; calls = c.self.inside.calls; segments = c.self.inside.segments; offers = c.self.inside.offers; servers = c.self.inside.servers; subscriptions = c.self.inside.subscriptions; sessions = c.self.inside.sessions; receivers = c.self.inside.receivers; events = c.self.inside.events; cycles = c.self.inside.cycles; ways = c.self.inside.ways; watched = c.self.inside.watched; is_offered = c.self.inside.is_offered }) c.args.now c.next_due-segments.result c.next_due-offers.result c.next_due-subscriptions.result c.next_due-lost.result c.next_due-cycles.result c.next_expiry-end.result c.next_due-segments.ensures c.next_due-offers.ensures c.next_due-subscriptions.ensures c.next_due-lost.ensures c.next_due-cycles.ensures c.next_expiry-end.ensures
    c.unless_ended-silent.result c.earlier-later.result c.earlier-others.result c.earlier-rest.result c.earlier-next.result c.soonest-at.result c.unless_ended-silent.ensures c.earlier-later.ensures c.earlier-others.ensures c.earlier-rest.ensures c.earlier-next.ensures c.soonest-at.ensures
    c.in_default.ensures.none there first_is c.in_ok-due.field-0 c.in_ok-due.ensures.waits c.in_ok-due.ensures.first)

pub returns-then-is_at-clause-first : goal.returns-then-is_at-clause-first
returns-then-is_at-clause-first g c =
    let there : is_awaited c.soonest-at.result c.earlier-next.result ≡ true = search rules in
    let first_is : is_awaited c.soonest-at.result c.next_due-segments.result ≡ true = search rules in
    rw (← c.self.view_is) (missing_first (record { times = c.self.inside.times; calls = c.self.inside.calls; segments = c.self.inside.segments; offers = c.self.inside.offers; servers = c.self.inside.servers; subscriptions = c.self.inside.subscriptions; sessions = c.self.inside.sessions; receivers = c.self.inside.receivers; events = c.self.inside.events; cycles = c.self.inside.cycles; ways = c.self.inside.ways; watched = c.self.inside.watched; is_offered = c.self.inside.is_offered }) c.args.now c.next_due-segments.result c.next_due-offers.result c.next_due-subscriptions.result c.next_due-lost.result c.next_due-cycles.result c.next_expiry-end.result c.next_due-segments.ensures c.next_due-offers.ensures c.next_due-subscriptions.ensures c.next_due-lost.ensures c.next_due-cycles.ensures c.next_expiry-end.ensures
    c.unless_ended-silent.result c.earlier-later.result c.earlier-others.result c.earlier-rest.result c.earlier-next.result c.soonest-at.result c.unless_ended-silent.ensures c.earlier-later.ensures c.earlier-others.ensures c.earlier-rest.ensures c.earlier-next.ensures c.soonest-at.ensures
    c.in_default.ensures.none there first_is c.in_ok-due.field-0 c.in_ok-due.ensures.waits c.in_ok-due.ensures.first)

pub returns-then-is_at-clause-after : goal.returns-then-is_at-clause-after
returns-then-is_at-clause-after g c =
    let there : is_awaited c.soonest-at.result c.earlier-next.result ≡ true = search rules in
    let first_is : is_awaited c.soonest-at.result c.next_due-segments.result ≡ true = search rules in
    rw (← c.self.view_is) (missing_after (record { times = c.self.inside.times; calls = c.self.inside.calls; segments = c.self.inside.segments; offers = c.self.inside.offers; servers = c.self.inside.servers; subscriptions = c.self.inside.subscriptions; sessions = c.self.inside.sessions; receivers = c.self.inside.receivers; events = c.self.inside.events; cycles = c.self.inside.cycles; ways = c.self.inside.ways; watched = c.self.inside.watched; is_offered = c.self.inside.is_offered }) c.args.now c.next_due-segments.result c.next_due-offers.result c.next_due-subscriptions.result c.next_due-lost.result c.next_due-cycles.result c.next_expiry-end.result c.next_due-segments.ensures c.next_due-offers.ensures c.next_due-subscriptions.ensures c.next_due-lost.ensures c.next_due-cycles.ensures c.next_expiry-end.ensures
    c.unless_ended-silent.result c.earlier-later.result c.earlier-others.result c.earlier-rest.result c.earlier-next.result c.soonest-at.result c.unless_ended-silent.ensures c.earlier-later.ensures c.earlier-others.ensures c.earlier-rest.ensures c.earlier-next.ensures c.soonest-at.ensures
    c.in_default.ensures.none there first_is c.in_ok-due.field-0 c.in_ok-due.ensures.waits c.in_ok-due.ensures.first c.due.new.self c.due-then-is_at.new.self c.in_default.ensures.after c.in_ok-due.ensures.after)

pub returns-in_err-due-2-clause-none : goal.returns-in_err-due-2-clause-none
returns-in_err-due-2-clause-none g c =
    let there : is_awaited c.soonest-at.result c.earlier-next.result ≡ true = search rules in
    let not_seg : is_awaited c.soonest-at.result c.next_due-segments.result ≡ false = search rules in
    let first_is : is_awaited c.soonest-at.result c.next_due-offers.result ≡ true = search rules in
    absurd (no_expired (record { times = c.self.inside.times; calls = c.self.inside.calls; segments = c.self.inside.segments; offers = c.self.inside.offers; servers = c.self.inside.servers; subscriptions = c.self.inside.subscriptions; sessions = c.self.inside.sessions; receivers = c.self.inside.receivers; events = c.self.inside.events; cycles = c.self.inside.cycles; ways = c.self.inside.ways; watched = c.self.inside.watched; is_offered = c.self.inside.is_offered }) c.args.now c.next_due-segments.result c.next_due-offers.result c.next_due-subscriptions.result c.next_due-lost.result c.next_due-cycles.result c.next_expiry-end.result c.next_due-segments.ensures c.next_due-offers.ensures c.next_due-subscriptions.ensures c.next_due-lost.ensures c.next_due-cycles.ensures c.next_expiry-end.ensures
    c.unless_ended-silent.result c.earlier-later.result c.earlier-others.result c.earlier-rest.result c.earlier-next.result c.soonest-at.result c.unless_ended-silent.ensures c.earlier-later.ensures c.earlier-others.ensures c.earlier-rest.ensures c.earlier-next.ensures c.soonest-at.ensures
    c.in_default.ensures.none there not_seg first_is c.in_err-due-2.ensures.told)

pub returns-in_err-due-2-clause-after : goal.returns-in_err-due-2-clause-after
returns-in_err-due-2-clause-after g c =
    let there : is_awaited c.soonest-at.result c.earlier-next.result ≡ true = search rules in
    let not_seg : is_awaited c.soonest-at.result c.next_due-segments.result ≡ false = search rules in
    let first_is : is_awaited c.soonest-at.result c.next_due-offers.result ≡ true = search rules in
    absurd (no_expired (record { times = c.self.inside.times; calls = c.self.inside.calls; segments = c.self.inside.segments; offers = c.self.inside.offers; servers = c.self.inside.servers; subscriptions = c.self.inside.subscriptions; sessions = c.self.inside.sessions; receivers = c.self.inside.receivers; events = c.self.inside.events; cycles = c.self.inside.cycles; ways = c.self.inside.ways; watched = c.self.inside.watched; is_offered = c.self.inside.is_offered }) c.args.now c.next_due-segments.result c.next_due-offers.result c.next_due-subscriptions.result c.next_due-lost.result c.next_due-cycles.result c.next_expiry-end.result c.next_due-segments.ensures c.next_due-offers.ensures c.next_due-subscriptions.ensures c.next_due-lost.ensures c.next_due-cycles.ensures c.next_expiry-end.ensures
    c.unless_ended-silent.result c.earlier-later.result c.earlier-others.result c.earlier-rest.result c.earlier-next.result c.soonest-at.result c.unless_ended-silent.ensures c.earlier-later.ensures c.earlier-others.ensures c.earlier-rest.ensures c.earlier-next.ensures c.soonest-at.ensures
    c.in_default.ensures.none there not_seg first_is c.in_err-due-2.ensures.told)

pub returns-then-is_at-2-clause-due : goal.returns-then-is_at-2-clause-due
returns-then-is_at-2-clause-due g c =
    let there : is_awaited c.soonest-at.result c.earlier-next.result ≡ true = search rules in
    let not_seg : is_awaited c.soonest-at.result c.next_due-segments.result ≡ false = search rules in
    let first_is : is_awaited c.soonest-at.result c.next_due-offers.result ≡ true = search rules in
    rw (← c.self.view_is) (expired_is_due (record { times = c.self.inside.times; calls = c.self.inside.calls; segments = c.self.inside.segments; offers = c.self.inside.offers; servers = c.self.inside.servers; subscriptions = c.self.inside.subscriptions; sessions = c.self.inside.sessions; receivers = c.self.inside.receivers; events = c.self.inside.events; cycles = c.self.inside.cycles; ways = c.self.inside.ways; watched = c.self.inside.watched; is_offered = c.self.inside.is_offered }) c.args.now c.next_due-segments.result c.next_due-offers.result c.next_due-subscriptions.result c.next_due-lost.result c.next_due-cycles.result c.next_expiry-end.result c.next_due-segments.ensures c.next_due-offers.ensures c.next_due-subscriptions.ensures c.next_due-lost.ensures c.next_due-cycles.ensures c.next_expiry-end.ensures
    c.unless_ended-silent.result c.earlier-later.result c.earlier-others.result c.earlier-rest.result c.earlier-next.result c.soonest-at.result c.unless_ended-silent.ensures c.earlier-later.ensures c.earlier-others.ensures c.earlier-rest.ensures c.earlier-next.ensures c.soonest-at.ensures
    c.in_default.ensures.none there not_seg first_is c.in_ok-due-2.field-0 c.in_ok-due-2.ensures.told)

pub returns-then-is_at-2-clause-first : goal.returns-then-is_at-2-clause-first
returns-then-is_at-2-clause-first g c =
    let there : is_awaited c.soonest-at.result c.earlier-next.result ≡ true = search rules in
    let not_seg : is_awaited c.soonest-at.result c.next_due-segments.result ≡ false = search rules in
    let first_is : is_awaited c.soonest-at.result c.next_due-offers.result ≡ true = search rules in
    rw (← c.self.view_is) (expired_first (record { times = c.self.inside.times; calls = c.self.inside.calls; segments = c.self.inside.segments; offers = c.self.inside.offers; servers = c.self.inside.servers; subscriptions = c.self.inside.subscriptions; sessions = c.self.inside.sessions; receivers = c.self.inside.receivers; events = c.self.inside.events; cycles = c.self.inside.cycles; ways = c.self.inside.ways; watched = c.self.inside.watched; is_offered = c.self.inside.is_offered }) c.args.now c.next_due-segments.result c.next_due-offers.result c.next_due-subscriptions.result c.next_due-lost.result c.next_due-cycles.result c.next_expiry-end.result c.next_due-segments.ensures c.next_due-offers.ensures c.next_due-subscriptions.ensures c.next_due-lost.ensures c.next_due-cycles.ensures c.next_expiry-end.ensures
    c.unless_ended-silent.result c.earlier-later.result c.earlier-others.result c.earlier-rest.result c.earlier-next.result c.soonest-at.result c.unless_ended-silent.ensures c.earlier-later.ensures c.earlier-others.ensures c.earlier-rest.ensures c.earlier-next.ensures c.soonest-at.ensures
    c.in_default.ensures.none there not_seg first_is c.in_ok-due-2.field-0 c.in_ok-due-2.ensures.told)

pub returns-then-is_at-2-clause-after : goal.returns-then-is_at-2-clause-after
returns-then-is_at-2-clause-after g c =
    let there : is_awaited c.soonest-at.result c.earlier-next.result ≡ true = search rules in
    let not_seg : is_awaited c.soonest-at.result c.next_due-segments.result ≡ false = search rules in
    let first_is : is_awaited c.soonest-at.result c.next_due-offers.result ≡ true = search rules in
    rw (← c.self.view_is) (expired_after (record { times = c.self.inside.times; calls = c.self.inside.calls; segments = c.self.inside.segments; offers = c.self.inside.offers; servers = c.self.inside.servers; subscriptions = c.self.inside.subscriptions; sessions = c.self.inside.sessions; receivers = c.self.inside.receivers; events = c.self.inside.events; cycles = c.self.inside.cycles; ways = c.self.inside.ways; watched = c.self.inside.watched; is_offered = c.self.inside.is_offered }) c.args.now c.next_due-segments.result c.next_due-offers.result c.next_due-subscriptions.result c.next_due-lost.result c.next_due-cycles.result c.next_expiry-end.result c.next_due-segments.ensures c.next_due-offers.ensures c.next_due-subscriptions.ensures c.next_due-lost.ensures c.next_due-cycles.ensures c.next_expiry-end.ensures
    c.unless_ended-silent.result c.earlier-later.result c.earlier-others.result c.earlier-rest.result c.earlier-next.result c.soonest-at.result c.unless_ended-silent.ensures c.earlier-later.ensures c.earlier-others.ensures c.earlier-rest.ensures c.earlier-next.ensures c.soonest-at.ensures
    c.in_default.ensures.none there not_seg first_is c.in_ok-due-2.field-0 c.in_ok-due-2.ensures.told c.due.new.self c.due-then-is_at-2.new.self c.in_default.ensures.after c.in_ok-due-2.ensures.after)

pub returns-in_err-due-3-clause-none : goal.returns-in_err-due-3-clause-none
returns-in_err-due-3-clause-none g c =
    let there : is_awaited c.soonest-at.result c.earlier-next.result ≡ true = search rules in
    let not_seg : is_awaited c.soonest-at.result c.next_due-segments.result ≡ false = search rules in
    let not_off : is_awaited c.soonest-at.result c.next_due-offers.result ≡ false = search rules in
    let first_is : is_awaited c.soonest-at.result c.next_due-subscriptions.result ≡ true = search rules in
    absurd (no_asked (record { times = c.self.inside.times; calls = c.self.inside.calls; segments = c.self.inside.segments; offers = c.self.inside.offers; servers = c.self.inside.servers; subscriptions = c.self.inside.subscriptions; sessions = c.self.inside.sessions; receivers = c.self.inside.receivers; events = c.self.inside.events; cycles = c.self.inside.cycles; ways = c.self.inside.ways; watched = c.self.inside.watched; is_offered = c.self.inside.is_offered }) c.args.now c.next_due-segments.result c.next_due-offers.result c.next_due-subscriptions.result c.next_due-lost.result c.next_due-cycles.result c.next_expiry-end.result c.next_due-segments.ensures c.next_due-offers.ensures c.next_due-subscriptions.ensures c.next_due-lost.ensures c.next_due-cycles.ensures c.next_expiry-end.ensures
    c.unless_ended-silent.result c.earlier-later.result c.earlier-others.result c.earlier-rest.result c.earlier-next.result c.soonest-at.result c.unless_ended-silent.ensures c.earlier-later.ensures c.earlier-others.ensures c.earlier-rest.ensures c.earlier-next.ensures c.soonest-at.ensures
    c.in_default.ensures.none there not_seg not_off first_is c.in_err-due-3.ensures.told)

pub returns-in_err-due-3-clause-after : goal.returns-in_err-due-3-clause-after
returns-in_err-due-3-clause-after g c =
    let there : is_awaited c.soonest-at.result c.earlier-next.result ≡ true = search rules in
    let not_seg : is_awaited c.soonest-at.result c.next_due-segments.result ≡ false = search rules in
    let not_off : is_awaited c.soonest-at.result c.next_due-offers.result ≡ false = search rules in
    let first_is : is_awaited c.soonest-at.result c.next_due-subscriptions.result ≡ true = search rules in
    absurd (no_asked (record { times = c.self.inside.times; calls = c.self.inside.calls; segments = c.self.inside.segments; offers = c.self.inside.offers; servers = c.self.inside.servers; subscriptions = c.self.inside.subscriptions; sessions = c.self.inside.sessions; receivers = c.self.inside.receivers; events = c.self.inside.events; cycles = c.self.inside.cycles; ways = c.self.inside.ways; watched = c.self.inside.watched; is_offered = c.self.inside.is_offered }) c.args.now c.next_due-segments.result c.next_due-offers.result c.next_due-subscriptions.result c.next_due-lost.result c.next_due-cycles.result c.next_expiry-end.result c.next_due-segments.ensures c.next_due-offers.ensures c.next_due-subscriptions.ensures c.next_due-lost.ensures c.next_due-cycles.ensures c.next_expiry-end.ensures
    c.unless_ended-silent.result c.earlier-later.result c.earlier-others.result c.earlier-rest.result c.earlier-next.result c.soonest-at.result c.unless_ended-silent.ensures c.earlier-later.ensures c.earlier-others.ensures c.earlier-rest.ensures c.earlier-next.ensures c.soonest-at.ensures
    c.in_default.ensures.none there not_seg not_off first_is c.in_err-due-3.ensures.told)

pub returns-then-is_at-3-clause-due : goal.returns-then-is_at-3-clause-due
returns-then-is_at-3-clause-due g c =
    let there : is_awaited c.soonest-at.result c.earlier-next.result ≡ true = search rules in
    let not_seg : is_awaited c.soonest-at.result c.next_due-segments.result ≡ false = search rules in
    let not_off : is_awaited c.soonest-at.result c.next_due-offers.result ≡ false = search rules in
    let first_is : is_awaited c.soonest-at.result c.next_due-subscriptions.result ≡ true = search rules in
    rw (← c.self.view_is) (asked_is_due (record { times = c.self.inside.times; calls = c.self.inside.calls; segments = c.self.inside.segments; offers = c.self.inside.offers; servers = c.self.inside.servers; subscriptions = c.self.inside.subscriptions; sessions = c.self.inside.sessions; receivers = c.self.inside.receivers; events = c.self.inside.events; cycles = c.self.inside.cycles; ways = c.self.inside.ways; watched = c.self.inside.watched; is_offered = c.self.inside.is_offered }) c.args.now c.next_due-segments.result c.next_due-offers.result c.next_due-subscriptions.result c.next_due-lost.result c.next_due-cycles.result c.next_expiry-end.result c.next_due-segments.ensures c.next_due-offers.ensures c.next_due-subscriptions.ensures c.next_due-lost.ensures c.next_due-cycles.ensures c.next_expiry-end.ensures
    c.unless_ended-silent.result c.earlier-later.result c.earlier-others.result c.earlier-rest.result c.earlier-next.result c.soonest-at.result c.unless_ended-silent.ensures c.earlier-later.ensures c.earlier-others.ensures c.earlier-rest.ensures c.earlier-next.ensures c.soonest-at.ensures
    c.in_default.ensures.none there not_seg not_off first_is c.in_ok-due-3.field-0 c.in_ok-due-3.ensures.told)

pub returns-then-is_at-3-clause-first : goal.returns-then-is_at-3-clause-first
returns-then-is_at-3-clause-first g c =
    let there : is_awaited c.soonest-at.result c.earlier-next.result ≡ true = search rules in
    let not_seg : is_awaited c.soonest-at.result c.next_due-segments.result ≡ false = search rules in
    let not_off : is_awaited c.soonest-at.result c.next_due-offers.result ≡ false = search rules in
    let first_is : is_awaited c.soonest-at.result c.next_due-subscriptions.result ≡ true = search rules in
    rw (← c.self.view_is) (asked_first (record { times = c.self.inside.times; calls = c.self.inside.calls; segments = c.self.inside.segments; offers = c.self.inside.offers; servers = c.self.inside.servers; subscriptions = c.self.inside.subscriptions; sessions = c.self.inside.sessions; receivers = c.self.inside.receivers; events = c.self.inside.events; cycles = c.self.inside.cycles; ways = c.self.inside.ways; watched = c.self.inside.watched; is_offered = c.self.inside.is_offered }) c.args.now c.next_due-segments.result c.next_due-offers.result c.next_due-subscriptions.result c.next_due-lost.result c.next_due-cycles.result c.next_expiry-end.result c.next_due-segments.ensures c.next_due-offers.ensures c.next_due-subscriptions.ensures c.next_due-lost.ensures c.next_due-cycles.ensures c.next_expiry-end.ensures
    c.unless_ended-silent.result c.earlier-later.result c.earlier-others.result c.earlier-rest.result c.earlier-next.result c.soonest-at.result c.unless_ended-silent.ensures c.earlier-later.ensures c.earlier-others.ensures c.earlier-rest.ensures c.earlier-next.ensures c.soonest-at.ensures
    c.in_default.ensures.none there not_seg not_off first_is c.in_ok-due-3.field-0 c.in_ok-due-3.ensures.told)

pub returns-then-is_at-3-clause-after : goal.returns-then-is_at-3-clause-after
returns-then-is_at-3-clause-after g c =
    let there : is_awaited c.soonest-at.result c.earlier-next.result ≡ true = search rules in
    let not_seg : is_awaited c.soonest-at.result c.next_due-segments.result ≡ false = search rules in
    let not_off : is_awaited c.soonest-at.result c.next_due-offers.result ≡ false = search rules in
    let first_is : is_awaited c.soonest-at.result c.next_due-subscriptions.result ≡ true = search rules in
    rw (← c.self.view_is) (asked_after (record { times = c.self.inside.times; calls = c.self.inside.calls; segments = c.self.inside.segments; offers = c.self.inside.offers; servers = c.self.inside.servers; subscriptions = c.self.inside.subscriptions; sessions = c.self.inside.sessions; receivers = c.self.inside.receivers; events = c.self.inside.events; cycles = c.self.inside.cycles; ways = c.self.inside.ways; watched = c.self.inside.watched; is_offered = c.self.inside.is_offered }) c.args.now c.next_due-segments.result c.next_due-offers.result c.next_due-subscriptions.result c.next_due-lost.result c.next_due-cycles.result c.next_expiry-end.result c.next_due-segments.ensures c.next_due-offers.ensures c.next_due-subscriptions.ensures c.next_due-lost.ensures c.next_due-cycles.ensures c.next_expiry-end.ensures
    c.unless_ended-silent.result c.earlier-later.result c.earlier-others.result c.earlier-rest.result c.earlier-next.result c.soonest-at.result c.unless_ended-silent.ensures c.earlier-later.ensures c.earlier-others.ensures c.earlier-rest.ensures c.earlier-next.ensures c.soonest-at.ensures
    c.in_default.ensures.none there not_seg not_off first_is c.in_ok-due-3.field-0 c.in_ok-due-3.ensures.told c.due.new.self c.due-then-is_at-3.new.self c.in_default.ensures.after c.in_ok-due-3.ensures.after)

pub returns-in_err-due-4-clause-none : goal.returns-in_err-due-4-clause-none
returns-in_err-due-4-clause-none g c =
    let there : is_awaited c.soonest-at.result c.earlier-next.result ≡ true = search rules in
    let not_seg : is_awaited c.soonest-at.result c.next_due-segments.result ≡ false = search rules in
    let not_off : is_awaited c.soonest-at.result c.next_due-offers.result ≡ false = search rules in
    let not_sub : is_awaited c.soonest-at.result c.next_due-subscriptions.result ≡ false = search rules in
    let first_is : is_awaited c.soonest-at.result c.next_due-lost.result ≡ true = search rules in
    absurd (no_lost (record { times = c.self.inside.times; calls = c.self.inside.calls; segments = c.self.inside.segments; offers = c.self.inside.offers; servers = c.self.inside.servers; subscriptions = c.self.inside.subscriptions; sessions = c.self.inside.sessions; receivers = c.self.inside.receivers; events = c.self.inside.events; cycles = c.self.inside.cycles; ways = c.self.inside.ways; watched = c.self.inside.watched; is_offered = c.self.inside.is_offered }) c.args.now c.next_due-segments.result c.next_due-offers.result c.next_due-subscriptions.result c.next_due-lost.result c.next_due-cycles.result c.next_expiry-end.result c.next_due-segments.ensures c.next_due-offers.ensures c.next_due-subscriptions.ensures c.next_due-lost.ensures c.next_due-cycles.ensures c.next_expiry-end.ensures
    c.unless_ended-silent.result c.earlier-later.result c.earlier-others.result c.earlier-rest.result c.earlier-next.result c.soonest-at.result c.unless_ended-silent.ensures c.earlier-later.ensures c.earlier-others.ensures c.earlier-rest.ensures c.earlier-next.ensures c.soonest-at.ensures
    c.in_default.ensures.none there not_seg not_off not_sub first_is c.in_err-due-4.ensures.told)

pub returns-in_err-due-4-clause-after : goal.returns-in_err-due-4-clause-after
returns-in_err-due-4-clause-after g c =
    let there : is_awaited c.soonest-at.result c.earlier-next.result ≡ true = search rules in
    let not_seg : is_awaited c.soonest-at.result c.next_due-segments.result ≡ false = search rules in
    let not_off : is_awaited c.soonest-at.result c.next_due-offers.result ≡ false = search rules in
    let not_sub : is_awaited c.soonest-at.result c.next_due-subscriptions.result ≡ false = search rules in
    let first_is : is_awaited c.soonest-at.result c.next_due-lost.result ≡ true = search rules in
    absurd (no_lost (record { times = c.self.inside.times; calls = c.self.inside.calls; segments = c.self.inside.segments; offers = c.self.inside.offers; servers = c.self.inside.servers; subscriptions = c.self.inside.subscriptions; sessions = c.self.inside.sessions; receivers = c.self.inside.receivers; events = c.self.inside.events; cycles = c.self.inside.cycles; ways = c.self.inside.ways; watched = c.self.inside.watched; is_offered = c.self.inside.is_offered }) c.args.now c.next_due-segments.result c.next_due-offers.result c.next_due-subscriptions.result c.next_due-lost.result c.next_due-cycles.result c.next_expiry-end.result c.next_due-segments.ensures c.next_due-offers.ensures c.next_due-subscriptions.ensures c.next_due-lost.ensures c.next_due-cycles.ensures c.next_expiry-end.ensures
    c.unless_ended-silent.result c.earlier-later.result c.earlier-others.result c.earlier-rest.result c.earlier-next.result c.soonest-at.result c.unless_ended-silent.ensures c.earlier-later.ensures c.earlier-others.ensures c.earlier-rest.ensures c.earlier-next.ensures c.soonest-at.ensures
    c.in_default.ensures.none there not_seg not_off not_sub first_is c.in_err-due-4.ensures.told)

pub returns-then-is_at-4-clause-due : goal.returns-then-is_at-4-clause-due
returns-then-is_at-4-clause-due g c =
    let there : is_awaited c.soonest-at.result c.earlier-next.result ≡ true = search rules in
    let not_seg : is_awaited c.soonest-at.result c.next_due-segments.result ≡ false = search rules in
    let not_off : is_awaited c.soonest-at.result c.next_due-offers.result ≡ false = search rules in
    let not_sub : is_awaited c.soonest-at.result c.next_due-subscriptions.result ≡ false = search rules in
    let first_is : is_awaited c.soonest-at.result c.next_due-lost.result ≡ true = search rules in
    rw (← c.self.view_is) (lost_is_due (record { times = c.self.inside.times; calls = c.self.inside.calls; segments = c.self.inside.segments; offers = c.self.inside.offers; servers = c.self.inside.servers; subscriptions = c.self.inside.subscriptions; sessions = c.self.inside.sessions; receivers = c.self.inside.receivers; events = c.self.inside.events; cycles = c.self.inside.cycles; ways = c.self.inside.ways; watched = c.self.inside.watched; is_offered = c.self.inside.is_offered }) c.args.now c.next_due-segments.result c.next_due-offers.result c.next_due-subscriptions.result c.next_due-lost.result c.next_due-cycles.result c.next_expiry-end.result c.next_due-segments.ensures c.next_due-offers.ensures c.next_due-subscriptions.ensures c.next_due-lost.ensures c.next_due-cycles.ensures c.next_expiry-end.ensures
    c.unless_ended-silent.result c.earlier-later.result c.earlier-others.result c.earlier-rest.result c.earlier-next.result c.soonest-at.result c.unless_ended-silent.ensures c.earlier-later.ensures c.earlier-others.ensures c.earlier-rest.ensures c.earlier-next.ensures c.soonest-at.ensures
    c.in_default.ensures.none there not_seg not_off not_sub first_is c.in_ok-due-4.field-0 c.in_ok-due-4.ensures.told)

pub returns-then-is_at-4-clause-first : goal.returns-then-is_at-4-clause-first
returns-then-is_at-4-clause-first g c =
    let there : is_awaited c.soonest-at.result c.earlier-next.result ≡ true = search rules in
    let not_seg : is_awaited c.soonest-at.result c.next_due-segments.result ≡ false = search rules in
    let not_off : is_awaited c.soonest-at.result c.next_due-offers.result ≡ false = search rules in
    let not_sub : is_awaited c.soonest-at.result c.next_due-subscriptions.result ≡ false = search rules in
    let first_is : is_awaited c.soonest-at.result c.next_due-lost.result ≡ true = search rules in
    rw (← c.self.view_is) (lost_first (record { times = c.self.inside.times; calls = c.self.inside.calls; segments = c.self.inside.segments; offers = c.self.inside.offers; servers = c.self.inside.servers; subscriptions = c.self.inside.subscriptions; sessions = c.self.inside.sessions; receivers = c.self.inside.receivers; events = c.self.inside.events; cycles = c.self.inside.cycles; ways = c.self.inside.ways; watched = c.self.inside.watched; is_offered = c.self.inside.is_offered }) c.args.now c.next_due-segments.result c.next_due-offers.result c.next_due-subscriptions.result c.next_due-lost.result c.next_due-cycles.result c.next_expiry-end.result c.next_due-segments.ensures c.next_due-offers.ensures c.next_due-subscriptions.ensures c.next_due-lost.ensures c.next_due-cycles.ensures c.next_expiry-end.ensures
    c.unless_ended-silent.result c.earlier-later.result c.earlier-others.result c.earlier-rest.result c.earlier-next.result c.soonest-at.result c.unless_ended-silent.ensures c.earlier-later.ensures c.earlier-others.ensures c.earlier-rest.ensures c.earlier-next.ensures c.soonest-at.ensures
    c.in_default.ensures.none there not_seg not_off not_sub first_is c.in_ok-due-4.field-0 c.in_ok-due-4.ensures.told)

pub returns-then-is_at-4-clause-after : goal.returns-then-is_at-4-clause-after
returns-then-is_at-4-clause-after g c =
    let there : is_awaited c.soonest-at.result c.earlier-next.result ≡ true = search rules in
    let not_seg : is_awaited c.soonest-at.result c.next_due-segments.result ≡ false = search rules in
    let not_off : is_awaited c.soonest-at.result c.next_due-offers.result ≡ false = search rules in
    let not_sub : is_awaited c.soonest-at.result c.next_due-subscriptions.result ≡ false = search rules in
    let first_is : is_awaited c.soonest-at.result c.next_due-lost.result ≡ true = search rules in
    rw (← c.self.view_is) (lost_after (record { times = c.self.inside.times; calls = c.self.inside.calls; segments = c.self.inside.segments; offers = c.self.inside.offers; servers = c.self.inside.servers; subscriptions = c.self.inside.subscriptions; sessions = c.self.inside.sessions; receivers = c.self.inside.receivers; events = c.self.inside.events; cycles = c.self.inside.cycles; ways = c.self.inside.ways; watched = c.self.inside.watched; is_offered = c.self.inside.is_offered }) c.args.now c.next_due-segments.result c.next_due-offers.result c.next_due-subscriptions.result c.next_due-lost.result c.next_due-cycles.result c.next_expiry-end.result c.next_due-segments.ensures c.next_due-offers.ensures c.next_due-subscriptions.ensures c.next_due-lost.ensures c.next_due-cycles.ensures c.next_expiry-end.ensures
    c.unless_ended-silent.result c.earlier-later.result c.earlier-others.result c.earlier-rest.result c.earlier-next.result c.soonest-at.result c.unless_ended-silent.ensures c.earlier-later.ensures c.earlier-others.ensures c.earlier-rest.ensures c.earlier-next.ensures c.soonest-at.ensures
    c.in_default.ensures.none there not_seg not_off not_sub first_is c.in_ok-due-4.field-0 c.in_ok-due-4.ensures.told c.due.new.self c.due-then-is_at-4.new.self c.in_default.ensures.after c.in_ok-due-4.ensures.after)

pub returns-in_err-due-5-clause-none : goal.returns-in_err-due-5-clause-none
returns-in_err-due-5-clause-none g c =
    let there : is_awaited c.soonest-at.result c.earlier-next.result ≡ true = search rules in
    let not_seg : is_awaited c.soonest-at.result c.next_due-segments.result ≡ false = search rules in
    let not_off : is_awaited c.soonest-at.result c.next_due-offers.result ≡ false = search rules in
    let not_sub : is_awaited c.soonest-at.result c.next_due-subscriptions.result ≡ false = search rules in
    let not_lost : is_awaited c.soonest-at.result c.next_due-lost.result ≡ false = search rules in
    absurd (no_silent (record { times = c.self.inside.times; calls = c.self.inside.calls; segments = c.self.inside.segments; offers = c.self.inside.offers; servers = c.self.inside.servers; subscriptions = c.self.inside.subscriptions; sessions = c.self.inside.sessions; receivers = c.self.inside.receivers; events = c.self.inside.events; cycles = c.self.inside.cycles; ways = c.self.inside.ways; watched = c.self.inside.watched; is_offered = c.self.inside.is_offered }) c.args.now c.next_due-segments.result c.next_due-offers.result c.next_due-subscriptions.result c.next_due-lost.result c.next_due-cycles.result c.next_expiry-end.result c.next_due-segments.ensures c.next_due-offers.ensures c.next_due-subscriptions.ensures c.next_due-lost.ensures c.next_due-cycles.ensures c.next_expiry-end.ensures
    c.unless_ended-silent.result c.earlier-later.result c.earlier-others.result c.earlier-rest.result c.earlier-next.result c.soonest-at.result c.unless_ended-silent.ensures c.earlier-later.ensures c.earlier-others.ensures c.earlier-rest.ensures c.earlier-next.ensures c.soonest-at.ensures
    c.in_default.ensures.none there not_seg not_off not_sub not_lost c.in_err-due-5.ensures.told)

pub returns-in_err-due-5-clause-after : goal.returns-in_err-due-5-clause-after
returns-in_err-due-5-clause-after g c =
    let there : is_awaited c.soonest-at.result c.earlier-next.result ≡ true = search rules in
    let not_seg : is_awaited c.soonest-at.result c.next_due-segments.result ≡ false = search rules in
    let not_off : is_awaited c.soonest-at.result c.next_due-offers.result ≡ false = search rules in
    let not_sub : is_awaited c.soonest-at.result c.next_due-subscriptions.result ≡ false = search rules in
    let not_lost : is_awaited c.soonest-at.result c.next_due-lost.result ≡ false = search rules in
    absurd (no_silent (record { times = c.self.inside.times; calls = c.self.inside.calls; segments = c.self.inside.segments; offers = c.self.inside.offers; servers = c.self.inside.servers; subscriptions = c.self.inside.subscriptions; sessions = c.self.inside.sessions; receivers = c.self.inside.receivers; events = c.self.inside.events; cycles = c.self.inside.cycles; ways = c.self.inside.ways; watched = c.self.inside.watched; is_offered = c.self.inside.is_offered }) c.args.now c.next_due-segments.result c.next_due-offers.result c.next_due-subscriptions.result c.next_due-lost.result c.next_due-cycles.result c.next_expiry-end.result c.next_due-segments.ensures c.next_due-offers.ensures c.next_due-subscriptions.ensures c.next_due-lost.ensures c.next_due-cycles.ensures c.next_expiry-end.ensures
    c.unless_ended-silent.result c.earlier-later.result c.earlier-others.result c.earlier-rest.result c.earlier-next.result c.soonest-at.result c.unless_ended-silent.ensures c.earlier-later.ensures c.earlier-others.ensures c.earlier-rest.ensures c.earlier-next.ensures c.soonest-at.ensures
    c.in_default.ensures.none there not_seg not_off not_sub not_lost c.in_err-due-5.ensures.told)

pub returns-clause-due : goal.returns-clause-due
returns-clause-due g c =
    let there : is_awaited c.soonest-at.result c.earlier-next.result ≡ true = search rules in
    let not_seg : is_awaited c.soonest-at.result c.next_due-segments.result ≡ false = search rules in
    let not_off : is_awaited c.soonest-at.result c.next_due-offers.result ≡ false = search rules in
    let not_sub : is_awaited c.soonest-at.result c.next_due-subscriptions.result ≡ false = search rules in
    let not_lost : is_awaited c.soonest-at.result c.next_due-lost.result ≡ false = search rules in
    rw (← c.self.view_is) (silent_is_due (record { times = c.self.inside.times; calls = c.self.inside.calls; segments = c.self.inside.segments; offers = c.self.inside.offers; servers = c.self.inside.servers; subscriptions = c.self.inside.subscriptions; sessions = c.self.inside.sessions; receivers = c.self.inside.receivers; events = c.self.inside.events; cycles = c.self.inside.cycles; ways = c.self.inside.ways; watched = c.self.inside.watched; is_offered = c.self.inside.is_offered }) c.args.now c.next_due-segments.result c.next_due-offers.result c.next_due-subscriptions.result c.next_due-lost.result c.next_due-cycles.result c.next_expiry-end.result c.next_due-segments.ensures c.next_due-offers.ensures c.next_due-subscriptions.ensures c.next_due-lost.ensures c.next_due-cycles.ensures c.next_expiry-end.ensures
    c.unless_ended-silent.result c.earlier-later.result c.earlier-others.result c.earlier-rest.result c.earlier-next.result c.soonest-at.result c.unless_ended-silent.ensures c.earlier-later.ensures c.earlier-others.ensures c.earlier-rest.ensures c.earlier-next.ensures c.soonest-at.ensures
    c.in_default.ensures.none there not_seg not_off not_sub not_lost c.in_ok-due-5.field-0 c.in_ok-due-5.ensures.told)

pub returns-clause-first : goal.returns-clause-first
returns-clause-first g c =
    let there : is_awaited c.soonest-at.result c.earlier-next.result ≡ true = search rules in
    let not_seg : is_awaited c.soonest-at.result c.next_due-segments.result ≡ false = search rules in
    let not_off : is_awaited c.soonest-at.result c.next_due-offers.result ≡ false = search rules in
    let not_sub : is_awaited c.soonest-at.result c.next_due-subscriptions.result ≡ false = search rules in
    let not_lost : is_awaited c.soonest-at.result c.next_due-lost.result ≡ false = search rules in
    rw (← c.self.view_is) (silent_first (record { times = c.self.inside.times; calls = c.self.inside.calls; segments = c.self.inside.segments; offers = c.self.inside.offers; servers = c.self.inside.servers; subscriptions = c.self.inside.subscriptions; sessions = c.self.inside.sessions; receivers = c.self.inside.receivers; events = c.self.inside.events; cycles = c.self.inside.cycles; ways = c.self.inside.ways; watched = c.self.inside.watched; is_offered = c.self.inside.is_offered }) c.args.now c.next_due-segments.result c.next_due-offers.result c.next_due-subscriptions.result c.next_due-lost.result c.next_due-cycles.result c.next_expiry-end.result c.next_due-segments.ensures c.next_due-offers.ensures c.next_due-subscriptions.ensures c.next_due-lost.ensures c.next_due-cycles.ensures c.next_expiry-end.ensures
    c.unless_ended-silent.result c.earlier-later.result c.earlier-others.result c.earlier-rest.result c.earlier-next.result c.soonest-at.result c.unless_ended-silent.ensures c.earlier-later.ensures c.earlier-others.ensures c.earlier-rest.ensures c.earlier-next.ensures c.soonest-at.ensures
    c.in_default.ensures.none there not_seg not_off not_sub not_lost c.in_ok-due-5.field-0 c.in_ok-due-5.ensures.told)

pub returns-clause-after : goal.returns-clause-after
returns-clause-after g c =
    let there : is_awaited c.soonest-at.result c.earlier-next.result ≡ true = search rules in
    let not_seg : is_awaited c.soonest-at.result c.next_due-segments.result ≡ false = search rules in
    let not_off : is_awaited c.soonest-at.result c.next_due-offers.result ≡ false = search rules in
    let not_sub : is_awaited c.soonest-at.result c.next_due-subscriptions.result ≡ false = search rules in
    let not_lost : is_awaited c.soonest-at.result c.next_due-lost.result ≡ false = search rules in
    rw (← c.self.view_is) (silent_after (record { times = c.self.inside.times; calls = c.self.inside.calls; segments = c.self.inside.segments; offers = c.self.inside.offers; servers = c.self.inside.servers; subscriptions = c.self.inside.subscriptions; sessions = c.self.inside.sessions; receivers = c.self.inside.receivers; events = c.self.inside.events; cycles = c.self.inside.cycles; ways = c.self.inside.ways; watched = c.self.inside.watched; is_offered = c.self.inside.is_offered }) c.args.now c.next_due-segments.result c.next_due-offers.result c.next_due-subscriptions.result c.next_due-lost.result c.next_due-cycles.result c.next_expiry-end.result c.next_due-segments.ensures c.next_due-offers.ensures c.next_due-subscriptions.ensures c.next_due-lost.ensures c.next_due-cycles.ensures c.next_expiry-end.ensures
    c.unless_ended-silent.result c.earlier-later.result c.earlier-others.result c.earlier-rest.result c.earlier-next.result c.soonest-at.result c.unless_ended-silent.ensures c.earlier-later.ensures c.earlier-others.ensures c.earlier-rest.ensures c.earlier-next.ensures c.soonest-at.ensures
    c.in_default.ensures.none there not_seg not_off not_sub not_lost c.in_ok-due-5.field-0 c.in_ok-due-5.ensures.told c.due.new.self c.due-2.new.self c.in_default.ensures.after c.in_ok-due-5.ensures.after)
