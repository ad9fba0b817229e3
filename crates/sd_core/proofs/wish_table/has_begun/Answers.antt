use Rattle.std.proofs.Common.{◌≡◌, true, false, sym, ◌∙◌}
use Rattle.someip_tables.specs.Tables.{map_of}
use Rattle.sd_core.specs.Eventgroups.{eventgroup_cmp}
use Rattle.sd_core.specs.Wishes.{has_begun}
use Rattle.sd_core.specs.WishTables.{is_of}
use Rattle.someip_tables.proofs.RunLemmas.{end_run, next_run}
use Rattle.sd_core.proofs.WishLemmas.{begun_in_run}
use Rattle.sd_core.proofs.wish_table.has_begun.Goals as goal

pub loop-eventgroup-init : goal.loop-eventgroup-init
loop-eventgroup-init c =
    rw (c.into_iter-eventgroup-iterator.ensures.into_iter_gives, c.wishes_from-eventgroup-items.ensures.rest)
    (begun_in_run c.args.instance (map_of eventgroup_cmp c.args.table.now))

pub loop-eventgroup-preserved : goal.loop-eventgroup-preserved
loop-eventgroup-preserved c =
    let of : is_of c.args.instance c.in-Some.eventgroup.now ≡ true = sym c.is_of.ensures ∙ c.if-not-is_of.false in
    let no : has_begun (λ _. true) c.in-Some.wish.now.stage ≡ false = sym c.is_begun.ensures ∙ c.if-is_begun.false in
    let run = next_run (λ e. is_of c.args.instance e.0) (c.in-Some.eventgroup.now, c.in-Some.wish.now) c.next.new.self c.loop-eventgroup.eventgroup-iterator c.in-Some.ensures.steps of in
    rw (run, no) at c.loop-eventgroup.invariant

pub returns-then-not-is_of : goal.returns-then-not-is_of
returns-then-not-is_of c =
    let no : is_of c.args.instance c.in-Some.eventgroup.now ≡ false = sym c.is_of.ensures ∙ c.if-not-is_of.true in
    rw (end_run (λ e. is_of c.args.instance e.0) (c.in-Some.eventgroup.now, c.in-Some.wish.now) c.next.new.self c.loop-eventgroup.eventgroup-iterator c.in-Some.ensures.steps no) at c.loop-eventgroup.invariant

pub returns-then-is_begun : goal.returns-then-is_begun
returns-then-is_begun c =
    let of : is_of c.args.instance c.in-Some.eventgroup.now ≡ true = sym c.is_of.ensures ∙ c.if-not-is_of.false in
    let yes : has_begun (λ _. true) c.in-Some.wish.now.stage ≡ true = sym c.is_begun.ensures ∙ c.if-is_begun.true in
    let run = next_run (λ e. is_of c.args.instance e.0) (c.in-Some.eventgroup.now, c.in-Some.wish.now) c.next.new.self c.loop-eventgroup.eventgroup-iterator c.in-Some.ensures.steps of in
    rw (run, yes) at c.loop-eventgroup.invariant
