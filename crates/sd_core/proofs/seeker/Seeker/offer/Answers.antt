use Rattle.std.proofs.Common.{◌≡◌, true, Some, None, refl, sym, ap, ◌∙◌, rules}
use Rattle.std.specs.Option.{is_some}
use Rattle.std.specs.FinMap as finite
use Rattle.someip_tables.specs.Deadlines.{deadline_after}
use Rattle.someip_tables.specs.Tables.{map_of}
use Rattle.sd_core.specs.Keys.{instance_cmp}
use Rattle.sd_core.specs.SeekTables.{seek_of, known_at, counted_as}
use Rattle.sd_core.proofs.SeekLemmas.{same_value, known_is, unwanted, uncounted_is, found}
use Rattle.sd_core.proofs.seeker.Seeker.offer.Goals as goal

pub returns-in_default-clause-refused : goal.returns-in_default-clause-refused
returns-in_default-clause-refused c =
    let none : finite.get (map_of instance_cmp c.self.inside.wants) c.args.offer.now.instance ≡ None = search rules in
    rw (← c.self.view_is) (unwanted c.args.offer.now c.args.now (map_of instance_cmp c.self.inside.wants) none)

pub returns-in_err-endpoint-clause-refused : goal.returns-in_err-endpoint-clause-refused
returns-in_err-endpoint-clause-refused c =
    let some : finite.get (map_of instance_cmp c.self.inside.wants) c.args.offer.now.instance ≡ Some c.in-Some.want = search rules in
    let is = uncounted_is c.args.offer.now c.args.now (map_of instance_cmp c.self.inside.wants) c.in-Some.want some in
    rw (← c.self.view_is) (rw (is, ← c.known_at-known.ensures) (search rules))

pub returns-clause-counts : goal.returns-clause-counts
returns-clause-counts c =
    let some : finite.get (map_of instance_cmp c.self.inside.wants) c.args.offer.now.instance ≡ Some c.in-Some.want = search rules in
    rw (← c.self.view_is) (uncounted_is c.args.offer.now c.args.now (map_of instance_cmp c.self.inside.wants) c.in-Some.want some
    ∙ rw (← c.known_at-known.ensures) c.in_ok-endpoint.ensures.admitted)

pub returns-clause-counted : goal.returns-clause-counted
returns-clause-counted c = λ endpoint given.
    let some : finite.get (map_of instance_cmp c.self.inside.wants) c.args.offer.now.instance ≡ Some c.in-Some.want = search rules in
    let known = known_is (map_of instance_cmp c.self.inside.wants) c.args.offer.now.instance (Some c.in-Some.want) some in
    let same = same_value c.args.offer.now.endpoint c.in_ok-endpoint.endpoint endpoint c.in_ok-endpoint.ensures.endpoint given in
    rw (← c.self.view_is) (c.counted_as.ensures
    ∙ ap (λ e. counted_as e c.known_at-known.result) same
    ∙ ap (counted_as endpoint) (c.known_at-known.ensures ∙ sym (ap (known_at c.args.now) known)))

pub returns-clause-learned : goal.returns-clause-learned
returns-clause-learned c = λ endpoint given.
    let some : finite.get (map_of instance_cmp c.self.inside.wants) c.args.offer.now.instance ≡ Some c.in-Some.want = search rules in
    let same = same_value c.args.offer.now.endpoint c.in_ok-endpoint.endpoint endpoint c.in_ok-endpoint.ensures.endpoint given in
    let until = c.after_ttl-until.ensures ∙ ap (deadline_after c.args.now) c.seconds.ensures.value in
    let there : c.replace.result ≡ true = c.replace.ensures.held ∙ ap is_some some in
    rw (← c.self.view_is) (ap seek_of (rw there at c.replace.ensures.changed)
    ∙ found (map_of instance_cmp c.self.inside.wants) c.args.offer.now.instance c.in-Some.want _ some
    ∙ rw (same, until) refl)
