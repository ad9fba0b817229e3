use Rattle.std.proofs.Common.{None, Some}
use Rattle.someip_tables.proofs.about_hashed.FirstDues.{first_is, first_leaves}
use Rattle.someip_tables.proofs.hashed.tracked.take_out_first.Goals as goal

pub returns-in_err-first-clause-first : goal.returns-in_err-first-clause-first
returns-in_err-first-clause-first g c =
    rw c.from_residual.ensures
    (first_is g.met.K.Ord.total g.V.Waits.moment c.args.dues.now c.args.held.now.entries None c.requires c.in_err-first.ensures.found c.in_err-first.ensures.first
    c.in_err-first.ensures.none)

pub returns-clause-first : goal.returns-clause-first
returns-clause-first g c =
    first_is g.met.K.Ord.total g.V.Waits.moment c.args.dues.now c.args.held.now.entries (Some c.in_ok-first.first) c.requires c.in_ok-first.ensures.found
    c.in_ok-first.ensures.first c.in_ok-first.ensures.none

pub returns-clause-tracks : goal.returns-clause-tracks
returns-clause-tracks g c =
    first_leaves g.met.K.Ord.total g.met.K.Key.exact g.V.Waits.moment c.args.dues.now c.args.held.now.entries c.in_ok-first.first c.requires
    (first_is g.met.K.Ord.total g.V.Waits.moment c.args.dues.now c.args.held.now.entries (Some c.in_ok-first.first) c.requires c.in_ok-first.ensures.found c.in_ok-first.ensures.first c.in_ok-first.ensures.none)
    c.pop_due.new.dues c.drop_key.new.held.entries c.in_ok-first.ensures.taken c.drop_key.ensures.left
