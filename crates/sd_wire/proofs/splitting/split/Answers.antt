use Rattle.std.proofs.Common.{◌≡◌, length, map, ap, rules}
use Rattle.std.proofs.lemmas.List.{nil_from_length}
use Rattle.sd_wire.specs.contents.Values.{view_entry}
use Rattle.sd_wire.proofs.fronts.SplitLemmas.{fronts_more, fronts_all, drop_view}
use Rattle.sd_wire.proofs.splitting.split.Goals as goal

pub loop-rest-preserved : goal.loop-rest-preserved
loop-rest-preserved c =
    let rest = c.loop-rest.rest.now in
    let front = c.in_ok-length.ensures in
    rw (c.split_at.ensures.back, c.in_ok-push.ensures.items, drop_view c.in_ok-length.length rest)
    (fronts_more (map view_entry c.args.entries.now) c.loop-rest.lengths.items (map view_entry rest) c.in_ok-length.length c.loop-rest.invariant front)

pub returns : goal.returns
returns c =
    let rest = c.loop-rest.rest.now in
    let none : length rest ≡ 0 = search rules in
    fronts_all (map view_entry c.args.entries.now) c.loop-rest.lengths.items (map view_entry rest) c.loop-rest.invariant (ap (map view_entry) (nil_from_length rest none))
