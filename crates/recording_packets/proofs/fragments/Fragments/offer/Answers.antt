use Rattle.std.proofs.Common.{ap, ◌∙◌, arith}
use Rattle.recording_packets.specs.fragments.Parts.{fragments_of}
use Rattle.recording_packets.specs.fragments.Stores.{at_most_64, at_moment, received, all_fragments}
use Rattle.recording_packets.specs.fragments.Views.{view_piece}
use Rattle.recording_packets.proofs.about_fragments.TakeLemmas.{offered_by_steps, takes-bound, pushed-count, newest-count}
use Rattle.recording_packets.proofs.about_fragments.PartLemmas.{fresh-and-gone}
use Rattle.recording_packets.proofs.fragments.Fragments.offer.Goals as goal

pub returns-clause-ok : goal.returns-clause-ok
returns-clause-ok c =
    let steps = offered_by_steps c.new-key.result c.args.now (view_piece c.new.result) (record { parts = c.self.inside.parts.items; whole = c.args.self.now.whole; without_rest = c.self.inside.without_rest; that_differ = c.self.inside.that_differ })
    c.take_in.new.parts.items c.expire.new.parts.items c.push_out.new.parts.items c.in_ok-taken.taken _ c.expire.result c.push_out.result c.settle.new.without_rest c.settle.new.that_differ
    c.in_ok-taken.ensures.ok c.take_in.ensures.gone c.expire.ensures.left c.expire.ensures.count c.settle.ensures.rest c.settle.ensures.differ c.settle.ensures.whole c.push_out.ensures.left c.push_out.ensures.count in
    steps ∙ (λ i. at_most_64 (received (c.new-key.ensures i) c.args.now (c.new.ensures i) (at_moment c.args.now (c.self.view_is i))))

pub expire-requires : goal.expire-requires
expire-requires c =
    let bound = takes-bound c.new-key.result c.args.now (view_piece c.new.result) c.self.inside.parts.items c.take_in.new.parts.items c.in_ok-taken.taken c.in_ok-taken.ensures.ok c.take_in.ensures.gone in
    let both = fresh-and-gone c.args.now c.take_in.new.parts.items in
    let total = ap all_fragments c.self.view_is in
    omega (arith, bound, both, total, c.requires.countable)

pub overflow_add-self : goal.overflow_add-self
overflow_add-self c =
    let bound = takes-bound c.new-key.result c.args.now (view_piece c.new.result) c.self.inside.parts.items c.take_in.new.parts.items c.in_ok-taken.taken c.in_ok-taken.ensures.ok c.take_in.ensures.gone in
    let both = fresh-and-gone c.args.now c.take_in.new.parts.items in
    let total = ap all_fragments c.self.view_is in
    omega (arith, bound, both, total, c.requires.countable, c.expire.ensures.count)

pub settle-requires-clause-rest : goal.settle-requires-clause-rest
settle-requires-clause-rest c =
    let bound = takes-bound c.new-key.result c.args.now (view_piece c.new.result) c.self.inside.parts.items c.take_in.new.parts.items c.in_ok-taken.taken c.in_ok-taken.ensures.ok c.take_in.ensures.gone in
    let both = fresh-and-gone c.args.now c.take_in.new.parts.items in
    let total = ap all_fragments c.self.view_is in
    omega (arith, bound, both, total, c.requires.countable, c.expire.ensures.count)

pub settle-requires-clause-differ : goal.settle-requires-clause-differ
settle-requires-clause-differ c =
    let bound = takes-bound c.new-key.result c.args.now (view_piece c.new.result) c.self.inside.parts.items c.take_in.new.parts.items c.in_ok-taken.taken c.in_ok-taken.ensures.ok c.take_in.ensures.gone in
    let both = fresh-and-gone c.args.now c.take_in.new.parts.items in
    let total = ap all_fragments c.self.view_is in
    omega (arith, bound, both, total, c.requires.countable)

pub overflow_add-self-2 : goal.overflow_add-self-2
overflow_add-self-2 c =
    let bound = takes-bound c.new-key.result c.args.now (view_piece c.new.result) c.self.inside.parts.items c.take_in.new.parts.items c.in_ok-taken.taken c.in_ok-taken.ensures.ok c.take_in.ensures.gone in
    let both = fresh-and-gone c.args.now c.take_in.new.parts.items in
    let total = ap all_fragments c.self.view_is in
    omega (arith, bound, both, total, c.requires.countable, c.expire.ensures.count, c.settle.ensures.rest, c.push_out.ensures.count, pushed-count c.expire.new.parts.items, ap fragments_of c.expire.ensures.left)

pub returns-clause-counted : goal.returns-clause-counted
returns-clause-counted c =
    let bound = takes-bound c.new-key.result c.args.now (view_piece c.new.result) c.self.inside.parts.items c.take_in.new.parts.items c.in_ok-taken.taken c.in_ok-taken.ensures.ok c.take_in.ensures.gone in
    let both = fresh-and-gone c.args.now c.take_in.new.parts.items in
    let total = ap all_fragments c.self.view_is in
    omega (arith, bound, both, total, c.expire.ensures.count, c.settle.ensures.rest, c.settle.ensures.differ, c.push_out.ensures.count, ap fragments_of c.push_out.ensures.left, ap fragments_of c.expire.ensures.left, newest-count c.expire.new.parts.items)
