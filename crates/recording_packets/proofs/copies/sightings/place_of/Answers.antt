use Rattle.std.proofs.Common.{◌∙◌, ap, nat_lt, rules, arith}
use Rattle.std.specs.Option.{is_some}
use Rattle.std.proofs.lemmas.Bool.{both_ways}
use Rattle.std.proofs.lemmas.List.{get_or_default}
use Rattle.std.proofs.lemmas.List.Sorted.{IsPartitionPoint-from_clause}
use Rattle.recording_packets.specs.declared.copies.sightings.Turn.{Turn}
use Rattle.recording_packets.proofs.about_copies.QueueLemmas.{not_found, parted}
use Rattle.recording_packets.proofs.copies.sightings.place_of.Goals as goal

pub returns-in_default-clause-none : goal.returns-in_default-clause-none
returns-in_default-clause-none c =
    not_found c.args.turn c.partition_point-i.result c.args.queue.now.items c.requires
    (IsPartitionPoint-from_clause (λ (t : Turn). nat_lt t.number c.args.turn) _ _ c.partition_point-i.ensures.partitioned (parted c.args.queue.now.items c.args.turn c.requires) (λ a r f' k. search rules))
    (λ d short same.
    let one = ap (λ (t : Turn). t.number) (c.in-Some.ensures.lookup ∙ get_or_default c.args.queue.now.items c.partition_point-i.result c.in-Some.other.now d short) ∙ same in
    absurd (omega (arith, one, c.if-other-turn.false)))

pub returns-in_default-2-clause-none : goal.returns-in_default-2-clause-none
returns-in_default-2-clause-none c =
    not_found c.args.turn c.partition_point-i.result c.args.queue.now.items c.requires
    (IsPartitionPoint-from_clause (λ (t : Turn). nat_lt t.number c.args.turn) _ _ c.partition_point-i.ensures.partitioned (parted c.args.queue.now.items c.args.turn c.requires) (λ a r f' k. search rules))
    (λ d short same. let found = c.get.ensures.variant.1 (omega (arith, short, c.args.queue.now.ok.0)) in both_ways (is_some c.get.result) (ap is_some c.in_default.is) found)
