use Rattle.std.proofs.Common.{nat_le, rules}
use Rattle.std.proofs.lemmas.List.Sorted.{IsPartitionPoint-from_clause, IsPartitionedBy-leb}
use Rattle.someip_reassembly.specs.declared.slices.Slice.{Slice}
use Rattle.someip_reassembly.proofs.SliceLemmas.{still_in_order}
use Rattle.someip_reassembly.proofs.slices.index_for.Goals as goal

pub returns-clause-in_order : goal.returns-clause-in_order
returns-clause-in_order c slice is =
    still_in_order c.args.slices.now c.partition_point.result c.args.offset slice c.requires c.partition_point.ensures.bound is
    (IsPartitionPoint-from_clause (λ (y : Slice). nat_le y.offset c.args.offset) _ _ c.partition_point.ensures.partitioned (IsPartitionedBy-leb (λ (y : Slice). y.offset) _ _ c.requires) (λ a r f' k. search rules))
