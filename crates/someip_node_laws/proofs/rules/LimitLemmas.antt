-- How much of what came a node holds.
use Rattle.std.proofs.Common.{List, [], ◌∷◌}
use Rattle.someip_reassembly.specs.Parts.{Limits}
use Rattle.someip_tp.specs.Wholes.{IsWithin}
use Rattle.someip_tp.proofs.promises.BoundLemmas.{within_nothing, within_after, within_less, within_at}
use Rattle.someip_node_rules.specs.histories.DiscoveryQuestions.{parts_by, parts_in}
use Rattle.someip_node_rules.specs.histories.Items.{Item, MessageTaken, SegmentOffered, Ticked}
use Rattle.someip_node_rules.specs.histories.Questions.{clock_at}

pub parts_within : (limits : Limits) (items : List Item) → IsWithin limits (parts_in limits items)
parts_within limits [] = within_nothing limits
parts_within limits (item ∷ before) = cases item (parts_within limits before)
  where
    cases : (item : Item) → IsWithin limits (parts_in limits before) → IsWithin limits (parts_by limits item (clock_at before) (parts_in limits before))
    cases (Ticked ms) within = within_at limits _ _ within
    cases (SegmentOffered o) within = within_after limits _ o _ within
    cases (MessageTaken key) within = within_less limits _ key within
    cases item within = within
