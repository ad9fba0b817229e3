use Rattle.recording_packets.proofs.about_copies.Turns.{first_alone, first_turn, forgotten}
use Rattle.recording_packets.proofs.copies.tables.forget_oldest.Goals as goal

pub returns-in-Some-clause-has_turns : goal.returns-in-Some-clause-has_turns
returns-in-Some-clause-has_turns c =
    forgotten c.args.sightings.now.next c.args.sightings.now.entries c.pop_first.new.self.entries c.args.turns.now c.remove.new.self _ _ c.in-Some.ensures.first c.remove.ensures c.requires.in_turn c.requires.has_turns

pub remove-requires-clause-present : goal.remove-requires-clause-present
remove-requires-clause-present c = first_turn c.args.sightings.now.entries c.pop_first.new.self.entries c.args.turns.now _ _ c.in-Some.ensures.first c.requires.has_turns

pub remove-requires-clause-alone : goal.remove-requires-clause-alone
remove-requires-clause-alone c =
    first_alone c.args.sightings.now.next c.args.sightings.now.entries c.pop_first.new.self.entries c.args.turns.now _ _ c.in-Some.ensures.first c.requires.in_turn c.requires.has_turns
