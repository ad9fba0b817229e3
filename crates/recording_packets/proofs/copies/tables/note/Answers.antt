use Rattle.std.proofs.Common.{◌∙◌, ap, sym}
use Rattle.recording_packets.specs.copies.Owned.{packet_of}
use Rattle.recording_packets.specs.copies.Tables.{remembered_in}
use Rattle.recording_packets.proofs.about_copies.Turns.{none_none}
use Rattle.recording_packets.proofs.about_copies.Noted.{added, values_noted}
use Rattle.recording_packets.proofs.copies.tables.note.Goals as goal

pub returns-in_ok-add-in-None-clause-ok : goal.returns-in_ok-add-in-None-clause-ok
returns-in_ok-add-in-None-clause-ok c = ap remembered_in (c.in_ok-add-in-None.ensures.ok ∙ added c.args.sightings.now.next _ c.args.sighting (sym (c.requires.has_turns c.args.sighting.packet) ∙ sym c.in-None.ensures)) ∙ values_noted c.args.sightings.now.next c.args.sighting c.args.sightings.now.entries

pub returns-in_ok-add-in-None-clause-earlier : goal.returns-in_ok-add-in-None-clause-earlier
returns-in_ok-add-in-None-clause-earlier c = sym (none_none c.args.sightings.now.entries (packet_of c.args.sighting.packet.owned.value) (sym (c.requires.has_turns c.args.sighting.packet) ∙ sym c.in-None.ensures))
