use Rattle.std.proofs.Common.{Some, cond, ◌∙◌, ap, sym, subst, ◌+◌, ◌++◌, ◌∷◌, []}
use Rattle.std.specs.Option.{is_some}
use Rattle.recording.specs.Packets.{Ipv4Value}
use Rattle.recording_packets.specs.copies.Remembered.{is_same, others}
use Rattle.recording_packets.specs.copies.Owned.{packet_of}
use Rattle.recording_packets.specs.copies.Queues.{Row}
use Rattle.recording_packets.specs.copies.Slots.{turn_in}
use Rattle.recording_packets.specs.copies.Tables.{remembered_in, HasTurns, IsInTurn}
use Rattle.recording_packets.proofs.about_copies.Turns.{found_at}
use Rattle.recording_packets.proofs.about_copies.Noted.{renews, values_noted, in_turn_noted, turns_noted}
use Rattle.recording_packets.proofs.copies.tables.renew.Goals as goal

pub returns-clause-ok : goal.returns-clause-ok
returns-clause-ok c =
    let new = renews c.args.sightings.now.next c.args.turn c.args.sighting.moment c.args.sightings.now.entries c.push.new.self.entries c.remove.new.self.entries
    (packet_of c.args.sighting.packet.owned.value) c.in_ok-packet.packet c.in-Some.earlier.now c.requires.in_turn c.requires.present (sym c.in-Some.ensures) c.in_ok-packet.ensures
    (ap (λ (r : Row). r.entries) c.in_ok-push.ensures.ok) (ap (λ (r : Row). r.entries) c.remove.ensures) in
    ap remembered_in new.1 ∙ values_noted c.args.sightings.now.next _ c.args.sightings.now.entries
    ∙ ap (λ (p : Ipv4Value). others p (remembered_in c.args.sightings.now.entries) ++ record { moment = c.args.sighting.moment; packet = p } ∷ []) new.0

pub returns-clause-earlier : goal.returns-clause-earlier
returns-clause-earlier c =
    sym (found_at c.args.sightings.now.next c.args.turn c.args.sightings.now.entries (packet_of c.args.sighting.packet.owned.value) c.in-Some.earlier.now c.requires.in_turn c.requires.present (sym c.in-Some.ensures)).1

pub returns-clause-in_turn : goal.returns-clause-in_turn
returns-clause-in_turn c =
    let new = renews c.args.sightings.now.next c.args.turn c.args.sighting.moment c.args.sightings.now.entries c.push.new.self.entries c.remove.new.self.entries
    (packet_of c.args.sighting.packet.owned.value) c.in_ok-packet.packet c.in-Some.earlier.now c.requires.in_turn c.requires.present (sym c.in-Some.ensures) c.in_ok-packet.ensures
    (ap (λ (r : Row). r.entries) c.in_ok-push.ensures.ok) (ap (λ (r : Row). r.entries) c.remove.ensures) in
    subst (λ n. IsInTurn n c.remove.new.self.entries) (sym (ap (λ (r : Row). r.next) c.remove.ensures ∙ ap (λ (r : Row). r.next) c.in_ok-push.ensures.ok))
    (subst (IsInTurn (c.args.sightings.now.next + 1)) (sym new.1) (in_turn_noted c.args.sightings.now.next _ c.args.sightings.now.entries c.requires.in_turn))

pub returns-clause-has_turns : goal.returns-clause-has_turns
returns-clause-has_turns c =
    let new = renews c.args.sightings.now.next c.args.turn c.args.sighting.moment c.args.sightings.now.entries c.push.new.self.entries c.remove.new.self.entries
    (packet_of c.args.sighting.packet.owned.value) c.in_ok-packet.packet c.in-Some.earlier.now c.requires.in_turn c.requires.present (sym c.in-Some.ensures) c.in_ok-packet.ensures
    (ap (λ (r : Row). r.entries) c.in_ok-push.ensures.ok) (ap (λ (r : Row). r.entries) c.remove.ensures) in
    subst (HasTurns c.set.new.self) (sym new.1) (turns_noted c.args.sightings.now.next _ c.args.sightings.now.entries c.args.turns.now c.set.new.self c.args.sighting.packet (sym new.0)
    (λ q. c.set.ensures q ∙ ap (λ n. cond (is_same (packet_of c.args.sighting.packet.owned.value) (packet_of q.owned.value)) (Some n) (turn_in c.args.turns.now q)) c.next-next.ensures) c.requires.has_turns)

pub set-requires : goal.set-requires
set-requires c = ap is_some (c.requires.has_turns c.args.sighting.packet ∙ c.requires.present)
