use Rattle.std.proofs.Common.{◌∙◌, ◌+◌, ◌++◌, ◌∷◌, [], cond, Some, ap, sym, subst}
use Rattle.std.specs.Map.{remove_entry}
use Rattle.std.specs.BTreeMap.{is_at}
use Rattle.std.specs.Ordering.{nat_cmp}
use Rattle.recording_packets.specs.copies.Remembered.{is_same}
use Rattle.recording_packets.specs.copies.Owned.{packet_of}
use Rattle.recording_packets.specs.copies.Queues.{Row}
use Rattle.recording_packets.specs.copies.Slots.{turn_in}
use Rattle.recording_packets.specs.copies.Tables.{IsInTurn}
use Rattle.recording_packets.proofs.about_copies.Turns.{remove_last, err_is, ok_is}
use Rattle.recording_packets.proofs.about_copies.Noted.{added, in_turn_more, in_turn_noted, kept_turns, turns_added}
use Rattle.recording_packets.proofs.copies.tables.add.Goals as goal

pub returns-then-is_err-clause-err : goal.returns-then-is_err-clause-err
returns-then-is_err-clause-err c =
    ap (λ (r : Row). r.entries) c.remove.ensures ∙ ap (λ (r : Row). remove_entry (is_at (nat_cmp c.next-next.result)) r.entries) c.in_ok-push.ensures.ok
    ∙ ap (λ n. remove_entry (is_at (nat_cmp n)) (c.args.sightings.now.entries ++ (c.args.sightings.now.next, c.args.sighting) ∷ [])) c.next-next.ensures
    ∙ remove_last c.args.sightings.now.next _ c.args.sighting c.requires.in_turn

pub returns-then-is_err-clause-in_turn : goal.returns-then-is_err-clause-in_turn
returns-then-is_err-clause-in_turn c =
    subst (IsInTurn c.remove.new.self.next) (sym (returns-then-is_err-clause-err c))
    (subst (λ n. IsInTurn n c.args.sightings.now.entries) (sym (ap (λ (r : Row). r.next) c.remove.ensures ∙ ap (λ (r : Row). r.next) c.in_ok-push.ensures.ok))
    (in_turn_more c.args.sightings.now.next c.args.sightings.now.entries c.requires.in_turn))

pub returns-then-is_err-clause-has_turns : goal.returns-then-is_err-clause-has_turns
returns-then-is_err-clause-has_turns c =
    kept_turns c.args.sightings.now.entries c.remove.new.self.entries c.args.turns.now c.insert.new.self (err_is c.insert.result (sym c.is_err.ensures.value ∙ c.if-is_err.true) c.insert.ensures.err)
    (returns-then-is_err-clause-err c) c.requires.has_turns

pub returns-clause-ok : goal.returns-clause-ok
returns-clause-ok c = ap (λ (r : Row). r.entries) c.in_ok-push.ensures.ok

pub returns-clause-in_turn : goal.returns-clause-in_turn
returns-clause-in_turn c =
    subst (λ (r : Row). IsInTurn r.next r.entries) (sym c.in_ok-push.ensures.ok)
    (subst (IsInTurn (c.args.sightings.now.next + 1)) (sym (added c.args.sightings.now.next c.args.sightings.now.entries c.args.sighting c.requires.absent))
    (in_turn_noted c.args.sightings.now.next c.args.sighting c.args.sightings.now.entries c.requires.in_turn))

pub returns-clause-has_turns : goal.returns-clause-has_turns
returns-clause-has_turns c =
    let updates = ok_is c.insert.result (sym c.is_err.ensures.value ∙ c.if-is_err.false) c.insert.ensures.ok in
    turns_added c.args.sightings.now.next c.args.sighting c.args.sightings.now.entries c.push.new.self.entries c.args.turns.now c.insert.new.self c.in_ok-packet.packet c.requires.absent
    (returns-clause-ok c) (ap packet_of c.in_ok-packet.ensures)
    (λ q. updates q ∙ ap (λ n. cond (is_same (packet_of c.in_ok-packet.packet.owned.value) (packet_of q.owned.value)) (Some n) (turn_in c.args.turns.now q)) c.next-next.ensures) c.requires.has_turns
