use Rattle.std.proofs.Common.{◌≡◌, ◌≤◌, ◌+◌, ◌-◌, ◌∙◌, sym, refl, subst, length, arith}
use Rattle.recording_packets.specs.declared.copies.turns.Turns.{Turns}
use Rattle.recording_packets.specs.declared.copies.turns.TheConstants.{FIRST_SLOTS}
use Rattle.recording_packets.proofs.about_copies.SlotLemmas.{crowded_shift, doubled_turns, more_slots, same_turns}
use Rattle.recording_packets.proofs.copies.turns.Turns.make_room.Goals as goal

pub returns-clause-same : goal.returns-clause-same
returns-clause-same c = λ q.
    let made : Turns = record c.args.self.now { slots = c.make_slots.new.slots } in
    let new : Turns = record c.args.self.now { slots = c.double.new.slots; shift = c.args.self.now.shift - 1 } in
    let shift = crowded_shift c.args.self.now.shift c.args.self.now.packets (sym c.is_crowded.ensures ∙ c.if-not-is_crowded.false) in
    let one : c.args.self.now.shift - 1 + 1 ≡ c.args.self.now.shift = omega (arith, shift.0) in
    doubled_turns made new one shift.1 c.in_ok-double.ensures.ok refl q ∙ same_turns c.args.self.now made refl c.make_slots.ensures.same refl q

pub returns-clause-there : goal.returns-clause-there
returns-clause-there c =
    let more = more_slots (c.args.self.now.shift - 1) c.make_slots.new.slots.items in
    subst (λ l. FIRST_SLOTS ≤ length l) (sym c.in_ok-double.ensures.ok) (omega (arith, more, c.in_ok-make_slots.ensures.there))
