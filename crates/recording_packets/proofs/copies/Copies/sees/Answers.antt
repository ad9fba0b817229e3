use Rattle.std.proofs.Common.{◌≡◌, ◌∙◌, ap, sym, subst, ◌+◌, ◌≤◌, cond}
use Rattle.std.specs.Option.{is_some}
use Rattle.recording.specs.Packets.{Ipv4Value}
use Rattle.recording.specs.View.{view_ipv4}
use Rattle.recording_packets.specs.copies.Remembered.{Memory, cost_of_all, is_copy, packet_cost}
use Rattle.recording_packets.specs.declared.copies.TheConstants.{BUDGET}
use Rattle.recording_packets.specs.copies.Owned.{packet_of}
use Rattle.recording_packets.specs.copies.Tables.{moment_of, remembered_in, was_within}
use Rattle.recording_packets.proofs.about_copies.Costs.{copy_is, cost_noted, kept_fits}
use Rattle.recording_packets.proofs.copies.Copies.sees.Goals.{then-is_some, else-is_some}
use Rattle.recording_packets.proofs.copies.Copies.sees.Goals as goal

pub returns-clause-copy : goal.returns-clause-copy
returns-clause-copy c =
    let this : packet_of c.in_ok-packet.packet.owned.value ≡ view_ipv4 c.args.packet.now = c.in_ok-packet.ensures in
    let found = copy_is c.self.inside.window c.args.now c.self.inside.sightings.next (packet_of c.in_ok-packet.packet.owned.value) c.self.inside.sightings.entries c.self.invariant.in_turn in
    c.is_recent.ensures ∙ ap (was_within c.self.inside.window c.args.now) c.in_ok-earlier.ensures.earlier ∙ found
    ∙ ap (λ (p : Ipv4Value). is_copy c.self.inside.window c.args.now p (remembered_in c.self.inside.sightings.entries)) this
    ∙ ap (λ (m : Memory). is_copy m.window c.args.now (view_ipv4 c.args.packet.now) m.remembered) c.self.view_is

pub forget-self-inside-requires-clause-cost : goal.forget-self-inside-requires-clause-cost
forget-self-inside-requires-clause-cost c =
    let counted = cost_noted (packet_of c.in_ok-packet.packet.owned.value) c.self.inside.sightings.next c.args.now c.self.inside.sightings.entries c.self.invariant.in_turn in
    let mine : c.cost_of-cost.result ≡ packet_cost (packet_of c.in_ok-packet.packet.owned.value) = c.cost_of-cost.ensures in
    let seen : c.is_some.result ≡ is_some (moment_of (packet_of c.in_ok-packet.packet.owned.value) c.self.inside.sightings.entries) = c.is_some.ensures ∙ ap is_some c.in_ok-earlier.ensures.earlier in
    let both : c.if-is_some.cost ≡ cond c.is_some.result c.self.inside.cost (c.self.inside.cost + c.cost_of-cost.result) =
    elim c.if-is_some.branch [
      | then-is_some w ↦ w.cost-is ∙ sym (ap (λ b. cond b c.self.inside.cost (c.self.inside.cost + c.cost_of-cost.result)) w.if-is_some.true)
      | else-is_some w ↦ w.cost-is ∙ sym (ap (λ b. cond b c.self.inside.cost (c.self.inside.cost + c.cost_of-cost.result)) w.if-is_some.false)
    ] in
    both ∙ ap (λ b. cond b c.self.inside.cost (c.self.inside.cost + c.cost_of-cost.result)) seen
    ∙ ap (λ n. cond (is_some (moment_of (packet_of c.in_ok-packet.packet.owned.value) c.self.inside.sightings.entries)) c.self.inside.cost (c.self.inside.cost + n)) mine
    ∙ ap (λ n. cond (is_some (moment_of (packet_of c.in_ok-packet.packet.owned.value) c.self.inside.sightings.entries)) n (n + packet_cost (packet_of c.in_ok-packet.packet.owned.value))) c.self.invariant.counted
    ∙ sym counted ∙ ap cost_of_all (sym c.in_ok-earlier.ensures.ok)

pub invariant_of-self-2 : goal.invariant_of-self-2
invariant_of-self-2 c =
    record {
      in_turn = c.forget-self-inside.ensures.in_turn;
      has_turns = c.forget-self-inside.ensures.has_turns;
      counted = c.forget-self-inside.ensures.cost;
      fits = subst (λ n. n ≤ BUDGET) (sym (c.forget-self-inside.ensures.cost ∙ ap cost_of_all c.forget-self-inside.ensures.left)) (kept_fits c.self.inside.window c.args.now (remembered_in c.note.new.sightings.entries));
    }
