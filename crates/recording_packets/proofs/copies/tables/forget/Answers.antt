use Rattle.std.proofs.Common.{◌∙◌, ap, sym, subst, arith}
use Rattle.recording_packets.specs.copies.Remembered.{kept}
use Rattle.recording_packets.specs.copies.Tables.{IsInTurn, remembered_in}
use Rattle.recording_packets.proofs.about_copies.Costs.{kept_without, in_turn_without_first}
use Rattle.recording_packets.proofs.copies.tables.forget.Goals as goal

pub loop-sightings-preserved : goal.loop-sightings-preserved
loop-sightings-preserved c =
    record {
      left =
          ap (λ es. kept c.args.window c.args.now (remembered_in es)) c.forget_oldest-left.ensures.left
          ∙ kept_without c.args.window c.args.now c.loop-sightings.sightings.entries (sym c.must_go.ensures ∙ c.loop-sightings-test.true)
          ∙ c.loop-sightings.invariant.left;
      counted = omega (arith, c.forget_oldest-left.ensures.cost, c.loop-sightings.invariant.counted);
      in_turn =
          subst (λ n. IsInTurn n c.forget_oldest-left.new.sightings.entries) (sym c.forget_oldest-left.ensures.next)
          (subst (IsInTurn c.loop-sightings.sightings.next) (sym c.forget_oldest-left.ensures.left) (in_turn_without_first c.loop-sightings.sightings.next _ c.loop-sightings.invariant.in_turn));
      has_turns = c.forget_oldest-left.ensures.has_turns;
    }
