-- At a step whose input is taken a life goes on, and what is delivered is one datagram, of which a note is kept.
use Rattle.std.proofs.Common.{◌≡◌, arith, ℕ, ◌+◌, suc, List, Some, sym, ap, subst, ◌∙◌}
use Rattle.std.specs.List.{AllZip}
use Rattle.someip_node_rules.specs.rules.Inputs.{Input}
use Rattle.someip_node_rules.specs.declared.config.Config.{Config}
use Rattle.someip_world_schedule.specs.declared.step.Step.{Step}
use Rattle.someip_world_schedule.specs.declared.step.Step.TheVariants as steps
use Rattle.someip_world_setup.specs.declared.setup_node.SetupNode.{SetupNode}
use Rattle.someip_world_rules.specs.Datagrams.{SentDatagram}
use Rattle.someip_world_rules.specs.Deeds.{Takes, Restarts}
use Rattle.someip_world_rules.specs.Turns.{Turn}
use Rattle.someip_world_rules.specs.Deliveries.{Delivers, LivesOn, Restarted, dispatch_at, dispatches_in}
use Rattle.someip_world_rules.proofs.Deliverings.{one_turn}
use Rattle.someip_world_verdict.specs.Books.{NoteKept, PayloadNumbers, note_at}
use Rattle.someip_world_verdict.proofs.Kept.{IsNoted}
use Rattle.someip_world_verdict.proofs.noting.Zipped.{note_of_number}

module _ (nodes : List SetupNode) (configs : List Config) (ss : List Step) (n : ℕ) (s : Step) (t : Turn nodes configs ss n s) (input : Input) (is : t.deed ≡ Takes input) where
  -- a step at which a node takes an input starts nothing again
  pub taken_no_restart : Restarted nodes configs ss n t.place → ⊥
  taken_no_restart r =
      let one = one_turn nodes configs ss n s t r.step r.turn in
      let deed = one.deed in
      let restarts = r.restarts in
      let both : Takes input ≡ Restarts r.delay = sym is ∙ deed ∙ restarts in
      absurd cc

  -- the life goes on in it
  pub lives_here : LivesOn nodes configs ss t.place n (suc n)
  lives_here k since lt r = taken_no_restart (subst (λ j. Restarted nodes configs ss j t.place) (let same : k ≡ n = omega (arith, since, lt) in same) r)

  module _ (payloads : PayloadNumbers) (notes : List NoteKept) (noted : AllZip (IsNoted nodes configs ss payloads) (dispatches_in t.before.lines) notes) where
    -- what is kept of a datagram that the step delivers
    pub record IsNotedHere (sent : ℕ) (d : SentDatagram) : Type 0 where
      pub number : ℕ
      pub node : List ℕ
      pub step : s ≡ steps.Deliver number node
      pub note : NoteKept
      pub at : note_at notes number ≡ Some note
      pub kept : IsNoted nodes configs ss payloads (record { step = sent + 1; datagram = d }) note

    -- there is one
    pub noted_here : (sent : ℕ) (d : SentDatagram) → Delivers nodes configs ss n sent d → IsNotedHere sent d
    noted_here sent d del =
        let one = one_turn nodes configs ss n s t _ del.turn in
        let found =
        note_of_number (IsNoted nodes configs ss payloads) t.before.lines notes noted del.number (record { step = sent + 1; datagram = d })
        (ap (λ w. dispatch_at w.lines del.number) one.before ∙ del.numbered) in
        record { number = del.number; node = del.node; step = one.step; note = found.0; at = found.1; kept = found.2 }
