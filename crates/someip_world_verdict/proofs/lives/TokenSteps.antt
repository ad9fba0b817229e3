-- What is kept of tokens is of those that were handed up.
use Rattle.std.proofs.Common.{◌≡◌, ◌<◌, ◌⊎◌, inl, inr, arith, ℕ, ◌+◌, suc, Bool, true, false, List, Option, Some, Ok, refl, sym, ap, subst, ◌∙◌}
use Rattle.std.specs.FinMap as finite
use Rattle.std.specs.List.{AllZip}
use Rattle.std.specs.Option.{option_map}
use Rattle.std.specs.declared.net.socket_addr.SocketAddrV4.{SocketAddrV4}
use Rattle.sd_core.specs.declared.keys.InstanceId.{InstanceId}
use Rattle.someip_wire.specs.declared.header.Header.{Header}
use Rattle.someip_node_rules.specs.declared.output.Output.TheVariants.{Request}
use Rattle.someip_node_rules.specs.trails.Bringing.{Brings}
use Rattle.someip_node_rules.specs.histories.History.{History}
use Rattle.someip_node_rules.specs.rules.Inputs as inputs
use Rattle.someip_node_rules.specs.rules.Inputs.{Input}
use Rattle.someip_node_rules.specs.trails.Meanings.{GivenBy}
use Rattle.someip_node_rules.specs.forms.Outputs as outputs
use Rattle.someip_node_rules.specs.rules.Plans.{Rule, TakesRequest, Work}
use Rattle.someip_node_rules.specs.steps.Steps.{step}
use Rattle.someip_node_rules.specs.declared.config.Config.{Config}
use Rattle.someip_node_rules.specs.trails.Trails.{Done}
use Rattle.someip_world_schedule.specs.declared.step.Step.{Step}
use Rattle.someip_world_setup.specs.declared.setup_node.SetupNode.{SetupNode}
use Rattle.someip_world_rules.specs.Datagrams.{SentDatagram}
use Rattle.someip_world_rules.specs.Deeds.{Takes}
use Rattle.someip_world_rules.specs.Runs.{told_lines}
use Rattle.someip_world_rules.specs.Turns.{Turn}
use Rattle.someip_world_rules.specs.exchanges.Belonging.{HandsUp, WasHandedUp}
use Rattle.someip_world_rules.specs.Deliveries.{Delivers, dispatches_in}
use Rattle.someip_world_rules.proofs.Deliverings.{delivered_in, one_delivery, one_turn}
use Rattle.someip_world_rules.proofs.about_exchanges.openings.TokenLemmas.{given_token, token_given}
use Rattle.someip_world_verdict.specs.Books.{LifeKept, NoteKept, PayloadNumbers}
use Rattle.someip_world_verdict.specs.Booking.{answered_in, handed_up, tokens_told}
use Rattle.someip_world_verdict.proofs.Kept.{IsNoted}
use Rattle.someip_world_verdict.proofs.lives.LifeSpans.{handed_before, handed_stays}
use Rattle.someip_world_rules.proofs.Lives.{below_next}
use Rattle.someip_world_verdict.proofs.lives.TakenSpans.{lives_here, noted_here, taken_no_restart}
use Rattle.someip_world_verdict.proofs.lives.TokensTold.{handed_other, handed_told, is_told, output_told, told_output}

-- a request is handed up only of a datagram
request_came : (h : History) (earlier : List Done) (input : Input) (r : Rule) (instance : InstanceId) (from : SocketAddrV4) (header : Header) (payload : List ℕ) → r ≡ TakesRequest instance from header payload
    → Brings h input r earlier → (d : SentDatagram) × (input ≡ inputs.Datagram d.from d.to d.bytes)
request_came h earlier (inputs.Datagram from to bytes) r instance peer header payload is brings = (record { from = from; to = to; bytes = bytes }, refl)
request_came h earlier (inputs.Tick ms) r instance peer header payload is (inl brings) = let other = brings.0 in absurd cc
request_came h earlier (inputs.Tick ms) r instance peer header payload is (inr brings) = let other = brings.1 in absurd cc
request_came h earlier (inputs.Call kind callee method sent) r instance peer header payload is brings = let other = brings.0 in absurd cc
request_came h earlier (inputs.Answer token reply sent) r instance peer header payload is brings = let other = brings.0 in absurd cc
request_came h earlier (inputs.Publish own event sent) r instance peer header payload is brings = let other = brings.0 in absurd cc
request_came h earlier (inputs.PublishTo own group to event sent) r instance peer header payload is brings = let other = brings.0 in absurd cc
request_came h earlier (inputs.Subscribe group) r instance peer header payload is (inl brings) = let other = brings.0 in absurd cc
request_came h earlier (inputs.Subscribe group) r instance peer header payload is (inr brings) = let other = brings.2 in absurd cc
request_came h earlier (inputs.Unsubscribe group) r instance peer header payload is (inl brings) = absurd cc
request_came h earlier (inputs.Unsubscribe group) r instance peer header payload is (inr brings) = let other = brings.2 in absurd cc
request_came h earlier (inputs.StopOffer own) r instance peer header payload is (inl brings) = absurd cc
request_came h earlier (inputs.StopOffer own) r instance peer header payload is (inr brings) = let other = brings.0 in absurd cc

module _ (nodes : List SetupNode) (configs : List Config) (ss : List Step) (n : ℕ) (s : Step) (t : Turn nodes configs ss n s) (input : Input) (is : t.deed ≡ Takes input) where
  module _ (payloads : PayloadNumbers) (notes : List NoteKept) (noted : AllZip (IsNoted nodes configs ss payloads) (dispatches_in t.before.lines) notes) where
    -- it is answered by the step
    answered_here : (life : LifeKept) (sent : ℕ) (d : SentDatagram) → Delivers nodes configs ss n sent d → answered_in notes life s ≡ Some sent
    answered_here life sent d del =
        let h = noted_here nodes configs ss n s t input is payloads notes noted sent d del in
        let step = h.kept.step in
        let same : h.note.step ≡ sent = omega (arith, step) in
        ap (answered_in notes life) h.step ∙ ap (option_map (λ note. note.step)) h.at ∙ ap Some same

    module _ (done : Work History) (did : step t.history input ≡ Ok done) where
      -- the tokens that the lines of the step tell of
      abbrev told : List ℕ
      told = tokens_told (told_lines (n + 1) t.place (Ok done.outputs))

      -- what a step hands up is given in it
      up_given : (token : ℕ) (up : HandsUp nodes configs ss n t.place token) → GivenBy t.history input (outputs.Tells (Request (Some token) up.instance up.method up.payload))
      up_given token up =
          let one = one_turn nodes configs ss n s t up.does.step up.does.turn in
          let takes = up.does.takes in
          let deed = one.deed in
          let deeds : Takes input ≡ Takes up.does.input = sym is ∙ deed ∙ takes in
          let same : up.does.input ≡ input = cc in
          subst (λ (p : History × Input). GivenBy p.0 p.1 (outputs.Tells (Request (Some token) up.instance up.method up.payload))) (λ i. (sym one.history i, same i)) up.by

      -- so its token is told of
      up_told : (token : ℕ) → is_told token told ≡ false → HandsUp nodes configs ss n t.place token → ⊥
      up_told token none up =
          output_told (n + 1) t.place token done.outputs up.instance up.method up.payload none
          (given_token t.history input done did token up.instance up.method up.payload (up_given token up))

      -- what is handed up of a datagram that the step delivers
      record IsUpHere (token : ℕ) : Type 0 where
        pub up : HandsUp nodes configs ss n t.place token
        pub sent : ℕ
        pub datagram : SentDatagram
        pub delivers : Delivers nodes configs ss n sent datagram

      -- with a datagram that comes
      came_up : (token : ℕ) → HandsUp nodes configs ss n t.place token → (d : SentDatagram) → input ≡ inputs.Datagram d.from d.to d.bytes → IsUpHere token
      came_up token up d came =
          let there = delivered_in nodes configs ss n d s t (is ∙ ap Takes came) in
          record { up = up; sent = there.sent; datagram = d; delivers = there.delivers }

      -- a token that is told of was handed up so
      told_up : (token : ℕ) → is_told token told ≡ true → IsUpHere token
      told_up token some =
          let o = told_output (n + 1) t.place token done.outputs some in
          let by = token_given t.history input done did token o.0 o.1 o.2 o.3 in
          let r = by.holds in
          let came = request_came t.history by.brought.earlier input by.done.by o.0 r.0 r.1 o.2 r.2 by.brought.brings in
          came_up token (record {
            does = record { step = s; turn = t; input = input; takes = is; done = done; happened = did };
            at = refl;
            instance = o.0;
            method = o.1;
            payload = o.2;
            by = by;
          }) came.0 came.1

      module _ (life : LifeKept) where
        -- what is kept of a token then
        abbrev kept_then : ℕ → Option ℕ
        kept_then token = finite.get (handed_up (answered_in notes life s) told life.tokens) token

        -- what is kept was handed up
        pub handed_on : (token since : ℕ) → (finite.get life.tokens token ≡ Some since → WasHandedUp nodes configs ss t.place token n since)
            → kept_then token ≡ Some since → WasHandedUp nodes configs ss t.place token (suc n) since
        handed_on token since before at = cases (is_told token told) refl
          where
            cases : (b : Bool) → is_told token told ≡ b → WasHandedUp nodes configs ss t.place token (suc n) since
            cases false e =
                handed_stays nodes configs ss n t.place (taken_no_restart nodes configs ss n s t input is) token since (up_told token e)
                (before (sym (handed_other (answered_in notes life s) told life.tokens token e) ∙ at))
            cases true e =
                let here = told_up token e in
                let kept = handed_told (answered_in notes life s) here.sent (answered_here life here.sent here.datagram here.delivers) told life.tokens token e in
                let both : Some here.sent ≡ Some since = sym kept ∙ at in
                let same : here.sent ≡ since = cc in
                record {
                  i = n;
                  before = omega arith;
                  lives = lives_here nodes configs ss n s t input is;
                  handed = here.up;
                  last = λ k after lt up. absurd (omega (arith, after, lt));
                  datagram = here.datagram;
                  delivers = subst (λ k. Delivers nodes configs ss n k here.datagram) same here.delivers;
                }

        -- and what was handed up is kept
        pub handed_on_only : (token since : ℕ) → (WasHandedUp nodes configs ss t.place token n since → finite.get life.tokens token ≡ Some since)
            → WasHandedUp nodes configs ss t.place token (suc n) since → kept_then token ≡ Some since
        handed_on_only token since before was = cases (is_told token told) refl
          where
            at_last : (is_told token told ≡ true) → (was.i < n) ⊎ (was.i ≡ n) → was.i ≡ n
            at_last e (inl less) = absurd (was.last n less (omega arith) (told_up token e).up)
            at_last e (inr same) = same

            cases : (b : Bool) → is_told token told ≡ b → kept_then token ≡ Some since
            cases false e =
                handed_other (answered_in notes life s) told life.tokens token e
                ∙ before (handed_before nodes configs ss n t.place (taken_no_restart nodes configs ss n s t input is) token since (up_told token e) was)
            cases true e =
                let here = told_up token e in
                let now = at_last e (below_next was.i n was.before) in
                let del = subst (λ k. Delivers nodes configs ss k since was.datagram) now was.delivers in
                let one = one_delivery nodes configs ss n here.sent since here.datagram was.datagram here.delivers del in
                handed_told (answered_in notes life s) here.sent (answered_here life here.sent here.datagram here.delivers) told life.tokens token e ∙ ap Some one.0
