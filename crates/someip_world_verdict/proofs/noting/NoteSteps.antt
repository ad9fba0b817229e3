-- The notes after a step: one more for each datagram that it sends, which says what that means.
use Rattle.std.proofs.Common.{◌≡◌, ◌+◌, ℕ, true, false, cond, if◌then◌else◌, List, [], ◌∷◌, ◌++◌, arith, Option, None, Some, Ok, refl, sym, ap, subst, ◌∙◌}
use Rattle.std.specs.FinMap as finite
use Rattle.std.specs.List.{AllZip, cons_option}
use Rattle.std.specs.Option.{option_map, option_map_or}
use Rattle.std.proofs.lemmas.List.Elements.{filter_map-append}
use Rattle.std.specs.declared.net.socket_addr.SocketAddrV4.{SocketAddrV4}
use Rattle.someip_wire.specs.Spelling.{MessageValue}
use Rattle.someip_reassembly.specs.Sent.{is_long}
use Rattle.std.proofs.lemmas.Cmp.{nat_list_cmp_total}
use Rattle.someip_tables.proofs.Entries.{own_test}
use Rattle.someip_rpc.specs.declared.request.Reply.{Reply}
use Rattle.someip_node_rules.specs.trails.Bringing.{Brings}
use Rattle.someip_node_rules.specs.histories.History.{History}
use Rattle.someip_node_rules.specs.rules.Inputs as inputs
use Rattle.someip_node_rules.specs.rules.Inputs.{Input}
use Rattle.someip_node_rules.specs.trails.Meanings.{GivenBy}
use Rattle.someip_node_rules.specs.forms.Outputs as outputs
use Rattle.someip_node_rules.specs.forms.Outputs.{Given}
use Rattle.someip_node_rules.specs.rules.Plans as plans
use Rattle.someip_node_rules.specs.rules.Plans.{Rule}
use Rattle.someip_node_rules.specs.declared.config.Config.{Config}
use Rattle.someip_node_rules.specs.declared.output.Output.{Output}
use Rattle.someip_node_rules.specs.declared.output.Output.TheVariants.{Sent}
use Rattle.someip_world_schedule.specs.declared.step.Step.{Step}
use Rattle.someip_world_schedule.specs.declared.step.Step.TheVariants as steps
use Rattle.someip_world_setup.specs.declared.setup_node.SetupNode.{SetupNode}
use Rattle.someip_world_rules.specs.Datagrams.{SentDatagram, datagrams_in, sent_with}
use Rattle.someip_world_rules.specs.Deeds.{Injects}
use Rattle.someip_world_rules.specs.Runs.{World, told_lines}
use Rattle.someip_world_rules.specs.Turns.{Turn}
use Rattle.someip_world_rules.specs.exchanges.Belonging.{Answered, WasHandedUp}
use Rattle.someip_world_rules.specs.Deliveries.{Delivers, Dispatch, Does, IsInjected, Sends, dispatch_at, dispatch_in, dispatches_in}
use Rattle.someip_world_rules.proofs.Deliverings.{one_turn}
use Rattle.someip_world_rules.proofs.LiarLemmas.{taken_at}
use Rattle.someip_world_rules.proofs.about_exchanges.messages.LongMessages.{long_payload}
use Rattle.someip_world_rules.proofs.about_exchanges.openings.RuleInputs.{is_answer, no_answer_answers}
use Rattle.someip_world_verdict.specs.Books.{Book, LifeKept, NoteKept, PayloadNumbers, note_at}
use Rattle.someip_world_verdict.specs.Booking.{answered_in, is_injection, long_payload_of, mute_note, note_of, notes_of, number_of, numbered}
use Rattle.someip_world_verdict.proofs.InjectedSteps.{injected_so, injection_does_nothing}
use Rattle.someip_world_verdict.proofs.StepInputs.{IsInputOf, input_of, same_payload}
use Rattle.someip_world_verdict.proofs.Kept.{IsNoted, IsNumbered, KeepsLife, KnowsAnswered, PayloadsGrow}
use Rattle.someip_world_verdict.proofs.noting.NumberSteps.{number_then}
use Rattle.someip_world_verdict.proofs.noting.Zipped.{dispatch_of_number, note_of_number}

-- ---- two lists side by side

both_zip : {A B : Type 0} (R : A → B → Type 0) (xs : List A) (ys : List B) (us : List A) (vs : List B) → AllZip R xs ys → AllZip R us vs → AllZip R (xs ++ us) (ys ++ vs)
both_zip R [] [] us vs first second = second
both_zip R [] (y ∷ ys) us vs first second = absurd first
both_zip R (x ∷ xs) [] us vs first second = absurd first
both_zip R (x ∷ xs) (y ∷ ys) us vs first second = (first.0, both_zip R xs ys us vs first.1 second)

weaker_zip : {A B : Type 0} (R S : A → B → Type 0) → ((a : A) (b : B) → R a b → S a b) → (xs : List A) (ys : List B) → AllZip R xs ys → AllZip S xs ys
weaker_zip R S f [] [] all = tt
weaker_zip R S f [] (y ∷ ys) all = absurd all
weaker_zip R S f (x ∷ xs) [] all = absurd all
weaker_zip R S f (x ∷ xs) (y ∷ ys) all = (f x y all.0, weaker_zip R S f xs ys all.1)

module _ (nodes : List SetupNode) (configs : List Config) (ss : List Step) where
  -- a note still says what it said, since numbers stay
  still_noted : (payloads more : PayloadNumbers) → PayloadsGrow payloads more → (d : Dispatch) (note : NoteKept) → IsNoted nodes configs ss payloads d note → IsNoted nodes configs ss more d note
  still_noted payloads more grow d note is = record {
    step = is.step;
    said = is.said;
    stream = is.stream;
    mute = is.mute;
    answers = is.answers;
    payload = λ s m given long.
        let number = is.payload s m given long in
        record { at = number.at; is = number.is; kept = grow m.payload number.at number.kept };
  }

  pub notes_stay : (payloads more : PayloadNumbers) → PayloadsGrow payloads more → (ds : List Dispatch) (notes : List NoteKept)
      → AllZip (IsNoted nodes configs ss payloads) ds notes → AllZip (IsNoted nodes configs ss more) ds notes
  notes_stay payloads more grow ds notes all = weaker_zip (IsNoted nodes configs ss payloads) (IsNoted nodes configs ss more) (still_noted payloads more grow) ds notes all

  -- ---- what is answered

  -- by a rule that answers for no application, what is answered is what was delivered
  delivered_answered : (place i : ℕ) (r : Rule) (since : ℕ) → ((token : ℕ) (reply : Reply) (payload : List ℕ) → r ≡ plans.Answers token reply payload → ⊥)
      → ((d : SentDatagram) × Delivers nodes configs ss i since d) → Answered nodes configs ss place i r since
  delivered_answered place i (plans.Answers token reply payload) since never was = absurd (never token reply payload refl)
  delivered_answered place i r since never was = was

  answered_delivered : (place i : ℕ) (r : Rule) (since : ℕ) → ((token : ℕ) (reply : Reply) (payload : List ℕ) → r ≡ plans.Answers token reply payload → ⊥)
      → Answered nodes configs ss place i r since → (d : SentDatagram) × Delivers nodes configs ss i since d
  answered_delivered place i (plans.Answers token reply payload) since never was = absurd (never token reply payload refl)
  answered_delivered place i r since never was = was

  module _ (n : ℕ) where
    -- what a node takes in a step is what the step says, at whichever turn it is looked at
    own_input : (s : Step) (t : Turn nodes configs ss n s) (does : Does nodes configs ss n) → IsInputOf does.turn.history does.turn.before.lines does.input s
    own_input s t does =
        subst (IsInputOf does.turn.history does.turn.before.lines does.input) (one_turn nodes configs ss n does.step does.turn s t).step
        (input_of does.turn.history does.turn.before.lines does.input does.step (taken_at nodes configs ss n does.step does.turn does.input does.takes).1)

    -- a step that is no answer answers for no application
    no_answer : (sent : (d : SentDatagram) × Sends nodes configs ss n d) → is_answer sent.1.does.input ≡ false → (token : ℕ) (reply : Reply) (payload : List ℕ)
        → sent.1.by.done.by ≡ plans.Answers token reply payload → ⊥
    no_answer sent other = no_answer_answers sent.1.does.turn.history sent.1.given sent.1.does.input other sent.1.by

    -- an answer is given by the rule that answers
    answer_rule : (h : History) (given : Given) (input : Input) (by : GivenBy h input given) (token : ℕ) (reply : Reply) (payload : List ℕ)
        → input ≡ inputs.Answer token reply payload → by.done.by ≡ plans.Answers token reply payload
    answer_rule h given input by token reply payload is = (subst (λ i. Brings h i by.done.by by.brought.earlier) is by.brought.brings).0

    module _ (book : Book) (life : LifeKept) where
      abbrev KeepsNotes : World → Type 0
      KeepsNotes w = AllZip (IsNoted nodes configs ss book.payloads) (dispatches_in w.lines) book.notes

      -- the step that is kept sent what is answered
      delivered_says : (number : ℕ) (node : List ℕ) (t : Turn nodes configs ss n (steps.Deliver number node)) → KeepsNotes t.before → (since : ℕ)
          → answered_in book.notes life (steps.Deliver number node) ≡ Some since → (d : SentDatagram) × Delivers nodes configs ss n since d
      delivered_says number node t notes since is = cases (note_at book.notes number) refl is
        where
          cases : (o : Option NoteKept) → note_at book.notes number ≡ o → option_map (λ note. note.step) o ≡ Some since → (d : SentDatagram) × Delivers nodes configs ss n since d
          cases None at same = absurd cc
          cases (Some note) at same =
              let there = dispatch_of_number (IsNoted nodes configs ss book.payloads) t.before.lines book.notes notes number note at in
              let steps : note.step ≡ since = cc in (
                there.0.datagram,
                record {
                  number = number;
                  node = node;
                  turn = t;
                  numbered = there.1 ∙ ap (λ k. Some (record { step = k; datagram = there.0.datagram })) (there.2.step ∙ ap (λ k. k + 1) steps);
                },
              )

      delivered_only : (number : ℕ) (node : List ℕ) (t : Turn nodes configs ss n (steps.Deliver number node)) → KeepsNotes t.before → (since : ℕ)
          → (d : SentDatagram) → Delivers nodes configs ss n since d → answered_in book.notes life (steps.Deliver number node) ≡ Some since
      delivered_only number node t notes since d del =
          let one = one_turn nodes configs ss n (steps.Deliver number node) t (steps.Deliver del.number del.node) del.turn in
          let step = one.step in
          let numbers : number ≡ del.number = cc in
          let at : dispatch_at t.before.lines number ≡ Some (record { step = since + 1; datagram = d }) = (λ i. dispatch_at (one.before i).lines (numbers i)) ∙ del.numbered in
          let there = note_of_number (IsNoted nodes configs ss book.payloads) t.before.lines book.notes notes number (record { step = since + 1; datagram = d }) at in
          let counted = there.2.step in
          let same : there.0.step ≡ since = omega (arith, counted) in
          ap (option_map (λ (note : NoteKept). note.step)) there.1 ∙ ap Some same

      -- a step that is no delivery delivers nothing
      other_step : (s : Step) → Turn nodes configs ss n s → ((number : ℕ) (node : List ℕ) → s ≡ steps.Deliver number node → ⊥) → (since : ℕ) (d : SentDatagram)
          → Delivers nodes configs ss n since d → ⊥
      other_step s t other since d del = other del.number del.node (one_turn nodes configs ss n s t (steps.Deliver del.number del.node) del.turn).step

      module _ (d : SentDatagram) (sent : Sends nodes configs ss n d) (since : ℕ) where
        abbrev IsAnswered : Type 0
        IsAnswered = Answered nodes configs ss sent.does.turn.place n sent.by.done.by since

        -- what is kept of what is answered says so
        says : (s : Step) (t : Turn nodes configs ss n s) → KeepsNotes t.before → KeepsLife nodes configs ss book.payloads n t.place t.history life
            → answered_in book.notes life s ≡ Some since → IsAnswered
        says (steps.Deliver number node) t notes keeps is =
            delivered_answered sent.does.turn.place n sent.by.done.by since
            (no_answer (d, sent) (ap is_answer (own_input (steps.Deliver number node) t sent.does).2))
            (delivered_says number node t notes since is)
        says (steps.Answer node token reply payload) t notes keeps is =
            let rule =
            answer_rule sent.does.turn.history sent.given sent.does.input sent.by token reply payload (own_input (steps.Answer node token reply payload) t sent.does) in
            let place = (one_turn nodes configs ss n sent.does.step sent.does.turn (steps.Answer node token reply payload) t).place in
            subst (λ r. Answered nodes configs ss sent.does.turn.place n r since) (sym rule)
            (subst (λ p. WasHandedUp nodes configs ss p token n since) (sym place) (keeps.handed token since is))
        says s t notes keeps is = absurd cc

        -- and nothing else is
        not_delivered : (s : Step) (t : Turn nodes configs ss n s) → ((number : ℕ) (node : List ℕ) → s ≡ steps.Deliver number node → ⊥) → is_answer sent.does.input ≡ false → IsAnswered → ⊥
        not_delivered s t other never was =
            let there = answered_delivered sent.does.turn.place n sent.by.done.by since (no_answer (d, sent) never) was in
            other_step s t other since there.0 there.1

        only : (s : Step) (t : Turn nodes configs ss n s) → KeepsNotes t.before → KeepsLife nodes configs ss book.payloads n t.place t.history life
            → IsAnswered → answered_in book.notes life s ≡ Some since
        only (steps.Deliver number node) t notes keeps was =
            let there =
            answered_delivered sent.does.turn.place n sent.by.done.by since
            (no_answer (d, sent) (ap is_answer (own_input (steps.Deliver number node) t sent.does).2)) was in
            delivered_only number node t notes since there.0 there.1
        only (steps.Answer node token reply payload) t notes keeps was =
            let rule =
            answer_rule sent.does.turn.history sent.given sent.does.input sent.by token reply payload (own_input (steps.Answer node token reply payload) t sent.does) in
            let place = (one_turn nodes configs ss n sent.does.step sent.does.turn (steps.Answer node token reply payload) t).place in
            keeps.handed_only token since
            (subst (λ p. WasHandedUp nodes configs ss p token n since) place (subst (λ r. Answered nodes configs ss sent.does.turn.place n r since) rule was))
        only (steps.Tick node ms) t notes keeps was =
            absurd (not_delivered (steps.Tick node ms) t (λ number other is. absurd cc) (ap is_answer (own_input (steps.Tick node ms) t sent.does).0) was)
        only (steps.Call node kind instance method payload) t notes keeps was =
            absurd (not_delivered (steps.Call node kind instance method payload) t (λ number other is. absurd cc) (ap is_answer (own_input (steps.Call node kind instance method payload) t sent.does)) was)
        only (steps.Publish node instance event payload) t notes keeps was =
            absurd (not_delivered (steps.Publish node instance event payload) t (λ number other is. absurd cc) (ap is_answer (own_input (steps.Publish node instance event payload) t sent.does)) was)
        only (steps.PublishTo node group to event payload) t notes keeps was =
            absurd (not_delivered (steps.PublishTo node group to event payload) t (λ number other is. absurd cc) (ap is_answer (own_input (steps.PublishTo node group to event payload) t sent.does)) was)
        only (steps.Subscribe node group) t notes keeps was =
            absurd (not_delivered (steps.Subscribe node group) t (λ number other is. absurd cc) (ap is_answer (own_input (steps.Subscribe node group) t sent.does)) was)
        only (steps.Unsubscribe node group) t notes keeps was =
            absurd (not_delivered (steps.Unsubscribe node group) t (λ number other is. absurd cc) (ap is_answer (own_input (steps.Unsubscribe node group) t sent.does)) was)
        only (steps.StopOffer node instance) t notes keeps was =
            absurd (not_delivered (steps.StopOffer node instance) t (λ number other is. absurd cc) (ap is_answer (own_input (steps.StopOffer node instance) t sent.does)) was)
        only (steps.Restart node delay) t notes keeps was = absurd (own_input (steps.Restart node delay) t sent.does)
        only (steps.Inject node port to payload) t notes keeps was = absurd (own_input (steps.Inject node port to payload) t sent.does)

      module _ (s : Step) (t : Turn nodes configs ss n s) (own : is_injection s ≡ false) (notes : KeepsNotes t.before) (keeps : KeepsLife nodes configs ss book.payloads n t.place t.history life) where
        -- no liar sends in a step of a node
        none_injected : (d : SentDatagram) → IsInjected nodes configs ss n d → ⊥
        none_injected d injected = let some = injected_so nodes configs ss n s t d injected in absurd cc

        answered : (d : SentDatagram) → KnowsAnswered nodes configs ss n d (answered_in book.notes life s)
        answered d = record {
          says = λ sent since is. says d sent since s t notes keeps is;
          only = λ sent since was. only d sent since s t notes keeps was;
        }

        -- ---- payloads

        -- a long message has the number of the payload of the step
        own_number : (d : SentDatagram) (sent : Sends nodes configs ss n d) (m : MessageValue) → sent.given ≡ outputs.Sends d.from d.to m → is_long m.payload ≡ true
            → IsNumbered nodes configs ss (numbered n (long_payload_of s) book.payloads) m.payload (option_map (number_of book.payloads n) (long_payload_of s))
        own_number d sent m given long =
            let by = subst (GivenBy sent.does.turn.history sent.does.input) given sent.by in
            let gave = same_payload sent.does.turn.history sent.does.turn.before.lines sent.does.input s (own_input s t sent.does) ∙ long_payload sent.does.turn.history sent.does.input d.from d.to m by long in
            let own : long_payload_of s ≡ Some m.payload =
            ap (λ o. option_map_or (λ p. if is_long p then Some p else None) o None) gave ∙ ap (λ b. if b then Some m.payload else None) long in
            record {
              at = number_of book.payloads n m.payload;
              is = ap (option_map (number_of book.payloads n)) own;
              kept = ap (λ o. finite.get (numbered n o book.payloads) m.payload) own ∙ number_then book.payloads m.payload (number_of book.payloads n m.payload) m.payload
                  ∙ ap (λ b. cond b (Some (number_of book.payloads n m.payload)) (finite.get book.payloads m.payload)) (own_test nat_list_cmp_total m.payload);
            }

        -- ---- the notes

        abbrev more : PayloadNumbers
        more = numbered n (long_payload_of s) book.payloads

        own_note : (d : SentDatagram) → IsNoted nodes configs ss more (record { step = n + 1; datagram = d })
            (note_of n (answered_in book.notes life s) (option_map (number_of book.payloads n) (long_payload_of s)) d)
        own_note d = record {
          step = refl;
          said = λ sends. refl;
          stream = λ sends. refl;
          mute = λ injected. absurd (none_injected d injected);
          answers = answered d;
          payload = λ sent m given long. own_number d sent m given long;
        }

        abbrev own_notes : List SentDatagram → List NoteKept
        own_notes ds = notes_of n (answered_in book.notes life s) (option_map (number_of book.payloads n) (long_payload_of s)) ds

        all_noted : (place : ℕ) (os : List Output)
            → AllZip (IsNoted nodes configs ss more) (dispatches_in (told_lines (n + 1) place (Ok os))) (own_notes (datagrams_in (told_lines (n + 1) place (Ok os))))
        all_noted place [] = tt
        all_noted place (o ∷ os) = cases (sent_with o) (all_noted place os)
          where
            cases : (x : Option SentDatagram) → AllZip (IsNoted nodes configs ss more) (dispatches_in (told_lines (n + 1) place (Ok os))) (own_notes (datagrams_in (told_lines (n + 1) place (Ok os))))
                → AllZip (IsNoted nodes configs ss more) (cons_option (option_map (λ d. record { step = n + 1; datagram = d }) x) (dispatches_in (told_lines (n + 1) place (Ok os))))
                (own_notes (cons_option x (datagrams_in (told_lines (n + 1) place (Ok os)))))
            cases None rest = rest
            cases (Some d) rest = (own_note d, rest)

        -- the notes after a step that gives some outputs
        pub notes_kept : (os : List Output) → PayloadsGrow book.payloads more
            → AllZip (IsNoted nodes configs ss more) (dispatches_in (t.before.lines ++ told_lines (n + 1) t.place (Ok os)))
            (book.notes ++ own_notes (datagrams_in (told_lines (n + 1) t.place (Ok os))))
        notes_kept os grow =
            let lines = told_lines (n + 1) t.place (Ok os) in
            subst (λ ds. AllZip (IsNoted nodes configs ss more) ds (book.notes ++ own_notes (datagrams_in lines))) (sym (filter_map-append dispatch_in t.before.lines lines))
            (both_zip (IsNoted nodes configs ss more) (dispatches_in t.before.lines) book.notes (dispatches_in lines) (own_notes (datagrams_in lines))
            (notes_stay book.payloads more grow (dispatches_in t.before.lines) book.notes notes) (all_noted t.place os))

    -- ---- a liar's datagram

    module _ (s : Step) (t : Turn nodes configs ss n s) (from to : SocketAddrV4) (bytes : List ℕ) (is : t.deed ≡ Injects from to bytes) (payloads : PayloadNumbers) where
      -- no node sends in the step
      none_sends : (d : SentDatagram) → Sends nodes configs ss n d → ⊥
      none_sends d sends = injection_does_nothing nodes configs ss n s t from to bytes is sends.does

      mute_noted : (d : SentDatagram) → IsNoted nodes configs ss payloads (record { step = n + 1; datagram = d }) (mute_note n)
      mute_noted d = record {
        step = refl;
        said = λ sends. absurd (none_sends d sends);
        stream = λ sends. absurd (none_sends d sends);
        mute = λ injected. (refl, refl);
        answers = record { says = λ sends since is. absurd (none_sends d sends); only = λ sends since was. absurd (none_sends d sends) };
        payload = λ sends m given long. absurd (none_sends d sends);
      }

      -- the notes after a step in which a liar sends
      pub notes_of_liar : (notes : List NoteKept) → AllZip (IsNoted nodes configs ss payloads) (dispatches_in t.before.lines) notes
          → AllZip (IsNoted nodes configs ss payloads) (dispatches_in (t.before.lines ++ told_lines (n + 1) t.place (Ok (Sent from to bytes ∷ [])))) (notes ++ mute_note n ∷ [])
      notes_of_liar notes all =
          let lines = told_lines (n + 1) t.place (Ok (Sent from to bytes ∷ [])) in
          subst (λ ds. AllZip (IsNoted nodes configs ss payloads) ds (notes ++ mute_note n ∷ [])) (sym (filter_map-append dispatch_in t.before.lines lines))
          (both_zip (IsNoted nodes configs ss payloads) (dispatches_in t.before.lines) notes (dispatches_in lines) (mute_note n ∷ []) all
          (mute_noted (record { from = from; to = to; bytes = bytes }), tt))
