-- The check of a step by the book: it finds just what breaks clean reuse.
use Rattle.std.proofs.Common.{◌≡◌, ◌≢◌, ◌<◌, ◌⊎◌, inl, inr, arith, ℕ, ◌+◌, true, false, List, slice_get, Option, None, Some, refl, sym, ap, subst, ◌∙◌}
use Rattle.std.specs.List.{list_any}
use Rattle.std.specs.Option.{option_map_or}
use Rattle.std.proofs.lemmas.Bool.{or_cases, or_left, or_right}
use Rattle.someip_wire.specs.Spelling.{MessageValue}
use Rattle.someip_reassembly.specs.Sent.{is_long}
use Rattle.someip_reassembly.specs.declared.key.ReassemblyKey.{ReassemblyKey}
use Rattle.someip_node_rules.specs.forms.GoodConfigs.{is_good}
use Rattle.someip_node_rules.specs.forms.Outputs as outputs
use Rattle.someip_node_rules.specs.histories.Questions.{clock_at}
use Rattle.someip_node_rules.specs.declared.config.Config.{Config}
use Rattle.someip_world_schedule.specs.declared.step.Step.{Step}
use Rattle.someip_world_schedule.specs.declared.step.Step.TheVariants as steps
use Rattle.someip_world_setup.specs.declared.setup_node.SetupNode.{SetupNode}
use Rattle.someip_world_rules.specs.Announced.{AllFits}
use Rattle.someip_world_rules.specs.Datagrams.{SentDatagram}
use Rattle.someip_world_rules.specs.Turns.{Turn}
use Rattle.someip_world_rules.specs.exchanges.Belonging.{Belongs}
use Rattle.someip_world_rules.specs.exchanges.CleanReuse.{Arrives, Breaks, IsCleanBefore, Mixed, Old, message_key}
use Rattle.someip_world_rules.specs.Deliveries.{Delivers, LivesOn, Sends}
use Rattle.someip_world_rules.specs.exchanges.Openings.{IsTaken}
use Rattle.someip_world_rules.specs.declared.exchanges.exchange_key.ExchangeKey.{ExchangeKey}
use Rattle.someip_world_rules.proofs.Deliverings.{one_turn}
use Rattle.someip_world_verdict.specs.Books.{Book, LifeKept, NoteKept, breaks_at, is_breach, is_mixed, is_old, arrival_at, note_at}
use Rattle.someip_world_verdict.proofs.noting.DeliveryNotes.{delivery_kept, life_kept, note_delivered}
use Rattle.someip_world_verdict.proofs.Kept.{Kept}
use Rattle.someip_world_verdict.proofs.checking.MixedChecks.{mixed_only, mixed_so}
use Rattle.someip_world_verdict.proofs.checking.OldChecks.{old_only, old_so}

module _ (nodes : List SetupNode) (configs : List Config) (ss : List Step) (fits : AllFits nodes configs ss)
    (well : (place : ℕ) (c : Config) → slice_get configs place ≡ Some c → is_good c ≡ true)
    (n : ℕ) (book : Book) (life : LifeKept) where
  -- ---- what the check finds

  -- by the note of the number
  found_at : (number : ℕ) (node : List ℕ) (t : Turn nodes configs ss n (steps.Deliver number node)) → Kept nodes configs ss n t.before book → slice_get book.lives t.place ≡ Some life
      → (o : Option NoteKept) → note_at book.notes number ≡ o
      → option_map_or (λ note. is_breach t.history.config.common.reassembly_timeout_ms book.taken life note) o false ≡ true → Breaks nodes configs ss n
  found_at number node t kept lives None at is = absurd cc
  found_at number node t kept lives (Some note) at is =
      cases (or_cases (list_any (is_old book.taken note) note.said) (is_mixed t.history.config.common.reassembly_timeout_ms life.clock (arrival_at life note.stream) note.payload) is)
    where
      cases : (list_any (is_old book.taken note) note.said ≡ true)
          ⊎ (is_mixed t.history.config.common.reassembly_timeout_ms life.clock (arrival_at life note.stream) note.payload ≡ true) → Breaks nodes configs ss n
      cases (inl old) =
          let there = note_delivered nodes configs ss n book number node t kept note at in
          let del : Delivers nodes configs ss n note.step there.datagram = record { number = number; node = node; turn = t; numbered = there.numbered } in
          Old (old_so nodes configs ss fits well n book.payloads book.taken kept.taken note.step there.datagram note there.has del old)
      cases (inr mixed) =
          let there = note_delivered nodes configs ss n book number node t kept note at in
          let del : Delivers nodes configs ss n note.step there.datagram = record { number = number; node = node; turn = t; numbered = there.numbered } in
          Mixed (mixed_so nodes configs ss fits well n note.step there.datagram del book.payloads note there.has life
          (life_kept nodes configs ss n book (steps.Deliver number node) t kept life lives) mixed)

  -- in a step that is no delivery the check finds nothing
  found : (s : Step) (t : Turn nodes configs ss n s) → Kept nodes configs ss n t.before book → slice_get book.lives t.place ≡ Some life
      → breaks_at t.history.config.common.reassembly_timeout_ms book life s ≡ true → Breaks nodes configs ss n
  found (steps.Deliver number node) t kept lives is = found_at number node t kept lives (note_at book.notes number) refl is
  found s t kept lives is = absurd cc

  -- ---- and what is there it finds

  module _ (sent : ℕ) (d : SentDatagram) (del : Delivers nodes configs ss n sent d) where
    -- the timeout of the node that it is delivered to
    abbrev timeout : ℕ
    timeout = del.turn.history.config.common.reassembly_timeout_ms

    -- the check finds something in a delivery
    abbrev Finds : Type 0
    Finds = breaks_at timeout book life (steps.Deliver del.number del.node) ≡ true

    -- by the note of what is delivered
    finds_by_note : (note : NoteKept) → note_at book.notes del.number ≡ Some note → is_breach timeout book.taken life note ≡ true → Finds
    finds_by_note note at is = ap (λ o. option_map_or (λ x. is_breach timeout book.taken life x) o false) at ∙ is

    module _ (kept : Kept nodes configs ss n del.turn.before book) where
      -- it finds what is old
      finds_old : (key : ExchangeKey) (since : ℕ) → Belongs nodes configs ss sent d key since → IsTaken nodes configs ss since n key → Finds
      finds_old key since belongs taken =
          let k = delivery_kept nodes configs ss n book sent d del kept in
          finds_by_note k.note k.at
          (or_left (list_any (is_old book.taken k.note) k.note.said) (is_mixed timeout life.clock (arrival_at life k.note.stream) k.note.payload)
          (old_only nodes configs ss fits well n book.payloads book.taken kept.taken sent d k.note k.has key since belongs taken))

      -- and what is mixed
      finds_mixed : IsCleanBefore nodes configs ss n → slice_get book.lives del.turn.place ≡ Some life
          → (s : Sends nodes configs ss sent d) (m : MessageValue) (key : ReassemblyKey) → s.given ≡ outputs.Sends d.from d.to m → is_long m.payload ≡ true → key ≡ message_key d m
          → (earlier moment : ℕ) → earlier < n → LivesOn nodes configs ss del.turn.place earlier n → (other : MessageValue)
          → Arrives nodes configs ss earlier del.turn.place moment other key → other.payload ≢ m.payload → clock_at del.turn.history.items < moment + timeout → Finds
      finds_mixed clean lives s m key given long keyed earlier moment before goes other arrived differs recent =
          let k = delivery_kept nodes configs ss n book sent d del kept in
          finds_by_note k.note k.at
          (or_right (list_any (is_old book.taken k.note) k.note.said) (is_mixed timeout life.clock (arrival_at life k.note.stream) k.note.payload)
          (mixed_only nodes configs ss fits well n sent d del book.payloads k.note k.has life (life_kept nodes configs ss n book _ del.turn kept life lives) kept.payloads clean
          s m key given long keyed earlier moment before goes other arrived differs recent))

  module _ (s : Step) (t : Turn nodes configs ss n s) (kept : Kept nodes configs ss n t.before book) (lives : slice_get book.lives t.place ≡ Some life) (clean : IsCleanBefore nodes configs ss n) where
    -- there is one turn, and so one delivery
    at_turn : (sent : ℕ) (d : SentDatagram) (del : Delivers nodes configs ss n sent d)
        → (Kept nodes configs ss n del.turn.before book → slice_get book.lives del.turn.place ≡ Some life → Finds sent d del)
        → breaks_at t.history.config.common.reassembly_timeout_ms book life s ≡ true
    at_turn sent d del finds =
        let one = one_turn nodes configs ss n s t _ del.turn in
        (λ i. breaks_at (one.history i).config.common.reassembly_timeout_ms book life (one.step i))
        ∙ finds (subst (λ w. Kept nodes configs ss n w book) one.before kept) (subst (λ place. slice_get book.lives place ≡ Some life) one.place lives)

    -- so it finds what breaks clean reuse
    finds : Breaks nodes configs ss n → breaks_at t.history.config.common.reassembly_timeout_ms book life s ≡ true
    finds (Old o) = at_turn o.sent o.datagram o.delivers (λ own here. finds_old o.sent o.datagram o.delivers own o.key o.since o.belongs o.taken)
    finds (Mixed x) =
        let a = x.arrives in
        let clock = a.clock in
        let recent = x.recent in
        at_turn a.sent a.datagram a.delivers (λ own here.
        finds_mixed a.sent a.datagram a.delivers own clean here a.sends x.message x.key a.given a.long a.keyed x.earlier x.moment x.before
        (subst (λ place. LivesOn nodes configs ss place x.earlier n) (sym a.at) x.lives) x.other
        (subst (λ place. Arrives nodes configs ss x.earlier place x.moment x.other x.key) (sym a.at) x.arrived) x.differs (omega (arith, clock, recent)))

-- ---- the check of a step

module _ (nodes : List SetupNode) (configs : List Config) (ss : List Step) (fits : AllFits nodes configs ss)
    (well : (place : ℕ) (c : Config) → slice_get configs place ≡ Some c → is_good c ≡ true)
    (n : ℕ) (s : Step) (t : Turn nodes configs ss n s) (book : Book) (kept : Kept nodes configs ss n t.before book)
    (life : LifeKept) (lives : slice_get book.lives t.place ≡ Some life) (clean : IsCleanBefore nodes configs ss n) where
  -- where it finds something, the step breaks clean reuse
  pub breaks_so : breaks_at t.history.config.common.reassembly_timeout_ms book life s ≡ true → Breaks nodes configs ss n
  breaks_so = found nodes configs ss fits well n book life s t kept lives

  -- and where the step does, it finds that
  pub breaks_only : Breaks nodes configs ss n → breaks_at t.history.config.common.reassembly_timeout_ms book life s ≡ true
  breaks_only = finds nodes configs ss fits well n book life s t kept lives clean
