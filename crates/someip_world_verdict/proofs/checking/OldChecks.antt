-- The book tells whether a step delivers what belongs to an exchange whose key a newer one has taken.
use Rattle.std.proofs.Common.{◌≡◌, ◌<◌, ◌≤◌, ◌⊎◌, inl, inr, arith, ℕ, true, false, List, map, slice_get, Option, None, Some, refl, sym, ap, subst, ◌∙◌}
use Rattle.std.specs.List.{Contains, list_any}
use Rattle.std.proofs.lemmas.Bool.{cases_lt, lt-ltb, ltb-true}
use Rattle.std.proofs.lemmas.List.Folds.{Any-from_list_any, list_any_at}
use Rattle.someip_node_rules.specs.forms.GoodConfigs.{is_good}
use Rattle.someip_node_rules.specs.rules.Plans.{Rule}
use Rattle.someip_node_rules.specs.declared.config.Config.{Config}
use Rattle.someip_node_rules.proofs.lists.MemberLemmas.{all_from_members, all_map, at_member}
use Rattle.someip_world_schedule.specs.declared.step.Step.{Step}
use Rattle.someip_world_setup.specs.declared.setup_node.SetupNode.{SetupNode}
use Rattle.someip_world_rules.specs.Announced.{AllFits}
use Rattle.someip_world_rules.specs.Datagrams.{SentDatagram}
use Rattle.someip_world_rules.specs.exchanges.Belonging.{Belongs, IsMeant}
use Rattle.someip_world_rules.specs.exchanges.CleanReuse.{DeliversOld}
use Rattle.someip_world_rules.specs.Deliveries.{Delivers, GoesOut, Sends}
use Rattle.someip_world_rules.specs.exchanges.Openings.{IsTaken}
use Rattle.someip_world_rules.specs.declared.exchanges.exchange_key.ExchangeKey.{ExchangeKey}
use Rattle.someip_world_rules.specs.declared.exchanges.naming.Naming.{Naming}
use Rattle.someip_world_rules.specs.declared.exchanges.naming.Side.{Side}
use Rattle.someip_world_rules.specs.declared.exchanges.naming.Side.TheVariants.{Answerer, Opener}
use Rattle.someip_world_rules.proofs.Sendings.{sent_before}
use Rattle.someip_world_verdict.specs.Books.{NoteKept, PayloadNumbers, TakenKeys, is_after, is_old, since_of, taken_at}
use Rattle.someip_world_verdict.specs.Contents.{said_in}
use Rattle.someip_world_verdict.specs.declared.said.Said.{Said}
use Rattle.someip_world_verdict.proofs.noting.DeliveryNotes.{HasNote}
use Rattle.someip_world_verdict.proofs.Kept.{KeepsTaken, KnowsOpening}
use Rattle.someip_world_verdict.proofs.reading.OutputLemmas.{map_has}
use Rattle.someip_world_verdict.proofs.reading.SentReadings.{sent_read}

-- what is among the values of a function is one of them
map_from : {X Y : Type 0} (f : X → Y) (xs : List X) (y : Y) → Contains (map f xs) y → (x : X) × Contains xs x × (f x ≡ y)
map_from {X} {Y} f xs y among =
    at_member (λ (z : Y). (x : X) × Contains xs x × (f x ≡ z)) (map f xs) y
    (all_map (λ (z : Y). (x : X) × Contains xs x × (f x ≡ z)) f xs (all_from_members (λ z. (x : X) × Contains xs x × (f x ≡ f z)) xs (λ z here. (z, here, refl)))) among

module _ (nodes : List SetupNode) (configs : List Config) (ss : List Step) where
  -- ---- keys

  module _ (n : ℕ) (key : ExchangeKey) (since : ℕ) where
    -- what the last opening of a key tells: whether it was taken after a step
    taken_so : (at : Option ℕ) → KnowsOpening nodes configs ss n key at → is_after (Some since) at ≡ true → IsTaken nodes configs ss since n key
    taken_so None knows is = absurd cc
    taken_so (Some at) knows is = record { i = at; after = ltb-true since at is; before = knows.before; opened = knows.opened }

    -- and if it was, that tells it
    taken_only : (at : Option ℕ) → KnowsOpening nodes configs ss n key at → IsTaken nodes configs ss since n key → is_after (Some since) at ≡ true
    taken_only None knows taken = absurd (knows taken.i taken.before taken.opened)
    taken_only (Some at) knows taken = cases (cases_lt at taken.i)
      where
        cases : (at < taken.i) ⊎ (taken.i ≤ at) → is_after (Some since) (Some at) ≡ true
        cases (inl lt) = absurd (knows.last taken.i lt taken.before taken.opened)
        cases (inr le) = let after = taken.after in lt-ltb since at (omega (arith, after, le))

  -- ---- sides

  module _ (place i : ℕ) (r : Rule) (note : NoteKept) (step : note.step ≡ i) (since : ℕ) where
    -- as of which step one side means what it says
    meant_so : (side : Side) → (note.answers ≡ Some since → IsMeant nodes configs ss place i r Answerer since) → since_of note side ≡ Some since → IsMeant nodes configs ss place i r side since
    meant_so Opener says is = cc
    meant_so Answerer says is = says is

    -- and the note tells it
    meant_only : (side : Side) → (IsMeant nodes configs ss place i r Answerer since → note.answers ≡ Some since) → IsMeant nodes configs ss place i r side since → since_of note side ≡ Some since
    meant_only Opener only meant = ap Some (step ∙ sym meant)
    meant_only Answerer only meant = only meant

  -- ---- what is said

  module _ (fits : AllFits nodes configs ss) (well : (place : ℕ) (c : Config) → slice_get configs place ≡ Some c → is_good c ≡ true)
      (n : ℕ) (payloads : PayloadNumbers) (taken : TakenKeys) (knows : KeepsTaken nodes configs ss n taken)
      (sent : ℕ) (d : SentDatagram) (note : NoteKept) (has : HasNote nodes configs ss payloads sent d note) where
    -- something said is old
    said_old : Delivers nodes configs ss n sent d → Sends nodes configs ss sent d → (said : Said) → Contains (said_in d) said → (o : Option ℕ) → since_of note said.naming.side ≡ o
        → is_after o (taken_at taken said.naming.key) ≡ true → DeliversOld nodes configs ss n
    said_old del sends said among None since is = absurd cc
    said_old del sends said among (Some at) since is =
        let read = sent_read nodes configs ss fits well sent d sends in
        record {
          sent = sent;
          datagram = d;
          delivers = del;
          key = said.naming.key;
          since = at;
          belongs = record {
            sent = sends;
            side = said.naming.side;
            named = subst (λ names. Contains names said.naming) read.named (map_has (λ (x : Said). x.naming) (said_in d) said among);
            meant = meant_so sends.does.turn.place sent sends.by.done.by note has.step at said.naming.side (has.answers.says sends at) since;
          };
          taken = taken_so n said.naming.key at (taken_at taken said.naming.key) (knows said.naming.key) is;
        }

    -- what the book calls old is so
    pub old_so : Delivers nodes configs ss n sent d → list_any (is_old taken note) note.said ≡ true → DeliversOld nodes configs ss n
    old_so del is = cases (sent_before nodes configs ss n sent d del).1
      where
        cases : GoesOut nodes configs ss sent d → DeliversOld nodes configs ss n
        cases (inl sends) =
            let any = Any-from_list_any (is_old taken note) note.said is in
            said_old del sends any.1 (subst (λ said. Contains said any.1) (has.said sends) (any.0, any.2, any.3)) (since_of note any.1.naming.side) refl any.4
        cases (inr injected) =
            let none = (has.mute injected).0 in
            let not : list_any (is_old taken note) note.said ≡ false = ap (list_any (is_old taken note)) none in
            absurd cc

    -- and what is so the book calls old
    pub old_only : (key : ExchangeKey) (since : ℕ) → Belongs nodes configs ss sent d key since → IsTaken nodes configs ss since n key → list_any (is_old taken note) note.said ≡ true
    old_only key since belongs newer =
        let read = sent_read nodes configs ss fits well sent d belongs.sent in
        let naming : Naming = record { key = key; side = belongs.side } in
        let there = map_from (λ (x : Said). x.naming) (said_in d) naming (subst (λ names. Contains names naming) (sym read.named) belongs.named) in
        let among = subst (λ said. Contains said there.0) (sym (has.said belongs.sent)) there.1 in
        let meant = meant_only belongs.sent.does.turn.place sent belongs.sent.by.done.by note has.step since belongs.side (has.answers.only belongs.sent since) belongs.meant in
        let old : is_old taken note there.0 ≡ true =
        ap (λ (x : Naming). is_after (since_of note x.side) (taken_at taken x.key)) there.2 ∙ ap (λ o. is_after o (taken_at taken key)) meant
        ∙ taken_only n key since (taken_at taken key) (knows key) newer in
        list_any_at (is_old taken note) note.said among.0 there.0 among.1 (ap (is_old taken note) among.2 ∙ old)
