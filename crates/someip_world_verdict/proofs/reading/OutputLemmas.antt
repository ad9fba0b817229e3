-- What the outputs of a step say is what was given in it.
use Rattle.std.proofs.Common.{◌≡◌, ◌⊎◌, inl, inr, ◌<◌, ℕ, zero, suc, Bool, true, false, if◌then◌else◌, List, [], ◌∷◌, ◌++◌, length, map, arith, Option, None, Some, Ok, refl, sym, ap, subst, ◌∙◌}
use Rattle.std.specs.List.{AllByRecursion, Contains, flat_map}
use Rattle.std.specs.Option.{option_map_or}
use Rattle.std.proofs.lemmas.Bool.{ltb-true}
use Rattle.std.proofs.lemmas.Grind.{flat_map-append}
use Rattle.std.proofs.lemmas.List.{append-nil, map-append}
use Rattle.std.proofs.lemmas.List.Elements.{Contains-append_cases, Contains-append_left, Contains-append_right, Contains-get_or}
use Rattle.someip_wire.specs.declared.header.Header.{Header}
use Rattle.someip_wire.specs.Spelling.{MessageValue, spelling}
use Rattle.someip_reassembly.specs.Segments.{SegmentValue, segment_at, segment_header, segments_within}
use Rattle.someip_reassembly.specs.Sent.{PieceValue, Alone, InSegment, is_long, piece_message, segments_of, sent}
use Rattle.someip_node_rules.specs.declared.output.Output.{Output}
use Rattle.someip_node_rules.specs.declared.output.Output.TheVariants.{Sent}
use Rattle.someip_node_rules.specs.forms.Entries.{discovery_message}
use Rattle.someip_node_laws.specs.Fitting.{FitsWire}
use Rattle.someip_node_rules.specs.forms.GoodConfigs.{is_good}
use Rattle.someip_node_rules.specs.histories.History.{History}
use Rattle.someip_node_rules.specs.rules.Inputs.{Input}
use Rattle.someip_node_rules.specs.trails.Meanings.{GivenBy}
use Rattle.someip_node_rules.specs.forms.Outputs.{Given, Announces, Sends, Tells, datagram_of, written}
use Rattle.someip_node_rules.specs.rules.Plans.{Work}
use Rattle.someip_node_rules.specs.steps.Steps.{step}
use Rattle.someip_node_rules.specs.trails.Trails.{given_by, trail_of}
use Rattle.someip_node_rules.proofs.trails.MeaningLemmas.{all_given, outputs_written}
use Rattle.someip_node_rules.proofs.lists.MemberLemmas.{all_both, all_flat_map, all_from_members, all_members, all_weaker, at_member}
use Rattle.someip_world_rules.specs.Datagrams.{SentDatagram, sent_with}
use Rattle.someip_world_rules.proofs.Sendings.{sends}
use Rattle.someip_world_rules.specs.declared.exchanges.naming.Naming.{Naming}
use Rattle.someip_world_rules.specs.exchanges.Beginnings.{subscribes_in}
use Rattle.someip_world_rules.specs.exchanges.Namings.{named_in}
use Rattle.someip_world_verdict.specs.declared.said.Said.{Said}
use Rattle.someip_world_verdict.specs.Contents.{said_by_outputs, said_in, subscribe_said}
use Rattle.someip_world_verdict.proofs.reading.ContentLemmas.{AreReadBack, read_back}

-- ---- lists

-- what is among the values at one element is among those at all
among_flat_map : {X Y : Type 0} (f : X → List Y) (xs : List X) (y : Y) → AllByRecursion (λ x. Contains (f x) y → Contains (flat_map f xs) y) xs
among_flat_map f [] y = tt
among_flat_map f (x ∷ xs) y = (
  λ own. Contains-append_left (f x) (flat_map f xs) y own,
  all_weaker (λ z. Contains (f z) y → Contains (flat_map f xs) y) (λ z. Contains (f z) y → Contains (f x ++ flat_map f xs) y)
      (λ z rest own. Contains-append_right (f x) (flat_map f xs) y (rest own)) xs (among_flat_map f xs y),
)

pub flat_map_has : {X Y : Type 0} (f : X → List Y) (xs : List X) (x : X) (y : Y) → Contains xs x → Contains (f x) y → Contains (flat_map f xs) y
flat_map_has f xs x y among = at_member (λ z. Contains (f z) y → Contains (flat_map f xs) y) xs x (among_flat_map f xs y) among

pub map_has : {X Y : Type 0} (f : X → Y) (xs : List X) (x : X) → Contains xs x → Contains (map f xs) (f x)
map_has f xs x among =
    at_member (λ z. Contains (map f xs) (f z)) xs x (all f xs) among
  where
    all : {X Y : Type 0} (f : X → Y) (xs : List X) → AllByRecursion (λ z. Contains (map f xs) (f z)) xs
    all f [] = tt
    all f (x ∷ xs) = (
      Contains-get_or (f x ∷ map f xs) 0 (f x) (omega arith),
      all_weaker (λ z. Contains (map f xs) (f z)) (λ z. Contains (f x ∷ map f xs) (f z)) (λ z rest. Contains-append_right (f x ∷ []) (map f xs) (f z) rest) xs (all f xs),
    )

none_of_all : {X Y : Type 0} (f : X → List Y) (xs : List X) → AllByRecursion (λ x. f x ≡ []) xs → flat_map f xs ≡ []
none_of_all f [] all = refl
none_of_all f (x ∷ xs) all = ap (λ ys. ys ++ flat_map f xs) all.0 ∙ none_of_all f xs all.1

-- values of values: in one go
through : {X Y Z : Type 0} (g : Y → List Z) (f : X → List Y) (xs : List X) → flat_map g (flat_map f xs) ≡ flat_map (λ x. flat_map g (f x)) xs
through g f [] = refl
through g f (x ∷ xs) = flat_map-append g (f x) (flat_map f xs) ∙ ap (λ zs. flat_map g (f x) ++ zs) (through g f xs)

map_through : {X Y Z : Type 0} (g : Y → Z) (f : X → List Y) (xs : List X) → map g (flat_map f xs) ≡ flat_map (λ x. map g (f x)) xs
map_through g f [] = refl
map_through g f (x ∷ xs) = map-append g (f x) (flat_map f xs) ∙ ap (λ zs. map g (f x) ++ zs) (map_through g f xs)

-- among the values of one function is what is among those of another, as it is at each element
flat_map_weaker : {X Y : Type 0} (f g : X → List Y) (xs : List X) (y : Y) → AllByRecursion (λ x. Contains (f x) y → Contains (g x) y) xs
    → Contains (flat_map f xs) y → Contains (flat_map g xs) y
flat_map_weaker f g [] y all among = among
flat_map_weaker f g (x ∷ xs) y all among = cases (Contains-append_cases (f x) (flat_map f xs) y among) (flat_map_weaker f g xs y all.1)
  where
    cases : Contains (f x) y ⊎ Contains (flat_map f xs) y → (Contains (flat_map f xs) y → Contains (flat_map g xs) y) → Contains (g x ++ flat_map g xs) y
    cases (inl here) more = Contains-append_left (g x) (flat_map g xs) y (all.0 here)
    cases (inr there) more = Contains-append_right (g x) (flat_map g xs) y (more there)

-- ---- what an output says

abbrev pub said_by_output : Output → List Said
said_by_output o = option_map_or said_in (sent_with o) []

-- the output of something that is read back says what that names, if it is a datagram
pub output_case : (given : Given) → AreReadBack given → (P : List Said → Type 0) → P [] → ((d : SentDatagram) → Contains (written given) (Sent d.from d.to d.bytes) → P (said_in d))
    → (o : Output) → Contains (written given) o → P (said_by_output o)
output_case given are P none some o among = cases (sent_with o) refl
  where
    cases : (d : Option SentDatagram) → sent_with o ≡ d → P (option_map_or said_in d [])
    cases None is = none
    cases (Some d) is = some d (subst (Contains (written given)) (sends o d is) among)

-- ---- Subscribes

-- where nothing that is given subscribes, no output says a Subscribe
without_subscribes : (given : Given) → AreReadBack given → subscribes_in given ≡ [] → flat_map subscribe_said (said_by_outputs (written given)) ≡ subscribes_in given
without_subscribes given are none =
    through subscribe_said said_by_output (written given)
    ∙ none_of_all (λ o. flat_map subscribe_said (said_by_output o)) (written given)
    (all_from_members (λ o. flat_map subscribe_said (said_by_output o) ≡ []) (written given)
    (output_case given are (λ said. flat_map subscribe_said said ≡ []) refl (λ d among. (are d among).subscribes ∙ none))) ∙ sym none

given_subscribes : (given : Given) → AreReadBack given → flat_map subscribe_said (said_by_outputs (written given)) ≡ subscribes_in given
given_subscribes (Sends from to m) are = without_subscribes (Sends from to m) are refl
given_subscribes (Announces from to stamp entries) are =
    let d : SentDatagram = record { from = from; to = to; bytes = spelling (discovery_message stamp entries) } in
    let read = are d (Contains-get_or (written (Announces from to stamp entries)) 0 (Sent from to (spelling (discovery_message stamp entries))) (omega arith)) in
    ap (flat_map subscribe_said) (append-nil (said_in d)) ∙ read.subscribes
given_subscribes (Tells output) are = without_subscribes (Tells output) are refl

-- what the outputs of all that was given say
all_subscribes : (givens : List Given) → AllByRecursion AreReadBack givens → flat_map subscribe_said (said_by_outputs (flat_map written givens)) ≡ flat_map subscribes_in givens
all_subscribes [] are = refl
all_subscribes (g ∷ givens) are =
    ap (flat_map subscribe_said) (flat_map-append said_by_output (written g) (flat_map written givens))
    ∙ flat_map-append subscribe_said (said_by_outputs (written g)) (said_by_outputs (flat_map written givens))
    ∙ ap (λ ss. ss ++ flat_map subscribe_said (said_by_outputs (flat_map written givens))) (given_subscribes g are.0)
    ∙ ap (λ ss. subscribes_in g ++ ss) (all_subscribes givens are.1)

-- ---- what is named

segment_in : (n : ℕ) (header : Header) (offset : ℕ) (rest : List ℕ) → 0 < n → 0 < length rest → (s : SegmentValue) × Contains (segments_within n header offset rest) s
unfolding segments_within
segment_in zero header offset rest more some = absurd (omega (arith, more))
segment_in (suc n) header offset [] more some = absurd (omega (arith, some))
segment_in (suc n) header offset (b ∷ rest) more some =
    (segment_at header offset (b ∷ rest), Contains-get_or (segments_within (suc n) header offset (b ∷ rest)) 0 (segment_at header offset (b ∷ rest)) (omega arith))

-- a message goes out in one piece at least
piece_of : (m : MessageValue) → (piece : PieceValue) × Contains (sent m) piece
piece_of m = cases (is_long m.payload) refl
  where
    cases : (b : Bool) → is_long m.payload ≡ b → (piece : PieceValue) × Contains (if b then map InSegment (segments_of m) else Alone m ∷ []) piece
    cases true is =
        let long = ltb-true 1400 (length m.payload) is in
        let some : 0 < length m.payload = omega (arith, long) in
        let s = segment_in (length m.payload) (segment_header m.header) 0 m.payload some some in
        (InSegment s.0, map_has InSegment (segments_of m) s.0 s.1)
    cases false is = (Alone m, Contains-get_or (Alone m ∷ []) 0 (Alone m) (omega arith))

abbrev named_by_output : Output → List Naming
named_by_output o = map (λ s. s.naming) (said_by_output o)

-- what its outputs name, it names
outputs_name : (given : Given) → AreReadBack given → (n : Naming) → Contains (flat_map named_by_output (written given)) n → Contains (named_in given) n
outputs_name given are n among =
    at_member (Contains (named_in given)) (flat_map named_by_output (written given)) n
    (all_flat_map (Contains (named_in given)) named_by_output (written given)
    (all_from_members (λ o. AllByRecursion (Contains (named_in given)) (named_by_output o)) (written given)
    (output_case given are (λ said. AllByRecursion (Contains (named_in given)) (map (λ s. s.naming) said)) tt
    (λ d among. subst (AllByRecursion (Contains (named_in given))) (sym ((are d among).named)) (all_members (named_in given)))))) among

-- and what it names, each datagram of it does
datagram_names : (given : Given) → AreReadBack given → (d : SentDatagram) → Contains (written given) (Sent d.from d.to d.bytes) → (n : Naming) → Contains (named_in given) n
    → Contains (flat_map named_by_output (written given)) n
datagram_names given are d among n named =
    flat_map_has named_by_output (written given) (Sent d.from d.to d.bytes) n among (subst (λ ns. Contains ns n) (sym ((are d among).named)) named)

outputs_named : (given : Given) → AreReadBack given → (n : Naming) → Contains (named_in given) n → Contains (flat_map named_by_output (written given)) n
outputs_named (Sends from to m) are n named =
    let piece = piece_of m in
    datagram_names (Sends from to m) are (record { from = from; to = to; bytes = spelling (piece_message piece.0) }) (map_has (datagram_of from to) (sent m) piece.0 piece.1) n named
outputs_named (Announces from to stamp entries) are n named =
    datagram_names (Announces from to stamp entries) are (record { from = from; to = to; bytes = spelling (discovery_message stamp entries) })
    (Contains-get_or (written (Announces from to stamp entries)) 0 (Sent from to (spelling (discovery_message stamp entries))) (omega arith)) n named
outputs_named (Tells output) are n named = absurd (at_member (λ x. ⊥) [] n tt named)

-- ---- a step

module _ (h : History) (input : Input) (done : Work History) (did : step h input ≡ Ok done) (well : is_good h.config ≡ true)
    (fits : AllByRecursion FitsWire (given_by (trail_of h input))) where
  -- each datagram of what was given is read back
  pub step_read : AllByRecursion AreReadBack (given_by (trail_of h input))
  step_read = all_both (GivenBy h input) FitsWire AreReadBack (read_back h input well) (given_by (trail_of h input)) (all_given h input) fits

  -- the outputs say the Subscribes that were given, in order
  pub step_subscribes : flat_map subscribe_said (said_by_outputs done.outputs) ≡ flat_map subscribes_in (given_by (trail_of h input))
  step_subscribes =
      ap (λ outputs. flat_map subscribe_said (said_by_outputs outputs)) (outputs_written h input done did) ∙ all_subscribes (given_by (trail_of h input)) step_read

  -- what the outputs name, given by given
  names_apart : map (λ s. s.naming) (said_by_outputs done.outputs) ≡ flat_map (λ g. flat_map named_by_output (written g)) (given_by (trail_of h input))
  names_apart =
      ap (λ outputs. map (λ s. s.naming) (said_by_outputs outputs)) (outputs_written h input done did)
      ∙ map_through (λ s. s.naming) said_by_output (flat_map written (given_by (trail_of h input)))
      ∙ through named_by_output written (given_by (trail_of h input))

  -- what they name was named in what was given
  pub step_names : (n : Naming) → Contains (map (λ s. s.naming) (said_by_outputs done.outputs)) n → Contains (flat_map named_in (given_by (trail_of h input))) n
  step_names n among =
      flat_map_weaker (λ g. flat_map named_by_output (written g)) named_in (given_by (trail_of h input)) n
      (all_weaker AreReadBack (λ g. Contains (flat_map named_by_output (written g)) n → Contains (named_in g) n) (λ g are. outputs_name g are n) (given_by (trail_of h input)) step_read)
      (subst (λ ns. Contains ns n) names_apart among)

  -- and what was named in that, they name
  pub step_named : (n : Naming) → Contains (flat_map named_in (given_by (trail_of h input))) n → Contains (map (λ s. s.naming) (said_by_outputs done.outputs)) n
  step_named n named =
      subst (λ ns. Contains ns n) (sym names_apart)
      (flat_map_weaker named_in (λ g. flat_map named_by_output (written g)) (given_by (trail_of h input)) n
      (all_weaker AreReadBack (λ g. Contains (named_in g) n → Contains (flat_map named_by_output (written g)) n) (λ g are. outputs_named g are n) (given_by (trail_of h input)) step_read) named)
