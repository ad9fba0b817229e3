-- What a loop over entries has left, and what datagrams between other ports than that of Service Discovery teach.
use Rattle.std.proofs.Common.{◌≡◌, ℕ, ◌+◌, ◌<◌, ◌&&◌, Bool, true, false, List, [], ◌∷◌, if◌then◌else◌, length, drop, get_or, refl, ap, sym, ◌∙◌}
use Rattle.std.proofs.lemmas.List.{drop_more}
use Rattle.std.specs.Prelude.{Result, Ok, Err}
use Rattle.sd_wire.specs.decoding.Program.{reading}
use Rattle.someip_tables.specs.declared.hashed.origin.Origin.{Origin}
use Rattle.someip_wire.specs.Discovery.{is_discovery}
use Rattle.someip_wire.specs.Spelling.{MessageValue}
use Rattle.someip_wire.specs.declared.error.WireError.{WireError}
use Rattle.audit_endpoints.specs.DiscoveryMessages.{is_at_discovery}
use Rattle.audit_endpoints.specs.Learning.{learnt_of_item, learnt_of_items, learnt_of_payload}
use Rattle.audit_endpoints.specs.WatchedEndpoints.{Watch}

-- what a loop has left

pub next_left : {X : Type 0} (xs : List X) (i : ℕ) (x : X) → i < length xs → x ≡ get_or xs i x → drop i xs ≡ x ∷ drop (i + 1) xs
next_left xs i x lt is = drop_more xs i x lt ∙ ap (λ y. y ∷ drop (i + 1) xs) (sym is)

-- ---- datagrams between other ports

item_of_others : (origin : Origin) (item : Result MessageValue WireError) (watched : Watch) → is_at_discovery origin ≡ false → learnt_of_item origin item watched ≡ watched
item_of_others origin (Ok message) watched other = ap (λ b. if b && is_discovery message.header then learnt_of_payload (reading message.payload) watched else watched) other
item_of_others origin (Err fault) watched other = refl

-- they name nothing
pub items_of_others : (origin : Origin) (items : List (Result MessageValue WireError)) (watched : Watch) → is_at_discovery origin ≡ false → learnt_of_items origin items watched ≡ watched
items_of_others origin [] watched other = refl
items_of_others origin (item ∷ items) watched other =
    items_of_others origin items (learnt_of_item origin item watched) other ∙ item_of_others origin item watched other
