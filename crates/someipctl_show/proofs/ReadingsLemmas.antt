-- What is left of what a datagram holds for Service Discovery, which is used item by item.
use Rattle.std.proofs.Common.{◌≡◌, true, false, List, [], ◌∷◌, ◌++◌, map, Option, None, Some, Result, refl, sym, ap, ◌∙◌, ℕ, append_assoc, length}
use Rattle.std.specs.Option.{is_some, option_to_list}
use Rattle.sd_wire.specs.declared.SdError.{SdError}
use Rattle.sd_wire.specs.declared.SdRead.{SdRead}
use Rattle.sd_wire.specs.contents.Values.{SdValue}
use Rattle.std.proofs.lemmas.List.{append_cancel_left, nil_from_length}
use Rattle.someip_wire.specs.declared.WireError.{WireError}
use Rattle.someip_wire.specs.Spelling.{MessageValue}
use Rattle.someip_wire.specs.Reading.{items_of}
use Rattle.someip_wire.proofs.DatagramLemmas.{items_from-nil}
use Rattle.someipctl_io.specs.Discovery.{discovery_in, view_reading}
use Rattle.someipctl_show.specs.Readings.{BeginWith, readings_in}

-- where an item holds something, something is left
pub some_left : (left : List (Result SdRead SdError)) (front : Option (Result SdValue SdError)) → left ≡ [] → is_some front ≡ true → BeginWith (map view_reading left) (option_to_list front) → None ≡ front
some_left left None is some begins = refl
some_left left (Some x) is some begins =
    let whole : [] ≡ x ∷ begins.0 = sym (ap (map view_reading) is) ∙ begins.1 in absurd (cc)

pub none_found : (front : Option (Result SdValue SdError)) → is_some front ≡ false → None ≡ front
none_found None none = refl
none_found (Some x) none = cc

-- what the other items hold is left after what the first does
pub left_behind : (front : Option (Result SdValue SdError)) (found : Option (Result SdValue SdError)) (left after others : List (Result SdValue SdError)) → found ≡ front
    → left ≡ option_to_list front ++ others → left ≡ option_to_list found ++ after → after ≡ others
left_behind front found left after others same is was =
    append_cancel_left (option_to_list front) after others (sym (ap (λ f. option_to_list f ++ after) same) ∙ (sym was ∙ is))

-- the first item of those that are left, and the others with what comes after all of them
pub more : (left others : List (Result SdValue SdError)) (items rest : List (Result MessageValue WireError)) (item : Result MessageValue WireError) → left ≡ readings_in items ++ others → items ≡ item ∷ rest
    → left ≡ option_to_list (discovery_in item) ++ (readings_in rest ++ others)
more left others items rest item is steps =
    (is ∙ ap (λ i. readings_in i ++ others) steps) ∙ append_assoc (option_to_list (discovery_in item)) (readings_in rest) others

-- a datagram without bytes holds nothing
pub none_in_empty : (datagram : List ℕ) → length datagram ≡ 0 → readings_in (items_of datagram) ≡ []
none_in_empty datagram none = ap (λ d. readings_in (items_of d)) (nil_from_length datagram none) ∙ ap readings_in (items_from-nil 0)
