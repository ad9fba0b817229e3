-- The items that are written of a tagged structure: each is one of a member.
use Rattle.std.proofs.Common.{◌≡◌, ℕ, ◌<◌, ◌^◌, Bool, true, false, eqb, ◌||◌, List, [], ◌∷◌, Some, None, refl, sym, ◌∙◌, subst}
use Rattle.std.proofs.lemmas.Bool.{eq-eqb, ne_eqb}
use Rattle.someip_payload_values.specs.declared.number.Size.{Size}
use Rattle.someip_payload_values.specs.declared.number.Size.TheVariants.{S8, S16, S32, S64}
use Rattle.someip_payload_values.specs.declared.tag.WireType.{WireType}
use Rattle.someip_payload_values.specs.declared.tag.WireType.TheVariants.{Basic, OwnLength, Length}
use Rattle.someip_payload_values.specs.Data.{Form, bool, unsigned, signed, float, string, padded, array, fixed, «struct», union, tagged, named, enumerated, Members, no_members, member_then, Slots, no_slots, present, absent}
use Rattle.someip_payload_values.specs.Floats.{bits_size}
use Rattle.someip_payload_values.specs.Check.{can_be_tagged}
use Rattle.someip_payload_values.specs.Tags.{TaggedItem, with_id, own_width, same_size, has_wire_type, width_in, wire_type_of}
use Rattle.someip_payload_codec.specs.Grammar.{is_member, SkipsOthers, ReadsItems}

size_itself : (size : Size) → same_size size size ≡ true
size_itself S8 = refl
size_itself S16 = refl
size_itself S32 = refl
size_itself S64 = refl

-- an item is written with a wire type that its form may have
pub own_type : (f : Form) → can_be_tagged f ≡ true → has_wire_type f (wire_type_of f) ≡ true
own_type bool can = refl
own_type (named n f) can = own_type f can
own_type (enumerated f labels) can = own_type f can
own_type (padded encoding n) can = absurd cc
own_type (unsigned order size) can = size_itself size
own_type (signed order size) can = size_itself size
own_type (float order p) can = size_itself (bits_size p)
own_type (string encoding width) can = refl
own_type (array width most element) can = refl
own_type (fixed None n element) can = absurd cc
own_type (fixed (Some width) n element) can = refl
own_type («struct» None fs) can = absurd cc
own_type («struct» (Some width) fs) can = refl
own_type (union width type vs) can = refl
own_type (tagged width ms) can = refl

-- a form with the same length field
inner_width : (t : WireType) (f g : Form) → own_width f ≡ own_width g → width_in t f ≡ width_in t g
inner_width (Basic size) f g same = same
inner_width OwnLength f g same = same
inner_width (Length width) f g same = refl

-- which says that its length field has the form's own width
pub own_width_in : (f : Form) → width_in (wire_type_of f) f ≡ own_width f
own_width_in bool = refl
own_width_in (named n f) = inner_width (wire_type_of f) (named n f) f refl ∙ own_width_in f
own_width_in (enumerated f labels) = inner_width (wire_type_of f) (enumerated f labels) f refl ∙ own_width_in f
own_width_in (padded encoding n) = refl
own_width_in (unsigned order size) = refl
own_width_in (signed order size) = refl
own_width_in (float order p) = refl
own_width_in (string encoding width) = refl
own_width_in (array width most element) = refl
own_width_in (fixed None n element) = refl
own_width_in (fixed (Some width) n element) = refl
own_width_in («struct» None fs) = refl
own_width_in («struct» (Some width) fs) = refl
own_width_in (union width type vs) = refl
own_width_in (tagged width ms) = refl

-- each item is one of a member
abbrev pub AreOfMembers : Members → List TaggedItem → Type 0
AreOfMembers ms [] = Unit {0}
AreOfMembers ms (i ∷ items) = (i.id < 2 ^ 12) × (is_member i.id ms ≡ true) × AreOfMembers ms items

or_either : (a b : Bool) → b ≡ true → (a || b) ≡ true
or_either true b e = refl
or_either false b e = e

-- the same with a member more
pub of_more : (n : ℕ) (optional : Bool) (f : Form) (ms : Members) (items : List TaggedItem) → AreOfMembers ms items → AreOfMembers (member_then n optional f ms) items
of_more n optional f ms [] of = tt
of_more n optional f ms (i ∷ items) (below, is, of) = (below, or_either (eqb n i.id) (is_member i.id ms) is, of_more n optional f ms items of)

pub none_skipped : (ms : Members) (items : List TaggedItem) → AreOfMembers ms items → SkipsOthers ms items
none_skipped ms [] of = tt
none_skipped ms (i ∷ items) (below, is, of) = (below, λ never. absurd cc, none_skipped ms items of)

-- the one item that has its Data ID
pub one_with : (i : TaggedItem) (items : List TaggedItem) → with_id i.id items ≡ [] → with_id i.id (i ∷ items) ≡ i ∷ []
one_with i items none = rw (eq-eqb i.id i.id refl, none) refl

pub member_itself : (id : ℕ) (b : Bool) → (eqb id id || b) ≡ true
member_itself id b = rw (eq-eqb id id refl) refl

-- no item has a Data ID that no member has
pub none_with : (id : ℕ) (ms : Members) (items : List TaggedItem) → is_member id ms ≡ false → AreOfMembers ms items → with_id id items ≡ []
none_with id ms [] never of = refl
none_with id ms (i ∷ items) never (below, is, of) =
    let other : eqb i.id id ≡ false = ne_eqb i.id id (λ same. let h : is_member id ms ≡ true = subst (λ (x : ℕ). is_member x ms ≡ true) same is in cc) in
    rw other (none_with id ms items never of)

no_member : (a b : Bool) → (a || b) ≡ false → (a ≡ false) × (b ≡ false)
no_member true b e = absurd cc
no_member false b e = (refl, e)

-- an item of another Data ID changes nothing for the members
pub reads_past : (ms : Members) (ss : Slots) (i : TaggedItem) (items : List TaggedItem) → is_member i.id ms ≡ false → ReadsItems ms ss items → ReadsItems ms ss (i ∷ items)
unfolding ReadsItems
reads_past no_members no_slots i items never reads = tt
reads_past (member_then id optional f ms) (present d ss) i items never (j, one, has, reads, others) =
    let p = no_member (eqb id i.id) (is_member i.id ms) never in
    let other : eqb i.id id ≡ false = ne_eqb i.id id (λ same. let h : eqb id i.id ≡ true = eq-eqb id i.id (sym same) in cc) in
    (j, rw other one, has, reads, reads_past ms ss i items p.1 others)
reads_past (member_then id optional f ms) (absent ss) i items never (none, others) =
    let p = no_member (eqb id i.id) (is_member i.id ms) never in
    let other : eqb i.id id ≡ false = ne_eqb i.id id (λ same. let h : eqb id i.id ≡ true = eq-eqb id i.id (sym same) in cc) in
    (rw other none, reads_past ms ss i items p.1 others)
reads_past _ ss i items never reads = absurd reads
