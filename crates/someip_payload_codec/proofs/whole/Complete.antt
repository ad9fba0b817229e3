-- What is spelled so is read.
use Rattle.std.proofs.Common.{◌≡◌, ℕ, zero, suc, ◌<◌, ◌≤◌, Bool, true, false, cond, ltb, eqb, List, [], ◌++◌, length, drop, Result, Ok, Err, Some, None, refl, sym, ap, append-nil, subst, ◌∙◌, arith}
use Rattle.std.specs.Int.{byte_len, cast_unsigned}
use Rattle.std.specs.Int.RustNames.{FitsSigned}
use Rattle.std.specs.Prelude.{ℤ, pos, negsuc}
use Rattle.std.proofs.lemmas.Int.{to_z-of_z}
use Rattle.std.proofs.lemmas.Bool.{lt-ltb, ne_eqb}
use Rattle.std.proofs.lemmas.List.{drop_at, length-append}
use Rattle.someip_payload_values.specs.declared.error.PayloadError.{PayloadError}
use Rattle.someip_payload_values.specs.declared.error.PayloadError.TheVariants.{LengthMismatch}
use Rattle.someip_payload_values.specs.declared.number.Size.{Size}
use Rattle.someip_payload_values.specs.declared.number.Size.TheVariants.{S8, S16, S32, S64}
use Rattle.someip_payload_values.specs.declared.number.Order.{Order}
use Rattle.someip_payload_values.specs.declared.shape.Width.{Width}
use Rattle.someip_payload_values.specs.declared.shape.Width.TheVariants.{W8, W16, W32}
use Rattle.someip_payload_values.specs.Floats.{Precision, bits_size}
use Rattle.someip_payload_values.specs.Data.{Form, bool, unsigned, signed, float, string, padded, array, fixed, «struct», union, tagged, named, enumerated, Forms, no_forms, form_then, Variants, no_variants, variant, Members, no_members, member_then, Data, truth, uint, int, real, phrase, list, tuple, nothing, chosen, slotted, Items, no_items, item, Slots, count}
use Rattle.someip_payload_codec.specs.View.{View}
use Rattle.someip_payload_values.specs.Numbers.{width_of, limit_of, size_of, number, number_in, Begins}
use Rattle.someip_payload_values.specs.Tags.{items_bytes, own_width}
use Rattle.someip_payload_codec.specs.Grammar.{Picks, Each, has_required, ReadsBy, ReadsMembers, ReadsVariant}
use Rattle.someip_payload_codec.specs.Reading.{skip, items_at, fixed_at, union_at, chosen_at, required_at, item_at, data_by, members_at, variant_at}
use Rattle.someip_payload_codec.proofs.parts.Forms.{IsForm, AreForms, AreVariants, AreMembers}
use Rattle.someip_payload_codec.specs.Faults.{body_view}
use Rattle.someip_payload_codec.proofs.parts.Parts.{Took, took_split, front_again, wide, wide_in, ordered_again, number_again, window_again, body_again}
use Rattle.someip_payload_codec.proofs.texts.TextLemmas.{text_again}
use Rattle.someip_payload_codec.proofs.texts.PaddedTexts.{padded_again}
use Rattle.someip_payload_codec.proofs.tagged.TaggedAgain.{none_taken, EachAgain, tagged_again, tagged_end}

-- a reader that takes each text of P, none of which is empty
pub record IsComplete (one : View → Result (Data × View) PayloadError) (P : Data → List ℕ → Type 0) : Type 0 where
  pub gives : (w v : View) (d : Data) (text : List ℕ) → P d text → Took w text v → one w ≡ Ok (d, v)
  pub some : (d : Data) (text : List ℕ) → P d text → 0 < length text

-- the front of all bytes
pub front_of_all : (w : View) (a b : List ℕ) → w.bytes ≡ a ++ b → Took w a (skip (length a) w) × (drop (length a) w.bytes ≡ b)
front_of_all w a b e =
    let rest : drop (length a) w.bytes ≡ b = rw (e, drop_at a b (length a) refl) refl in
    (record { is_body = refl; place = refl; bytes = e ∙ ap (λ (t : List ℕ). a ++ t) (sym rest) }, rest)

pub items_again : (one : View → Result (Data × View) PayloadError) (P : Data → List ℕ → Type 0) → IsComplete one P → (max : ℕ) (w : View) (ds : Items)
    → Each P ds w.bytes → count ds ≤ max → items_at one max w ≡ Ok ds
unfolding items_at
items_again one P complete zero w no_items each few = rw each refl
items_again one P complete (suc max) w no_items each few = rw each refl
items_again one P complete zero w (item d ds) each few = absurd (omega arith)
items_again one P complete (suc max) w (item d ds) (first, others, e, here, later) few =
    let t = front_of_all w first others e in
    let v = skip (length first) w in
    let some : ltb 0 (length w.bytes) ≡ true = lt-ltb 0 (length w.bytes) (omega (arith, complete.some d first here, ap length e ∙ length-append first others)) in
    let rest : items_at one max v ≡ Ok ds = items_again one P complete max v ds (subst (Each P ds) (sym t.1) later) (omega arith) in
    rw (some, complete.gives w v d first here t.0, rest) refl

pub fixed_again : (one : View → Result (Data × View) PayloadError) (P : Data → List ℕ → Type 0) → IsComplete one P → (n : ℕ) (w v : View) (ds : Items) (text : List ℕ)
    → count ds ≡ n → Each P ds text → Took w text v → fixed_at one n w ≡ Ok (ds, v)
unfolding fixed_at
fixed_again one P complete zero w v no_items text full each p = let same : v ≡ w = none_taken w v text each p in rw same refl
fixed_again one P complete (suc n) w v no_items text full each p = absurd (omega arith)
fixed_again one P complete zero w v (item d ds) text full each p = absurd (omega arith)
fixed_again one P complete (suc n) w v (item d ds) text full (first, others, e, here, later) p =
    let s = took_split {w = w} {v = v} first others (rw e at p) in
    rw (complete.gives w (skip (length first) w) d first here s.0, fixed_again one P complete n (skip (length first) w) v ds others (omega arith) later s.1) refl

-- ---- each value takes a byte

one_at_least : (size : Size) → 0 < byte_len (width_of size)
one_at_least S8 = omega arith
one_at_least S16 = omega arith
one_at_least S32 = omega arith
one_at_least S64 = omega arith

number_some : (size : Size) (n : ℕ) → 0 < length (number size n)
number_some size n = omega (arith, (wide size).len n, one_at_least size)

ordered_some : (order : Order) (size : Size) (n : ℕ) → 0 < length (number_in order size n)
ordered_some order size n = omega (arith, (wide_in order size).len n, one_at_least size)

before_some : (a b : List ℕ) → 0 < length a → 0 < length (a ++ b)
before_some a b some = omega (arith, length-append a b)

each_some : (P : Data → List ℕ → Type 0) → ((d : Data) (text : List ℕ) → P d text → 0 < length text) → (n : ℕ) (ds : Items) (text : List ℕ) → 0 < n → count ds ≡ n → Each P ds text → 0 < length text
each_some P one n no_items text some full each = absurd (omega arith)
each_some P one n (item d ds) text some full (first, others, e, here, later) = rw e (before_some first others (one d first here))

framed_some : (width : Width) (n : ℕ) (body : List ℕ) → 0 < length (number (size_of width) n ++ body)
framed_some width n body = before_some (number (size_of width) n) body (number_some (size_of width) n)

-- what a form reads is not empty
pub reads_some : (width : Width) (f : Form) (d : Data) (text : List ℕ) → IsForm f → ReadsBy width f d text → 0 < length text
unfolding ReadsBy ReadsMembers
reads_some width (named n f) d text is h = reads_some width f d text is h
reads_some width (enumerated f labels) d text is h = reads_some width f d text is h
reads_some width bool (truth b) text is (n, below, e, same) = rw e (number_some S8 n)
reads_some width (unsigned order size) (uint n) text is h = rw h.1 (ordered_some order size n)
reads_some width (signed order size) (int z) text is h = rw h.1 (ordered_some order size (cast_unsigned (width_of size) z))
reads_some width (float order p) (real own bits) text is h = rw h.2 (ordered_some order (bits_size p) bits)
reads_some width (padded encoding n) (phrase s) text is h = omega (arith, h.0, is)
reads_some width (string encoding own) (phrase s) text is (body, short, e, spells) = rw e (framed_some width (length body) body)
reads_some width (array own max element) (list ds) text is (few, (body, short, e, each)) = rw e (framed_some width (length body) body)
reads_some width (fixed (Some own) n element) (list ds) text is (full, (body, short, e, each)) = rw e (framed_some width (length body) body)
reads_some width (fixed None n element) (list ds) text is h =
    each_some (ReadsBy (own_width element) element) (λ d bytes. reads_some (own_width element) element d bytes is.1) n ds text is.0 h.0 h.1
reads_some width («struct» (Some own) fs) (tuple ds) text is (body, short, e, begins) = rw e (framed_some width (length body) body)
reads_some width («struct» None (form_then f fs)) (tuple (item d ds)) text is (first, others, e, here, later) = rw e (before_some first others (reads_some (own_width f) f d first is.1.0 here))
reads_some width («struct» None no_forms) d text is h = absurd is.0
reads_some width (union own type vs) nothing text is h = rw h (framed_some width 0 (number (size_of type) 0 ++ []))
reads_some width (union own type vs) (chosen kind d) text is (some, below, (body, short, e, begins)) = rw e (framed_some width (length body) (number (size_of type) kind ++ body))
reads_some width (tagged own ms) (slotted ss) text is ((body, short, e, items), required) = rw e (framed_some width (length body) body)
reads_some width _ d text is h = absurd h

-- ---- signed numbers

-- the bits of a number
pub signed_below : (size : Size) (z : ℤ) → FitsSigned (width_of size) z → cast_unsigned (width_of size) z < limit_of size
signed_below S8 (pos n) fits = omega (arith, fits.sfits)
signed_below S8 (negsuc n) fits = omega arith
signed_below S16 (pos n) fits = omega (arith, fits.sfits)
signed_below S16 (negsuc n) fits = omega arith
signed_below S32 (pos n) fits = omega (arith, fits.sfits)
signed_below S32 (negsuc n) fits = omega arith
signed_below S64 (pos n) fits = omega (arith, fits.sfits)
signed_below S64 (negsuc n) fits = omega arith

-- ---- unions

picks_again : (t : Bool) (P Q : List ℕ → Type 0) (r s y : Result (Data × View) PayloadError) (body : List ℕ)
    → (Begins P body → r ≡ y) → (Begins Q body → s ≡ y) → Begins (λ bytes. Picks t (P bytes) (Q bytes)) body → cond t r s ≡ y
picks_again true P Q r s y body first next h = first h
picks_again false P Q r s y body first next h = next h

chosen_again : (one : View → Result (Data × View) PayloadError) (P : Data → List ℕ → Type 0) → IsComplete one P → (kind : ℕ) (w u v : View) (d : Data) (body : List ℕ)
    → Took u body v → Begins (P d) body → chosen_at one kind (length body) w u ≡ Ok (chosen kind d, v)
unfolding chosen_at
chosen_again one P complete kind w u v d body p (front, more, e, holds) =
    let b : View = record { is_body = true; place = u.place; bytes = body } in
    let t = front_of_all b front more e in
    rw (window_again w u v body p, complete.gives b (skip (length front) b) d front holds t.0) refl

-- the length and the type number of a union, and what stands after them
union_head : (width type : Width) (known : ℕ → ℕ → ℕ → View → Result (Data × View) PayloadError) (w v : View) (len kind : ℕ) (rest : List ℕ) → len < limit_of (size_of width) → kind < limit_of (size_of type)
    → Took w (number (size_of width) len ++ (number (size_of type) kind ++ rest)) v
    → (place : ℕ) × (u : View) × Took u rest v × (union_at width type known w ≡ cond (eqb kind 0) (cond (eqb len 0) (Ok (nothing, u)) (Err (LengthMismatch w.place))) (known kind len place u))
unfolding union_at
union_head width type known w v len kind rest lb kb p =
    let a = took_split {w = w} {v = v} (number (size_of width) len) (number (size_of type) kind ++ rest) p in
    let m = skip (length (number (size_of width) len)) w in
    let b = took_split {w = m} {v = v} (number (size_of type) kind) rest a.1 in
    let u = skip (length (number (size_of type) kind)) m in
    (m.place, u, b.1, rw (number_again (size_of width) w m len a.0 lb, number_again (size_of type) m u kind b.0 kb) refl)

required_again : (ms : Members) (place : ℕ) (ss : Slots) → has_required ms ss ≡ true → required_at ms place ss ≡ Ok ss
unfolding required_at
required_again ms place ss h = rw h refl

some_below : (width : Width) → 0 < limit_of (size_of width)
some_below W8 = omega arith
some_below W16 = omega arith
some_below W32 = omega arith

mutual
  unfolding data_by members_at variant_at ReadsBy ReadsMembers ReadsVariant

  pub data_again : (width : Width) (f : Form) (w v : View) (d : Data) (text : List ℕ) → IsForm f → ReadsBy width f d text → Took w text v → data_by width f w ≡ Ok (d, v)
  data_again width (named n f) w v d text is h p = data_again width f w v d text is h p
  data_again width (enumerated f labels) w v d text is h p = data_again width f w v d text is h p
  data_again width bool w v (truth b) text is (n, below, e, same) p = rw (number_again S8 w v n (rw e at p) below, same) refl
  data_again width (unsigned order size) w v (uint n) text is h p = rw (ordered_again order size w v n (rw h.1 at p) h.0) refl
  data_again width (float order p) w v (real own bits) text is h took =
      rw (ordered_again order (bits_size p) w v bits (rw h.2 at took) h.1) (ap (λ (q : Precision). Ok (real q bits, v)) h.0)
  data_again width (padded encoding n) w v (phrase s) text is h p = rw (front_again n w v text p h.0, padded_again encoding w.place text s h.1) refl
  data_again width (signed order size) w v (int z) text is h p =
      rw (ordered_again order size w v (cast_unsigned (width_of size) z) (rw h.1 at p) (signed_below size z h.0), to_z-of_z (width_of size) z h.0) refl
  data_again width (string encoding own) w v (phrase s) text is (body, fits, e, spells) p =
      rw (body_again width w v body (rw e at p) fits, text_again encoding w.place body s spells) refl
  data_again width (array own max element) w v (list ds) text is (few, (body, fits, e, each)) p =
      let one = data_by (own_width element) element in
      let complete : IsComplete one (ReadsBy (own_width element) element) =
      record { gives = λ w v d text. data_again (own_width element) element w v d text is; some = λ d text. reads_some (own_width element) element d text is } in
      rw (body_again width w v body (rw e at p) fits, items_again one (ReadsBy (own_width element) element) complete max (body_view width w body) ds each few) refl
  data_again width (fixed (Some own) n element) w v (list ds) text is (full, (body, fits, e, (front, more, parts, each))) p =
      let one = data_by (own_width element) element in
      let complete : IsComplete one (ReadsBy (own_width element) element) =
      record { gives = λ w v d text. data_again (own_width element) element w v d text is.1; some = λ d text. reads_some (own_width element) element d text is.1 } in
      let b = body_view width w body in
      let t = front_of_all b front more parts in
      rw (body_again width w v body (rw e at p) fits, fixed_again one (ReadsBy (own_width element) element) complete n b (skip (length front) b) ds front full each t.0) refl
  data_again width (fixed None n element) w v (list ds) text is h p =
      let one = data_by (own_width element) element in
      let complete : IsComplete one (ReadsBy (own_width element) element) =
      record { gives = λ w v d text. data_again (own_width element) element w v d text is.1; some = λ d text. reads_some (own_width element) element d text is.1 } in
      rw (fixed_again one (ReadsBy (own_width element) element) complete n w v ds text h.0 h.1 p) refl
  data_again width («struct» None fs) w v (tuple ds) text is h p = rw (members_again fs w v ds text is.1 h p) refl
  data_again width («struct» (Some own) fs) w v (tuple ds) text is (body, fits, e, (front, more, parts, h)) p =
      let b = body_view width w body in
      let t = front_of_all b front more parts in
      rw (body_again width w v body (rw e at p) fits, members_again fs b (skip (length front) b) ds front is.1 h t.0) refl
  data_again width (union own type vs) w v nothing text is h p =
      let (place, u, t, e) = union_head width type (λ kind len place u. variant_at vs kind len place w u) w v 0 0 [] (some_below width) (some_below type) (rw h at p) in
      let same : v ≡ u = none_taken u v [] refl t in
      e ∙ ap (λ (x : View). let y : Result (Data × View) PayloadError = Ok (nothing, x) in y) (sym same)
  data_again width (union own type vs) w v (chosen kind d) text is (some, below, (body, short, same, begins)) p =
      let (place, u, t, e) = union_head width type (λ kind len place u. variant_at vs kind len place w u) w v (length body) kind body short below (rw same at p) in
      let known : eqb kind 0 ≡ false = ne_eqb kind 0 (λ zero. omega arith) in
      rw (e, known) (variant_again vs kind place w u v d body is begins t)
  data_again width (tagged own ms) w v (slotted ss) text is ((body, fits, e, (items, all, reads, skips)), required) p =
      let b = body_view width w body in
      let t = front_of_all b (items_bytes items) [] (all ∙ sym (append-nil (items_bytes items))) in
      let u = skip (length (items_bytes items)) b in
      let (left, room, same) = tagged_again ms is (each_again ms is) items ss b u reads skips t.0 in
      rw (body_again width w v body (rw e at p) fits, same, tagged_end (item_at ms) left ss u t.1, required_again ms w.place ss required) refl
  data_again width _ w v d text is h p = absurd h

  pub members_again : (fs : Forms) (w v : View) (ds : Items) (text : List ℕ) → AreForms fs → ReadsMembers fs ds text → Took w text v → members_at fs w ≡ Ok (ds, v)
  members_again no_forms w v no_items text is h p = let same : v ≡ w = none_taken w v text h p in rw same refl
  members_again (form_then f fs) w v (item d ds) text is (first, others, e, here, later) p =
      let s = took_split {w = w} {v = v} first others (rw e at p) in
      rw (data_again (own_width f) f w (skip (length first) w) d first is.0 here s.0, members_again fs (skip (length first) w) v ds others is.1 later s.1) refl
  members_again _ w v ds text is h p = absurd h

  pub variant_again : (vs : Variants) (kind place : ℕ) (w u v : View) (d : Data) (body : List ℕ) → AreVariants vs → Begins (ReadsVariant vs kind d) body → Took u body v
      → variant_at vs kind (length body) place w u ≡ Ok (chosen kind d, v)
  variant_again no_variants kind place w u v d body is (front, more, e, never) p = absurd never
  variant_again (variant n f vs) kind place w u v d body is begins p =
      let one = data_by (own_width f) f in
      let complete : IsComplete one (ReadsBy (own_width f) f) =
      record { gives = λ w v d text. data_again (own_width f) f w v d text is.1; some = λ d text. reads_some (own_width f) f d text is.1 } in
      picks_again (eqb n kind) (ReadsBy (own_width f) f d) (ReadsVariant vs kind d) (chosen_at one kind (length body) w u) (variant_at vs kind (length body) place w u) (Ok (chosen kind d, v)) body
      (λ here. chosen_again one (ReadsBy (own_width f) f) complete kind w u v d body p here)
      (λ later. variant_again vs kind place w u v d body is.2 later p) begins

  pub each_again : (ms : Members) → AreMembers ms → EachAgain ms
  each_again no_members is = tt
  each_again (member_then id optional f ms) is = (λ width w v d text. data_again width f w v d text is.3, each_again ms is.4)
