-- The whole input, and what was written read again.
use Rattle.std.proofs.Common.{◌≡◌, ◌⊎◌, inl, inr, ℕ, ◌-◌, ◌^◌, ◌<◌, ◌≤◌, not, ◌&&◌, replicate, Bool, true, false, cond, ltb, eqb, List, [], ◌∷◌, ◌++◌, length, take, drop, Result, Ok, Err, Some, None, refl, sym, ap, subst, ◌∙◌, arith}
use Rattle.std.specs.Prelude.{ℤ, pos, negsuc, IfOk, IfErr}
use Rattle.std.specs.Int.{cast_unsigned}
use Rattle.std.specs.Int.RustNames.{FitsSigned}
use Rattle.std.specs.Str.{is_utf8}
use Rattle.std.proofs.lemmas.Bool.{and_parts, ltb-true, ltb-false, eqb-true}
use Rattle.std.proofs.lemmas.List.{take_at, take-append-drop, append-nil, length-append, length-take}
use Rattle.someip_payload_values.specs.declared.error.PayloadError.{PayloadError}
use Rattle.someip_payload_values.specs.declared.error.PayloadError.TheVariants as errors
use Rattle.someip_payload_values.specs.declared.error.PayloadError.TheVariants.{TooDeep, BadShape, NotOfShape, TooMany, TooLong, UnknownVariant}
use Rattle.someip_payload_values.specs.declared.number.Size.{Size}
use Rattle.someip_payload_values.specs.declared.number.Size.TheVariants.{S8, S16, S32, S64}
use Rattle.someip_payload_values.specs.declared.number.Order.{Order}
use Rattle.someip_payload_values.specs.declared.shape.Width.{Width}
use Rattle.someip_payload_values.specs.declared.value.Value.{Value}
use Rattle.someip_payload_values.specs.Floats.{Precision, single, double, bits_size}
use Rattle.someip_payload_values.specs.Data.{Form, bool, unsigned, signed, float, string, padded, array, fixed, «struct», union, tagged, named, enumerated, Forms, no_forms, form_then, Variants, no_variants, variant, Members, no_members, member_then, Data, truth, uint, int, real, phrase, list, tuple, nothing, chosen, slotted, Items, no_items, item, Slots, no_slots, present, absent, count}
use Rattle.someip_payload_codec.specs.View.{View}
use Rattle.someip_payload_values.specs.View.{data_of}
use Rattle.someip_payload_values.specs.Steps.{◌>>=◌, Fails, Gives}
use Rattle.someip_payload_values.specs.Check.{depth, is_form, checked}
use Rattle.someip_payload_values.specs.Numbers.{width_of, limit_of, size_of, is_signed, number, number_in, framed, typed, is_odd, Framed, Typed, Begins, bit_of}
use Rattle.someip_payload_codec.specs.Grammar.{is_member, Picks, Each, SkipsOthers, has_required, Reads, ReadsBy, ReadsMembers, ReadsVariant, ReadsItems}
use Rattle.someip_payload_codec.specs.Texts.{SpellsText}
use Rattle.someip_payload_codec.specs.Reading.{data_at, decoded}
use Rattle.someip_payload_values.specs.Tags.{TaggedItem, item_bytes, items_bytes, with_id, own_width, width_in, wire_type_of}
use Rattle.someip_payload_values.specs.Writing.{count_forms, number_text, signed_text, real_text, body_text, text_body, each_text, array_text, fixed_text, framed_text, padded_text, has_zero, typed_text, chosen_text, item_text, absent_text, count_members, count_slots, text_of, members_text, variant_text, slots_text, encoded}
use Rattle.someip_payload_codec.specs.Faults.{FaultIn, IsFirstFault, whole}
use Rattle.someip_payload_values.proofs.StepLemmas.{passed, kept, bind_err, only_first}
use Rattle.someip_payload_codec.proofs.parts.Parts.{IsBytes, bind_ok, ok_is, Took}
use Rattle.someip_payload_codec.proofs.parts.Forms.{IsForm, AreForms, AreVariants, AreMembers, form_is}
use Rattle.someip_payload_codec.proofs.tagged.TaggedWritten.{AreOfMembers, own_type, own_width_in, of_more, none_skipped, none_with, one_with, member_itself, reads_past}
use Rattle.someip_payload_codec.proofs.texts.TextLemmas.{text_spells}
use Rattle.someip_payload_codec.proofs.texts.PaddedTexts.{padded_written}
use Rattle.someip_payload_codec.proofs.whole.Sound.{data_took}
use Rattle.someip_payload_codec.proofs.whole.Complete.{data_again, reads_some}
use Rattle.someip_payload_codec.proofs.whole.First.{data_failed}

pub checked_is : (f : Form) → checked f ≡ Ok tt → IsForm f
unfolding checked
checked_is f e =
    let a = kept (ltb 16 (depth f)) (cond (is_form f) (Ok tt) (Err (BadShape 0))) (TooDeep 0) tt e in
    let b = passed (is_form f) (Ok tt) (BadShape 0) tt a.1 in
    form_is f b.0

pub decoded_found : (f : Form) (bytes : List ℕ) (d : Data) (n : ℕ) → IsBytes bytes → decoded f bytes ≡ Ok (d, n) → (checked f ≡ Ok tt) × (n ≤ length bytes) × Reads f d (take n bytes)
unfolding decoded
decoded_found f bytes d n fits e =
    let a = bind_ok (checked f) (λ _. data_at f (whole bytes) >>= λ x. Ok (x.0, x.1.place)) (d, n) e in
    let b = bind_ok (data_at f (whole bytes)) (λ x. Ok (x.0, x.1.place)) (d, n) a.2 in
    let t = data_took (own_width f) f (whole bytes) b.0.1 b.0.0 (checked_is f a.1) fits b.1 in
    let place : b.0.1.place ≡ length t.text = omega (arith, t.took.place) in
    let front : take b.0.1.place bytes ≡ t.text = ap (take b.0.1.place) t.took.bytes ∙ take_at t.text b.0.1.bytes b.0.1.place (sym place) in
    let holds = subst (λ (x : Data × ℕ). (x.1 ≤ length bytes) × Reads f x.0 (take x.1 bytes)) (ok_is (b.0.0, b.0.1.place) (d, n) b.2)
    (omega (arith, ap length t.took.bytes, length-append t.text b.0.1.bytes), rw front t.holds) in
    (a.1, holds.0, holds.1)

pub decoded_again : (f : Form) (text more : List ℕ) (d : Data) → checked f ≡ Ok tt → Reads f d text → decoded f (text ++ more) ≡ Ok (d, length text)
unfolding decoded
decoded_again f text more d good reads =
    let v : View = record { is_body = false; place = length text; bytes = more } in
    let took : Took (whole (text ++ more)) text v = record { is_body = refl; place = omega arith; bytes = refl } in
    rw (good, data_again (own_width f) f (whole (text ++ more)) v d text (checked_is f good) reads took) refl

pub decoded_only : (f : Form) (bytes : List ℕ) (d : Data) (n : ℕ) → checked f ≡ Ok tt → n ≤ length bytes → Reads f d (take n bytes) → decoded f bytes ≡ Ok (d, n)
decoded_only f bytes d n good le reads =
    let len : length (take n bytes) ≡ n = omega (arith, length-take n bytes) in
    ap (decoded f) (sym (take-append-drop n bytes)) ∙ decoded_again f (take n bytes) (drop n bytes) d good reads ∙ ap (λ (k : ℕ). let y : Result (Data × ℕ) PayloadError = Ok (d, k) in y) len

-- each value takes a byte
pub takes_some : (f : Form) (d : Data) (text : List ℕ) → checked f ≡ Ok tt → Reads f d text → 0 < length text
takes_some f d text good reads = reads_some (own_width f) f d text (checked_is f good) reads

-- ---- what is written is spelled so

number_reads : (order : Order) (size : Size) (n : ℕ) (text : List ℕ) → number_text order size n ≡ Ok text → (n < limit_of size) × (text ≡ number_in order size n)
unfolding number_text
number_reads order size n text e =
    let a = passed (ltb n (limit_of size)) (Ok (number_in order size n)) (NotOfShape 0) text e in
    (ltb-true _ _ a.0, sym (ok_is (number_in order size n) text a.1))

real_reads : (order : Order) (p own : Precision) (bits : ℕ) (text : List ℕ) → real_text order p own bits ≡ Ok text
    → (p ≡ own) × (bits < limit_of (bits_size p)) × (text ≡ number_in order (bits_size p) bits)
unfolding real_text
real_reads order single single bits text e = let a = number_reads order S32 bits text e in (refl, a.0, a.1)
real_reads order double double bits text e = let a = number_reads order S64 bits text e in (refl, a.0, a.1)
real_reads order single double bits text e = absurd cc
real_reads order double single bits text e = absurd cc

signed_is : (size : Size) (z : ℤ) → is_signed size z ≡ true → FitsSigned (width_of size) z
signed_is S8 (pos n) e = record { sfits = ltb-true _ _ e }
signed_is S8 (negsuc n) e = record { sfits = ltb-true _ _ e }
signed_is S16 (pos n) e = record { sfits = ltb-true _ _ e }
signed_is S16 (negsuc n) e = record { sfits = ltb-true _ _ e }
signed_is S32 (pos n) e = record { sfits = ltb-true _ _ e }
signed_is S32 (negsuc n) e = record { sfits = ltb-true _ _ e }
signed_is S64 (pos n) e = record { sfits = ltb-true _ _ e }
signed_is S64 (negsuc n) e = record { sfits = ltb-true _ _ e }

signed_reads : (order : Order) (size : Size) (z : ℤ) (text : List ℕ) → signed_text order size z ≡ Ok text → FitsSigned (width_of size) z × (text ≡ number_in order size (cast_unsigned (width_of size) z))
unfolding signed_text
signed_reads order size z text e =
    let a = passed (is_signed size z) (Ok (number_in order size (cast_unsigned (width_of size) z))) (NotOfShape 0) text e in
    (signed_is size z a.0, sym (ok_is (number_in order size (cast_unsigned (width_of size) z)) text a.1))

body_reads : (width : Width) (P : List ℕ → Type 0) (body text : List ℕ) → P body → body_text width body ≡ Ok text → Framed width P text
unfolding body_text
body_reads width P body text holds e =
    let a = passed (ltb (length body) (limit_of (size_of width))) (Ok (framed width body)) (TooLong 0) text e in
    (body, ltb-true _ _ a.0, sym (ok_is (framed width body) text a.1), holds)

each_reads : (one : Data → Result (List ℕ) PayloadError) (P : Data → List ℕ → Type 0) → ((d : Data) (text : List ℕ) → one d ≡ Ok text → P d text) → (ds : Items) (text : List ℕ) → each_text one ds ≡ Ok text → Each P ds text
unfolding each_text
each_reads one P reads no_items text e = sym (ok_is [] text e)
each_reads one P reads (item d ds) text e =
    let a = bind_ok (one d) (λ first. each_text one ds >>= λ others. Ok (first ++ others)) text e in
    let b = bind_ok (each_text one ds) (λ others. Ok (a.0 ++ others)) text a.2 in
    (a.0, b.0, sym (ok_is (a.0 ++ b.0) text b.2), reads d a.0 a.1, each_reads one P reads ds b.0 b.1)

picks_reads : (width type : Width) (t : Bool) (P Q : List ℕ → Type 0) (r s : Result (List ℕ) PayloadError) (kind : ℕ) (text : List ℕ)
    → (r ≡ Ok text → Typed width type kind (Begins P) text) → (s ≡ Ok text → Typed width type kind (Begins Q) text) → cond t r s ≡ Ok text → Typed width type kind (Begins (λ bytes. Picks t (P bytes) (Q bytes))) text
picks_reads width type true P Q r s kind text first next e = first e
picks_reads width type false P Q r s kind text first next e = next e

chosen_reads : (width type : Width) (kind : ℕ) (P : List ℕ → Type 0) (written : Result (List ℕ) PayloadError) (text : List ℕ) → ((body : List ℕ) → written ≡ Ok body → P body) → chosen_text width type kind written ≡ Ok text → Typed width type kind (Begins P) text
unfolding chosen_text typed_text
chosen_reads width type kind P written text reads e =
    let a = bind_ok written (typed_text width type kind) text e in
    let b = passed (ltb (length a.0) (limit_of (size_of width))) (Ok (typed width type kind a.0)) (TooLong 0) text a.2 in
    (a.0, ltb-true _ _ b.0, sym (ok_is (typed width type kind a.0) text b.1), (a.0, [], sym (append-nil a.0), reads a.0 a.1))

known_some : (t : Bool) (n kind : ℕ) (r s : Result (List ℕ) PayloadError) (text : List ℕ) → eqb n kind ≡ t → 0 < n → (s ≡ Ok text → 0 < kind) → cond t r s ≡ Ok text → 0 < kind
known_some true n kind r s text same some next e = omega (arith, eqb-true n kind same)
known_some false n kind r s text same some next e = next e

variant_some : (width type : Width) (vs : Variants) (kind : ℕ) (d : Data) (text : List ℕ) → AreVariants vs → variant_text width type vs kind d ≡ Ok text → 0 < kind
unfolding variant_text
variant_some width type no_variants kind d text is e = absurd cc
variant_some width type (variant n f vs) kind d text is e =
    known_some (eqb n kind) n kind (chosen_text width type kind (text_of f d)) (variant_text width type vs kind d) text refl is.0 (variant_some width type vs kind d text is.2) e

bit_reads : (b : Bool) (text : List ℕ) → text ≡ number S8 (bit_of b) → (n : ℕ) × (n < 2 ^ 8) × (text ≡ number S8 n) × (b ≡ is_odd n)
bit_reads true text e = (1, omega arith, e, refl)
bit_reads false text e = (0, omega arith, e, refl)

-- the items that were written, of which each is one of a member
abbrev WrittenItems : Members → Slots → List ℕ → Type 0
WrittenItems ms ss text = (items : List TaggedItem) × (text ≡ items_bytes items) × ReadsItems ms ss items × AreOfMembers ms items × (has_required ms ss ≡ true)

mutual
  unfolding text_of members_text variant_text slots_text array_text fixed_text framed_text item_text padded_text absent_text ReadsBy ReadsMembers ReadsVariant ReadsItems

  pub text_reads : (f : Form) (d : Data) (text : List ℕ) → IsForm f → text_of f d ≡ Ok text → Reads f d text
  text_reads (named n f) d text is e = text_reads f d text is e
  text_reads (enumerated f labels) d text is e = text_reads f d text is e
  text_reads bool (truth b) text is e = bit_reads b text (sym (ok_is (number S8 (bit_of b)) text e))
  text_reads (unsigned order size) (uint n) text is e = number_reads order size n text e
  text_reads (signed order size) (int z) text is e = signed_reads order size z text e
  text_reads (float order p) (real own bits) text is e = real_reads order p own bits text e
  text_reads (padded encoding n) (phrase s) text is e =
      let a = passed (is_utf8 s && not (has_zero s)) (padded_text n (text_body encoding s)) (NotOfShape 0) text e in
      let p = and_parts (is_utf8 s) (not (has_zero s)) a.0 in
      let b = kept (ltb n (length (text_body encoding s))) (Ok (text_body encoding s ++ replicate (n - length (text_body encoding s)) 0)) (TooLong 0) text a.1 in
      padded_written encoding n s text p.0 p.1 (ltb-false _ _ b.0) (sym (ok_is _ text b.1))
  text_reads (string encoding width) (phrase s) text is e =
      let a = passed (is_utf8 s) (body_text width (text_body encoding s)) (NotOfShape 0) text e in
      body_reads width (SpellsText encoding s) (text_body encoding s) text (text_spells encoding s a.0) a.1
  text_reads (array width max element) (list ds) text is e =
      let a = kept (ltb max (count ds)) (each_text (text_of element) ds >>= body_text width) (TooMany 0) text e in
      let b = bind_ok (each_text (text_of element) ds) (body_text width) text a.1 in
      (ltb-false _ _ a.0, body_reads width (Each (Reads element) ds) b.0 text (each_reads (text_of element) (Reads element) (λ d bytes good. text_reads element d bytes is good) ds b.0 b.1) b.2)
  text_reads (fixed (Some width) n element) (list ds) text is e =
      let a = passed (eqb (count ds) n) (each_text (text_of element) ds >>= body_text width) (NotOfShape 0) text e in
      let b = bind_ok (each_text (text_of element) ds) (body_text width) text a.1 in
      (eqb-true _ _ a.0, body_reads width (Begins (Each (Reads element) ds)) b.0 text (b.0, [], sym (append-nil b.0), each_reads (text_of element) (Reads element) (λ d bytes good. text_reads element d bytes is.1 good) ds b.0 b.1) b.2)
  text_reads (fixed None n element) (list ds) text is e =
      let a = passed (eqb (count ds) n) (each_text (text_of element) ds) (NotOfShape 0) text e in
      (eqb-true _ _ a.0, each_reads (text_of element) (Reads element) (λ d bytes good. text_reads element d bytes is.1 good) ds text a.1)
  text_reads («struct» None fs) (tuple ds) text is e =
      let a = passed (eqb (count ds) (count_forms fs)) (members_text fs ds) (NotOfShape 0) text e in
      members_read fs ds text is.1 (eqb-true _ _ a.0) a.1
  text_reads («struct» (Some width) fs) (tuple ds) text is e =
      let a = passed (eqb (count ds) (count_forms fs)) (members_text fs ds >>= body_text width) (NotOfShape 0) text e in
      let b = bind_ok (members_text fs ds) (body_text width) text a.1 in
      body_reads width (Begins (ReadsMembers fs ds)) b.0 text (b.0, [], sym (append-nil b.0), members_read fs ds b.0 is.1 (eqb-true _ _ a.0) b.1) b.2
  text_reads (union width type vs) nothing text is e = sym (ok_is (typed width type 0 []) text e)
  text_reads (union width type vs) (chosen kind d) text is e =
      let a = passed (ltb kind (limit_of (size_of type))) (variant_text width type vs kind d) (UnknownVariant 0) text e in
      (variant_some width type vs kind d text is a.1, ltb-true _ _ a.0, variant_reads width type vs kind d text is a.1)
  text_reads (tagged width ms) (slotted ss) text is e =
      let a = passed (eqb (count_slots ss) (count_members ms)) (slots_text ms ss >>= body_text width) (NotOfShape 0) text e in
      let b = bind_ok (slots_text ms ss) (body_text width) text a.1 in
      let (items, same, reads, of, required) = slots_read ms ss b.0 is (eqb-true _ _ a.0) b.1 in
      (body_reads width (λ body. (items : List TaggedItem) × (body ≡ items_bytes items) × ReadsItems ms ss items × SkipsOthers ms items) b.0 text (items, same, reads, none_skipped ms items of) b.2, required)
  text_reads _ d text is e = absurd cc

  pub members_read : (fs : Forms) (ds : Items) (text : List ℕ) → AreForms fs → count ds ≡ count_forms fs → members_text fs ds ≡ Ok text → ReadsMembers fs ds text
  members_read no_forms no_items text is same e = sym (ok_is [] text e)
  members_read (form_then f fs) (item d ds) text is same e =
      let a = bind_ok (text_of f d) (λ first. members_text fs ds >>= λ others. Ok (first ++ others)) text e in
      let b = bind_ok (members_text fs ds) (λ others. Ok (a.0 ++ others)) text a.2 in
      (a.0, b.0, sym (ok_is (a.0 ++ b.0) text b.2), text_reads f d a.0 is.0 a.1, members_read fs ds b.0 is.1 (omega arith) b.1)
  members_read no_forms (item d ds) text is same e = absurd (omega arith)
  members_read (form_then f fs) no_items text is same e = absurd (omega arith)

  pub variant_reads : (width type : Width) (vs : Variants) (kind : ℕ) (d : Data) (text : List ℕ) → AreVariants vs → variant_text width type vs kind d ≡ Ok text → Typed width type kind (Begins (ReadsVariant vs kind d)) text
  variant_reads width type no_variants kind d text is e = absurd cc
  variant_reads width type (variant n f vs) kind d text is e =
      picks_reads width type (eqb n kind) (Reads f d) (ReadsVariant vs kind d) (chosen_text width type kind (text_of f d)) (variant_text width type vs kind d) kind text
      (λ here. chosen_reads width type kind (Reads f d) (text_of f d) text (λ body good. text_reads f d body is.1 good) here)
      (λ later. variant_reads width type vs kind d text is.2 later) e

  pub slots_read : (ms : Members) (ss : Slots) (text : List ℕ) → AreMembers ms → count_slots ss ≡ count_members ms → slots_text ms ss ≡ Ok text → WrittenItems ms ss text
  slots_read no_members no_slots text is same e = ([], sym (ok_is [] text e), tt, tt, refl)
  slots_read (member_then id optional f ms) (present d ss) text (below, new, can, form, is) same e =
      let a = bind_ok (item_text f id (text_of f d)) (λ first. slots_text ms ss >>= λ others. Ok (first ++ others)) text e in
      let b = bind_ok (slots_text ms ss) (λ others. Ok (a.0 ++ others)) text a.2 in
      let w = bind_ok (text_of f d) (λ bytes. Ok (item_bytes (record { reserved = false; wire_type = wire_type_of f; id = id; bytes = bytes }))) a.0 a.1 in
      let i : TaggedItem = record { reserved = false; wire_type = wire_type_of f; id = id; bytes = w.0 } in
      let (items, bytes, reads, of, required) = slots_read ms ss b.0 is (omega arith) b.1 in
      let none : with_id id items ≡ [] = none_with id ms items new of in
      let here : ReadsBy (width_in (wire_type_of f) f) f d w.0 = subst (λ (x : Width). ReadsBy x f d w.0) (sym (own_width_in f)) (text_reads f d w.0 form w.1) in (
        i ∷ items,
        sym (ok_is (a.0 ++ b.0) text b.2) ∙ ap (λ (x : List ℕ). x ++ b.0) (sym (ok_is (item_bytes i) a.0 w.2)) ∙ ap (λ (x : List ℕ). item_bytes i ++ x) bytes,
        (i, one_with i items none, own_type f can, here, reads_past ms ss i items new reads),
        (below, member_itself id (is_member id ms), of_more id optional f ms items of),
        required,
      )
  slots_read (member_then id optional f ms) (absent ss) text (below, new, can, form, is) same e =
      let a = bind_ok (absent_text optional) (λ first. slots_text ms ss >>= λ others. Ok (first ++ others)) text e in
      let b = bind_ok (slots_text ms ss) (λ others. Ok (a.0 ++ others)) text a.2 in
      let may = passed optional (Ok []) (NotOfShape 0) a.0 a.1 in
      let (items, bytes, reads, of, required) = slots_read ms ss b.0 is (omega arith) b.1 in (
        items,
        sym (ok_is (a.0 ++ b.0) text b.2) ∙ ap (λ (x : List ℕ). x ++ b.0) (sym (ok_is [] a.0 may.1)) ∙ bytes,
        (none_with id ms items new of, reads),
        of_more id optional f ms items of,
        rw may.0 required,
      )
  slots_read no_members (present d ss) text is same e = absurd (omega arith)
  slots_read no_members (absent ss) text is same e = absurd (omega arith)
  slots_read (member_then id optional f ms) no_slots text is same e = absurd (omega arith)

-- each text that is written is read as its value
pub written_reads : (f : Form) (d : Data) (text : List ℕ) → encoded f d ≡ Ok text → (checked f ≡ Ok tt) × Reads f d text
unfolding encoded
written_reads f d text e =
    let a = bind_ok (checked f) (λ _. text_of f d) text e in
    (a.1, text_reads f d text (checked_is f a.1) a.2)

-- what was written is read again, whatever follows it
pub written_again : (f : Form) (d : Data) (text more : List ℕ) → encoded f d ≡ Ok text → decoded f (text ++ more) ≡ Ok (d, length text)
written_again f d text more e =
    let a = written_reads f d text e in
    decoded_again f text more d a.0 a.1

-- ---- the clauses

pub is_found : (f : Form) (bytes : List ℕ) (r : Result (Value × ℕ) PayloadError) → IsBytes bytes → Gives (λ x. (data_of x.0, x.1)) r (decoded f bytes)
    → IfOk r (λ x. (checked f ≡ Ok tt) × (x.1 ≤ length bytes) × Reads f (data_of x.0) (take x.1 bytes))
is_found f bytes (Ok x) fits given = decoded_found f bytes (data_of x.0) x.1 fits given
is_found f bytes (Err e) fits given = tt

pub decoded_failed : (f : Form) (bytes : List ℕ) (e : PayloadError) → IsBytes bytes → decoded f bytes ≡ Err e → (checked f ≡ Err e) ⊎ FaultIn f e (whole bytes)
unfolding decoded
decoded_failed f bytes e fits h =
    elim (bind_err (checked f) (λ _. data_at f (whole bytes) >>= λ x. Ok (x.0, x.1.place)) e h) [
      | inl first ↦ inl first
      | inr (x, was, then) ↦
          let g : Data × View → Data × ℕ = λ x. (x.0, x.1.place) in
          inr (data_failed (own_width f) f (whole bytes) e (checked_is f was) fits (only_first (data_at f (whole bytes)) g e then))
    ]

first_fault : (f : Form) (bytes : List ℕ) (e : PayloadError) → IsBytes bytes → Fails e (decoded f bytes) → IsFirstFault f bytes e
first_fault f bytes errors.OutOfMemory fits h = tt
first_fault f bytes (errors.Truncated k) fits h = decoded_failed f bytes (errors.Truncated k) fits h
first_fault f bytes (errors.BadText k) fits h = decoded_failed f bytes (errors.BadText k) fits h
first_fault f bytes (errors.NoTerminator k) fits h = decoded_failed f bytes (errors.NoTerminator k) fits h
first_fault f bytes (errors.UnknownVariant k) fits h = decoded_failed f bytes (errors.UnknownVariant k) fits h
first_fault f bytes (errors.LengthMismatch k) fits h = decoded_failed f bytes (errors.LengthMismatch k) fits h
first_fault f bytes (errors.TooMany k) fits h = decoded_failed f bytes (errors.TooMany k) fits h
first_fault f bytes (errors.TooDeep k) fits h = decoded_failed f bytes (errors.TooDeep k) fits h
first_fault f bytes (errors.NotOfShape k) fits h = decoded_failed f bytes (errors.NotOfShape k) fits h
first_fault f bytes (errors.TooLong k) fits h = decoded_failed f bytes (errors.TooLong k) fits h
first_fault f bytes (errors.BadShape k) fits h = decoded_failed f bytes (errors.BadShape k) fits h
first_fault f bytes (errors.DuplicateMember k) fits h = decoded_failed f bytes (errors.DuplicateMember k) fits h
first_fault f bytes (errors.WrongWireType k) fits h = decoded_failed f bytes (errors.WrongWireType k) fits h
first_fault f bytes (errors.MissingMember k) fits h = decoded_failed f bytes (errors.MissingMember k) fits h

pub is_first : (f : Form) (bytes : List ℕ) (r : Result (Value × ℕ) PayloadError) → IsBytes bytes → Gives (λ x. (data_of x.0, x.1)) r (decoded f bytes) → IfErr r (λ e. IsFirstFault f bytes e)
is_first f bytes (Ok x) fits given = tt
is_first f bytes (Err e) fits given = first_fault f bytes e fits given
