-- What is read is spelled so.
use Rattle.std.proofs.Common.{◌≡◌, ◌⊎◌, inl, inr, ℕ, zero, suc, ◌+◌, ◌^◌, ◌<◌, ◌≤◌, Bool, true, false, cond, ltb, eqb, List, [], ◌++◌, length, Result, Ok, Err, Some, None, refl, sym, ap, subst, append_assoc, append-nil, arith}
use Rattle.std.specs.Int.{Width as IntWidth, w8, w16, w32, w64, cast_signed, cast_unsigned}
use mir.Val.{bits, hbits}
use Rattle.std.specs.Int.RustNames.{FitsSigned}
use Rattle.std.proofs.lemmas.Int.{of_z-to_z}
use Rattle.std.proofs.lemmas.Bool.{cases_lt, lt-ltb, le-ltb, ltb-false, eqb-true, eqb-false}
use Rattle.std.proofs.lemmas.List.{nil_from_length}
use Rattle.someip_payload_values.specs.declared.error.PayloadError.{PayloadError}
use Rattle.someip_payload_values.specs.declared.error.PayloadError.TheVariants.{TooMany, LengthMismatch}
use Rattle.someip_payload_values.specs.declared.number.Size.{Size}
use Rattle.someip_payload_values.specs.declared.number.Size.TheVariants.{S8, S16, S32, S64}
use Rattle.someip_payload_values.specs.declared.shape.Width.{Width}
use Rattle.someip_payload_values.specs.declared.tag.Tag.{Tag}
use Rattle.someip_payload_values.specs.Floats.{bits_size}
use Rattle.someip_payload_values.specs.Data.{Form, bool, unsigned, signed, float, string, padded, array, fixed, «struct», union, tagged, named, enumerated, Forms, no_forms, form_then, Variants, no_variants, variant, Members, no_members, member_then, Data, truth, uint, int, real, phrase, list, tuple, nothing, chosen, slotted, Items, no_items, item, Slots, no_slots, present, absent, count}
use Rattle.someip_payload_codec.specs.View.{View}
use Rattle.someip_payload_values.specs.Numbers.{width_of, limit_of, size_of, number, number_in, framed, typed, is_odd, Begins}
use Rattle.someip_payload_values.specs.Tags.{own_width}
use Rattle.someip_payload_codec.specs.Grammar.{Picks, Each, Reads, ReadsBy, ReadsMembers, ReadsVariant, ReadsItems}
use Rattle.someip_payload_values.specs.Steps.{◌>>=◌}
use Rattle.someip_payload_codec.specs.Reading.{signed_of, front_at, ordered_at, number_at, padded_at, window_at, body_at, text_at, items_at, fixed_at, union_at, chosen_at, Filler, item_by, tagged_at, all_absent, required_at, data_by, data_at, members_at, variant_at, slots_at}
use Rattle.someip_payload_codec.proofs.parts.Parts.{IsBytes, bind_ok, ok_is, Took, Takes, took_none, took_then, took_bytes, front_took, ordered_took, number_took, window_took, body_took}
use Rattle.someip_payload_codec.proofs.parts.Forms.{IsForm, AreForms, AreVariants, AreMembers}
use Rattle.someip_payload_codec.proofs.tagged.TaggedSound.{none_yet, reads_more, TakesSlot, skipped_took, present_took, absent_or_value, item_took, tagged_took, required_is}
use Rattle.someip_payload_codec.proofs.texts.TextLemmas.{text_took}
use Rattle.someip_payload_codec.proofs.texts.PaddedTexts.{padded_took}

-- a reader that takes what P says
pub record IsSound (one : View → Result (Data × View) PayloadError) (P : Data → List ℕ → Type 0) : Type 0 where
  pub takes : (w v : View) (d : Data) → IsBytes w.bytes → one w ≡ Ok (d, v) → Takes (P d) w v

-- a choice that did not fail, and the one that was made
guard_is : {A : Type 0} (b : Bool) (d : PayloadError) (x y : A) → cond b (Err d) (Ok x) ≡ Ok y → (b ≡ false) × (x ≡ y)
guard_is true d x y e = absurd cc
guard_is false d x y e = (refl, cc)

nothing_left : (w : View) → ltb 0 (length w.bytes) ≡ false → w.bytes ≡ []
nothing_left w e = nil_from_length w.bytes (omega (arith, ltb-false 0 (length w.bytes) e))

items_step : (one : View → Result (Data × View) PayloadError) (P : Data → List ℕ → Type 0) → IsSound one P → (max : ℕ) (w : View) (ds : Items) (rest : View → Result Items PayloadError) → IsBytes w.bytes
    → ((v : View) (es : Items) → IsBytes v.bytes → rest v ≡ Ok es → (count es ≤ max) × Each P es v.bytes)
    → (b : Bool) → ltb 0 (length w.bytes) ≡ b → cond b (one w >>= λ first. rest first.1 >>= λ others. Ok (item first.0 others)) (Ok no_items) ≡ Ok ds → (count ds ≤ suc max) × Each P ds w.bytes
items_step one P sound max w ds rest fits later false is e = subst (λ (x : Items). (count x ≤ suc max) × Each P x w.bytes) (ok_is no_items ds e) (omega arith, nothing_left w is)
items_step one P sound max w ds rest fits later true is e =
    let a = bind_ok (one w) (λ first. rest first.1 >>= λ others. Ok (item first.0 others)) ds e in
    let b = bind_ok (rest a.0.1) (λ others. Ok (item a.0.0 others)) ds a.2 in
    let t = sound.takes w a.0.1 a.0.0 fits a.1 in
    let after = later a.0.1 b.0 (took_bytes fits t.took).1 b.1 in
    subst (λ (x : Items). (count x ≤ suc max) × Each P x w.bytes) (ok_is (item a.0.0 b.0) ds b.2) (omega (arith, after.0), (t.text, a.0.1.bytes, t.took.bytes, t.holds, after.1))

pub items_took : (one : View → Result (Data × View) PayloadError) (P : Data → List ℕ → Type 0) → IsSound one P → (max : ℕ) (w : View) (ds : Items) → IsBytes w.bytes
    → items_at one max w ≡ Ok ds → (count ds ≤ max) × Each P ds w.bytes
unfolding items_at
items_took one P sound zero w ds fits e =
    let g = guard_is (ltb 0 (length w.bytes)) (TooMany w.place) no_items ds e in
    subst (λ (x : Items). (count x ≤ 0) × Each P x w.bytes) g.1 (omega arith, nothing_left w g.0)
items_took one P sound (suc max) w ds fits e = items_step one P sound max w ds (items_at one max) fits (items_took one P sound max) (ltb 0 (length w.bytes)) refl e

pub fixed_took : (one : View → Result (Data × View) PayloadError) (P : Data → List ℕ → Type 0) → IsSound one P → (n : ℕ) (w v : View) (ds : Items) → IsBytes w.bytes
    → fixed_at one n w ≡ Ok (ds, v) → Takes (λ text. (count ds ≡ n) × Each P ds text) w v
unfolding fixed_at
fixed_took one P sound zero w v ds fits e =
    subst (λ (x : Items × View). Takes (λ text. (count x.0 ≡ 0) × Each P x.0 text) w x.1) (ok_is (no_items, w) (ds, v) e) (record { text = []; took = took_none w; holds = (refl, refl) })
fixed_took one P sound (suc n) w v ds fits e =
    let a = bind_ok (one w) (λ first. fixed_at one n first.1 >>= λ others. Ok (item first.0 others.0, others.1)) (ds, v) e in
    let b = bind_ok (fixed_at one n a.0.1) (λ others. Ok (item a.0.0 others.0, others.1)) (ds, v) a.2 in
    let t = sound.takes w a.0.1 a.0.0 fits a.1 in
    let rest = fixed_took one P sound n a.0.1 b.0.1 b.0.0 (took_bytes fits t.took).1 b.1 in
    subst (λ (x : Items × View). Takes (λ text. (count x.0 ≡ suc n) × Each P x.0 text) w x.1) (ok_is (item a.0.0 b.0.0, b.0.1) (ds, v) b.2)
    (record { text = t.text ++ rest.text; took = took_then t.took rest.took; holds = (omega (arith, rest.holds.0), (t.text, rest.text, refl, t.holds, rest.holds.1)) })

-- ---- signed numbers

fits_width : (width : IntWidth) (n : ℕ) → 2 ^ bits width ≡ 2 ^ hbits width + 2 ^ hbits width → n < 2 ^ bits width → FitsSigned width (cast_signed width n)
fits_width width n two lt =
    elim (cases_lt n (2 ^ hbits width)) [
      | inl small ↦ rw (lt-ltb n (2 ^ hbits width) small) (record { sfits = small })
      | inr large ↦ rw (le-ltb n (2 ^ hbits width) large) (record { sfits = omega arith })
    ]

-- the number whose bits these are, and its bits again
signed_fits : (size : Size) (n : ℕ) → n < limit_of size → FitsSigned (width_of size) (signed_of size n) × (cast_unsigned (width_of size) (signed_of size n) ≡ n)
signed_fits S8 n lt = (fits_width w8 n refl lt, of_z-to_z w8 n lt)
signed_fits S16 n lt = (fits_width w16 n refl lt, of_z-to_z w16 n lt)
signed_fits S32 n lt = (fits_width w32 n refl lt, of_z-to_z w32 n lt)
signed_fits S64 n lt = (fits_width w64 n refl lt, of_z-to_z w64 n lt)

-- ---- unions

-- a value of that number was taken, with a body of that length
abbrev TakesVariant : ℕ → ℕ → (Data → List ℕ → Type 0) → View → View → Data → Type 0
TakesVariant kind len P u v d = (e : Data) × (d ≡ chosen kind e) × Takes (λ body. (length body ≡ len) × Begins (P e) body) u v

chosen_took : (one : View → Result (Data × View) PayloadError) (P : Data → List ℕ → Type 0) → IsSound one P → (kind len : ℕ) (w u v : View) (d : Data) → IsBytes u.bytes
    → chosen_at one kind len w u ≡ Ok (d, v) → TakesVariant kind len P u v d
unfolding chosen_at
chosen_took one P sound kind len w u v d fits h =
    let a = bind_ok (window_at len w u) (λ body. one body.0 >>= λ x. Ok (chosen kind x.0, body.1)) (d, v) h in
    let b = bind_ok (one a.0.0) (λ x. Ok (chosen kind x.0, a.0.1)) (d, v) a.2 in
    let t = window_took len w u a.0.0 a.0.1 fits a.1 in
    let r = sound.takes a.0.0 b.0.1 b.0.0 t.bytes b.1 in
    subst (λ (x : Data × View). TakesVariant kind len P u x.1 x.0) (ok_is (chosen kind b.0.0, a.0.1) (d, v) b.2)
    (b.0.0, refl, record { text = a.0.0.bytes; took = t.took; holds = (t.len, (r.text, b.0.1.bytes, r.took.bytes, r.holds)) })

picks_took : (t : Bool) (P Q : Data → List ℕ → Type 0) (r s : Result (Data × View) PayloadError) (kind len : ℕ) (u v : View) (d : Data)
    → (r ≡ Ok (d, v) → TakesVariant kind len P u v d) → (s ≡ Ok (d, v) → TakesVariant kind len Q u v d) → cond t r s ≡ Ok (d, v) → TakesVariant kind len (λ e body. Picks t (P e body) (Q e body)) u v d
picks_took true P Q r s kind len u v d first next h = first h
picks_took false P Q r s kind len u v d first next h = next h

-- what a union took
record TookUnion (width type : Width) (P : ℕ → Data → List ℕ → Type 0) (w v : View) (d : Data) : Type 0 where
  pub text : List ℕ
  pub took : Took w text v
  pub holds : ((d ≡ nothing) × (text ≡ typed width type 0 []))
      ⊎ ((kind : ℕ) × (e : Data) × (d ≡ chosen kind e) × (0 < kind) × (kind < limit_of (size_of type)) × (body : List ℕ) × (length body < limit_of (size_of width)) × (text ≡ typed width type kind body) × Begins (P kind e) body)

union_cases : (width type : Width) (known : ℕ → ℕ → ℕ → View → Result (Data × View) PayloadError) (P : ℕ → Data → List ℕ → Type 0) (kind len place : ℕ) (w u v : View) (d : Data) (f : PayloadError)
    → IsBytes u.bytes → len < limit_of (size_of width) → kind < limit_of (size_of type) → Took w (number (size_of width) len ++ number (size_of type) kind) u
    → (known kind len place u ≡ Ok (d, v) → TakesVariant kind len (P kind) u v d)
    → (t z : Bool) → eqb kind 0 ≡ t → eqb len 0 ≡ z → cond t (cond z (Ok (nothing, u)) (Err f)) (known kind len place u) ≡ Ok (d, v) → TookUnion width type P w v d
union_cases width type known P kind len place w u v d f fits lb kb head takes true true k l h =
    let none : number (size_of width) len ++ number (size_of type) kind ≡ typed width type 0 [] = rw (eqb-true _ _ k, eqb-true _ _ l) (ap (λ (x : List ℕ). number (size_of width) 0 ++ x) (sym (append-nil (number (size_of type) 0)))) in
    subst (λ (x : Data × View). TookUnion width type P w x.1 x.0) (ok_is (nothing, u) (d, v) h) (record { text = number (size_of width) len ++ number (size_of type) kind; took = head; holds = inl (refl, none) })
union_cases width type known P kind len place w u v d f fits lb kb head takes true false k l h = absurd cc
union_cases width type known P kind len place w u v d f fits lb kb head takes false z k l h =
    let (e, is, t) = takes h in
    let same : (number (size_of width) len ++ number (size_of type) kind) ++ t.text ≡ typed width type kind t.text = rw (t.holds.0) (append_assoc (number (size_of width) len) (number (size_of type) kind) t.text) in
    let some : kind ≡ 0 → ⊥ = eqb-false _ _ k in
    record { text = (number (size_of width) len ++ number (size_of type) kind) ++ t.text; took = took_then head t.took; holds = inr (kind, e, is, omega arith, kb, t.text, omega (arith, t.holds.0), same, t.holds.1) }

union_took : (width type : Width) (known : ℕ → ℕ → ℕ → View → Result (Data × View) PayloadError) (P : ℕ → Data → List ℕ → Type 0) (w v : View) (d : Data) → IsBytes w.bytes
    → ((kind len place : ℕ) (u : View) → IsBytes u.bytes → known kind len place u ≡ Ok (d, v) → TakesVariant kind len (P kind) u v d)
    → union_at width type known w ≡ Ok (d, v) → TookUnion width type P w v d
unfolding union_at
union_took width type known P w v d fits takes h =
    let second = λ (len : ℕ) (m : View) (kind : ℕ × View). cond (eqb kind.0 0) (cond (eqb len 0) (Ok (nothing, kind.1)) (Err (LengthMismatch w.place))) (known kind.0 len m.place kind.1) in
    let a = bind_ok (number_at (size_of width) w) (λ len. number_at (size_of type) len.1 >>= second len.0 len.1) (d, v) h in
    let b = bind_ok (number_at (size_of type) a.0.1) (second a.0.0 a.0.1) (d, v) a.2 in
    let l = number_took (size_of width) w a.0.1 a.0.0 fits a.1 in
    let after = (took_bytes fits l.0).1 in
    let k = number_took (size_of type) a.0.1 b.0.1 b.0.0 after b.1 in
    let rest = (took_bytes after k.0).1 in
    union_cases width type known P b.0.0 a.0.0 a.0.1.place w b.0.1 v d (LengthMismatch w.place) rest l.1 k.1 (took_then l.0 k.0) (takes b.0.0 a.0.0 a.0.1.place b.0.1 rest) (eqb b.0.0 0) (eqb a.0.0 0) refl refl b.2

mutual
  unfolding data_by members_at variant_at slots_at ReadsBy ReadsMembers ReadsVariant ReadsItems

  pub data_took : (width : Width) (f : Form) (w v : View) (d : Data) → IsForm f → IsBytes w.bytes → data_by width f w ≡ Ok (d, v) → Takes (ReadsBy width f d) w v
  data_took width bool w v d form fits e =
      let a = bind_ok (number_at S8 w) (λ n. Ok (truth (is_odd n.0), n.1)) (d, v) e in
      let t = number_took S8 w a.0.1 a.0.0 fits a.1 in
      subst (λ (x : Data × View). Takes (ReadsBy width bool x.0) w x.1) (ok_is (truth (is_odd a.0.0), a.0.1) (d, v) a.2) (record { text = _; took = t.0; holds = (a.0.0, t.1, refl, refl) })
  data_took width (named n f) w v d form fits e = data_took width f w v d form fits e
  data_took width (enumerated f labels) w v d form fits e = data_took width f w v d form fits e
  data_took width (unsigned order size) w v d form fits e =
      let a = bind_ok (ordered_at order size w) (λ n. Ok (uint n.0, n.1)) (d, v) e in
      let t = ordered_took order size w a.0.1 a.0.0 fits a.1 in
      subst (λ (x : Data × View). Takes (ReadsBy width (unsigned order size) x.0) w x.1) (ok_is (uint a.0.0, a.0.1) (d, v) a.2) (record { text = _; took = t.0; holds = (t.1, refl) })
  data_took width (signed order size) w v d form fits e =
      let a = bind_ok (ordered_at order size w) (λ n. Ok (int (signed_of size n.0), n.1)) (d, v) e in
      let t = ordered_took order size w a.0.1 a.0.0 fits a.1 in
      let s = signed_fits size a.0.0 t.1 in
      subst (λ (x : Data × View). Takes (ReadsBy width (signed order size) x.0) w x.1) (ok_is (int (signed_of size a.0.0), a.0.1) (d, v) a.2)
      (record { text = _; took = t.0; holds = (s.0, ap (number_in order size) (sym s.1)) })
  data_took width (float order p) w v d form fits e =
      let a = bind_ok (ordered_at order (bits_size p) w) (λ n. Ok (real p n.0, n.1)) (d, v) e in
      let t = ordered_took order (bits_size p) w a.0.1 a.0.0 fits a.1 in
      subst (λ (x : Data × View). Takes (ReadsBy width (float order p) x.0) w x.1) (ok_is (real p a.0.0, a.0.1) (d, v) a.2) (record { text = _; took = t.0; holds = (refl, t.1, refl) })
  data_took width (string encoding own) w v d form fits e =
      let a = bind_ok (body_at width w) (λ body. text_at encoding w.place body.0.bytes >>= λ s. Ok (phrase s, body.1)) (d, v) e in
      let b = bind_ok (text_at encoding w.place a.0.0.bytes) (λ s. Ok (phrase s, a.0.1)) (d, v) a.2 in
      let t = body_took width w a.0.0 a.0.1 fits a.1 in
      subst (λ (x : Data × View). Takes (ReadsBy width (string encoding width) x.0) w x.1) (ok_is (phrase b.0, a.0.1) (d, v) b.2)
      (record { text = framed width a.0.0.bytes; took = t.took; holds = (a.0.0.bytes, t.fits, refl, text_took encoding w.place a.0.0.bytes b.0 t.bytes b.1) })
  data_took width (padded encoding n) w v d form fits e =
      let a = bind_ok (front_at n w) (λ front. padded_at encoding w.place front.0 >>= λ s. Ok (phrase s, front.1)) (d, v) e in
      let b = bind_ok (padded_at encoding w.place a.0.0) (λ s. Ok (phrase s, a.0.1)) (d, v) a.2 in
      let t = front_took n w a.0.1 a.0.0 a.1 in
      subst (λ (x : Data × View). Takes (ReadsBy width (padded encoding n) x.0) w x.1) (ok_is (phrase b.0, a.0.1) (d, v) b.2)
      (record { text = a.0.0; took = t.0; holds = (t.1, padded_took encoding w.place a.0.0 b.0 (took_bytes fits t.0).0 b.1) })
  data_took width (array own max element) w v d form fits e =
      let a = bind_ok (body_at width w) (λ body. items_at (data_at element) max body.0 >>= λ items. Ok (list items, body.1)) (d, v) e in
      let b = bind_ok (items_at (data_at element) max a.0.0) (λ items. Ok (list items, a.0.1)) (d, v) a.2 in
      let t = body_took width w a.0.0 a.0.1 fits a.1 in
      let rest = items_took (data_at element) (Reads element) (record { takes = λ u x y. data_took (own_width element) element u x y form }) max a.0.0 b.0 t.bytes b.1 in
      subst (λ (x : Data × View). Takes (ReadsBy width (array own max element) x.0) w x.1) (ok_is (list b.0, a.0.1) (d, v) b.2)
      (record { text = framed width a.0.0.bytes; took = t.took; holds = (rest.0, (a.0.0.bytes, t.fits, refl, rest.1)) })
  data_took width (fixed (Some own) n element) w v d form fits e =
      let a = bind_ok (body_at width w) (λ body. fixed_at (data_at element) n body.0 >>= λ items. Ok (list items.0, body.1)) (d, v) e in
      let b = bind_ok (fixed_at (data_at element) n a.0.0) (λ items. Ok (list items.0, a.0.1)) (d, v) a.2 in
      let t = body_took width w a.0.0 a.0.1 fits a.1 in
      let rest = fixed_took (data_at element) (Reads element) (record { takes = λ u x y. data_took (own_width element) element u x y form.1 }) n a.0.0 b.0.1 b.0.0 t.bytes b.1 in
      subst (λ (x : Data × View). Takes (ReadsBy width (fixed (Some own) n element) x.0) w x.1) (ok_is (list b.0.0, a.0.1) (d, v) b.2)
      (record { text = framed width a.0.0.bytes; took = t.took; holds = (rest.holds.0, (a.0.0.bytes, t.fits, refl, (rest.text, b.0.1.bytes, rest.took.bytes, rest.holds.1))) })
  data_took width (fixed None n element) w v d form fits e =
      let a = bind_ok (fixed_at (data_at element) n w) (λ items. Ok (list items.0, items.1)) (d, v) e in
      let t = fixed_took (data_at element) (Reads element) (record { takes = λ u x y. data_took (own_width element) element u x y form.1 }) n w a.0.1 a.0.0 fits a.1 in
      subst (λ (x : Data × View). Takes (ReadsBy width (fixed None n element) x.0) w x.1) (ok_is (list a.0.0, a.0.1) (d, v) a.2) (record { text = t.text; took = t.took; holds = t.holds })
  data_took width («struct» None fs) w v d form fits e =
      let a = bind_ok (members_at fs w) (λ members. Ok (tuple members.0, members.1)) (d, v) e in
      let t = members_took fs w a.0.1 a.0.0 form.1 fits a.1 in
      subst (λ (x : Data × View). Takes (ReadsBy width («struct» None fs) x.0) w x.1) (ok_is (tuple a.0.0, a.0.1) (d, v) a.2) (record { text = t.text; took = t.took; holds = t.holds })
  data_took width («struct» (Some own) fs) w v d form fits e =
      let a = bind_ok (body_at width w) (λ body. members_at fs body.0 >>= λ members. Ok (tuple members.0, body.1)) (d, v) e in
      let b = bind_ok (members_at fs a.0.0) (λ members. Ok (tuple members.0, a.0.1)) (d, v) a.2 in
      let t = body_took width w a.0.0 a.0.1 fits a.1 in
      let rest = members_took fs a.0.0 b.0.1 b.0.0 form.1 t.bytes b.1 in
      subst (λ (x : Data × View). Takes (ReadsBy width («struct» (Some own) fs) x.0) w x.1) (ok_is (tuple b.0.0, a.0.1) (d, v) b.2)
      (record { text = framed width a.0.0.bytes; took = t.took; holds = (a.0.0.bytes, t.fits, refl, (rest.text, b.0.1.bytes, rest.took.bytes, rest.holds)) })
  data_took width (union own type vs) w v d form fits e =
      let t = union_took width type (λ kind len place u. variant_at vs kind len place w u) (λ kind x body. ReadsVariant vs kind x body) w v d fits (λ kind len place u. variant_took vs kind len place w u v d form) e in
      elim t.holds [
        | inl (is, none) ↦ subst (λ (x : Data). Takes (ReadsBy width (union own type vs) x) w v) (sym is) (record { text = t.text; took = t.took; holds = none })
        | inr (kind, x, is, some, below, body, short, same, begins) ↦
            subst (λ (x : Data). Takes (ReadsBy width (union own type vs) x) w v) (sym is) (record { text = t.text; took = t.took; holds = (some, below, (body, short, same, begins)) })
      ]
  data_took width (tagged own ms) w v d form fits e =
      let one : Filler = item_by (slots_at ms) in
      let third = λ (body : View × View) (ss : Slots). required_at ms w.place ss >>= λ whole. let x : Data × View = (slotted whole, body.1) in Ok x in
      let a = bind_ok (body_at width w) (λ body. tagged_at one (length body.0.bytes) (all_absent ms) body.0 >>= third body) (d, v) e in
      let b = bind_ok (tagged_at one (length a.0.0.bytes) (all_absent ms) a.0.0) (third a.0) (d, v) a.2 in
      let c = bind_ok (required_at ms w.place b.0) (λ whole. let x : Data × View = (slotted whole, a.0.1) in Ok x) (d, v) b.2 in
      let t = body_took width w a.0.0 a.0.1 fits a.1 in
      let fills = item_took (slots_at ms) ms (λ ss ss' tag place u x bytes h. slots_took ms ss ss' tag place u x form bytes h) in
      let items = tagged_took one ms fills (length a.0.0.bytes) [] (all_absent ms) b.0 a.0.0 t.bytes (omega arith) (none_yet ms) tt b.1 in
      let whole = required_is ms w.place b.0 c.0 c.1 in
      subst (λ (x : Data × View). Takes (ReadsBy width (tagged own ms) x.0) w x.1) (ok_is (slotted c.0, a.0.1) (d, v) c.2)
      (record { text = framed width a.0.0.bytes; took = t.took; holds = ((a.0.0.bytes, t.fits, refl, (items.more, items.bytes, subst (λ (x : Slots). ReadsItems ms x items.more) whole.1 items.reads, items.skips)), whole.0) })

  pub members_took : (fs : Forms) (w v : View) (ds : Items) → AreForms fs → IsBytes w.bytes → members_at fs w ≡ Ok (ds, v) → Takes (ReadsMembers fs ds) w v
  members_took no_forms w v ds form fits e =
      subst (λ (x : Items × View). Takes (ReadsMembers no_forms x.0) w x.1) (ok_is (no_items, w) (ds, v) e) (record { text = []; took = took_none w; holds = refl })
  members_took (form_then f fs) w v ds form fits e =
      let a = bind_ok (data_at f w) (λ first. members_at fs first.1 >>= λ others. Ok (item first.0 others.0, others.1)) (ds, v) e in
      let b = bind_ok (members_at fs a.0.1) (λ others. Ok (item a.0.0 others.0, others.1)) (ds, v) a.2 in
      let t = data_took (own_width f) f w a.0.1 a.0.0 form.0 fits a.1 in
      let rest = members_took fs a.0.1 b.0.1 b.0.0 form.1 (took_bytes fits t.took).1 b.1 in
      subst (λ (x : Items × View). Takes (ReadsMembers (form_then f fs) x.0) w x.1) (ok_is (item a.0.0 b.0.0, b.0.1) (ds, v) b.2)
      (record { text = t.text ++ rest.text; took = took_then t.took rest.took; holds = (t.text, rest.text, refl, t.holds, rest.holds) })

  pub variant_took : (vs : Variants) (kind len place : ℕ) (w u v : View) (d : Data) → AreVariants vs → IsBytes u.bytes → variant_at vs kind len place w u ≡ Ok (d, v) → TakesVariant kind len (λ x body. ReadsVariant vs kind x body) u v d
  variant_took no_variants kind len place w u v d form fits h = absurd cc
  variant_took (variant n f vs) kind len place w u v d form fits h =
      picks_took (eqb n kind) (Reads f) (λ x body. ReadsVariant vs kind x body) (chosen_at (data_at f) kind len w u) (variant_at vs kind len place w u) kind len u v d
      (chosen_took (data_at f) (Reads f) (record { takes = λ b x y. data_took (own_width f) f b x y form.1 }) kind len w u v d fits)
      (variant_took vs kind len place w u v d form.2 fits) h

  pub slots_took : (ms : Members) (ss ss' : Slots) (tag : Tag) (place : ℕ) (w v : View) → AreMembers ms → IsBytes w.bytes → slots_at ms ss tag place w ≡ Ok (ss', v) → TakesSlot ms ss ss' tag w v
  slots_took no_members ss ss' tag place w v are fits e = skipped_took no_members ss ss' tag w v (λ items i reads. reads_more no_members ss items i refl reads) fits e
  slots_took (member_then id optional f ms) no_slots ss' tag place w v are fits e = skipped_took (member_then id optional f ms) no_slots ss' tag w v (λ items i reads. reads) fits e
  slots_took (member_then id optional f ms) (present d ss) ss' tag place w v are fits e =
      present_took id optional f ms d ss ss' tag place w v (slots_at ms ss tag place w) (λ ss1 u h. slots_took ms ss ss1 tag place w u are.4 fits h) e
  slots_took (member_then id optional f ms) (absent ss) ss' tag place w v are fits e =
      absent_or_value id optional f ms ss ss' tag place w v (slots_at ms ss tag place w) (λ width u. data_by width f u) are.1 (λ ss1 u h. slots_took ms ss ss1 tag place w u are.4 fits h)
      (λ width u d h. data_took width f w u d are.3 fits h) (eqb id tag.id) refl e
