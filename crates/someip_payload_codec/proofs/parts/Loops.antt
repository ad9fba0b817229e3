-- Reading one after the other, as the loops do.
use Rattle.std.proofs.Common.{◌≡◌, ℕ, suc, zero, ◌-◌, ◌+◌, ◌≤◌, ◌<◌, List, [], ◌∷◌, ◌++◌, length, drop, get_or, Result, Ok, Err, refl, sym, ap, ◌∙◌, arith}
use Rattle.std.proofs.lemmas.Bool.{lt-ltb, eq-eqb, ne_eqb}
use Rattle.std.proofs.lemmas.List.{drop_all}
use Rattle.someip_payload_values.specs.declared.error.PayloadError.{PayloadError}
use Rattle.someip_payload_values.specs.declared.error.PayloadError.TheVariants.{TooMany, UnknownVariant}
use Rattle.someip_payload_values.specs.declared.shape.Shape.{Shape}
use Rattle.someip_payload_values.specs.Data.{Data, Items, no_items, item}
use Rattle.someip_payload_codec.specs.View.{View}
use Rattle.someip_payload_values.specs.View.{form, forms, all_variants, as_items}
use Rattle.someip_payload_values.specs.Steps.{◌>>=◌, Fails}
use Rattle.someip_payload_codec.specs.Reading.{data_at, items_at, fixed_at, members_at, chosen_at, variant_at}
use Rattle.someip_payload_values.proofs.Shapes.{forms-drop, all_variants-drop}
use Rattle.someip_payload_values.proofs.StepLemmas.{fails_too}

abbrev pub Reader : Type 0
Reader = View → Result (Data × View) PayloadError

-- the data so far, and then others
abbrev pub before : List Data → Items → Items
before [] others = others
before (d ∷ ds) others = item d (before ds others)

pub before-none : (ds : List Data) → before ds no_items ≡ as_items ds
before-none [] = refl
before-none (d ∷ ds) = ap (item d) (before-none ds)

pub before-push : (ds : List Data) (d : Data) (others : Items) → before (ds ++ d ∷ []) others ≡ before ds (item d others)
before-push [] d others = refl
before-push (x ∷ ds) d others = ap (item x) (before-push ds d others)

-- ---- elements of an array

abbrev pub items_after : List Data → Result Items PayloadError → Result Items PayloadError
items_after front read = read >>= λ others. Ok (before front others)

items_regroup : (front : List Data) (d : Data) (read : Result Items PayloadError) → items_after front (read >>= λ others. Ok (item d others)) ≡ items_after (front ++ d ∷ []) read
items_regroup front d (Ok others) = ap (λ (x : Items). Ok x) (sym (before-push front d others))
items_regroup front d (Err f) = refl

pub items_go_on : (one : Reader) (front : List Data) (left : ℕ) (w : View) (d : Data) (after : View) (total : Result Items PayloadError) → 0 < length w.bytes → 0 < left → one w ≡ Ok (d, after)
    → items_after front (items_at one left w) ≡ total → items_after (front ++ d ∷ []) (items_at one (left - 1) after) ≡ total
unfolding items_at
items_go_on one front zero w d after total some room h so_far = absurd (omega arith)
items_go_on one front (suc left) w d after total some room h so_far =
    let k : suc left - 1 ≡ left = omega arith in
    let step : items_after front (items_at one (suc left) w) ≡ items_after (front ++ d ∷ []) (items_at one left after) = rw (lt-ltb 0 (length w.bytes) some, h) (items_regroup front d (items_at one left after)) in
    rw k (sym step ∙ so_far)

items_fault : (e : PayloadError) (one : Reader) (front : List Data) (left : ℕ) (w : View) (total : Result Items PayloadError) → 0 < length w.bytes → 0 < left
    → items_after front (items_at one left w) ≡ total → one w ≡ Err e → total ≡ Err e
unfolding items_at
items_fault e one front zero w total some room so_far h = absurd (omega arith)
items_fault e one front (suc left) w total some room so_far h =
    let step : items_after front (items_at one (suc left) w) ≡ Err e = rw (lt-ltb 0 (length w.bytes) some, h) refl in
    sym so_far ∙ step

pub items_fail : (e : PayloadError) (one : Reader) (front : List Data) (left : ℕ) (w : View) (total : Result Items PayloadError) → 0 < length w.bytes → 0 < left → Fails e (one w)
    → items_after front (items_at one left w) ≡ total → Fails e total
items_fail e one front left w total some room h so_far = fails_too e (one w) total (items_fault e one front left w total some room so_far) h

pub items_too_many : (one : Reader) (front : List Data) (left : ℕ) (w : View) (total : Result Items PayloadError) → 0 < length w.bytes → left ≡ 0
    → items_after front (items_at one left w) ≡ total → total ≡ Err (TooMany w.place)
unfolding items_at
items_too_many one front left w total some none so_far =
    let step : items_after front (items_at one left w) ≡ Err (TooMany w.place) = rw (none, lt-ltb 0 (length w.bytes) some) refl in
    sym so_far ∙ step

pub items_done : (one : Reader) (front : List Data) (left : ℕ) (w : View) (total : Result Items PayloadError) → length w.bytes ≡ 0
    → items_after front (items_at one left w) ≡ total → total ≡ Ok (as_items front)
unfolding items_at
items_done one front zero w total empty so_far =
    let step : items_after front (items_at one zero w) ≡ Ok (as_items front) = rw (empty, before-none front) refl in
    sym so_far ∙ step
items_done one front (suc left) w total empty so_far =
    let step : items_after front (items_at one (suc left) w) ≡ Ok (as_items front) = rw (empty, before-none front) refl in
    sym so_far ∙ step

-- ---- a fixed number of elements, and members

abbrev pub members_after : List Data → Result (Items × View) PayloadError → Result (Items × View) PayloadError
members_after front read = read >>= λ others. Ok (before front others.0, others.1)

members_regroup : (front : List Data) (d : Data) (read : Result (Items × View) PayloadError) → members_after front (read >>= λ others. Ok (item d others.0, others.1)) ≡ members_after (front ++ d ∷ []) read
members_regroup front d (Ok others) = ap (λ (x : Items). Ok (x, others.1)) (sym (before-push front d others.0))
members_regroup front d (Err f) = refl

pub fixed_go_on : (one : Reader) (front : List Data) (left : ℕ) (w : View) (d : Data) (after : View) (total : Result (Items × View) PayloadError) → one w ≡ Ok (d, after)
    → members_after front (fixed_at one (suc left) w) ≡ total → members_after (front ++ d ∷ []) (fixed_at one left after) ≡ total
unfolding fixed_at
fixed_go_on one front left w d after total h so_far =
    let step : members_after front (fixed_at one (suc left) w) ≡ members_after (front ++ d ∷ []) (fixed_at one left after) = rw h (members_regroup front d (fixed_at one left after)) in
    sym step ∙ so_far

pub fixed_fail : (e : PayloadError) (one : Reader) (front : List Data) (left : ℕ) (w : View) (total : Result (Items × View) PayloadError) → Fails e (one w)
    → members_after front (fixed_at one (suc left) w) ≡ total → Fails e total
unfolding fixed_at
fixed_fail e one front left w total h so_far =
    fails_too e (one w) total (λ bad. let step : members_after front (fixed_at one (suc left) w) ≡ Err e = rw bad refl in sym so_far ∙ step) h

pub fixed_done : (one : Reader) (front : List Data) (w : View) (total : Result (Items × View) PayloadError)
    → members_after front (fixed_at one 0 w) ≡ total → total ≡ Ok (as_items front, w)
unfolding fixed_at
fixed_done one front w total so_far =
    let step : members_after front (fixed_at one 0 w) ≡ Ok (as_items front, w) = rw (before-none front) refl in
    sym so_far ∙ step

pub members_go_on : (front : List Data) (ss : List Shape) (i : ℕ) (s : Shape) (w : View) (d : Data) (after : View) (total : Result (Items × View) PayloadError) → i < length ss → s ≡ get_or ss i s → data_at (form s) w ≡ Ok (d, after)
    → members_after front (members_at (forms (drop i ss)) w) ≡ total → members_after (front ++ d ∷ []) (members_at (forms (drop (i + 1) ss)) after) ≡ total
unfolding members_at
members_go_on front ss i s w d after total lt at h so_far =
    let step : members_after front (members_at (forms (drop i ss)) w) ≡ members_after (front ++ d ∷ []) (members_at (forms (drop (i + 1) ss)) after) = rw (forms-drop ss i s lt, ← at, h) (members_regroup front d (members_at (forms (drop (i + 1) ss)) after)) in
    sym step ∙ so_far

pub members_fail : (e : PayloadError) (front : List Data) (ss : List Shape) (i : ℕ) (s : Shape) (w : View) (total : Result (Items × View) PayloadError) → i < length ss → s ≡ get_or ss i s → Fails e (data_at (form s) w)
    → members_after front (members_at (forms (drop i ss)) w) ≡ total → Fails e total
unfolding members_at
members_fail e front ss i s w total lt at h so_far =
    fails_too e (data_at (form s) w) total
    (λ bad. let step : members_after front (members_at (forms (drop i ss)) w) ≡ Err e = rw (forms-drop ss i s lt, ← at, bad) refl in sym so_far ∙ step) h

pub members_done : (front : List Data) (ss : List Shape) (i : ℕ) (w : View) (total : Result (Items × View) PayloadError) → length ss ≤ i
    → members_after front (members_at (forms (drop i ss)) w) ≡ total → total ≡ Ok (as_items front, w)
unfolding members_at
members_done front ss i w total le so_far =
    let step : members_after front (members_at (forms (drop i ss)) w) ≡ Ok (as_items front, w) = rw (drop_all i ss le, before-none front) refl in
    sym so_far ∙ step

pub fixed_more : (one : Reader) (front : List Data) (count k : ℕ) (w : View) (d : Data) (after : View) (total : Result (Items × View) PayloadError) → k < count → one w ≡ Ok (d, after)
    → members_after front (fixed_at one (count - k) w) ≡ total → members_after (front ++ d ∷ []) (fixed_at one (count - (k + 1)) after) ≡ total
fixed_more one front count k w d after total lt h so_far =
    let e : count - k ≡ suc (count - (k + 1)) = omega arith in
    fixed_go_on one front (count - (k + 1)) w d after total h (rw e at so_far)

pub fixed_bad : (e : PayloadError) (one : Reader) (front : List Data) (count k : ℕ) (w : View) (total : Result (Items × View) PayloadError) → k < count → Fails e (one w)
    → members_after front (fixed_at one (count - k) w) ≡ total → Fails e total
fixed_bad e one front count k w total lt h so_far =
    let step : count - k ≡ suc (count - (k + 1)) = omega arith in
    fixed_fail e one front (count - (k + 1)) w total h (rw step at so_far)

pub fixed_end : (one : Reader) (front : List Data) (count k : ℕ) (w : View) (total : Result (Items × View) PayloadError) → count ≤ k
    → members_after front (fixed_at one (count - k) w) ≡ total → total ≡ Ok (as_items front, w)
fixed_end one front count k w total le so_far =
    let step : count - k ≡ 0 = omega arith in
    fixed_done one front w total (rw step at so_far)

-- ---- the variant of a number

module _ (kind len place : ℕ) (w u : View) (vs : List (ℕ × Shape)) (i : ℕ) where
  pub variant_hit : (v : ℕ × Shape) (total : Result (Data × View) PayloadError) → i < length vs → v ≡ get_or vs i v → v.0 ≡ kind
      → variant_at (all_variants (drop i vs)) kind len place w u ≡ total → total ≡ chosen_at (data_at (form v.1)) kind len w u
  unfolding variant_at chosen_at
  variant_hit v total lt at same so_far =
      let step : variant_at (all_variants (drop i vs)) kind len place w u ≡ chosen_at (data_at (form v.1)) kind len w u = rw (all_variants-drop vs i v lt, ← at, eq-eqb v.0 kind same) refl in
      sym so_far ∙ step

  pub variant_miss : (v : ℕ × Shape) (total : Result (Data × View) PayloadError) → i < length vs → v ≡ get_or vs i v → (v.0 ≡ kind → ⊥)
      → variant_at (all_variants (drop i vs)) kind len place w u ≡ total → variant_at (all_variants (drop (i + 1) vs)) kind len place w u ≡ total
  unfolding variant_at
  variant_miss v total lt at other so_far =
      let step : variant_at (all_variants (drop i vs)) kind len place w u ≡ variant_at (all_variants (drop (i + 1) vs)) kind len place w u = rw (all_variants-drop vs i v lt, ← at, ne_eqb v.0 kind other) refl in
      sym step ∙ so_far

  pub variant_none : (total : Result (Data × View) PayloadError) → length vs ≤ i
      → variant_at (all_variants (drop i vs)) kind len place w u ≡ total → total ≡ Err (UnknownVariant place)
  unfolding variant_at
  variant_none total le so_far =
      let step : variant_at (all_variants (drop i vs)) kind len place w u ≡ Err (UnknownVariant place) = rw (drop_all i vs le) refl in
      sym so_far ∙ step
