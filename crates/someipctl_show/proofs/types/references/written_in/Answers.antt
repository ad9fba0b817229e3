use Rattle.std.proofs.Common.{◌≡◌, ℕ, ◌+◌, ◌-◌, ◌^◌, min, ⊎_elim, List, [], ◌∷◌, ◌++◌, append_assoc, append-nil, drop, Option, Some, refl, sym, ap, ◌∙◌, subst, arith}
use Rattle.std.specs.Option.{is_some}
use Rattle.someip_payload_values.specs.Data.{Form}
use Rattle.someip_payload_values.specs.View.{form}
use Rattle.someip_payload.specs.Named.{NamedForms, form_named}
use Rattle.someip_payload.specs.ShapeSizes.{form_count}
use Rattle.someipctl_show.specs.types.References.{IsOneOf, Knows, count_named, count_of, references, written_out}
use Rattle.someipctl_show.proofs.about_types.LinkLemmas.{one_of_both}
use Rattle.someipctl_show.proofs.types.references.written_in.Goals as goal

module _ (names : NamedForms) (rs es : List (List ℕ)) (n : List ℕ) (is : rs ≡ n ∷ es) (f : Form) (stands : form_named names n ≡ Some f) where
  count_more : (w c v all_count : ℕ) → c ≡ min (form_count f) (2 ^ 64 - 1) → v ≡ min (w + c) (2 ^ 64 - 1) → min (w + count_named names rs) (2 ^ 64 - 1) ≡ min all_count (2 ^ 64 - 1)
      → min (v + count_named names es) (2 ^ 64 - 1) ≡ min all_count (2 ^ 64 - 1)
  count_more w c v all_count own sum held =
      let parts : count_named names rs ≡ form_count f + count_named names es = ap (count_named names) is ∙ ap (λ (o : Option Form). count_of o + count_named names es) stands in
      omega (arith, own, sum, held, parts)

pub loop-name-init : goal.loop-name-init
loop-name-init c = record { within = omega arith; fits = omega arith; front = []; parts = refl; known = λ n one. absurd one; count = omega arith }

pub returns-in_default-get-clause-unknown : goal.returns-in_default-get-clause-unknown
returns-in_default-get-clause-unknown c =
    let held = c.loop-name.invariant in
    rw c.in_ok-from_str.ensures.ok (
      (held.front, references (drop c.in-Some.end c.args.text.now), held.parts ∙ ap (λ (ns : List (List ℕ)). held.front ++ ns) c.in-Some.ensures.found, held.known),
      sym c.in_default-get.ensures,
    )

pub loop-name-preserved : goal.loop-name-preserved
loop-name-preserved c =
    let held = c.loop-name.invariant in
    let names : NamedForms = c.args.names.now in
    let rs : List (List ℕ) = references (drop c.loop-name.from c.args.text.now) in
    let es : List (List ℕ) = references (drop c.in-Some.end c.args.text.now) in
    let n : List ℕ = c.in-Some.name.now in
    let is : rs ≡ n ∷ es = c.in-Some.ensures.found in
    let f : Form = form c.in-Some-get.shape.now in
    let stands : form_named names n ≡ Some f = sym c.in-Some-get.ensures in
    record {
      within = c.in-Some.ensures.end.1;
      fits = c.saturating_add-written.type_inv;
      front = held.front ++ n ∷ [];
      parts = held.parts ∙ ap (λ (ns : List (List ℕ)). held.front ++ ns) is ∙ sym (append_assoc held.front (n ∷ []) es);
      known = λ m one.
          ⊎_elim (held.known m) (λ last. ⊎_elim (λ same. subst (Knows names) (sym same) (ap is_some stands)) (λ never. absurd never) last) (one_of_both m held.front (n ∷ []) one);
      count = count_more names rs es n is f stands c.loop-name.written c.shapes_in.result c.saturating_add-written.result (written_out names c.args.text.now) c.shapes_in.ensures c.saturating_add-written.ensures held.count;
    }

pub returns-clause-known : goal.returns-clause-known
returns-clause-known c = λ n one.
    let held = c.loop-name.invariant in
    let whole : references c.args.text.now ≡ held.front = held.parts ∙ ap (λ (ns : List (List ℕ)). held.front ++ ns) c.in_default.ensures.none ∙ append-nil held.front in
    held.known n (subst (IsOneOf n) whole one)

pub returns-clause-count : goal.returns-clause-count
returns-clause-count c =
    let held = c.loop-name.invariant in
    let none : count_named c.args.names.now (references (drop c.loop-name.from c.args.text.now)) ≡ 0 = ap (count_named c.args.names.now) c.in_default.ensures.none in
    omega (arith, held.count, held.fits, none)
