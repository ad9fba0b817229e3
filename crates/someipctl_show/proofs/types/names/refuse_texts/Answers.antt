use Rattle.std.proofs.Common.{◌≡◌, ℕ, true, false, List, refl, sym, ap, ◌∙◌, string_bytes}
use Rattle.toml.specs.View.{members_view, view}
use Rattle.someip_payload_values.specs.Check.{is_name}
use Rattle.someipctl_show.specs.types.Names.{are_texts, first_bad}
use Rattle.someipctl_show.proofs.about_types.TextLemmas.{Entry, bad_later, bad_name, bad_text, none_copied, some_copied, texts_more}
use Rattle.someipctl_show.proofs.types.names.refuse_texts.Goals as goal

pub loop-name-init : goal.loop-name-init
loop-name-init c =
    let it : c.into_iter-name-iterator.result ≡ c.args.table.now.entries = c.into_iter-name-iterator.ensures.into_iter_gives ∙ c.iter-name-items.ensures.rest in
    record {
      good = λ h. ap (λ (x : List Entry). are_texts (members_view x)) (sym it) ∙ h;
      first = ap (λ (x : List Entry). first_bad (members_view x)) (sym it);
    }

pub loop-name-preserved : goal.loop-name-preserved
loop-name-preserved c =
    let held = c.loop-name.invariant in
    let steps = c.in-Some.ensures.steps in
    let e : Entry = (c.in-Some.name.now, c.in-Some.value.now) in
    let name : is_name (string_bytes e.0) ≡ true = ap (λ (n : List ℕ). is_name n) (sym c.as_bytes.ensures.value) ∙ sym c.if-not-is_name.ensures in
    let text = some_copied c.as_str-in-loop-name.result (view c.in-Some.value.now) c.as_str-in-loop-name.ensures c.if-is_none.ensures in
    record {
      good = texts_more c.loop-name.name-iterator c.next.new.self e _ steps name text held.good;
      first = held.first ∙ bad_later c.loop-name.name-iterator c.next.new.self e steps name text;
    }

pub returns-clause-ok : goal.returns-clause-ok
returns-clause-ok c = c.loop-name.invariant.good (ap (λ (x : List Entry). are_texts (members_view x)) c.in-None.ensures.steps.0)

pub returns-then-not-is_name-clause-err : goal.returns-then-not-is_name-clause-err
returns-then-not-is_name-clause-err c =
    let e : Entry = (c.in-Some.name.now, c.in-Some.value.now) in
    let bad : is_name (string_bytes e.0) ≡ false = ap (λ (n : List ℕ). is_name n) (sym c.as_bytes.ensures.value) ∙ sym c.if-not-is_name.ensures in
    rw (c.in_ok-name.ensures.ok, c.as_str.ensures.value) (view c.in-Some.value.now, c.loop-name.invariant.first ∙ bad_name c.loop-name.name-iterator c.next.new.self e c.in-Some.ensures.steps bad, bad)

pub returns-then-is_none-clause-err : goal.returns-then-is_none-clause-err
returns-then-is_none-clause-err c =
    let e : Entry = (c.in-Some.name.now, c.in-Some.value.now) in
    let name : is_name (string_bytes e.0) ≡ true = ap (λ (n : List ℕ). is_name n) (sym c.as_bytes.ensures.value) ∙ sym c.if-not-is_name.ensures in
    let text = none_copied c.as_str-in-loop-name.result _ c.as_str-in-loop-name.ensures c.if-is_none.ensures in
    (refl, rw (c.in_ok-name-2.ensures.ok, c.as_str-then-is_none.ensures.value) (view c.in-Some.value.now, c.loop-name.invariant.first ∙ bad_text c.loop-name.name-iterator c.next.new.self e c.in-Some.ensures.steps name text, name, text))
