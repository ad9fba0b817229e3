use Rattle.std.proofs.Common.{rules, ◌≡◌, ◌∙◌, ◌++◌, ap, [], ◌∷◌, refl, option_map, None, Some, string_bytes}
use Rattle.std.proofs.lemmas.Result.{on_ok_weaker}
use Rattle.json.specs.Token.{Token}
use Rattle.json.specs.Tree.{json_tokens}
use Rattle.someipctl_io.specs.ValueObjects.{number_json}
use Rattle.someip_payload_values.specs.declared.value.Value.{the_lemmas as value_lemmas}
use Rattle.someip_payload_values.specs.View.{form, data_of, data_of_all, slots_of}
use Rattle.someip_payload_values.specs.Data.{truth, uint, int, real, phrase, list, tuple, nothing, chosen, slotted}
use Rattle.someip_payload_values.specs.Floats.{single, double}
use Rattle.someip_payload_values.specs.ValueText.{labels_in, or_bool}
use Rattle.someip_payload_values.proofs.Shapes.{data_of-Bool, data_of-Uint, data_of-Int, data_of-F32, data_of-F64, data_of-Text, data_of-List, data_of-Struct, data_of-Tagged}
use Rattle.someipctl_show.proofs.about_types.ValueTokenLemmas.{adds_both, adds_by, adds_nil, on_ok_and, elements_first, element_next, elements_done, members_first, member_next, members_done, slots_first, slot_next, slots_done, says_truth, says_uint, says_int, says_real, says_phrase, says_nothing, says_list, says_tuple, says_chosen, says_slotted}
use Rattle.someipctl_show.proofs.types.value_object.+value_object.Goals as goal
use Rattle.someipctl_show.proofs.types.value_object.+value_object.Goals.{put_slots-in-None+in_ok-null-in-None as absent, put_slots-in-Some+in_ok-put_some-in-Some as present}

-- ---- elements, members and those of tagged structures

pub put_elements-loop-i-init : goal.put_elements-loop-i-init
put_elements-loop-i-init t c = ([], elements_first (or_bool (option_map (λ s. form s.now) c.args.element)) c.args.values.now, adds_nil _)

pub put_elements-loop-i-preserved : goal.put_elements-loop-i-preserved
put_elements-loop-i-preserved t c =
    let before = c.loop-i.invariant in
    let value = c.in_ok-put_some.ensures in (
      before.0 ++ value.0,
      element_next (or_bool (option_map (λ s. form s.now) c.args.element)) c.args.values.now c.loop-i.i before.0 c.index-values-i.result value.0 c.loop-i-test.true c.index-values-i.is value.1 before.1,
      adds_both _ _ _ _ _ before.2 value.2,
    )

pub put_elements-returns : goal.put_elements-returns
put_elements-returns t c =
    let before = c.loop-i.invariant in
    (before.0, elements_done (or_bool (option_map (λ s. form s.now) c.args.element)) c.args.values.now c.loop-i.i before.0 c.loop-i-test.false before.1, before.2)

pub put_members-loop-i-init : goal.put_members-loop-i-init
put_members-loop-i-init t c = ([], members_first c.args.named c.args.shapes.now c.args.values.now, adds_nil _)

pub put_members-loop-i-preserved : goal.put_members-loop-i-preserved
put_members-loop-i-preserved t c =
    let before = c.loop-i.invariant in
    let key = adds_by c.loop-i.out c.put_key.new.out _ c.in_ok-put_key.ensures.before (rw c.member_at-shape.ensures at c.in_ok-put_key.ensures.tokens) in
    let value = rw c.member_at-shape.ensures at c.in_ok-put_some.ensures in (
      _,
      member_next c.args.named c.args.shapes.now c.args.values.now c.loop-i.i before.0 c.index-values-i.result value.0 c.loop-i-test.true c.index-values-i.is value.1 before.1,
      adds_both _ _ _ _ _ before.2 (adds_both _ _ _ _ _ key value.2),
    )

pub put_members-returns : goal.put_members-returns
put_members-returns t c =
    let before = c.loop-i.invariant in
    (before.0, members_done c.args.named c.args.shapes.now c.args.values.now c.loop-i.i before.0 c.loop-i-test.false before.1, before.2)

pub put_slots-loop-i-init : goal.put_slots-loop-i-init
put_slots-loop-i-init t c = ([], slots_first c.args.named c.args.members.now c.args.slots.now, adds_nil _)

pub put_slots-loop-i-preserved : goal.put_slots-loop-i-preserved
put_slots-loop-i-preserved t c =
    let before = c.loop-i.invariant in
    let e = c.tagged_at-shape.ensures in
    let key = adds_by c.loop-i.out c.put_key.new.out _ c.in_ok-put_key.ensures.before (rw e at c.in_ok-put_key.ensures.tokens) in
    elim c.match-slots-i.branch [
      | absent w ↦
          rw w.out-is (
            _,
            slot_next c.args.named c.args.members.now c.args.slots.now c.loop-i.i before.0 c.index-slots-i.result None (Token.null ∷ []) c.loop-i-test.true c.index-slots-i.is (rw w.in-None.is tt) refl before.1,
            adds_both _ _ _ _ _ before.2 (adds_both _ _ _ _ _ key (record { before = w.in_ok-null-in-None.ensures.room.0; tokens = w.in_ok-null-in-None.ensures.ok })),
          )
      | present w ↦
          let value = rw e at w.in_ok-put_some-in-Some.ensures in
          rw w.out-is (
            _,
            slot_next c.args.named c.args.members.now c.args.slots.now c.loop-i.i before.0 c.index-slots-i.result (Some value.1.0) value.0 c.loop-i-test.true c.index-slots-i.is (rw w.in-Some.is value.1.1) value.1.2 before.1,
            adds_both _ _ _ _ _ before.2 (adds_both _ _ _ _ _ key value.2),
          )
    ]

pub put_slots-returns : goal.put_slots-returns
put_slots-returns t c =
    let before = c.loop-i.invariant in
    (before.0, slots_done c.args.named c.args.members.now c.args.slots.now c.loop-i.i before.0 c.loop-i-test.false before.1, before.2)

-- ---- between brackets, and after a number

pub put_list-returns : goal.put_list-returns
put_list-returns t c =
    let begin = c.in_ok-begin_array.ensures in
    let inner = c.in_ok-put_elements.ensures in
    on_ok_weaker c.end_array.result
    (λ is. (
      Token.begin_array ∷ (inner.0 ++ Token.end_array ∷ []),
      (inner.0, inner.1, refl),
      adds_both _ _ _ (Token.begin_array ∷ []) _ (record { before = begin.room.0; tokens = begin.ok }) (adds_both _ _ _ _ _ inner.2 (record { before = c.end_array.ensures.room.0; tokens = is })),
    ))
    c.end_array.ensures.ok

pub put_struct-returns : goal.put_struct-returns
put_struct-returns t c =
    let named = c.are_named-named.ensures in
    let inner = c.in_ok-put_members.ensures in
    let begin = adds_by _ c.put_begin.new.out _ c.in_ok-put_begin.ensures.before c.in_ok-put_begin.ensures.tokens in
    rw (← named)
    (on_ok_and c.put_end.result
    (λ before tokens. (_, (inner.0, inner.1, refl), adds_both _ _ _ _ _ begin (adds_both _ _ _ _ _ inner.2 (adds_by _ c.put_end.new.out _ before tokens))))
    c.put_end.ensures.before c.put_end.ensures.tokens)

pub put_tagged-returns : goal.put_tagged-returns
put_tagged-returns t c =
    let named = c.are_members_named-named.ensures in
    let inner = c.in_ok-put_slots.ensures in
    let begin = adds_by _ c.put_begin.new.out _ c.in_ok-put_begin.ensures.before c.in_ok-put_begin.ensures.tokens in
    rw (← named)
    (on_ok_and c.put_end.result
    (λ before tokens. (_, (inner.0, inner.1, refl), adds_both _ _ _ _ _ begin (adds_both _ _ _ _ _ inner.2 (adds_by _ c.put_end.new.out _ before tokens))))
    c.put_end.ensures.before c.put_end.ensures.tokens)

pub put_choice-returns : goal.put_choice-returns
put_choice-returns t c =
    let inner = rw c.variant_of.ensures at c.in_ok-put_some.ensures in
    let begin = adds_by _ c.put_kind.new.out _ c.in_ok-put_kind.ensures.before c.in_ok-put_kind.ensures.tokens in
    on_ok_weaker c.end_object.result
    (λ is. (_, (inner.0, inner.1, refl), adds_both _ _ _ _ _ begin (adds_both _ _ _ _ _ inner.2 (record { before = c.end_object.ensures.room.0; tokens = is })))) c.end_object.ensures.ok

-- ---- a value

pub put_value-returns-in-Bool : goal.put_value-returns-in-Bool
put_value-returns-in-Bool t c =
    let x = c.in-Bool in
    let d : data_of c.args.value.now ≡ truth x.truth = ap data_of x.is ∙ data_of-Bool x.truth in
    rw d (on_ok_weaker c.boolean.result (λ is. (_, says_truth (form c.args.shape.now) x.truth, record { before = c.boolean.ensures.room.0; tokens = is })) c.boolean.ensures.ok)

pub put_value-returns-in-Uint : goal.put_value-returns-in-Uint
put_value-returns-in-Uint t c =
    let x = c.in-Uint in
    let d : data_of c.args.value.now ≡ uint x.number = ap data_of x.is ∙ data_of-Uint x.number in
    rw d (on_ok_and c.put_unsigned.result (λ before tokens. (_, says_uint (form c.args.shape.now) x.number, adds_by _ c.put_unsigned.new.out _ before tokens)) c.put_unsigned.ensures.before c.put_unsigned.ensures.tokens)

pub put_value-returns-in-Int : goal.put_value-returns-in-Int
put_value-returns-in-Int t c =
    let x = c.in-Int in
    let d : data_of c.args.value.now ≡ int x.number = ap data_of x.is ∙ data_of-Int x.number in
    rw d (on_ok_and c.put_signed.result (λ before tokens. (_, says_int (form c.args.shape.now) x.number, adds_by c.args.out.now c.put_signed.new.out (json_tokens (number_json (labels_in (form c.args.shape.now)) x.number)) before tokens)) c.put_signed.ensures.before (search rules))

pub put_value-returns-in-F32 : goal.put_value-returns-in-F32
put_value-returns-in-F32 t c =
    let x = c.in-F32 in
    let d : data_of c.args.value.now ≡ real single x.field-0 = ap data_of x.is ∙ data_of-F32 x.field-0 in
    rw d (on_ok_weaker c.put_float.result (λ y. (y.0, says_real (form c.args.shape.now) single x.field-0 y.0 y.1, y.2)) (rw d at c.put_float.ensures))

pub put_value-returns-in-F64 : goal.put_value-returns-in-F64
put_value-returns-in-F64 t c =
    let x = c.in-F64 in
    let d : data_of c.args.value.now ≡ real double x.field-0 = ap data_of x.is ∙ data_of-F64 x.field-0 in
    rw d (on_ok_weaker c.put_float-in-F64.result (λ y. (y.0, says_real (form c.args.shape.now) double x.field-0 y.0 y.1, y.2)) (rw d at c.put_float-in-F64.ensures))

pub put_value-returns-in-Text : goal.put_value-returns-in-Text
put_value-returns-in-Text t c =
    let x = c.in-Text in
    let d : data_of c.args.value.now ≡ phrase (string_bytes x.said) = ap data_of x.is ∙ data_of-Text x.said in
    rw d (on_ok_weaker c.string.result (λ is. (_, says_phrase (form c.args.shape.now) (string_bytes x.said), adds_by c.args.out.now c.string.new.self (Token.string (string_bytes x.said) ∷ []) c.string.ensures.room.0 is)) (search rules))

pub put_value-returns-in-List : goal.put_value-returns-in-List
put_value-returns-in-List t c =
    let x = c.in-List in
    let d : data_of c.args.value.now ≡ list (data_of_all x.values.items) = ap data_of x.is ∙ data_of-List x.values in
    rw d (on_ok_weaker c.put_list.result (λ y. (y.0, says_list (form c.args.shape.now) (data_of_all x.values.items) y.0 y.1, y.2)) (rw (c.element_in.ensures, c.deref-in-List.ensures.value) at c.put_list.ensures))

pub put_value-returns-in-Struct : goal.put_value-returns-in-Struct
put_value-returns-in-Struct t c =
    let x = c.in-Struct in
    let d : data_of c.args.value.now ≡ tuple (data_of_all x.values.items) = ap data_of x.is ∙ data_of-Struct x.values in
    rw d (on_ok_weaker c.put_struct.result (λ y. (y.0, says_tuple (form c.args.shape.now) (data_of_all x.values.items) y.0 y.1, y.2)) (rw (c.members_in.ensures, c.deref-in-Struct.ensures.value) at c.put_struct.ensures))

pub put_value-returns-in-Tagged : goal.put_value-returns-in-Tagged
put_value-returns-in-Tagged t c =
    let x = c.in-Tagged in
    let d : data_of c.args.value.now ≡ slotted (slots_of x.slots.items) = ap data_of x.is ∙ data_of-Tagged x.slots in
    rw d (on_ok_weaker c.put_tagged.result (λ y. (y.0, says_slotted (form c.args.shape.now) (slots_of x.slots.items) y.0 y.1, y.2)) (rw (c.tagged_in.ensures, c.deref-in-Tagged.ensures.value) at c.put_tagged.ensures))

pub put_value-returns-in-Union-None : goal.put_value-returns-in-Union-None
put_value-returns-in-Union-None t c =
    let d : data_of c.args.value.now ≡ nothing = search (rules, value_lemmas) in
    rw d (on_ok_weaker c.null.result (λ is. (_, says_nothing (form c.args.shape.now), record { before = c.null.ensures.room.0; tokens = is })) c.null.ensures.ok)

pub put_value-returns-in-Union-Some : goal.put_value-returns-in-Union-Some
put_value-returns-in-Union-Some t c =
    let x = c.in-Union-Some in
    let d : data_of c.args.value.now ≡ chosen x.kind (data_of x.value.value) = search (rules, value_lemmas) in
    rw d (on_ok_weaker c.put_choice.result (λ y. (y.0, says_chosen (form c.args.shape.now) x.kind (data_of x.value.value) y.0 y.1, y.2)) (rw (c.variants_in.ensures, c.deref-in-Union-Some.ensures) at c.put_choice.ensures))
