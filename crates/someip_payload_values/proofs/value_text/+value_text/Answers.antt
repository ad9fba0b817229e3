use Rattle.std.proofs.Common.{rules, ◌≡◌, ◌∙◌, ◌++◌, sym, ap, [], refl, option_map, None, Some, append_assoc, string_bytes, codes}
use Rattle.std.specs.Fmt.{decimal}
use Rattle.std.proofs.Output.{has_written_append, has_written_of_eq}
use Rattle.someip_payload_values.specs.declared.value.Value.{the_lemmas as value_lemmas}
use Rattle.someip_payload_values.specs.View.{form, data_of, data_of_all, slots_of}
use Rattle.someip_payload_values.specs.Data.{truth, uint, int, real, phrase, list, tuple, nothing, chosen, slotted}
use Rattle.someip_payload_values.specs.Floats.{single, double}
use Rattle.someip_payload_values.specs.ValueText.{or_bool, data_text}
use Rattle.someip_payload_values.proofs.Shapes.{data_of-Bool, data_of-Uint, data_of-Int, data_of-F32, data_of-F64, data_of-Text, data_of-List, data_of-Struct, data_of-Tagged}
use Rattle.someip_payload_values.proofs.ValueTexts.{elements_first, element_next, elements_done, members_first, member_next, members_done, slots_first, slot_next, slots_done}
use Rattle.someip_payload_values.proofs.ToldTexts.{says_truth, says_uint, says_int, says_real, says_phrase, says_nothing, says_list, says_tuple, says_chosen, says_slotted}
use Rattle.someip_payload_values.proofs.value_text.+value_text.Goals as goal
use Rattle.someip_payload_values.proofs.value_text.+value_text.Goals.{write_slots-in-None+in_ok-write_str-in-None as absent, write_slots-in-Some+in_ok-write_some-in-Some as present}

-- ---- elements, members and those of tagged structures

pub write_elements-loop-i-init : goal.write_elements-loop-i-init
write_elements-loop-i-init g t c = λ plain. ([], elements_first (or_bool (option_map (λ s. form s.now) c.args.element)) c.args.values.now, search rules)

pub write_elements-loop-i-preserved : goal.write_elements-loop-i-preserved
write_elements-loop-i-preserved g t c = λ plain.
    let before = c.loop-i.invariant plain in
    let comma = c.in_ok-write_comma.ensures before.2.plain refl in
    let value = c.in_ok-write_some.ensures comma.plain refl in (
      _,
      element_next (or_bool (option_map (λ s. form s.now) c.args.element)) c.args.values.now c.loop-i.i before.0 c.index-values-i.result value.1.0 c.loop-i-test.true c.index-values-i.is value.1.1 before.1,
      has_written_append _ _ _ _ _ _ before.2 (has_written_append _ _ _ _ _ _ comma (has_written_of_eq _ _ _ _ _ value.1.2 value.2)),
    )

pub write_elements-returns : goal.write_elements-returns
write_elements-returns g t c = λ plain done.
    let before = c.loop-i.invariant plain in
    (before.0, elements_done (or_bool (option_map (λ s. form s.now) c.args.element)) c.args.values.now c.loop-i.i before.0 c.loop-i-test.false before.1, before.2)

pub write_members-loop-i-init : goal.write_members-loop-i-init
write_members-loop-i-init g t c = λ plain. ([], members_first c.args.shapes.now c.args.values.now, search rules)

pub write_members-loop-i-preserved : goal.write_members-loop-i-preserved
write_members-loop-i-preserved g t c = λ plain.
    let before = c.loop-i.invariant plain in
    let e = c.member_at-shape.ensures in
    let comma = c.in_ok-write_comma.ensures before.2.plain refl in
    let name = rw e at (c.in_ok-write_name.ensures comma.plain refl) in
    let value = rw e at (c.in_ok-write_some.ensures name.plain refl) in (
      _,
      member_next c.args.shapes.now c.args.values.now c.loop-i.i before.0 c.index-values-i.result value.1.0 c.loop-i-test.true c.index-values-i.is value.1.1 before.1,
      has_written_append _ _ _ _ _ _ before.2 (has_written_append _ _ _ _ _ _ comma (has_written_append _ _ _ _ _ _ name (has_written_of_eq _ _ _ _ _ value.1.2 value.2))),
    )

pub write_members-returns : goal.write_members-returns
write_members-returns g t c = λ plain done.
    let before = c.loop-i.invariant plain in
    (before.0, members_done c.args.shapes.now c.args.values.now c.loop-i.i before.0 c.loop-i-test.false before.1, before.2)

pub write_slots-loop-i-init : goal.write_slots-loop-i-init
write_slots-loop-i-init g t c = λ plain. ([], slots_first c.args.members.now c.args.slots.now, search rules)

pub write_slots-loop-i-preserved : goal.write_slots-loop-i-preserved
write_slots-loop-i-preserved g t c = λ plain.
    let before = c.loop-i.invariant plain in
    let e = c.tagged_at-shape.ensures in
    let comma = c.in_ok-write_comma.ensures before.2.plain refl in
    let name = rw e at (c.in_ok-write_name.ensures comma.plain refl) in
    elim c.match-slots-i.branch [
      | absent w ↦
          rw w.f-is (
            _,
            slot_next c.args.members.now c.args.slots.now c.loop-i.i before.0 c.index-slots-i.result None c.loop-i-test.true c.index-slots-i.is (rw w.in-None.is tt) before.1,
            has_written_append _ _ _ _ _ _ before.2 (has_written_append _ _ _ _ _ _ comma (has_written_append _ _ _ _ _ _ name (w.in_ok-write_str-in-None.ensures.writes name.plain refl))),
          )
      | present w ↦
          let value = rw e at (w.in_ok-write_some-in-Some.ensures name.plain refl) in
          rw w.f-is (
            _,
            slot_next c.args.members.now c.args.slots.now c.loop-i.i before.0 c.index-slots-i.result (Some value.1.0) c.loop-i-test.true c.index-slots-i.is (rw w.in-Some.is value.1.1) before.1,
            has_written_append _ _ _ _ _ _ before.2
                (has_written_append _ _ _ _ _ _ comma (has_written_append _ _ _ _ _ _ name (has_written_of_eq _ _ _ _ _ value.1.2 value.2))),
          )
    ]

pub write_slots-returns : goal.write_slots-returns
write_slots-returns g t c = λ plain done.
    let before = c.loop-i.invariant plain in
    (before.0, slots_done c.args.members.now c.args.slots.now c.loop-i.i before.0 c.loop-i-test.false before.1, before.2)

-- ---- between brackets, and after a number

pub write_list-returns : goal.write_list-returns
write_list-returns g t c = λ plain done.
    let open_ = c.in_ok-write_str.ensures.writes plain refl in
    let inner = c.in_ok-write_elements.ensures open_.plain refl in
    let close = c.write_str-2.ensures.writes inner.2.plain done in
    (_, (inner.0, inner.1, refl), has_written_append _ _ _ _ _ _ open_ (has_written_append _ _ _ _ _ _ inner.2 close))

pub write_struct-returns : goal.write_struct-returns
write_struct-returns g t c = λ plain done.
    let open_ = c.in_ok-write_str.ensures.writes plain refl in
    let inner = c.in_ok-write_members.ensures open_.plain refl in
    let close = c.write_str-2.ensures.writes inner.2.plain done in
    (_, (inner.0, inner.1, refl), has_written_append _ _ _ _ _ _ open_ (has_written_append _ _ _ _ _ _ inner.2 close))

pub write_tagged-returns : goal.write_tagged-returns
write_tagged-returns g t c = λ plain done.
    let open_ = c.in_ok-write_str.ensures.writes plain refl in
    let inner = c.in_ok-write_slots.ensures open_.plain refl in
    let close = c.write_str-2.ensures.writes inner.2.plain done in
    (_, (inner.0, inner.1, refl), has_written_append _ _ _ _ _ _ open_ (has_written_append _ _ _ _ _ _ inner.2 close))

pub write_choice-returns : goal.write_choice-returns
write_choice-returns g t c = λ plain done.
    let number = c.in_ok-write_str.ensures.writes plain refl in
    let colon = c.in_ok-write_str-2.ensures.writes number.plain refl in
    let inner = c.write_some.ensures colon.plain done in (
      _,
      (inner.0, rw c.variant_of.ensures at inner.1, refl),
      has_written_append _ _ _ _ _ _ (has_written_of_eq _ _ _ _ _ c.format.ensures.text number) (has_written_append _ _ _ _ _ _ colon inner.2),
    )

-- ---- a value

pub write_value-returns-in-Bool : goal.write_value-returns-in-Bool
write_value-returns-in-Bool g t c =
    let x = c.in-Bool in
    let d : data_of c.args.value.now ≡ truth x.truth = ap data_of x.is ∙ data_of-Bool x.truth in
    rw d (λ plain done. (_, says_truth (form c.args.shape.now) x.truth, c.write_truth.ensures plain done))

pub write_value-returns-in-Uint : goal.write_value-returns-in-Uint
write_value-returns-in-Uint g t c =
    let x = c.in-Uint in
    let d : data_of c.args.value.now ≡ uint x.number = ap data_of x.is ∙ data_of-Uint x.number in
    rw d (λ plain done. (_, says_uint (form c.args.shape.now) x.number, c.write_unsigned.ensures plain done))

pub write_value-returns-in-Int : goal.write_value-returns-in-Int
write_value-returns-in-Int g t c =
    let x = c.in-Int in
    let d : data_of c.args.value.now ≡ int x.number = ap data_of x.is ∙ data_of-Int x.number in
    rw d (λ plain done. (_, says_int (form c.args.shape.now) x.number, search rules))

pub write_value-returns-in-F32 : goal.write_value-returns-in-F32
write_value-returns-in-F32 g t c =
    let x = c.in-F32 in
    let d : data_of c.args.value.now ≡ real single x.bits = ap data_of x.is ∙ data_of-F32 x.bits in
    rw d (λ plain done. let y = c.write_single.ensures plain done in (y.0, says_real (form c.args.shape.now) single x.bits y.0 y.1, y.2))

pub write_value-returns-in-F64 : goal.write_value-returns-in-F64
write_value-returns-in-F64 g t c =
    let x = c.in-F64 in
    let d : data_of c.args.value.now ≡ real double x.bits = ap data_of x.is ∙ data_of-F64 x.bits in
    rw d (λ plain done. let y = c.write_double.ensures plain done in (y.0, says_real (form c.args.shape.now) double x.bits y.0 y.1, y.2))

pub write_value-returns-in-Text : goal.write_value-returns-in-Text
write_value-returns-in-Text g t c =
    let x = c.in-Text in
    let d : data_of c.args.value.now ≡ phrase (string_bytes x.text) = ap data_of x.is ∙ data_of-Text x.text in
    rw d (λ plain done. (_, says_phrase (form c.args.shape.now) (string_bytes x.text), search rules))

pub write_value-returns-in-List : goal.write_value-returns-in-List
write_value-returns-in-List g t c =
    let x = c.in-List in
    let d : data_of c.args.value.now ≡ list (data_of_all x.values.items) = ap data_of x.is ∙ data_of-List x.values in
    rw d (λ plain done.
    let y = rw (c.element_in.ensures, c.deref.ensures.value) at (c.write_list.ensures plain done) in
    (y.0, says_list (form c.args.shape.now) (data_of_all x.values.items) y.0 y.1, y.2))

pub write_value-returns-in-Struct : goal.write_value-returns-in-Struct
write_value-returns-in-Struct g t c =
    let x = c.in-Struct in
    let d : data_of c.args.value.now ≡ tuple (data_of_all x.values.items) = ap data_of x.is ∙ data_of-Struct x.values in
    rw d (λ plain done.
    let y = rw (c.members_in.ensures, c.deref-in-Struct.ensures.value) at (c.write_struct.ensures plain done) in
    (y.0, says_tuple (form c.args.shape.now) (data_of_all x.values.items) y.0 y.1, y.2))

pub write_value-returns-in-Tagged : goal.write_value-returns-in-Tagged
write_value-returns-in-Tagged g t c =
    let x = c.in-Tagged in
    let d : data_of c.args.value.now ≡ slotted (slots_of x.slots.items) = ap data_of x.is ∙ data_of-Tagged x.slots in
    rw d (λ plain done.
    let y = rw (c.tagged_in.ensures, c.deref-in-Tagged.ensures.value) at (c.write_tagged.ensures plain done) in
    (y.0, says_slotted (form c.args.shape.now) (slots_of x.slots.items) y.0 y.1, y.2))

pub write_value-returns-in-Union-None : goal.write_value-returns-in-Union-None
write_value-returns-in-Union-None g t c =
    let d : data_of c.args.value.now ≡ nothing = search (rules, value_lemmas) in
    rw d (λ plain done. (_, says_nothing (form c.args.shape.now), c.write_str.ensures.writes plain done))

pub write_value-returns-in-Union-Some : goal.write_value-returns-in-Union-Some
write_value-returns-in-Union-Some g t c =
    let x = c.in-Union-Some in
    let d : data_of c.args.value.now ≡ chosen x.kind (data_of x.value.value) = search (rules, value_lemmas) in
    rw d (λ plain done.
    let y = rw (c.variants_in.ensures, c.deref-in-Union-Some.ensures) at (c.write_choice.ensures plain done) in
    (y.0, says_chosen (form c.args.shape.now) x.kind (data_of x.value.value) y.0 y.1, y.2))
