use Rattle.std.proofs.Common.{rules, ◌≡◌, ◌<◌, ◌≤◌, ◌++◌, ◌∷◌, [], length, map, Some, None, inl, inr, get_or, refl, ap, ◌∙◌, arith}
use Rattle.std.proofs.lemmas.Result.{err_from_is_err_and}
use Rattle.std.proofs.lemmas.List.{map_push}
use Rattle.someip_payload_values.proofs.Shapes.{form-Union, form-SizedUnion, data_of-Some}
use Rattle.someip_payload_values.specs.Check.{name_in}
use Rattle.someip_payload_values.specs.Data.{union}
use Rattle.someip_payload_values.specs.declared.shape.Width.TheVariants.{W32}
use Rattle.someip_payload_values.specs.declared.shape.Member.{out-Member}
use Rattle.someip_payload_values.specs.View.{form, all_variants, data_of, slot_of}
use Rattle.someip_payload.specs.ReadValues.{after, comma_at, skip_name, slot_in, chosen_in, value_in}
use Rattle.someip_payload.proofs.ValueLoops.{elements_go_on, elements_end, elements_cut, elements_fail, members_go_on, members_cut, members_done, slots_go_on, slots_fail, slots_cut, slots_done, fails_also}
use Rattle.someip_payload.proofs.value_reading.+read.Goals as goal

pub chosen-returns : goal.chosen-returns
unfolding chosen_in
chosen-returns t c =
    let e = data_of-Some c.args.kind c.in_ok-value-2.value in
    rw (e, c.in_ok-value-2.ensures.ok, c.in_ok-at.ensures, c.in_ok-value.ensures) refl

pub value-returns-in-Union : goal.value-returns-in-Union
unfolding value_in
value-returns-in-Union t c =
    elim c.in-Union.is [
      | inl is ↦
          let e : form c.args.shape.now ≡ union W32 W32 (all_variants c.in-Union.variants.items) = ap form is ∙ form-Union c.in-Union.variants in
          rw (e, ← c.deref-in-Union.ensures.value) c.union.ensures
      | inr own ↦
          let e : form c.args.shape.now ≡ union own.0 own.1 (all_variants c.in-Union.variants.items) = ap form own.2 ∙ form-SizedUnion own.0 own.1 c.in-Union.variants in
          rw (e, ← c.deref-in-Union.ensures.value) c.union.ensures
    ]

-- ---- elements

pub elements-returns-in_err-value : goal.elements-returns-in_err-value
elements-returns-in_err-value t c =
    let lt : c.loop.counter < length c.args.text.now = omega arith in
    let p = err_from_is_err_and c.from_residual.result c.from_residual.ensures.1 in
    let one = value_in (form c.args.element.now) in
    rw (p.1, p.2) (fails_also c.in_err-value.field-0.0 (one c.loop.left.now) _ (λ bad. elements_fail one (map data_of c.loop.values.items) (length c.args.text.now) c.loop.counter c.loop.left.now _ lt c.loop.invariant bad) c.in_err-value.ensures)

pub elements-returns-in-Some : goal.elements-returns-in-Some
elements-returns-in-Some t c =
    let lt : c.loop.counter < length c.args.text.now = omega arith in
    let bracket : after 93 c.in_ok-value.behind.now ≡ Some c.in-Some.rest.now = search rules in
    let e : map data_of c.push.new.self.items ≡ map data_of c.loop.values.items ++ data_of c.in_ok-value.value ∷ [] = rw c.in_ok-push.ensures.items (map_push data_of c.loop.values.items c.in_ok-value.value) in
    rw e (elements_end (value_in (form c.args.element.now)) (map data_of c.loop.values.items) (length c.args.text.now) c.loop.counter c.loop.left.now _ lt c.loop.invariant (data_of c.in_ok-value.value) c.in_ok-value.behind.now c.in-Some.rest.now c.in_ok-value.ensures bracket)

pub elements-returns-in_err-left : goal.elements-returns-in_err-left
elements-returns-in_err-left t c =
    let lt : c.loop.counter < length c.args.text.now = omega arith in
    let none : after 93 c.in_ok-value.behind.now ≡ None = search rules in
    let p = err_from_is_err_and c.from_residual-in_err-left.result c.from_residual-in_err-left.ensures.1 in
    rw (p.1, p.2) (fails_also c.in_err-left.field-0.0 (after 44 c.in_ok-value.behind.now) _
    (λ bad. elements_cut (value_in (form c.args.element.now)) (map data_of c.loop.values.items) (length c.args.text.now) c.loop.counter c.loop.left.now _ lt c.loop.invariant (data_of c.in_ok-value.value) c.in_ok-value.behind.now c.in_ok-value.ensures none bad) c.in_err-left.ensures)

pub elements-loop-preserved : goal.elements-loop-preserved
elements-loop-preserved t c =
    let lt : c.loop.counter < length c.args.text.now = omega arith in
    let none : after 93 c.in_ok-value.behind.now ≡ None = search rules in
    let e : map data_of c.push.new.self.items ≡ map data_of c.loop.values.items ++ data_of c.in_ok-value.value ∷ [] = rw c.in_ok-push.ensures.items (map_push data_of c.loop.values.items c.in_ok-value.value) in
    rw e (elements_go_on (value_in (form c.args.element.now)) (map data_of c.loop.values.items) (length c.args.text.now) c.loop.counter c.loop.left.now _ lt c.loop.invariant (data_of c.in_ok-value.value) c.in_ok-value.behind.now c.in_ok-left.left.now c.in_ok-value.ensures none c.in_ok-left.ensures)

-- ---- members

pub members-returns-in_err-at : goal.members-returns-in_err-at
members-returns-in_err-at t c =
    let lt : c.loop-i.i < length c.args.shapes.now = omega arith in
    let p = err_from_is_err_and c.from_residual.result c.from_residual.ensures.1 in
    rw (p.1, p.2) (fails_also c.in_err-at.field-0.0 (comma_at c.loop-i.i c.loop-i.left.now) _ (λ bad. members_cut (map data_of c.loop-i.values.items) c.args.shapes.now c.loop-i.i c.loop-i.left.now _ c.loop-i.invariant lt bad) c.in_err-at.ensures)

pub members-loop-i-preserved : goal.members-loop-i-preserved
members-loop-i-preserved t c =
    let lt : c.loop-i.i < length c.args.shapes.now = omega arith in
    let e : map data_of c.push.new.self.items ≡ map data_of c.loop-i.values.items ++ data_of c.in_ok-value.value ∷ [] = rw c.in_ok-push.ensures.items (map_push data_of c.loop-i.values.items c.in_ok-value.value) in
    rw e (members_go_on (map data_of c.loop-i.values.items) c.args.shapes.now c.loop-i.i c.loop-i.left.now _ c.loop-i.invariant c.index-shapes-i.result c.in_ok-at.at.now (data_of c.in_ok-value.value) c.in_ok-value.behind.now lt c.index-shapes-i.is c.in_ok-at.ensures c.in_ok-value.ensures)

pub members-returns : goal.members-returns
members-returns t c =
    let le : length c.args.shapes.now ≤ c.loop-i.i = omega arith in
    members_done (map data_of c.loop-i.values.items) c.args.shapes.now c.loop-i.i c.loop-i.left.now _ c.loop-i.invariant le

-- ---- members of a tagged structure

pub slots-returns-in_err-at : goal.slots-returns-in_err-at
slots-returns-in_err-at t c =
    let lt : c.loop-i.i < length c.args.members.now = omega arith in
    let p = err_from_is_err_and c.from_residual.result c.from_residual.ensures.1 in
    rw (p.1, p.2) (fails_also c.in_err-at.field-0.0 (comma_at c.loop-i.i c.loop-i.left.now) _ (λ bad. slots_cut (map slot_of c.loop-i.slots.items) c.args.members.now c.loop-i.i c.loop-i.left.now _ c.loop-i.invariant lt bad) c.in_err-at.ensures)

pub slots-returns-in_err-slot : goal.slots-returns-in_err-slot
slots-returns-in_err-slot t c =
    let lt : c.loop-i.i < length c.args.members.now = omega arith in
    let f = form (out-Member (get_or c.args.members.now c.loop-i.i c.index-members-i.result)).shape in
    let p = err_from_is_err_and c.from_residual-in_err-slot.result c.from_residual-in_err-slot.ensures.1 in
    rw (p.1, p.2) (fails_also c.in_err-slot.field-0.0 (slot_in (value_in f) (skip_name (name_in f) c.in_ok-at.at.now)) _
    (λ bad. slots_fail (map slot_of c.loop-i.slots.items) c.args.members.now c.loop-i.i c.loop-i.left.now _ c.loop-i.invariant c.index-members-i.result c.in_ok-at.at.now lt c.in_ok-at.ensures bad) c.in_err-slot.ensures)

pub slots-loop-i-preserved : goal.slots-loop-i-preserved
slots-loop-i-preserved t c =
    let lt : c.loop-i.i < length c.args.members.now = omega arith in
    let e : map slot_of c.push.new.self.items ≡ map slot_of c.loop-i.slots.items ++ slot_of c.in_ok-slot.slot ∷ [] = rw c.in_ok-push.ensures.items (map_push slot_of c.loop-i.slots.items c.in_ok-slot.slot) in
    rw e (slots_go_on (map slot_of c.loop-i.slots.items) c.args.members.now c.loop-i.i c.loop-i.left.now _ c.loop-i.invariant c.index-members-i.result c.in_ok-at.at.now (slot_of c.in_ok-slot.slot) c.in_ok-slot.behind.now lt c.in_ok-at.ensures c.in_ok-slot.ensures)

pub slots-returns : goal.slots-returns
slots-returns t c =
    let le : length c.args.members.now ≤ c.loop-i.i = omega arith in
    slots_done (map slot_of c.loop-i.slots.items) c.args.members.now c.loop-i.i c.loop-i.left.now _ c.loop-i.invariant le
