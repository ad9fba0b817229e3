use Rattle.std.proofs.Common.{◌≡◌, ℕ, ◌+◌, List, Option, Ok, Err, length, arith, rules, refl, ap, ap₂, option_map, string_bytes}
use Rattle.someip_payload_values.specs.View.{data_of, form}
use Rattle.someip_payload_codec.specs.Reading.{decoded}
use Rattle.someipctl_show.specs.types.ValueFields.{fault_fields, read_fields}
use Rattle.someipctl_show.specs.types.Views.{typed_view}
use Rattle.someipctl_show.proofs.about_types.PlaceLemmas.{fault_within}
use Rattle.someipctl_show.proofs.about_types.ValueFieldLemmas.{read-written}
use Rattle.someipctl_show.proofs.types.value_fields.put_payload_fields.Goals as goal

pub overflow_add-place-in-Err : goal.overflow_add-place-in-Err
overflow_add-place-in-Err c =
    let within = fault_within (form c.args.table.now.shape) c.args.payload.now c.in-Err.fault c.in-Err.ensures.fault in
    omega (arith, within, c.place.ensures)

pub returns-in_ok-out-in-Ok-3-clause-fields : goal.returns-in_ok-out-in-Ok-3-clause-fields
returns-in_ok-out-in-Ok-3-clause-fields c =
    let f = form c.args.table.now.shape in
    let all = length c.args.payload.now in
    let said = c.in_ok-out-in-Ok-2.ensures in
    let name = option_map (λ n. string_bytes n.now) c.as_ref.result in
    let named : name ≡ (typed_view c.args.table.now).name = search rules in
    let exact : decoded f c.args.payload.now ≡ Ok (data_of c.in-Ok.value, c.in-Ok.used) = search rules in (
      read_fields name f said.0 c.in-Ok.used all,
      rw exact (said.0, said.1, ap (λ (n : Option (List ℕ)). read_fields n f said.0 c.in-Ok.used all) named),
      read-written c.args.out.items c.in_ok-out-in-Ok.out.items c.in_ok-out-in-Ok-2.out.items c.in_ok-out-in-Ok-3.out.items name f said.0 c.in-Ok.used all c.in_ok-out-in-Ok.ensures said.2 c.in_ok-out-in-Ok-3.ensures,
    )

pub returns-in_ok-out-in-Err : goal.returns-in_ok-out-in-Err
returns-in_ok-out-in-Err c =
    let exact : decoded (form c.args.table.now.shape) c.args.payload.now ≡ Err c.in-Err.fault = search rules in
    record {
      fields = (
        fault_fields c.name.result.now (c.args.place + 16 + c.place.result),
        rw exact (ap₂ (λ (n : List ℕ) (p : ℕ). fault_fields n (c.args.place + 16 + p)) c.name.ensures c.place.ensures),
        c.in_ok-out-in-Err.ensures,
      );
      faulty = rw exact refl;
    }
