use Rattle.std.proofs.Common.{◌≡◌, ◌++◌, true, is_ok, Result, Ok, Err, OnOk, refl, ap, ◌∙◌, string_bytes}
use Rattle.std.proofs.lemmas.Fmt.{contents_after_writes}
use Rattle.someip_payload_values.proofs.value_text.with_value.Goals as goal

on_ok : {X Y : Type 0} (r : Result X Y) (P : Type 0) → (is_ok r ≡ true → P) → OnOk r P
on_ok (Ok x) P holds = holds refl
on_ok (Err y) P holds = tt

pub returns : goal.returns
returns c = on_ok c.write_value-written.result _ (λ done.
    let x = c.write_value-written.ensures c.new-f.ensures.plain done in (
      x.0,
      x.1,
      ap string_bytes c.into_inner.ensures ∙ contents_after_writes _ string_bytes (λ w l v t. t) _ x.0 _ x.2.wrote ∙ ap (λ s. string_bytes s ++ x.0) c.new-f.ensures.writer,
    ))
