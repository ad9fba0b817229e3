use Rattle.std.proofs.Common.{◌≡◌, ℕ, List, ◌++◌, take, drop, replicate, length, ap, ◌∙◌}
use Rattle.audit_traffic.specs.declared.calls.excerpt.Excerpt.{Excerpt}
use Rattle.audit_traffic.proofs.about_calls.ExcerptLemmas.{first_bytes}
use Rattle.audit_traffic.proofs.calls.excerpt.Excerpt.of.Goals as goal

pub returns : goal.returns
returns c =
    let payload = c.args.payload.now in
    let excerpt : List ℕ → Excerpt = λ bytes. record { size = length payload; first = bytes } in
    let front : c.copy_from_slice.new.self ≡ take c.min-few.result payload = c.copy_from_slice.ensures.after in
    ap excerpt
    (ap (λ bytes. bytes ++ drop c.min-few.result (replicate 64 0)) front
    ∙ ap (λ n. take n payload ++ drop n (replicate 64 0)) c.min-few.ensures ∙ first_bytes payload)
