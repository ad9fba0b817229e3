use Rattle.std.proofs.Common.{◌<◌, ◌≤◌, ◌+◌, string_bytes, Global, slice_range, arith}
use Rattle.someip_payload.proofs.Converse.{passed_on, memory_of}
use Rattle.someip_payload.proofs.NameBytes.{colon_behind}
use Rattle.someip_payload.proofs.Pieces.{slice_range-append}
use Rattle.someip_payload.proofs.names.name_at.Goals as goal

pub returns-clause-found : goal.returns-clause-found
returns-clause-found c =
    let end : c.name_end-end.result ≤ c.in_ok-name.behind = omega (arith, c.in_ok-name.ensures.end.0) in
    let some : c.args.at < c.name_end-end.result = grind (arith, c.name_end-end.ensures.end.0, c.if-end-at.false) in (
      rw (← slice_range-append c.args.text.now c.args.at c.name_end-end.result c.in_ok-name.behind c.name_end-end.ensures.end.0 end, c.in_ok-name.ensures.found, c.in_ok-name.ensures.colon),
      rw c.in_ok-name.ensures.found (c.name_end-end.ensures.found some),
    )

pub returns-in_err-name-clause-only : goal.returns-in_err-name-clause-only
returns-in_err-name-clause-only c = λ n rest is name stops.
    let ends = c.name_end-end.ensures in
    let there = colon_behind c.args.text.now c.args.at c.name_end-end.result c.if-end-at.false ends.only ends.none n rest is name stops in
    let memory = memory_of (string_bytes {Z = Global}) (slice_range c.args.text.now c.args.at c.name_end-end.result) (c.name_end-end.result + 1) c.in_err-name.field-0.0 (c.in_err-name.ensures.only there.0 there.1) in
    rw (passed_on _ _ c.from_residual.ensures.1, memory) tt
