use Rattle.std.proofs.Common.{◌+◌, ◌<◌, arith}
use Rattle.someip_payload.proofs.ReferenceTexts.{reference_found, found_stands}
use Rattle.someip_payload.proofs.references.reference_at.Goals as goal

pub returns-clause-found : goal.returns-clause-found
returns-clause-found c =
    let end = c.name_end-end in
    let some : c.args.at + 1 < end.result = grind (arith, end.ensures.end.0, c.if-end-first.false) in
    let stands = found_stands c.args.names.now c.get.result c.in-Some.shape c.name_str.result.now _ c.get.ensures c.in-Some.is c.name_str.ensures in
    reference_found c.args.names.now c.args.text.now c.args.at end.result _ _ c.requires.0 c.requires.1 some (end.ensures.found some) stands c.in_ok-copy_shape.ensures
