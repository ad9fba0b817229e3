use Rattle.std.proofs.Common.{◌≡◌, None, rules, arith}
use Rattle.std.proofs.lemmas.Grind.{common_steps}
use Rattle.someipctl_show.specs.Payload.{argument_bytes}
use Rattle.someipctl_show.proofs.BlankLemmas.{unparted_says_none, bad_shape_says_none, bad_hex_says_none}
use Rattle.someipctl_show.proofs.vector_lines.payload_arguments.Goals as goal

pub returns-in_default-clause-bad : goal.returns-in_default-clause-bad
returns-in_default-clause-bad c bad shape bytes shallow says =
    unparted_says_none c.args.arguments.now shape bytes (c.in_default.ensures.byte (omega arith) (λ w o found. found)) says

pub returns-in_err-shape-clause-bad : goal.returns-in_err-shape-clause-bad
returns-in_err-shape-clause-bad c bad =
    let parts = c.in-Some.ensures.byte (omega arith) (λ w o found. found) in
    bad_shape_says_none c.args.arguments.now c.in-Some.shape.now c.in-Some.hex.now c.in_err-shape.field-0.0 parts.0 parts.1 (search rules) c.in_err-shape.ensures.only

pub returns-in_err-bytes-clause-bad : goal.returns-in_err-bytes-clause-bad
returns-in_err-bytes-clause-bad c bad shape bytes shallow says =
    let parts = c.in-Some.ensures.byte (omega arith) (λ w o found. found) in
    let none : argument_bytes c.in-Some.hex.now ≡ None = c.in_err-bytes.ensures.bad (search rules) in
    bad_hex_says_none c.args.arguments.now c.in-Some.shape.now c.in-Some.hex.now parts.0 parts.1 none shape bytes says

pub returns-clause-found : goal.returns-clause-found
returns-clause-found c =
    (c.in-Some.shape.now, c.in-Some.hex.now, grind (arith, common_steps), c.in_ok-shape.ensures.found, c.in_ok-bytes.ensures.found)
