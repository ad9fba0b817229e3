use Rattle.std.proofs.Common.{map, refl, sym}
use Rattle.toml.specs.View.{view}
use Rattle.someipctl_rules.proofs.RefusalLemmas.{bad_list, found_bad, found_no_text, found_text, found_unknown, none_found}
use Rattle.someipctl_rules.proofs.treatments.refuse_kinds.Goals as goal

pub returns-in_default-clause-ok : goal.returns-in_default-clause-ok
returns-in_default-clause-ok c = none_found c.args.allowed.now (sym c.in_default.ensures)

pub returns-in_default-as_str-clause-err : goal.returns-in_default-as_str-clause-err
returns-in_default-as_str-clause-err c = (refl, found_no_text c.args.allowed.now c.in-Some.value.now (sym c.in-Some.ensures) (sym c.in_default-as_str.ensures))

pub returns-clause-err : goal.returns-clause-err
returns-clause-err c =
    rw c.in_ok-words.ensures.ok (
      found_unknown c.args.allowed.now c.in-Some.value.now c.in-Some-as_str.words.now (sym c.in-Some.ensures) (sym c.in-Some-as_str.ensures),
      found_text c.args.allowed.now c.in-Some.value.now c.in-Some-as_str.words.now (sym c.in-Some.ensures) (sym c.in-Some-as_str.ensures),
    )

pub returns-in_default-as_str-clause-unsaid : goal.returns-in_default-as_str-clause-unsaid
returns-in_default-as_str-clause-unsaid c = bad_list (map view c.args.allowed.now) (found_bad c.args.allowed.now c.in-Some.value.now (sym c.in-Some.ensures))

pub returns-clause-unsaid : goal.returns-clause-unsaid
returns-clause-unsaid c = bad_list (map view c.args.allowed.now) (found_bad c.args.allowed.now c.in-Some.value.now (sym c.in-Some.ensures))
