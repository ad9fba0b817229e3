use Rattle.std.proofs.Common.{◌≡◌, [], ap, sym, ◌∙◌, rules}
use Rattle.std.specs.FinMap as finite
use Rattle.std.proofs.lemmas.Bool.{eqb-true}
use Rattle.std.proofs.lemmas.List.{nil_from_length}
use Rattle.someip_tables.specs.Retained.{retain}
use Rattle.someip_tables.specs.Tables.{map_of}
use Rattle.sd_core.specs.Keys.{instance_cmp}
use Rattle.someip_tables.proofs.Outcomes.{on_err}
use Rattle.sd_core.proofs.SeekLemmas.{want_is_due, has_ended, due_if_ended, ended_keys, find_is_due, due_if_find, find_keys, none_ends, none_finds, not_quiet}
use Rattle.sd_core.proofs.seeker.brought.Goals as goal

pub returns-then-is_empty-clause-ended : goal.returns-then-is_empty-clause-ended
returns-then-is_empty-clause-ended c =
    let none : c.args.due.now ≡ [] = nil_from_length _ (eqb-true _ _ (sym c.is_empty.ensures ∙ c.if-is_empty.true)) in
    c.new.ensures.items ∙ sym (none_ends c.args.now (map_of instance_cmp c.args.wants.now) (sym c.requires ∙ none))

pub returns-then-is_empty-clause-finds : goal.returns-then-is_empty-clause-finds
returns-then-is_empty-clause-finds c =
    let none : c.args.due.now ≡ [] = nil_from_length _ (eqb-true _ _ (sym c.is_empty.ensures ∙ c.if-is_empty.true)) in
    c.new-then-is_empty.ensures.items ∙ sym (none_finds c.args.now (map_of instance_cmp c.args.wants.now) (sym c.requires ∙ none))

pub returns-in_err-ended-clause-grows : goal.returns-in_err-ended-clause-grows
returns-in_err-ended-clause-grows c =
    on_err c.from_residual.result (not_quiet c.args.now (map_of instance_cmp c.args.wants.now) c.args.due.now c.requires (sym c.is_empty.ensures ∙ c.if-is_empty.false))

pub returns-in_err-finds-clause-grows : goal.returns-in_err-finds-clause-grows
returns-in_err-finds-clause-grows c =
    on_err _ (not_quiet c.args.now (map_of instance_cmp c.args.wants.now) c.args.due.now c.requires (sym c.is_empty.ensures ∙ c.if-is_empty.false))

pub returns-clause-ended : goal.returns-clause-ended
returns-clause-ended c =
    let due = ap (λ es. finite.keys (retain (map_of instance_cmp es) (want_is_due c.args.now))) c.held-held.ensures in
    let ended = ap (λ es. finite.keys (retain (map_of instance_cmp es) (has_ended c.args.now))) c.held-held.ensures in
    c.in_ok-ended.ensures (has_ended c.args.now) (want_is_due c.args.now) (λ key value answer said. search rules) (c.requires ∙ sym due) (due_if_ended c.args.now)
    ∙ ended ∙ ended_keys c.args.now (map_of instance_cmp c.args.wants.now)

pub returns-clause-finds : goal.returns-clause-finds
returns-clause-finds c =
    let due = ap (λ es. finite.keys (retain (map_of instance_cmp es) (want_is_due c.args.now))) c.held-held.ensures in
    let finds = ap (λ es. finite.keys (retain (map_of instance_cmp es) (find_is_due c.args.now))) c.held-held.ensures in
    c.in_ok-finds.ensures (find_is_due c.args.now) (want_is_due c.args.now) (λ key value answer said. search rules) (c.requires ∙ sym due) (due_if_find c.args.now)
    ∙ finds ∙ find_keys c.args.now (map_of instance_cmp c.args.wants.now)
