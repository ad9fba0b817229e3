use Rattle.std.proofs.Common.{◌≡◌, sym, ap, ◌∙◌, ◌++◌, [], unwrap_or, true}
use Rattle.std.specs.Option.{is_some}
use Rattle.someip_reassembly.specs.SegmentOffers.{message_at}
use Rattle.someip_reassembly.specs.Stores.{parts_of_entries}
use Rattle.someip_reassembly.proofs.StoreLemmas.{no_part_there, none_whole, message_there, nothing_appended, on_err_any}
use Rattle.someip_reassembly.proofs.partials.append_whole.Goals as goal

pub returns-in_default-clause-taken : goal.returns-in_default-clause-taken
returns-in_default-clause-taken c = sym (ap is_some (none_whole c.args.key.now (parts_of_entries c.args.partials.now) (no_part_there c.args.key.now c.args.partials.now c.in_default.ensures)))

pub returns-in_default-clause-bytes : goal.returns-in_default-clause-bytes
returns-in_default-clause-bytes c =
    nothing_appended c.args.bytes.now.items _ (ap is_some (none_whole c.args.key.now (parts_of_entries c.args.partials.now) (no_part_there c.args.key.now c.args.partials.now c.in_default.ensures)))

pub returns-in_ok-append_message-clause-taken : goal.returns-in_ok-append_message-clause-taken
returns-in_ok-append_message-clause-taken c =
    c.is_whole-whole.ensures ∙ sym (ap is_some (message_there c.args.key.now c.args.partials.now c.in-Some.i c.index-partials-i.result c.requires c.in-Some.ensures c.index-partials-i.is))

pub returns-in_ok-append_message-clause-bytes : goal.returns-in_ok-append_message-clause-bytes
returns-in_ok-append_message-clause-bytes c =
    c.in_ok-append_message.ensures.ok
    ∙ ap (λ m. c.args.bytes.now.items ++ unwrap_or m []) (sym (message_there c.args.key.now c.args.partials.now c.in-Some.i c.index-partials-i.result c.requires c.in-Some.ensures c.index-partials-i.is))

pub returns-else-whole-clause-taken : goal.returns-else-whole-clause-taken
returns-else-whole-clause-taken c =
    c.is_whole-whole.ensures ∙ sym (ap is_some (message_there c.args.key.now c.args.partials.now c.in-Some.i c.index-partials-i.result c.requires c.in-Some.ensures c.index-partials-i.is))

pub returns-else-whole-clause-bytes : goal.returns-else-whole-clause-bytes
returns-else-whole-clause-bytes c =
    nothing_appended c.args.bytes.now.items _
    (ap is_some (message_there c.args.key.now c.args.partials.now c.in-Some.i c.index-partials-i.result c.requires c.in-Some.ensures c.index-partials-i.is) ∙ (sym c.is_whole-whole.ensures ∙ c.if-whole.false))

pub returns-in_err-append_message-clause-wanting : goal.returns-in_err-append_message-clause-wanting
returns-in_err-append_message-clause-wanting c =
    let whole : is_some (message_at (parts_of_entries c.args.partials.now) c.args.key.now) ≡ true =
    ap is_some (message_there c.args.key.now c.args.partials.now c.in-Some.i c.index-partials-i.result c.requires c.in-Some.ensures c.index-partials-i.is)
    ∙ (sym c.is_whole-whole.ensures ∙ c.if-whole.true) in
    on_err_any c.from_residual.result whole
