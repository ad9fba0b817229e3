use Rattle.std.proofs.Common.{◌≡◌, sym, ap, subst, ◌∙◌, ◌++◌, [], unwrap_or, true, Some}
use Rattle.std.specs.Option.{is_some}
use Rattle.someip_reassembly.specs.SegmentOffers.{message_at}
use Rattle.someip_reassembly.specs.Stores.{StandsAt, parts_of_entries}
use Rattle.someip_tp.specs.Pools.{GoesAt, entries_in, entries_of}
use Rattle.someip_reassembly.proofs.StoreLemmas.{no_part_there, none_whole, nothing_appended, on_err_any, parts_less_none}
use Rattle.someip_tp.proofs.reserved_memory.SlotLemmas.{message_in, freed_parts}
use Rattle.someip_tp.proofs.reserved_memory.RisingLemmas.{apart, new_there}
use Rattle.someip_tp.proofs.pool.slots.Slots.take.Goals as goal

pub returns-in_default-clause-taken : goal.returns-in_default-clause-taken
returns-in_default-clause-taken c =
    let es = entries_in c.args.self.now in
    let at = new_there c.args.key.now es c.in_default.field-0 (subst (λ ps. GoesAt c.args.key.now (entries_of ps) c.in_default.field-0) c.deref.ensures.value c.in_default.ensures) in
    sym (ap is_some (none_whole c.args.key.now (parts_of_entries es) (no_part_there c.args.key.now es at)))

pub returns-in_default-clause-bytes : goal.returns-in_default-clause-bytes
returns-in_default-clause-bytes c =
    let es = entries_in c.args.self.now in
    let at = new_there c.args.key.now es c.in_default.field-0 (subst (λ ps. GoesAt c.args.key.now (entries_of ps) c.in_default.field-0) c.deref.ensures.value c.in_default.ensures) in
    nothing_appended c.args.bytes.now.items _ (ap is_some (none_whole c.args.key.now (parts_of_entries es) (no_part_there c.args.key.now es at)))

pub returns-in_default-clause-parts : goal.returns-in_default-clause-parts
returns-in_default-clause-parts c =
    let es = entries_in c.args.self.now in
    let at = new_there c.args.key.now es c.in_default.field-0 (subst (λ ps. GoesAt c.args.key.now (entries_of ps) c.in_default.field-0) c.deref.ensures.value c.in_default.ensures) in
    parts_less_none c.args.key.now (parts_of_entries es) (ap is_some (none_whole c.args.key.now (parts_of_entries es) (no_part_there c.args.key.now es at)))

pub returns-in_err-append_message-clause-wanting : goal.returns-in_err-append_message-clause-wanting
returns-in_err-append_message-clause-wanting c =
    let ps = c.args.self.now.taken.items in
    let at = subst (λ ps. StandsAt c.args.key.now (entries_of ps) (Some c.in-Ok.i)) c.deref.ensures.value c.in-Ok.ensures in
    let whole : is_some (message_at (parts_of_entries (entries_of ps)) c.args.key.now) ≡ true =
    ap is_some (message_in c.args.key.now ps c.in-Ok.i c.index.result.now (apart (entries_of ps) c.requires.rising) at c.index.ensures) ∙ (sym c.is_whole-whole.ensures ∙ c.if-whole.true) in
    on_err_any c.from_residual.result whole

pub returns-in_ok-append_message-clause-taken : goal.returns-in_ok-append_message-clause-taken
returns-in_ok-append_message-clause-taken c =
    let ps = c.args.self.now.taken.items in
    let at = subst (λ ps. StandsAt c.args.key.now (entries_of ps) (Some c.in-Ok.i)) c.deref.ensures.value c.in-Ok.ensures in
    c.is_whole-whole.ensures ∙ sym (ap is_some (message_in c.args.key.now ps c.in-Ok.i c.index.result.now (apart (entries_of ps) c.requires.rising) at c.index.ensures))

pub returns-in_ok-append_message-clause-bytes : goal.returns-in_ok-append_message-clause-bytes
returns-in_ok-append_message-clause-bytes c =
    let ps = c.args.self.now.taken.items in
    let at = subst (λ ps. StandsAt c.args.key.now (entries_of ps) (Some c.in-Ok.i)) c.deref.ensures.value c.in-Ok.ensures in
    c.in_ok-append_message.ensures.ok
    ∙ ap (λ m. c.args.bytes.now.items ++ unwrap_or m []) (sym (message_in c.args.key.now ps c.in-Ok.i c.index-then-whole.result.now (apart (entries_of ps) c.requires.rising) at c.index-then-whole.ensures))

pub returns-in_ok-append_message-clause-parts : goal.returns-in_ok-append_message-clause-parts
returns-in_ok-append_message-clause-parts c =
    let ps = c.args.self.now.taken.items in
    let at = subst (λ ps. StandsAt c.args.key.now (entries_of ps) (Some c.in-Ok.i)) c.deref.ensures.value c.in-Ok.ensures in
    freed_parts c.args.key.now (entries_of ps) _ c.in-Ok.i (apart (entries_of ps) c.requires.rising) at c.free_at.ensures.entries
    (ap is_some (message_in c.args.key.now ps c.in-Ok.i c.index.result.now (apart (entries_of ps) c.requires.rising) at c.index.ensures) ∙ (sym c.is_whole-whole.ensures ∙ c.if-whole.true))

pub returns-else-whole-clause-taken : goal.returns-else-whole-clause-taken
returns-else-whole-clause-taken c =
    let ps = c.args.self.now.taken.items in
    let at = subst (λ ps. StandsAt c.args.key.now (entries_of ps) (Some c.in-Ok.i)) c.deref.ensures.value c.in-Ok.ensures in
    c.is_whole-whole.ensures ∙ sym (ap is_some (message_in c.args.key.now ps c.in-Ok.i c.index.result.now (apart (entries_of ps) c.requires.rising) at c.index.ensures))

pub returns-else-whole-clause-bytes : goal.returns-else-whole-clause-bytes
returns-else-whole-clause-bytes c =
    let ps = c.args.self.now.taken.items in
    let at = subst (λ ps. StandsAt c.args.key.now (entries_of ps) (Some c.in-Ok.i)) c.deref.ensures.value c.in-Ok.ensures in
    nothing_appended c.args.bytes.now.items _
    (ap is_some (message_in c.args.key.now ps c.in-Ok.i c.index.result.now (apart (entries_of ps) c.requires.rising) at c.index.ensures) ∙ (sym c.is_whole-whole.ensures ∙ c.if-whole.false))

pub returns-else-whole-clause-parts : goal.returns-else-whole-clause-parts
returns-else-whole-clause-parts c =
    let ps = c.args.self.now.taken.items in
    let at = subst (λ ps. StandsAt c.args.key.now (entries_of ps) (Some c.in-Ok.i)) c.deref.ensures.value c.in-Ok.ensures in
    parts_less_none c.args.key.now (parts_of_entries (entries_of ps))
    (ap is_some (message_in c.args.key.now ps c.in-Ok.i c.index.result.now (apart (entries_of ps) c.requires.rising) at c.index.ensures) ∙ (sym c.is_whole-whole.ensures ∙ c.if-whole.false))
