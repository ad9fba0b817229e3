use Rattle.std.proofs.Common.{◌≡◌, ap, ◌∙◌, refl, true, inr}
use Rattle.std.specs.Option.{is_some}
use Rattle.std.specs.FinMap.{get, insert}
use Rattle.someip_tables.proofs.Outcomes.{where_no_err}
use Rattle.someip_tables.specs.Tables.{map_of}
use Rattle.audit_traffic.specs.calls.AuditedCalls.{call_cmp}
use Rattle.audit_traffic.specs.calls.CallTables.{is_open}
use Rattle.audit_traffic.specs.declared.calls.call_table.Asked.TheVariants.{Told}
use Rattle.audit_traffic.specs.declared.calls.known.Known.TheVariants.{Overdue}
use Rattle.audit_traffic.proofs.about_calls.TableLemmas.{apart_told, asked_put, told_is_asked, told_wants_none}
use Rattle.audit_traffic.proofs.calls.call_table.CallTable.tell.Goals as goal

pub invariant_of-self : goal.invariant_of-self
invariant_of-self c =
    let there : is_some (get (map_of call_cmp c.self.inside.asked) c.args.call) ≡ true = told_is_asked (map_of call_cmp c.self.inside.asked) (map_of call_cmp c.self.inside.answered) c.args.call (ap (λ m. is_open (get m c.args.call)) c.self.view_is ∙ c.requires) in
    apart_told (map_of call_cmp c.self.inside.asked) (map_of call_cmp c.self.inside.answered) c.args.call (map_of call_cmp c.insert.new.self) (Told c.args.since) c.self.invariant there
    (where_no_err c.insert.result (told_wants_none _ there) c.insert.ensures.grows c.insert.ensures.ok)

pub returns : goal.returns
returns c =
    let there : is_some (get (map_of call_cmp c.self.inside.asked) c.args.call) ≡ true = told_is_asked (map_of call_cmp c.self.inside.asked) (map_of call_cmp c.self.inside.answered) c.args.call (ap (λ m. is_open (get m c.args.call)) c.self.view_is ∙ c.requires) in
    asked_put (map_of call_cmp c.self.inside.asked) (map_of call_cmp c.insert.new.self) (map_of call_cmp c.self.inside.answered) (map_of call_cmp c.self.inside.answered) c.args.call (Told c.args.since)
    (where_no_err c.insert.result (told_wants_none _ there) c.insert.ensures.grows c.insert.ensures.ok) (inr refl)
    ∙ ap (λ m. insert m c.args.call (Overdue c.args.since)) c.self.view_is
