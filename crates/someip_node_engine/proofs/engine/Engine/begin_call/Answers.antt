use Rattle.std.proofs.Common.{not, refl, sym, ap, ◌∙◌, arith}
use Rattle.someip_tables.specs.Lastings.{unexpired}
use Rattle.someip_tables.specs.Deadlines.{has_passed}
use Rattle.someip_tables.proofs.Entries.{len-retain-≤}
use Rattle.someip_rpc.specs.Calls.{call_header}
use Rattle.someip_rpc.specs.IdOrder.{calls_total, exact_calls}
use Rattle.someip_rpc.specs.Sessions.{next_of}
use Rattle.someip_node_rules.specs.rules.Calling.{session_of}
use Rattle.someip_node_engine.proofs.CallLemmas.{called_is, first_free_is}
use Rattle.someip_node_engine.proofs.engine.Engine.begin_call.Goals as goal

pub returns-clause-session : goal.returns-clause-session
returns-clause-session g c =
    sym (first_free_is (unexpired c.self.inside.clock c.self.inside.client.pending) c.args.call.message (next_of c.self.inside.client.sessions c.args.call.message) c.in_ok-sent.sent.message.header.session
    (omega (arith, len-retain-≤ calls_total exact_calls c.self.inside.client.pending (λ _ lasting. not (has_passed c.self.inside.clock lasting.until)), c.pending_calls.ensures.few, c.pending_calls.ensures.count)) c.in_ok-sent.ensures.session)
    ∙ ap (session_of c.args.call) c.self.view_is

pub returns-clause-header : goal.returns-clause-header
returns-clause-header g c =
    c.in_ok-sent.ensures.header ∙ ap (λ rules. call_header rules.client c.args.call c.in_ok-sent.sent.message.header.session) c.client_rules-rules.ensures ∙ ap (λ s. call_header c.self.inside.config.client_id c.args.call s) (returns-clause-session g c) ∙ ap (λ t. call_header t.config.client_id c.args.call (session_of c.args.call c.args.self.now)) c.self.view_is

pub returns-clause-called : goal.returns-clause-called
returns-clause-called g c =
    called_is _ c.args.self.now _ c.client_rules-rules.result c.args.call c.in_ok-sent.sent.to c.in_ok-sent.sent.message.header.session c.call.new.self c.self.view_is refl c.client_rules-rules.ensures c.in_ok-sent.ensures.called
    (returns-clause-session g c)
