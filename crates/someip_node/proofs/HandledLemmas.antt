-- A node whose tables took an input.
use Rattle.std.proofs.Common.{◌≡◌, Bool, true, false, if◌then◌else◌, [], Option, None, Some, Result, Ok, Err, refl, ap, sym, ◌∙◌}
use Rattle.std.specs.Prelude.{IsSome}
use Rattle.std.specs.Option.{option_map_or}
use Rattle.std.specs.Global.{Vec}
use Rattle.someip_rpc.specs.declared.error.RpcError.{RpcError}
use Rattle.someip_rpc.specs.declared.error.RpcError.TheVariants.{NotOffered}
use Rattle.someip_node_rules.specs.declared.config.OfferedService.{OfferedService}
use Rattle.someip_node_rules.specs.declared.error.NodeError.{NodeError}
use Rattle.someip_node_rules.specs.declared.error.NodeError.TheVariants.{ClockPast, NotWanted, Rpc}
use Rattle.someip_node_engine.specs.declared.outputs.Giving.{Giving}
use Rattle.someip_node_rules.specs.declared.output.Output.{Output}
use Rattle.someip_node_rules.specs.rules.Errors.{as_node_error}
use Rattle.someip_node.specs.Finishings.{given_or_error, is_fatal}
use Rattle.someip_node_engine.specs.Handled.{Handled, or_no_memory}
use Rattle.someip_node_rules.specs.histories.History.{History, answers_of, historic, shown_work}
use Rattle.someip_node_rules.specs.rules.Inputs.{Input, Answer, Call, Datagram, Publish, PublishTo, StopOffer, Subscribe, Tick, Unsubscribe, plan_of, refusal_of}
use Rattle.someip_node_rules.specs.rules.Plans.{Work, plain, run, work}
use Rattle.someip_node_rules.specs.forms.Setups.{is_wanted_eventgroup, offered_as}
use Rattle.someip_node_rules.specs.steps.Steps.{GivesStep, StandsFor, step, unless_refused, work_on}
use Rattle.someip_node_rules.specs.histories.Tables.{Tables, is_up}
use Rattle.someip_node_engine.specs.Working.{working}
use Rattle.someip_node_rules.proofs.histories.Shown.{run_shown}
use Rattle.someip_node_rules.proofs.histories.Stands.{seen, stands}

-- ---- no refusal is that memory ran out

-- a refusal, or else an error that is none
abbrev or_else : NodeError → Option NodeError → Bool
or_else error refusal = is_fatal (Err (option_map_or (λ r. r) refusal error))

none_refused : (refusal : NodeError) → None ≡ Some refusal → is_fatal (Err refusal) ≡ false
none_refused refusal is = absurd (cc)

this_refused : (error refusal : NodeError) → is_fatal (Err error) ≡ false → Some error ≡ Some refusal → is_fatal (Err refusal) ≡ false
this_refused error refusal fine is = ap (or_else error) (sym is) ∙ fine

refused_if : (b : Bool) (error refusal : NodeError) → is_fatal (Err error) ≡ false → (if b then None else Some error) ≡ Some refusal → is_fatal (Err refusal) ≡ false
refused_if true error refusal fine is = none_refused refusal is
refused_if false error refusal fine is = this_refused error refusal fine is

ticked_refused : (b : Bool) (refusal : NodeError) → (if b then Some ClockPast else None) ≡ Some refusal → is_fatal (Err refusal) ≡ false
ticked_refused true refusal is = this_refused ClockPast refusal refl is
ticked_refused false refusal is = none_refused refusal is

core_refused : (v : Option RpcError) (refusal : NodeError) → as_node_error v ≡ Some refusal → is_fatal (Err refusal) ≡ false
core_refused None refusal is = none_refused refusal is
core_refused (Some error) refusal is = this_refused (Rpc error) refusal refl is

offered_refused : (f : OfferedService → Option RpcError) (service : Option OfferedService) (refusal : NodeError)
    → option_map_or (λ s. as_node_error (f s)) service (Some (Rpc NotOffered)) ≡ Some refusal → is_fatal (Err refusal) ≡ false
offered_refused f None refusal is = this_refused (Rpc NotOffered) refusal refl is
offered_refused f (Some service) refusal is = core_refused (f service) refusal is

refusal_is_no_end : (input : Input) (t : Tables) (refusal : NodeError) → refusal_of input t ≡ Some refusal → is_fatal (Err refusal) ≡ false
refusal_is_no_end (Datagram from to bytes) t refusal is = none_refused refusal is
refusal_is_no_end (Tick ms) t refusal is = ticked_refused _ refusal is
refusal_is_no_end (Call kind instance method payload) t refusal is = core_refused _ refusal is
refusal_is_no_end (Answer token reply payload) t refusal is = core_refused _ refusal is
refusal_is_no_end (Publish instance event payload) t refusal is = offered_refused _ (offered_as t.config instance) refusal is
refusal_is_no_end (PublishTo instance eventgroup endpoint event payload) t refusal is = offered_refused _ (offered_as t.config instance) refusal is
refusal_is_no_end (Subscribe eventgroup) t refusal is = refused_if (is_wanted_eventgroup t.config eventgroup) NotWanted refusal refl is
refusal_is_no_end (Unsubscribe eventgroup) t refusal is = refused_if (is_wanted_eventgroup t.config eventgroup) NotWanted refusal refl is
refusal_is_no_end (StopOffer instance) t refusal is = refused_if (is_up t instance) (Rpc NotOffered) refusal refl is

-- ---- a call of a node

-- what was done with the tables is what is done by the history
given : (w : Work History) (t : Tables) (giving : Giving) → working t giving ≡ shown_work w → (giving.outputs.items ≡ w.outputs) × StandsFor (seen false t) w.state
given w t giving is = (ap (λ v. v.outputs) is, stands false t w.state refl (ap (λ v. v.state) is))

-- nothing is given at first
working_none : (t : Tables) (giving : Giving) → giving.outputs.items ≡ [] → giving.replies.items ≡ [] → working t giving ≡ work t [] []
working_none t giving no_outputs no_replies = rw (no_outputs, no_replies) refl

module _ (h : History) (input : Input) (old : Tables) (is : old ≡ answers_of h) where
  -- an input that is not refused is done
  done_given : (new : Tables) (before after : Giving) → refusal_of input old ≡ None → before.outputs.items ≡ [] → before.replies.items ≡ []
      → working new after ≡ run plain (plan_of input) (working old before) → GivesStep h (step h input) (Ok after.outputs) (seen false new)
  done_given new before after fine no_outputs no_replies done =
      rw (ap (refusal_of input) (sym is) ∙ fine)
      (given (run historic (plan_of input) (work_on h)) new after
      (done ∙ ap (run plain (plan_of input)) (working_none old before no_outputs no_replies ∙ ap (λ t. work t [] []) is) ∙ sym (run_shown (plan_of input) (work_on h))))

module _ (h : History) (input : Input) (old : Tables) (is : old ≡ answers_of h) where
  -- it was refused, or memory ran out
  error_given : (refusal : Option NodeError) (error : NodeError) (new : Tables) → refusal_of input old ≡ refusal → error ≡ or_no_memory refusal
      → (IsSome refusal → new ≡ old) → new.config ≡ old.config → GivesStep h (unless_refused refusal (plan_of input) h) (Err error) (seen (is_fatal (Err error)) new)
  error_given None error new why told same config = rw told (refl, ap (λ c. record { config = c; tables = None }) (config ∙ ap (λ t. t.config) is))
  error_given (Some refusal) error new why told same config =
      rw (told, refusal_is_no_end input old refusal why) (refl, stands false new h refl (same refl ∙ is))

  pub handled_given : (done : Result (Unit {0}) NodeError) (before after : Giving) (new : Tables) (result : Result (Vec Output) NodeError) (failed : Bool)
      → before.outputs.items ≡ [] → before.replies.items ≡ [] → Handled input old before done new after → new.config ≡ old.config → failed ≡ is_fatal done
      → result ≡ given_or_error done after → GivesStep h (step h input) result (seen failed new)
  handled_given (Ok _) before after new result failed no_outputs no_replies handled config fails gives =
      rw (gives, fails) (done_given h input old is new before after handled.0 no_outputs no_replies handled.1)
  handled_given (Err error) before after new result failed no_outputs no_replies handled config fails gives =
      rw (gives, fails, ap (refusal_of input) (sym is))
      (error_given (refusal_of input old) error new refl handled.0 handled.1 config)
