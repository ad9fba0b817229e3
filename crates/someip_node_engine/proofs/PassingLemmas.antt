-- What a moment brings, as the rule of the clock says it.
use Rattle.std.proofs.Common.{◌≡◌, ℕ, ◌+◌, List, [], ◌∷◌, ◌++◌, map, refl, sym, ap, ◌∙◌}
use Rattle.std.proofs.Common.{Bool, IsTrue, IsFalse}
use Rattle.sd_wire.specs.fronts.Fronts.{front_lengths}
use Rattle.someip_node_rules.specs.forms.Entries.{fronts}
use Rattle.std.proofs.lemmas.List.{append-nil}
use Rattle.sd_core.specs.declared.keys.InstanceId.{InstanceId}
use Rattle.someip_node_rules.specs.declared.config.Config.{Config}
use Rattle.someip_node_rules.specs.rules.Outcomes.{endings}
use Rattle.someip_node_rules.specs.forms.Setups.{wanted_instances}
use Rattle.someip_node_engine.proofs.WorkLemmas.{done}
use Rattle.std.specs.List.{flat_map}
use Rattle.std.proofs.Common.{OnErr, OnOk, Result, Ok, Err}
use Rattle.std.specs.declared.alloc.AllocError.{AllocError}
use Rattle.sd_wire.specs.contents.Values.{EntryValue, view_entry}
use Rattle.someip_node_engine.specs.declared.outputs.Giving.{Giving}
use Rattle.someip_node_rules.specs.declared.receiver.Receiver.TheVariants.{Group}
use Rattle.someip_tables.specs.Lastings.{unexpired}
use Rattle.someip_reassembly.specs.Parts.{parts_at}
use Rattle.sd_core.specs.Endings.{ends_at}
use Rattle.sd_core.specs.OfferTables.{after_tick}
use Rattle.sd_core.specs.SeekTables.{seek_after_tick}
use Rattle.sd_core.specs.WishTables.{ended_where}
use Rattle.someip_node_rules.specs.forms.Setups.{limits_of}
use Rattle.someip_node_rules.specs.histories.Tables.{passed_instances}
use Rattle.someip_node_engine.proofs.TableLemmas.{same_tables}
use Rattle.someip_node_rules.specs.rules.Inputs.{tick_plan}
use Rattle.someip_node_rules.specs.rules.Plans.{plain, run}
use Rattle.someip_node_rules.specs.forms.Receivers.{messages_plan_to}
use Rattle.someip_node_engine.specs.Working.{told_all, working}
use Rattle.someip_node_rules.specs.declared.output.Output.{Output}
use Rattle.someip_node_engine.specs.declared.passed.Passed.{Passed}
use Rattle.someip_node_rules.specs.rules.Ticking.{due_entries, lapsed, ticks, timed_out}
use Rattle.someip_node_rules.specs.histories.Items.{changed, Ticked}
use Rattle.someip_node_rules.specs.forms.Outputs.{written}
use Rattle.someip_node_engine.specs.Passings.{BringsNothing, HasPassed, IsNothing, entries_of, told_of}
use Rattle.someip_node_rules.specs.histories.Tables.{Tables}
use Rattle.someip_node_rules.proofs.trails.WrittenLemmas.{told_written}

-- what is told
pub told_is : (t new : Tables) (ms now : ℕ) (passed : Passed) (before after : List Output) → now ≡ t.clock + ms → new ≡ changed t (Ticked ms) → HasPassed now t passed
    → after ≡ before ++ told_of new.config passed → after ≡ before ++ flat_map written (ticks ms t).given
told_is t new ms now passed before after is ticked p told =
    told
    ∙ ap (λ os. before ++ os)
    (ap (λ (u : Tables). told_of u.config passed) ticked
    ∙ rw (p.calls, p.gone, p.lapsed, is) (sym (told_written (timed_out (t.clock + ms) t ++ lapsed (t.clock + ms) t))))

-- what goes out
pub due_is : (t new : Tables) (ms now : ℕ) (passed : Passed) → now ≡ t.clock + ms → new ≡ changed t (Ticked ms) → HasPassed now t passed
    → entries_of new passed ≡ due_entries (t.clock + ms) t
due_is t new ms now passed is ticked p = ap (λ u. entries_of u passed) ticked ∙ rw (p.offers, p.finds, is) refl

-- the tables, table by table
pub ticked_is : (t new : Tables) (ms now : ℕ) → now ≡ t.clock + ms → new.config ≡ t.config → new.clock ≡ now → new.parts ≡ parts_at (limits_of t.config) now t.parts
    → new.peers ≡ t.peers → new.multicast ≡ t.multicast → new.unicast ≡ t.unicast → new.offers ≡ after_tick t.config.common.phases now t.offers
    → new.seek ≡ seek_after_tick t.config.common.phases now t.seek → new.subscribers ≡ unexpired now t.subscribers
    → new.wishes ≡ ended_where (ends_at now (passed_instances now t)) t.wishes → new.client ≡ record t.client { pending = unexpired now t.client.pending } → new.server ≡ t.server
    → new ≡ changed t (Ticked ms)
ticked_is t new ms now is config clock parts peers multicast unicast offers seek subscribers wishes client server =
    same_tables new (changed t (Ticked ms)) config (clock ∙ is) (parts ∙ ap (λ n. parts_at (limits_of t.config) n t.parts) is) peers multicast unicast
    (offers ∙ ap (λ n. after_tick t.config.common.phases n t.offers) is) (seek ∙ ap (λ n. seek_after_tick t.config.common.phases n t.seek) is)
    (subscribers ∙ ap (λ n. unexpired n t.subscribers) is) (wishes ∙ ap (λ n. ended_where (ends_at n (passed_instances n t)) t.wishes) is)
    (client ∙ ap (λ n. record t.client { pending = unexpired n t.client.pending }) is) server

-- ---- a moment that brings nothing

pub on_err : {A E : Type 0} {P : Type 0} (r : Result A E) → P → OnErr r P
on_err (Ok x) p = tt
on_err (Err e) p = p

-- nothing is told, and nothing goes out
pub nothing_told : (config : Config) (passed : Passed) → IsNothing passed → told_of config passed ≡ []
nothing_told config passed none = rw (none.calls, none.gone, none.lapsed) (nothing_ends (wanted_instances config))
  where
    nothing_ends : (instances : List InstanceId) → endings instances [] [] ≡ []
    nothing_ends [] = refl
    nothing_ends (i ∷ is) = nothing_ends is

pub nothing_goes_out : (t : Tables) (passed : Passed) → IsNothing passed → entries_of t passed ≡ []
nothing_goes_out t passed none = rw (none.offers, none.finds) refl

no_fronts : fronts [] ≡ []
unfolding front_lengths
no_fronts = refl

-- what ended is told, and what is due goes out
pub passed_told : (t mid new : Tables) (old after : Giving) (ms now : ℕ) (passed : Passed) → now ≡ t.clock + ms → HasPassed now t passed → mid ≡ changed t (Ticked ms)
    → working new after ≡ run plain (messages_plan_to Group (entries_of mid passed)) (told_all (told_of mid.config passed) (working mid old))
    → working new after ≡ run plain (tick_plan ms) (working t old)
passed_told t mid new old after ms now passed is p ticked told =
    told
    ∙ ap (λ (es : List EntryValue). run plain (messages_plan_to Group es) (told_all (told_of mid.config passed) (working mid old))) (due_is t mid ms now passed is ticked p)
    ∙ ap (run plain (messages_plan_to Group (due_entries (t.clock + ms) t)))
    (done (ticks ms) t mid old.outputs.items (old.outputs.items ++ told_of mid.config passed) (map view_entry old.replies.items) ticked
    (told_is t mid ms now passed old.outputs.items _ is ticked p refl) refl)

pub nothing_passed : (t mid : Tables) (old : Giving) (ms now : ℕ) (passed : Passed) → now ≡ t.clock + ms → HasPassed now t passed → mid ≡ changed t (Ticked ms) → IsNothing passed
    → working mid old ≡ run plain (tick_plan ms) (working t old)
nothing_passed t mid old ms now passed is p ticked none =
    passed_told t mid mid old old ms now passed is p ticked
    (rw (nothing_told mid.config passed none, nothing_goes_out mid passed none, append-nil old.outputs.items, no_fronts) refl)

-- it brings nothing where what passed is nothing
pub brings_nothing : (t : Tables) (now : ℕ) (passed : Passed) → HasPassed now t passed → BringsNothing now t → IsNothing passed
brings_nothing t now passed p none = record {
  calls = p.calls ∙ none.calls;
  gone = p.gone ∙ none.gone;
  lapsed = p.lapsed ∙ none.lapsed;
  offers = p.offers ∙ none.offers;
  finds = p.finds ∙ none.finds;
}

pub passed_told_ok : (t mid new : Tables) (old after : Giving) (ms now : ℕ) (passed : Passed) (result : Result (Unit {0}) AllocError) → now ≡ t.clock + ms → HasPassed now t passed
    → mid ≡ changed t (Ticked ms)
    → OnOk result (working new after ≡ run plain (messages_plan_to Group (entries_of mid passed)) (told_all (told_of mid.config passed) (working mid old)))
    → OnOk result (working new after ≡ run plain (tick_plan ms) (working t old))
passed_told_ok t mid new old after ms now passed (Ok _) is p ticked told = passed_told t mid new old after ms now passed is p ticked told
passed_told_ok t mid new old after ms now passed (Err e) is p ticked told = told

pub not_both : (b : Bool) → IsFalse b → IsTrue b → ⊥
not_both b isnt is = absurd (cc)
