-- There is one verdict on a schedule.
use Rattle.std.proofs.Common.{◌≡◌, ◌⊎◌, inl, inr, ℕ, ◌+◌, ◌<◌, ◌≤◌, List, length, Ok, refl, sym, ap, ◌∙◌, arith}
use Rattle.std.proofs.lemmas.Bool.{cases_lt}
use Rattle.std.proofs.lemmas.Option.{slice_get_within}
use Rattle.someip_node_rules.specs.declared.config.Config.{Config}
use Rattle.someip_world_schedule.specs.declared.step.Step.{Step}
use Rattle.someip_world_setup.specs.declared.setup_node.SetupNode.{SetupNode}
use Rattle.someip_world_rules.specs.declared.line.Line.{Line}
use Rattle.someip_world_rules.specs.declared.reuse.Reuse.{Reuse}
use Rattle.someip_world_rules.specs.declared.reuse.Reuse.TheVariants.{Broken, Clean}
use Rattle.someip_world_rules.specs.exchanges.CleanReuse.{Breaks, Old, Mixed, IsCleanBefore, IsVerdict, IsVerdictOn}
use Rattle.someip_explore.specs.Traces.{own_configs, trace_of}
use Rattle.someip_explore.proofs.TraceLemmas.{own_copies}

module _ (nodes : List SetupNode) (configs : List Config) (ss : List Step) where
  -- what breaks clean reuse is a step
  breaks_within : (i : ℕ) → Breaks nodes configs ss i → i < length ss
  breaks_within i (Old old) = slice_get_within ss i _ old.delivers.turn.here
  breaks_within i (Mixed mixed) = slice_get_within ss i _ mixed.arrives.delivers.turn.here

  -- one step is the first that does
  one_first : (i j : ℕ) → Breaks nodes configs ss i → IsCleanBefore nodes configs ss i → Breaks nodes configs ss j → IsCleanBefore nodes configs ss j → i ≡ j
  one_first i j breaks clean other others = cases (cases_lt i j) (cases_lt j i)
    where
      cases : (i < j) ⊎ (j ≤ i) → (j < i) ⊎ (i ≤ j) → i ≡ j
      cases (inl lt) more = absurd (others i lt breaks)
      cases (inr ge) (inl lt) = absurd (clean j lt other)
      cases (inr ge) (inr le) = omega (arith, ge, le)

  same_verdict : (a b : Reuse) → IsVerdict nodes configs ss a → IsVerdict nodes configs ss b → a ≡ b
  same_verdict Clean Clean one other = refl
  same_verdict Clean (Broken at) one other = absurd (one other.0 (breaks_within other.0 other.2) other.2)
  same_verdict (Broken at) Clean one other = absurd (other one.0 (breaks_within one.0 one.2) one.2)
  same_verdict (Broken at) (Broken to) one other =
      let same : one.0 ≡ other.0 = one_first one.0 other.0 one.2 one.3 other.2 other.3 in ap Broken (one.1 ∙ ap (λ i. i + 1) same ∙ sym other.1)

-- two verdicts on one trace are one
pub one_verdict : (nodes : List SetupNode) (ss : List Step) (lines : List Line) → trace_of nodes ss ≡ Ok lines → (a b : Reuse) → IsVerdictOn nodes ss lines a → IsVerdictOn nodes ss lines b
    → a ≡ b
one_verdict nodes ss lines is a b one other =
    same_verdict nodes (own_configs nodes) ss a b (one (own_configs nodes) (own_copies nodes) is) (other (own_configs nodes) (own_copies nodes) is)
