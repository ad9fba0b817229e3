-- The tables of a start.
use Rattle.std.proofs.Common.{◌≡◌, ℕ, List, [], ◌∷◌, ◌++◌, map, refl, ap, sym, ◌∙◌}
use Rattle.std.specs.declared.cmp.Ordering.{Ordering}
use Rattle.std.specs.FinMap.{FinMap, empty, insert}
use Rattle.someip_tables.specs.Tables.{map_of}
use Rattle.sd_core.specs.declared.keys.InstanceId.{InstanceId}
use Rattle.sd_core.specs.declared.version.Version.{Version}
use Rattle.someip_node_rules.specs.declared.config.OfferedService.{OfferedService}
use Rattle.someip_node_rules.specs.declared.config.WantedService.{WantedService}
use Rattle.someip_node_rules.specs.histories.OfferQuestions.{version_of}

-- an instance that is offered, with its version, and one that is wanted, with its major version
abbrev pub offer_entry : InstanceId × OfferedService → InstanceId × Version
offer_entry e = (e.0, version_of e.1)

abbrev pub want_entry : InstanceId × WantedService → InstanceId × ℕ
want_entry e = (e.0, e.1.major)

-- an instance that is offered, at its port
abbrev pub port_entry : InstanceId × OfferedService → ℕ × InstanceId
port_entry e = (e.1.rules.endpoint.port, e.0)

module _ {K X A : Type 0} (R : K → K → Ordering) (f : A → K × X) where
  -- a map to which others are added, the last one first
  abbrev pub over : List A → FinMap R X → FinMap R X
  over [] m = m
  over (e ∷ es) m = insert (over es m) (f e).0 (f e).1

  over-append : (es fs : List A) (m : FinMap R X) → over (es ++ fs) m ≡ over es (over fs m)
  over-append [] fs m = refl
  over-append (e ∷ es) fs m = ap (λ n. insert n (f e).0 (f e).1) (over-append es fs m)

  pub over_none : (es : List A) → over es empty ≡ map_of R (map f es)
  over_none [] = refl
  over_none (e ∷ es) = ap (λ n. insert n (f e).0 (f e).1) (over_none es)

  -- one of those that are left is added
  pub one_over : (left after : List A) (e : A) (m n total : FinMap R X) → left ≡ after ++ e ∷ [] → n ≡ insert m (f e).0 (f e).1 → over left m ≡ total → over after n ≡ total
  one_over left after e m n total parts is so_far =
      ap (over after) is ∙ sym (over-append after (e ∷ []) m) ∙ ap (λ es. over es m) (sym parts) ∙ so_far
