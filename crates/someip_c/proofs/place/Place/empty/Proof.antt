-- `Place::empty` meets its contract: nothing lies at null, and nothing is owned.
use Rattle.std.proofs.Common.{[], ◌∷◌, refl, lit<}
use Rattle.std.proofs.raw_atomic.Walks.{proved}
use Rattle.std.specs.Prelude.{None}
use base.Fml.{ftrue}
use types.Kit.{‵, raw, ◌$◌, ◌∵◌, !, qed, done, drop, fjoin, suffices}
use types.Run.{enter, lit, no_more, and_then, returns}
use types.ByLocal.{alloc_all, pass_all, free_all, look_at, sets}
use types.Part.{agg}
use denote.RawPtr.{null_ptr, rawptr_vals}
use denote.Steps.{nothing, owned}
use denote.Struct.Struct.{Struct, Struct-Makes}
use denote.Struct.Owning.{shape, to}
use Rattle.someip_c.specs.contracts.place.Place.{the_type}
use denote.Triple.Entry.{on_entry}
use denote.Triple.Walked.{Stays, walk_of, says, ends_at}
use Rattle.someip_c.specs.declared.place.Place.{Place}
use Rattle.someip_c.specs.contracts.place.Place.empty as f
use Rattle.someip_c.proofs.place.Place.empty.Statement.{statement}
use Rattle.someip_c.proofs.place.Place.empty.Code as code
use Rattle.someip_c.proofs.place.Place.TheLaws.{lowered}

abbrev stayed : Stays f.ended.signature.params f.ended.kept
stayed = tt

pub empty_spec : {M : Type 1} → statement M
empty_spec 𝓤 𝓛 𝓜 𝓡 wired =
    let c = f.clauses 𝓛 𝓜.mem 𝓡.returns in let W = walk_of 𝓛 f.ended stayed c in
    proved 𝓛 f.ended stayed c 𝓜 𝓡 tt f.Key.name code.function (code.unfolded 𝓤 𝓛.H 𝓜 𝓡 wired)
    (λ κs. tt) (λ κs. tt) (λ κs qs bounds a _ are.
    let p : Place = record { at = null_ptr; value = None } in
    let y : W.Ghost = ((κs, qs, bounds, a, tt), tt) in
    qed 𝓛 (raw (on_entry 𝓛 f.signature κs qs a tt) ∷ ‵ ftrue ∷ []) ∵ drop ! $ drop ! $
    enter ! _ _ _ _ _ $ alloc_all ! (λ l. pass_all ! refl tt $
    sets ! (agg ! (and_then ! (lit ! tt) (no_more !))) refl (tt, (record { fits = lit< tt }, tt)) $
    returns ! (look_at ! 0 refl) $ free_all ! refl $
    suffices ! _ (ends_at 𝓛 f.ended stayed c y (lowered p) p tt tt) $ says ! refl $
    nothing ! $ owned ! (Struct (shape the_type)) _ (Struct-Makes 𝓛 (shape the_type) ((λ _ _. tt), tt)) (to the_type p) (lowered p ∷ []) ((rawptr_vals null_ptr, tt), (refl, (refl, tt))) $ fjoin ! $
    nothing ! $ nothing ! $ done !))
