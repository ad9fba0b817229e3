-- `Place::of` meets its contract: what a box owns is what a place owns.
use Rattle.std.proofs.Common.{ap, List, [], ◌∷◌, refl}
use Rattle.std.proofs.raw_atomic.Walks.{proved}
use Rattle.std.specs.Prelude.{Some}
use base.Fml.{ftrue}
use base.Logic.{id⊢}
use base.Fraction.{full_share}
use mir.Syntax.{Dict, impl, tcons, tnil, dnil}
use mir.Raw.{raw as raw_of}
use denote.RattleType.{RattleType}
use contract.Running.{tables}
use contract.Monad.{fact, fact_i}
use contract.BorrowLft.{◌⊑◌, ⊑_static}
use types.Kit.{‵, raw, ◌⊛◌, ◌$◌, ◌∵◌, !, qed, done, move, keep, drop, join, split, use1, use2, later, some, pick, await, feq_l, fjoin, suffices}
use types.Run.{enter, of_opd, no_more, and_then, returns}
use types.ByLocal.{alloc_all, pass_all, free_all, look_at, sets, get, lands_as}
use types.Part.{agg}
use types.Tokens.{lft_new}
use denote.Exit.{yes, no}
use denote.Param as Param
use denote.Param.NoDrop as NoDrop
use denote.Param.Laws as ParamLaws
use denote.RawPtr.{Ptr, RawPtr, rawptr_vals, rawptr_Lawful}
use Rattle.someip_c_node.specs.Calls.{CNodeView}
use Rattle.someip_c.specs.Owned.{owned_node}
use denote.Signature.{plain}
use denote.Steps.{nothing, only, owned}
use denote.Struct.Struct.{Struct, Struct-Makes, Struct-Lawful}
use denote.Struct.Owning.{shape, to}
use denote.Triple.Call.{calls_at}
use denote.Triple.Clauses.{Ended, Lasts, lasts}
use base.Fml.{flft}
use Rattle.std.specs.Prelude.{Box}
use Rattle.std_alloc.specs.contracts.boxed.Box.{the_row as BoxOf}
use Rattle.std_heap.specs.declared.Global.{Global}
use Rattle.std_alloc.proofs.boxed.Box.TheLaws as BoxLaws
use denote.Laws.{Is}
use mir.Val.{Val}
use denote.Triple.Spec.{triple_of}
use denote.Triple.Table.{framed}
use denote.Triple.Walked.{Stays, walk_of, says, ends_at, stay_dropped, Goes-dropped}
use Rattle.std_heap.specs.contracts.Global.{the_row as GlobalRow}
use Rattle.std_heap.proofs.Global.TheLaws as GlobalLaws
use Rattle.std_heap.specs.contracts.GlobalAllocator.TheImpl as Heap
use Rattle.std_heap.proofs.GlobalAllocator.TheImpl.Met as HeapMet
use Rattle.std_alloc.specs.contracts.boxed.Box.into_raw as g
use Rattle.std_alloc.proofs.boxed.Box.into_raw.Met as into_raw
use Rattle.someip_c_node.specs.contracts.node.CNode.{the_row as NodeRow}
use Rattle.someip_c_node.proofs.node.CNode.TheLaws as NodeLaws
use Rattle.someip_c.specs.declared.place.Place.{Place}
use Rattle.someip_c.specs.contracts.place.Place.{the_type}
use Rattle.someip_c.specs.contracts.place.Place.of as f
use Rattle.someip_c.proofs.place.Place.of.Statement.{statement}
use Rattle.someip_c.proofs.place.Place.of.Code as code
use Rattle.someip_c.proofs.Dropping.{NodeArg, drops, glue}
use Rattle.someip_c.proofs.place.Place.TheLaws.{lowered}

abbrev stayed : Stays f.ended.signature.params f.ended.kept
stayed = (stay_dropped _ yes, tt)

abbrev node_laws : ParamLaws.Laws NodeArg
node_laws = ParamLaws.arg_laws (raw_of (Param.layout NodeRow)) no NodeRow NodeLaws.the_row_laws refl

abbrev HeapArg : RattleType
HeapArg = Param.arg (raw_of (Param.layout GlobalRow)) no GlobalRow

abbrev heap_laws : ParamLaws.Laws HeapArg
heap_laws = ParamLaws.arg_laws (raw_of (Param.layout GlobalRow)) no GlobalRow GlobalLaws.the_row_laws refl

abbrev no_drop : Dict
no_drop = impl ("someip_c::Destruct++none::drop" ∷ []) (tcons (Param.layout HeapArg) tnil) dnil

abbrev E : Ended
E = g.ended NodeArg HeapArg Heap.ghosts Heap.dict no_drop drops

abbrev BoxRow : RattleType
BoxRow = BoxOf NodeRow GlobalRow Heap.ghosts

abbrev box_laws : ParamLaws.Laws BoxRow
box_laws = BoxLaws.the_row_laws NodeRow GlobalRow Heap.ghosts NodeLaws.the_row_laws GlobalLaws.the_row_laws

abbrev told : ParamLaws.Told BoxRow
told = BoxLaws.the_told NodeRow GlobalRow Heap.ghosts NodeLaws.the_row_laws GlobalLaws.the_row_laws GlobalLaws.the_told

abbrev spelled : Box CNodeView Global → List Val
spelled b = told.val b ∷ []

pub of_spec : {M : Type 1} → statement M
unfolding Rattle.someip_c.proofs.Destruct++none.drop.Code.code
of_spec {M} 𝓤 𝓛 𝓜 𝓡 wired =
    let c = f.clauses 𝓛 𝓜.mem 𝓡.returns in let W = walk_of 𝓛 f.ended stayed c in let 𝓣 = tables 𝓤 𝓛.H 𝓜 𝓡 𝓡.env in
    let met = into_raw.met 𝓤 𝓛 𝓜 𝓡 (code.calls-std_alloc::boxed::Box::into_raw 𝓡.env wired) NodeArg HeapArg node_laws heap_laws Heap.ghosts Heap.dict no_drop drops
    (HeapMet.passed 𝓡.env (code.calls-std_heap::GlobalAllocator::allocate 𝓡.env wired) (code.calls-std_heap::GlobalAllocator::deallocate 𝓡.env wired)
    (code.calls-std_heap::GlobalAllocator::grow 𝓡.env wired) (code.calls-std_heap::GlobalAllocator::shrink 𝓡.env wired) M 𝓤 𝓛 𝓜 𝓡)
    (NoDrop.glues "someip_c::Destruct++none::drop" 𝓡.env (code.calls-someip_c::Destruct++none::drop 𝓡.env wired) HeapArg heap_laws M 𝓤 𝓛 𝓜 𝓡) (glue 𝓤 𝓛 𝓜 𝓡 (code.calls-someip_c::someip_c_node++node++CNode+Destruct::drop 𝓡.env wired)) in
    proved 𝓛 f.ended stayed c 𝓜 𝓡 (Goes-dropped 𝓛 0 (plain (λ _. BoxRow)) yes (λ κs x w. refl), tt)
    f.Key.name code.function (code.unfolded 𝓤 𝓛.H 𝓜 𝓡 wired)
    (λ κs. (spelled, tt)) (λ κs. (told.tells, tt)) (λ κs qs bounds a _ are.
    let y : W.Ghost = ((κs, qs, bounds, a, (spelled a.0, tt)), tt) in
    let G = triple_of 𝓛 (g.signature NodeArg HeapArg Heap.ghosts Heap.dict no_drop drops) (g.spec NodeArg HeapArg Heap.ghosts Heap.dict no_drop drops 𝓛 𝓜.mem 𝓡.returns) in
    let typed = (box_laws.lawful 𝓛).typed a.0 _ are.0 in
    qed 𝓛 ((‵ ftrue ⊛ ‵ (BoxRow.own_val a.0 (spelled a.0)) ⊛ ‵ ftrue) ∷ ‵ ftrue ∷ []) ∵
    split ! $ drop ! $ split ! $ keep ! (0 ∷ []) $
    -- [the box]
    enter ! _ _ _ _ _ $ alloc_all ! (λ l. pass_all ! refl typed $
    sets ! (of_opd ! (get ! refl)) refl typed.0 $
    lft_new ! tt (λ α. lft_new ! tt (λ β.
    let z : G.Ghost = (((α ∷ [], (β ∷ [], tt)), (full_share, (full_share, tt)), tt, (a.0, tt), (spelled a.0, tt)), tt) in
    nothing ! $ move ! (1 ∷ 0 ∷ []) $ join ! $ move ! (1 ∷ 0 ∷ []) $ join ! $
    nothing ! $ move ! (2 ∷ 0 ∷ []) $ join ! $ move ! (1 ∷ 0 ∷ []) $ join ! $
    nothing ! $ nothing ! $ use1 𝓛 (raw (fact 𝓤 ((β ∷ []) ⊑ []))) (fact_i 𝓤 ((β ∷ []) ⊑ []) _ (⊑_static (β ∷ []))) $ join ! $
    nothing ! $ use1 𝓛 (raw (fact 𝓤 ((α ∷ []) ⊑ []))) (fact_i 𝓤 ((α ∷ []) ⊑ []) _ (⊑_static (α ∷ []))) $ join ! $
    move ! (1 ∷ 0 ∷ []) $ use2 𝓛 (raw (G.pre z)) (id⊢ 𝓤 _) $
    calls_at ! (framed 𝓤 𝓛.H 𝓜 (tables 𝓤 𝓛.H 𝓜 𝓡 𝓡.env)) G met z (and_then ! (get ! refl) (no_more !)) (λ v.
    use1 𝓛 (later (some (λ (r : Ptr). ((‵ (flft (α ∷ []) full_share) ⊛ ‵ (flft (β ∷ []) full_share) ⊛ ‵ ftrue) ⊛ ‵ (RawPtr.own_val r (v ∷ []))) ⊛
    some (λ (ws : Lasts E z.0.0 z.0.3). ‵ (lasts E z.0.0 z.0.3 ws) ⊛ ‵ (owned_node r a.0.value))))) (id⊢ 𝓤 _) $
    await ! tt $ pick ! (λ r. split ! $ split ! $ drop ! $ feq_l ! (λ is. pick ! (λ ws. split ! $ drop ! $
    -- [the node and its block]
    let wt = ((rawptr_Lawful 𝓛).typed r _ refl).0 in
    let p : Place = record { at = r; value = Some a.0.value } in
    let stored : Is (Struct (shape the_type)) (to the_type p) (lowered p ∷ []) = ((rawptr_vals r, tt), (refl, (refl, tt))) in
    lands_as ! (ap only is) refl wt $
    sets ! (of_opd ! (get ! refl)) refl wt $
    sets ! (agg ! (and_then ! (get ! refl) (no_more !))) refl ((Struct-Lawful 𝓛 (shape the_type) (rawptr_Lawful 𝓛, tt)).typed (to the_type p) (lowered p ∷ []) stored).0 $
    returns ! (look_at ! 0 refl) $ free_all ! refl $
    suffices ! _ (ends_at 𝓛 f.ended stayed c y (lowered p) p (tt, tt) (tt, tt)) $ says ! refl $
    owned ! (Struct (shape the_type)) _ (Struct-Makes 𝓛 (shape the_type) ((λ _ _. tt), tt)) (to the_type p) (lowered p ∷ []) stored $ fjoin ! $
    nothing ! $ nothing ! $ join ! $ nothing ! $ done !))))))))
