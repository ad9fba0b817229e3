-- `Place::into_box` meets its contract: what a place owns is what a box owns.
use Rattle.std.proofs.Common.{◌≡◌, ◌∙◌, ap, sym, [], ◌∷◌, refl}
use Rattle.std.proofs.lemmas.Bool.{true≢false}
use Rattle.std.proofs.raw_atomic.Walks.{proved}
use Rattle.std.specs.Prelude.{Option, None, Some, is_some, true}
use base.Fml.{ftrue}
use base.Logic.{id⊢}
use base.Fraction.{full_share}
use mir.Syntax.{Dict, impl, tcons, tnil, dnil}
use mir.Raw.{raw as raw_of}
use denote.RattleType.{RattleType}
use contract.Running.{tables}
use contract.Monad.{fact, fact_i}
use contract.BorrowLft.{◌⊑◌, ⊑_static}
use types.Kit.{‵, raw, ◌⊛◌, ◌$◌, ◌∵◌, !, qed, done, move, drop, join, split, use1, use2, later, some, pick, await, at_ret, fsplit, feq_i, suffices, rewrite}
use types.Run.{enter, of_opd, no_more, and_then, returns, first, blocks, exec, fld, stop}
use types.ByLocal.{alloc_all, pass_all, free_all, look_at, sets, get, get_in, lands_last, env}
use types.Part.{sub, whole}
use types.Tokens.{lft_new}
use denote.Exit.{yes, no}
use denote.Param as Param
use denote.Param.NoDrop as NoDrop
use denote.Param.Laws as ParamLaws
use denote.RawPtr.{rawptr_vals, rawptr_Lawful}
use denote.Laws.{all_Typed}
use denote.Signature.{types_at}
use Rattle.someip_c_node.specs.Calls.{CNodeView}
use Rattle.someip_c.specs.Owned.{owned as owned_at}
use denote.Signature.{plain}
use denote.Steps.{nothing, heard, peeks}
use denote.Triple.Call.{calls_at_last}
use denote.Triple.Clauses.{Ended, Lasts, lasts}
use base.Fml.{flft}
use Rattle.std.specs.Prelude.{Box}
use Rattle.std_alloc.specs.contracts.boxed.Box.{the_row as BoxOf}
use Rattle.std_heap.specs.declared.Global.{Global}
use Rattle.std_alloc.proofs.boxed.Box.TheLaws as BoxLaws
use denote.Laws.{shows}
use denote.Triple.Spec.{triple_of}
use denote.Triple.Table.{framed}
use denote.Triple.Walked.{Stays, walk_of, says, ends_at, stay_dropped, Goes-dropped}
use Rattle.std_heap.specs.contracts.Global.{the_row as GlobalRow}
use Rattle.std_heap.proofs.Global.TheLaws as GlobalLaws
use Rattle.std_heap.specs.contracts.GlobalAllocator.TheImpl as Heap
use Rattle.std_heap.proofs.GlobalAllocator.TheImpl.Met as HeapMet
use Rattle.std_alloc.specs.contracts.boxed.Box.from_raw as g
use Rattle.std_alloc.proofs.boxed.Box.from_raw.Met as from_raw
use Rattle.someip_c_node.specs.contracts.node.CNode.{the_row as NodeRow}
use Rattle.someip_c_node.proofs.node.CNode.TheLaws as NodeLaws
use Rattle.someip_c.specs.contracts.place.Place.{the_row}
use Rattle.someip_c.specs.contracts.place.Place.into_box as f
use Rattle.someip_c.proofs.place.Place.into_box.Statement.{statement}
use Rattle.someip_c.proofs.place.Place.into_box.Code as code
use Rattle.someip_c.proofs.place.Place.TheLaws.{lowers, lowered, the_row_laws}

abbrev stayed : Stays f.ended.signature.params f.ended.kept
stayed = (stay_dropped _ yes, (stay_dropped _ yes, tt))

abbrev NodeArg : RattleType
NodeArg = Param.arg (raw_of (Param.layout NodeRow)) no NodeRow

abbrev node_laws : ParamLaws.Laws NodeArg
node_laws = ParamLaws.arg_laws (raw_of (Param.layout NodeRow)) no NodeRow NodeLaws.the_row_laws refl

abbrev HeapArg : RattleType
HeapArg = Param.arg (raw_of (Param.layout GlobalRow)) no GlobalRow

abbrev heap_laws : ParamLaws.Laws HeapArg
heap_laws = ParamLaws.arg_laws (raw_of (Param.layout GlobalRow)) no GlobalRow GlobalLaws.the_row_laws refl

abbrev no_drop : Dict
no_drop = impl ("someip_c::Destruct++none::drop" ∷ []) (tcons (Param.layout HeapArg) tnil) dnil

abbrev E : Ended
E = g.ended NodeArg HeapArg Heap.ghosts Heap.dict no_drop

abbrev BoxRow : RattleType
BoxRow = BoxOf NodeRow GlobalRow Heap.ghosts

abbrev box_laws : ParamLaws.Laws BoxRow
box_laws = BoxLaws.the_row_laws NodeRow GlobalRow Heap.ghosts NodeLaws.the_row_laws GlobalLaws.the_row_laws

some_of : (v : Option CNodeView) → is_some v ≡ true → (value : CNodeView) × (v ≡ Some value)
some_of (Some value) e = (value, refl)
some_of None e = absurd (true≢false (sym e))

pub into_box_spec : {M : Type 1} → statement M
unfolding Rattle.someip_c.proofs.Destruct++none.drop.Code.code
into_box_spec {M} 𝓤 𝓛 𝓜 𝓡 wired =
    let c = f.clauses 𝓛 𝓜.mem 𝓡.returns in let W = walk_of 𝓛 f.ended stayed c in let 𝓣 = tables 𝓤 𝓛.H 𝓜 𝓡 𝓡.env in
    let met = from_raw.met 𝓤 𝓛 𝓜 𝓡 (code.calls-std_alloc::boxed::Box::from_raw 𝓡.env wired) NodeArg HeapArg node_laws heap_laws Heap.ghosts Heap.dict no_drop
    (HeapMet.passed 𝓡.env (code.calls-std_heap::GlobalAllocator::allocate 𝓡.env wired) (code.calls-std_heap::GlobalAllocator::deallocate 𝓡.env wired)
    (code.calls-std_heap::GlobalAllocator::grow 𝓡.env wired) (code.calls-std_heap::GlobalAllocator::shrink 𝓡.env wired) M 𝓤 𝓛 𝓜 𝓡)
    (NoDrop.glues "someip_c::Destruct++none::drop" 𝓡.env (code.calls-someip_c::Destruct++none::drop 𝓡.env wired) HeapArg heap_laws M 𝓤 𝓛 𝓜 𝓡) in
    proved 𝓛 f.ended stayed c 𝓜 𝓡 (Goes-dropped 𝓛 0 (plain (λ _. the_row)) yes (λ κs x w. refl), (Goes-dropped 𝓛 0 (plain (λ _. GlobalRow)) yes (λ κs x w. refl), tt))
    f.Key.name code.function (code.unfolded 𝓤 𝓛.H 𝓜 𝓡 wired)
    (λ κs. ((λ d. lowered d ∷ []), ((λ d. GlobalLaws.lowered d ∷ []), tt))) (λ κs. (lowers.val_is, (GlobalLaws.lowers.val_is, tt))) (λ κs qs bounds a _ are.
    let y : W.Ghost = ((κs, qs, bounds, a, (lowered a.0 ∷ [], (GlobalLaws.lowered a.1.0 ∷ [], tt))), tt) in
    let G = triple_of 𝓛 (g.signature NodeArg HeapArg Heap.ghosts Heap.dict no_drop) (g.spec NodeArg HeapArg Heap.ghosts Heap.dict no_drop 𝓛 𝓜.mem 𝓡.returns) in
    let Held = λ (v : Option CNodeView). ‵ (owned_at a.0.at v) in
    let wt = (rawptr_Lawful 𝓛).typed a.0.at _ refl in
    let params = f.signature.params in
    let all = all_Typed 𝓛 (types_at params κs) (the_row_laws.lawful 𝓛, (GlobalLaws.the_row_laws.lawful 𝓛, tt)) a y.0.4 are in
    qed 𝓛 ((‵ ftrue ⊛ ‵ (the_row.own_val a.0 (lowered a.0 ∷ [])) ⊛ ‵ (GlobalRow.own_val a.1.0 (GlobalLaws.lowered a.1.0 ∷ [])) ⊛ ‵ ftrue) ∷ raw (fact 𝓤 (is_some a.0.value ≡ true)) ∷ []) ∵
    split ! $ drop ! $ split ! $ move ! (1 ∷ []) $ split ! $ move ! (1 ∷ []) $ drop ! $ move ! (2 ∷ []) $ heard ! _ (λ there.
    let value : CNodeView = (some_of a.0.value there).0 in let holds : a.0.value ≡ Some value = (some_of a.0.value there).1 in
    move ! (1 ∷ []) $ fsplit ! $ drop ! $ rewrite ! 0 Held holds refl $
    -- [the node and its block; the allocator]
    enter ! _ _ _ _ _ $ alloc_all ! (λ l. pass_all ! refl all $
    sets ! (of_opd ! (get_in ! (fld ! refl (stop !)) (sub ! 0 refl (whole !)))) refl wt.0 $
    first ! $ blocks ! $ sets ! (of_opd ! (get ! refl)) refl wt.0 $
    lft_new ! tt (λ α. lft_new ! tt (λ β.
    let z : G.Ghost = (((α ∷ [], (β ∷ [], tt)), (full_share, (full_share, tt)), tt, (a.1.0, (a.0.at, tt)), (GlobalLaws.lowered a.1.0 ∷ [], (rawptr_vals a.0.at, tt))), value) in
    -- [two lifetimes that were made for the call; the node and its block; the allocator]
    nothing ! $ move ! (1 ∷ 0 ∷ []) $ join ! $ move ! (1 ∷ 0 ∷ []) $ join ! $
    nothing ! $ feq_i ! _ (rawptr_vals a.0.at) _ refl $ join ! $ move ! (3 ∷ 0 ∷ []) $ join ! $ move ! (1 ∷ 0 ∷ []) $ join ! $
    move ! (1 ∷ []) $ nothing ! $ use1 𝓛 (raw (fact 𝓤 ((β ∷ []) ⊑ []))) (fact_i 𝓤 ((β ∷ []) ⊑ []) _ (⊑_static (β ∷ []))) $ join ! $
    nothing ! $ use1 𝓛 (raw (fact 𝓤 ((α ∷ []) ⊑ []))) (fact_i 𝓤 ((α ∷ []) ⊑ []) _ (⊑_static (α ∷ []))) $ join ! $
    move ! (1 ∷ 0 ∷ []) $ use2 𝓛 (raw (G.pre z)) (id⊢ 𝓤 _) $
    calls_at_last ! (framed 𝓤 𝓛.H 𝓜 (tables 𝓤 𝓛.H 𝓜 𝓡 𝓡.env)) G met z (and_then ! (get ! refl) (and_then ! (get ! refl) (no_more !))) (λ v.
    use1 𝓛 (later (some (λ (r : Box CNodeView Global). ((‵ (flft (α ∷ []) full_share) ⊛ ‵ (flft (β ∷ []) full_share) ⊛ ‵ ftrue) ⊛ ‵ (BoxRow.own_val r (v ∷ []))) ⊛
    some (λ (ws : Lasts E z.0.0 z.0.3). ‵ (lasts E z.0.0 z.0.3 ws) ⊛ raw (fact 𝓤 (r.value ≡ value)) ⊛ raw (fact 𝓤 (r.alloc ≡ a.1.0)))))) (id⊢ 𝓤 _) $
    await ! tt $ pick ! (λ r. split ! $ split ! $ drop ! $ move ! (1 ∷ []) $ pick ! (λ ws. split ! $ drop ! $ split ! $ heard ! _ (λ same. drop ! $
    -- [the box]
    peeks ! BoxRow _ (shows 𝓛 BoxRow) r (v ∷ []) (λ is.
    let typed = ((box_laws.lawful 𝓛).typed r (v ∷ []) is).0 in
    lands_last ! refl typed $ exec ! 𝓣.C 𝓣.Λ (env code.Mir.locals l) code.Mir.t-3 (at_ret _ (W.post y)) $
    sets ! (of_opd ! (get ! refl)) refl typed $
    returns ! (look_at ! 0 refl) $ free_all ! refl $
    suffices ! _ (ends_at 𝓛 f.ended stayed c y v r (tt, (tt, tt)) (tt, (tt, tt))) $ says ! (holds ∙ ap Some (sym same)) $
    nothing ! $ nothing ! $ join ! $ nothing ! $ join ! $ nothing ! $ done !))))))))))
