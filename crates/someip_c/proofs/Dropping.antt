-- The drop of a value, as what lets a type parameter's value go.
use Rattle.std.proofs.Common.{[], ◌∷◌, refl}
use seplogic.Ra.Ura.{Ura}
use mir.Syntax.{Dict, impl, method, no_args, tnil, dnil}
use mir.Raw.{raw as raw_of}
use base.Logic.{SProp, sep, ex, via, mono_l, emp}
use base.Fml.{ftrue, flft}
use prog.Model.{Model}
use prog.Wired.{Wired}
use types.Logic.{Logic, sem}
use types.Kit.{‵, raw, ◌⊛◌, ◌$◌, ◌∵◌, !, qed, done, move, keep, join, split, use1, some, pick, show}
use contract.Running.{Running}
use contract.Monad.{fact}
use denote.Exit.{no, rest}
use contract.BorrowLft.{◌⊑◌}
use denote.Builtin.{unit}
use denote.Param as Param
use denote.Param.Glue as Glue
use denote.RattleType.{RattleType}
use denote.Steps.{nothing}
use denote.Triple.Clauses.{Ended, Lasts, lasts}
use denote.Triple.Spec.{triple_of, Back}
use denote.Triple.Table.{run_framed, widened}
use Rattle.someip_c_node.specs.contracts.node.CNode.{the_row as NodeRow}
use Rattle.someip_c.specs.contracts.someip_c_node++node++CNode+Destruct.drop as f
use Rattle.someip_c.proofs.someip_c_node++node++CNode+Destruct.drop.Symbol as symbol
use Rattle.someip_c.proofs.someip_c_node++node++CNode+Destruct.drop.Met.{met}

abbrev pub NodeArg : RattleType
NodeArg = Param.arg (raw_of (Param.layout NodeRow)) no NodeRow

abbrev pub drops : Dict
drops = impl ("someip_c::someip_c_node++node++CNode+Destruct::drop" ∷ []) tnil dnil

abbrev gone : Ended
gone = record { signature = Glue.signature NodeArg; kept = (no, tt) }

pub glue : {M : Type 1} (𝓤 : Ura M) (𝓛 : Logic 𝓤) (𝓜 : Model 𝓤 𝓛.H) (𝓡 : Running 𝓤 𝓛.H 𝓜) → Wired 𝓡.env symbol.code → Glue.Met 𝓛 𝓜 𝓡 𝓡.env NodeArg drops
glue 𝓤 𝓛 𝓜 𝓡 wired y =
    let F = triple_of 𝓛 f.signature (f.spec 𝓛 𝓜.mem 𝓡.returns) in
    let G = triple_of 𝓛 (Glue.signature NodeArg) (Glue.spent 𝓛 NodeArg) in
    let called = method drops 0 no_args in
    let z : F.Ghost = ((tt, tt, tt, y.0.3, y.0.4), tt) in
    let known = widened 𝓤 𝓛.H F 𝓜 𝓡 𝓡.env (𝓡.env symbol.name) (𝓡.env called) (symbol.as_method 𝓡.env wired called refl) (met 𝓤 𝓛 𝓜 𝓡 wired) z in
    let token : SProp 𝓤 = sem 𝓛 (flft y.0.0.0 y.0.1.0) in
    via 𝓤 (sep 𝓤 (F.pre z) token) (qed 𝓛 (((‵ (flft y.0.0.0 y.0.1.0) ⊛ ‵ ftrue) ⊛ (‵ (NodeRow.own_val y.0.3.0 y.0.4.0) ⊛ ‵ ftrue)) ∷ (raw (fact 𝓤 (y.0.0.0 ⊑ NodeArg.lives)) ⊛ ‵ ftrue) ∷ []) ∵
    split ! $ split ! $ move ! (1 ∷ 2 ∷ []) $ join ! $ nothing ! $ move ! (1 ∷ 0 ∷ []) $ join ! $ join ! $ keep ! (0 ∷ []) $ done !)
    (via 𝓤 (sep 𝓤 (𝓡.run (𝓡.env called) (F.args z) (F.post z)) token) (mono_l 𝓤 token known) (run_framed 𝓤 𝓛.H 𝓜 𝓡 (𝓡.env called) (F.args z) (F.post z) (G.post y) token (λ v.
    let Left = λ (r : Unit {0}). sep 𝓤 (sep 𝓤 (emp 𝓤) (sem 𝓛 (unit.own_val r (v ∷ [])))) ((f.spec 𝓛 𝓜.mem 𝓡.returns tt (y.0.3.0, tt)).ensures tt r) in
    via 𝓤 (𝓛.H.⇛ (sep 𝓤 (ex 𝓤 Left) token)) (𝓛.laws.⇛_frame (ex 𝓤 Left) token) (𝓛.laws.⇛_mono _ _
    (qed 𝓛 (some (λ (r : Unit {0}). (‵ ftrue ⊛ ‵ (unit.own_val r (v ∷ []))) ⊛ raw ((f.spec 𝓛 𝓜.mem 𝓡.returns tt (y.0.3.0, tt)).ensures tt r)) ∷ ‵ (flft y.0.0.0 y.0.1.0) ∷ []) ∵
    pick ! (λ r. split ! $ split ! $ show ! (λ (r : Unit {0}). sep 𝓤 (Back 𝓛 (Glue.signature NodeArg) y.0 v r) ((Glue.spent 𝓛 NodeArg y.0.0 y.0.3).ensures y.1 r)) r $
    nothing ! $ use1 𝓛 (raw ((Glue.spent 𝓛 NodeArg y.0.0 y.0.3).ensures y.1 r))
    (qed 𝓛 (‵ ftrue ∷ []) ∵ show ! (λ (ws : Lasts gone y.0.0 y.0.3). sep 𝓤 (sem 𝓛 (lasts gone y.0.0 y.0.3 ws)) (emp 𝓤)) (rest ((Param.param 0 NodeArg).exit no) y.0.3.0, tt) $ nothing ! $ join ! $ nothing ! $ move ! (1 ∷ 0 ∷ []) $ done !) $
    move ! (1 ∷ 4 ∷ 2 ∷ 0 ∷ []) $ move ! (1 ∷ 0 ∷ []) $ join ! $ join ! $ join ! $ keep ! (0 ∷ []) $ done !))))))
