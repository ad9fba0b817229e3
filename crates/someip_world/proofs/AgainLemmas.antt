-- Those who act begin again.
use Rattle.std.proofs.Common.{◌≡◌, ℕ, zero, suc, ◌+◌, ◌<◌, ◌≤◌, Bool, true, false, List, [], ◌∷◌, ◌++◌, length, map, arith, get_or, take, slice_get, slice_set, Some, refl, sym, ap, subst, ◌∙◌}
use Rattle.std.proofs.lemmas.List.{take_all, take_more_set}
use Rattle.std.proofs.lemmas.Slice.Zip.{AllZip-long}
use Rattle.std.specs.List.{AllZip}
use Rattle.std.proofs.lemmas.Option.{slice_get_within}
use Rattle.someip_node_rules.specs.histories.History.{start_of}
use Rattle.someip_node_rules.specs.declared.config.Config.{Config}
use Rattle.someip_world_setup.specs.declared.setup_node.SetupNode.{SetupNode}
use Rattle.someip_world.specs.declared.actor.Actor.{Actor}
use Rattle.someip_world.specs.declared.actor.Actor.TheVariants.{Node, Liar}
use Rattle.someip_world.specs.Acting.{Role, actor_of, again, role_of, role_with, view_of}
use Rattle.someip_world.specs.Running.{AreOf, AreStarted, IsRoleOf, IsStarted}
use Rattle.someip_world.proofs.RunLemmas.{more_started}

started_role : (R : Type 0) (liar : Bool) (config : Config) (delay : ℕ) → role_of {R = R} (actor_of liar (start_of config delay)) ≡ role_with liar config
started_role R true config delay = refl
started_role R false config delay = refl

module _ {R : Type 0} where
  -- ---- one

  -- what begins again is as what was started
  again_as : (liar : Bool) (config : Config) (delay : ℕ) (old : Actor R) → role_of old ≡ role_with liar config → again delay old ≡ actor_of liar (start_of config delay)
  again_as false config delay (Node view) is = let same : view.config ≡ config = cc in ap (λ c. Node (view_of (start_of c delay))) same
  again_as true config delay (Liar address) is = let same : address ≡ config.address = cc in ap Liar same
  again_as true config delay (Node view) is = absurd cc
  again_as false config delay (Liar address) is = absurd cc

  again_started : (node : SetupNode) (old new : Actor R) → IsRoleOf node (role_of old) → new ≡ again node.delay old → IsStarted node new
  again_started node old new is begins = (is.0, is.1, begins ∙ again_as node.is_liar is.0 node.delay old is.2)

  -- ---- all

  -- those that were started are those of the setup
  pub started_are : (nodes : List SetupNode) (actors : List (Actor R)) → AreStarted nodes actors → AreOf nodes actors
  started_are [] [] all = tt
  started_are [] (a ∷ actors) all = absurd all
  started_are (n ∷ nodes) [] all = absurd all
  started_are (n ∷ nodes) (a ∷ actors) all =
      ((all.0.0, all.0.1, ap role_of all.0.2 ∙ started_role R n.is_liar all.0.0 n.delay), started_are nodes actors all.1)

  -- and so are those with the same roles
  pub same_are : (nodes : List SetupNode) (old new : List (Actor R)) → AreOf nodes old → map role_of new ≡ map role_of old → AreOf nodes new
  same_are nodes old new all same = subst (AllZip IsRoleOf nodes) (sym same) all

  map_long : (actors : List (Actor R)) → length (map role_of actors) ≡ length actors
  map_long [] = refl
  map_long (a ∷ actors) = ap suc (map_long actors)

  -- there are as many
  pub are_long : (nodes : List SetupNode) (actors : List (Actor R)) → AreOf nodes actors → length actors ≡ length nodes
  are_long nodes actors all = sym (map_long actors) ∙ AllZip-long IsRoleOf nodes (map role_of actors) all

  -- the roles stay where one of them stays
  pub role_kept : (actors : List (Actor R)) (k : ℕ) (old new : Actor R) → slice_get actors k ≡ Some old → role_of new ≡ role_of old
      → map role_of (slice_set actors k new) ≡ map role_of actors
  role_kept [] k old new here same = refl
  role_kept (a ∷ actors) zero old new here same = let is : a ≡ old = cc in ap (λ r. r ∷ map role_of actors) (same ∙ ap role_of (sym is))
  role_kept (a ∷ actors) (suc k) old new here same = ap (λ rs. role_of a ∷ rs) (role_kept actors k old new here same)

  -- the role at a place
  role_got : (nodes : List SetupNode) (actors : List (Actor R)) (i : ℕ) (node : SetupNode) (actor : Actor R) → AreOf nodes actors → i < length nodes → node ≡ get_or nodes i node
      → slice_get actors i ≡ Some actor → IsRoleOf node (role_of actor)
  role_got [] actors i node actor all lt is here = absurd (omega (arith, lt))
  role_got (n ∷ nodes) [] i node actor all lt is here = absurd all
  role_got (n ∷ nodes) (a ∷ actors) zero node actor all lt is here =
      let same : a ≡ actor = cc in subst (λ x. IsRoleOf node (role_of x)) same (subst (λ m. IsRoleOf m (role_of a)) (sym is) all.0)
  role_got (n ∷ nodes) (a ∷ actors) (suc i) node actor all lt is here = role_got nodes actors i node actor all.1 (omega (arith, lt)) is here

  -- one more begins again
  pub more_again : (nodes : List SetupNode) (i : ℕ) (node : SetupNode) (actors : List (Actor R)) (old new : Actor R) → AreOf nodes actors
      → AreStarted (take i nodes) (take i actors) → i < length nodes → node ≡ get_or nodes i node → slice_get actors i ≡ Some old → new ≡ again node.delay old
      → AreStarted (take (i + 1) nodes) (take (i + 1) (slice_set actors i new))
  more_again nodes i node actors old new all so_far lt is here begins =
      more_started nodes i node (take i actors) (take (i + 1) (slice_set actors i new)) new so_far lt is
      (again_started node old new (role_got nodes actors i node old all lt is here) begins)
      (take_more_set actors i new (slice_get_within actors i old here))

  -- all did
  pub all_again : (nodes : List SetupNode) (i : ℕ) (actors : List (Actor R)) → AreOf nodes actors → AreStarted (take i nodes) (take i actors) → length nodes ≤ i
      → AreStarted nodes actors
  all_again nodes i actors all so_far past =
      let long = are_long nodes actors all in
      subst (λ ns. AreStarted ns actors) (take_all i nodes past)
      (subst (AreStarted (take i nodes)) (take_all i actors (omega (arith, long, past))) so_far)
