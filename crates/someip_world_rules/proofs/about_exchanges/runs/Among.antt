-- What stands in lists of one, and in one of several lists.
use Rattle.std.proofs.Common.{◌≡◌, List, [], ◌∷◌, arith, sym}
use Rattle.std.specs.List.{AllByRecursion, Contains, flat_map}
use Rattle.std.proofs.lemmas.List.Elements.{Contains-append_left, Contains-append_right}
use Rattle.someip_node_rules.proofs.lists.MemberLemmas.{all_flat_map, all_from_members, all_weaker, at_member}

-- the one of a list of one is an element
pub is_among : {X : Type 0} (only x : X) → x ≡ only → Contains (only ∷ []) x
is_among only x is = (0, omega arith, sym is)

-- what is an element of what an element is mapped to is an element of all
pub among_all : {X Y : Type 0} (f : X → List Y) (xs : List X) (x : X) (y : Y) → Contains xs x → Contains (f x) y → Contains (flat_map f xs) y
among_all f xs x y among here = at_member (λ z. Contains (f z) y → Contains (flat_map f xs) y) xs x (each xs) among here
  where
    each : (zs : List _) → AllByRecursion (λ z. Contains (f z) y → Contains (flat_map f zs) y) zs
    each [] = tt
    each (z ∷ zs) = (
      λ there. Contains-append_left (f z) (flat_map f zs) y there,
      all_weaker (λ w. Contains (f w) y → Contains (flat_map f zs) y) (λ w. Contains (f w) y → Contains (flat_map f (z ∷ zs)) y)
          (λ w goes there. Contains-append_right (f z) (flat_map f zs) y (goes there)) zs (each zs),
    )

-- an element of all is one of what some element is mapped to
pub one_among : {X Y : Type 0} (f : X → List Y) (xs : List X) (y : Y) → Contains (flat_map f xs) y → (x : X) × Contains xs x × Contains (f x) y
one_among {X = X} f xs y among =
    at_member (λ z. (x : X) × Contains xs x × Contains (f x) z) (flat_map f xs) y
    (all_flat_map (λ z. (x : X) × Contains xs x × Contains (f x) z) f xs
    (all_from_members (λ x. AllByRecursion (λ z. (w : X) × Contains xs w × Contains (f w) z) (f x)) xs
    (λ x there. all_from_members (λ z. (w : X) × Contains xs w × Contains (f w) z) (f x) (λ z here. (x, there, here))))) among
