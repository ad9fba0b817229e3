-- What is printed of a datagram, and at the end.
use Rattle.std.proofs.Common.{◌≡◌, ℕ, List, refl, ap, subst}
use Rattle.someip_services.specs.declared.told.Told.{Told}
use Rattle.someip_services.specs.Services.{Ends, Takes, Work}
use Rattle.someipctl_accounts.specs.Accounts.{Came}
use Rattle.someipctl_services.specs.ServiceText.{AskedServices, EndsServices, ServiceState, TakesServices, told_text}

pub takes_so : (state : ServiceState) (asked : AskedServices) (h after : Work) (came : Came) (told : List Told) → record { asked = asked; known = h.known } ≡ state
    → Takes came.seen h.known after.told after.known → told ≡ after.told → TakesServices state came (told_text asked told) (record { asked = asked; known = after.known })
takes_so state asked h after came told is takes same =
    subst (λ (s : ServiceState). TakesServices s came (told_text asked told) (record { asked = asked; known = after.known })) is
    (record { told = after.told; takes = takes; is = ap (told_text asked) same; asked = refl })

pub ends_so : (state : ServiceState) (asked : AskedServices) (h after : Work) (last : ℕ) (told : List Told) → record { asked = asked; known = h.known } ≡ state
    → Ends last h.known after.told → told ≡ after.told → EndsServices state last (told_text asked told)
ends_so state asked h after last told is ends same =
    subst (λ (s : ServiceState). EndsServices s last (told_text asked told)) is
    (record { told = after.told; ends = ends; is = ap (told_text asked) same })
