-- What a sender sent to other destinations.
use Rattle.std.specs.Prelude.{◌≡◌, ◌⊎◌, false, None}
use Rattle.std.specs.FinMap as finite
use Rattle.std.specs.declared.net.ipv4_addr.Ipv4Addr.{Ipv4Addr}
use Rattle.audit_sd.specs.sessions.SessionBooks.{Pairs, is_other}

-- the other pairs lack at most what a sender sent to other destinations than one
abbrev pub IsLess : Ipv4Addr → Ipv4Addr → Pairs → Pairs → Type 0
IsLess sender destination pairs less =
    (pair : Ipv4Addr × Ipv4Addr) → (finite.get less pair ≡ finite.get pairs pair) ⊎ ((finite.get less pair ≡ None) × (is_other sender destination pair ≡ false))
