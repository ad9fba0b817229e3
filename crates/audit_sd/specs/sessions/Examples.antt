-- Messages of three nodes and the multicast group.
use Rattle.std.specs.Prelude.{ℕ, ◌*◌, Bool, [], ◌∷◌}
use Rattle.std.specs.declared.net.ipv4_addr.Ipv4Addr.{Ipv4Addr}
use Rattle.sd_session.specs.declared.stamp.Stamp.{Stamp}
use Rattle.audit_sd.specs.declared.sessions.message.SdMessage.{SdMessage}

-- 192.168.0.n
abbrev pub node : ℕ → Ipv4Addr
node n = record { octets = 192 ∷ 168 ∷ 0 ∷ n ∷ [] }

-- 224.244.224.245
abbrev pub group : Ipv4Addr
group = record { octets = 224 ∷ 244 ∷ 224 ∷ 245 ∷ [] }

abbrev pub stamp : ℕ → Bool → Stamp
stamp session reboot = record { session = session; reboot = reboot }

-- a message comes at a moment
abbrev pub came : ℕ → Ipv4Addr → Ipv4Addr → ℕ → Bool → SdMessage
came at sender destination session reboot = record { at = at; from = sender; to = destination; stamp = stamp session reboot }

-- a message comes in a second, too late for one before to have overtaken it
abbrev pub sent : ℕ → Ipv4Addr → Ipv4Addr → ℕ → Bool → SdMessage
sent second sender destination session reboot = came (second * 1000) sender destination session reboot
