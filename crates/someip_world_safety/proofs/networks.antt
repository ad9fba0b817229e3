-- A network that was read: whose its addresses, ports and offers are, and where its nodes take messages.
pub mod AddressLemmas
pub mod LiarLemmas
pub mod KnownPeers
pub mod PeerLemmas
pub mod ClientEndpoint
pub mod InstanceEndpoint
pub mod OfferLemmas
pub mod PortLemmas
