mod SessionLemmas
mod PeerLemmas
