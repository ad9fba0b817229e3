-- What a store of parts promises, whatever its body: whole messages, limits, moments, and the payload that comes out.
pub mod WholeLemmas
pub mod BoundLemmas
pub mod CallMoments
pub mod AcceptedLemmas
pub mod ArrivalLemmas
