-- What a list of calls of a store answers, and what it leaves.
use Rattle.std.specs.Prelude.{◌≡◌, ℕ, ◌%◌, List, [], ◌∷◌, ◌++◌, is_some, unwrap_or}
use Rattle.std.specs.FinMap.{empty}
use Rattle.someip_tp.specs.declared.calls.TpCall.{TpCall}
use Rattle.someip_tp.specs.declared.calls.TpCall.TheVariants.{Offer, Take, Expire, Clear}
use Rattle.someip_tp.specs.declared.calls.TpAnswer.{TpAnswer}
use Rattle.someip_tp.specs.declared.calls.TpAnswer.TheVariants.{Offered, Taken, Dropped}
use Rattle.someip_reassembly.specs.Parts.{Limits, Parts, NoneAfter, parts_at}
use Rattle.someip_reassembly.specs.SegmentOffers.{offer, judgement, parts_after, message_at, parts_less}

-- what a call asks of its caller
abbrev pub MayCall : TpCall → Parts → Type 0
MayCall (Offer key offset more bytes now) parts = (offset % 16 ≡ 0) × NoneAfter now parts
MayCall (Take key) parts = Unit {0}
MayCall (Expire now) parts = Unit {0}
MayCall Clear parts = Unit {0}

-- the answer to a call
abbrev pub answer_to : Limits → TpCall → Parts → TpAnswer
answer_to limits (Offer key offset more bytes now) parts = Offered (judgement limits now (offer key offset more bytes.now) parts)
answer_to limits (Take key) parts = Taken (is_some (message_at parts key))
answer_to limits (Expire now) parts = Dropped
answer_to limits Clear parts = Dropped

-- the parts after a call
abbrev pub parts_after_call : Limits → TpCall → Parts → Parts
parts_after_call limits (Offer key offset more bytes now) parts = parts_after limits now (offer key offset more bytes.now) parts
parts_after_call limits (Take key) parts = parts_less parts key
parts_after_call limits (Expire now) parts = parts_at limits now parts
parts_after_call limits Clear parts = empty

-- the bytes that a call takes out: those of a whole message
abbrev pub taken_by : TpCall → Parts → List ℕ
taken_by (Offer key offset more bytes now) parts = []
taken_by (Take key) parts = unwrap_or (message_at parts key) []
taken_by (Expire now) parts = []
taken_by Clear parts = []

-- what the calls ask of their caller, each at its turn
abbrev pub MayCalls : Limits → List TpCall → Parts → Type 0
MayCalls limits [] parts = Unit {0}
MayCalls limits (call ∷ calls) parts = MayCall call parts × MayCalls limits calls (parts_after_call limits call parts)

-- the answers to calls in order
abbrev pub answers_to : Limits → List TpCall → Parts → List TpAnswer
answers_to limits [] parts = []
answers_to limits (call ∷ calls) parts = answer_to limits call parts ∷ answers_to limits calls (parts_after_call limits call parts)

-- the parts after calls in order
abbrev pub parts_through : Limits → List TpCall → Parts → Parts
parts_through limits [] parts = parts
parts_through limits (call ∷ calls) parts = parts_through limits calls (parts_after_call limits call parts)

-- the bytes that calls in order take out
abbrev pub taken_through : Limits → List TpCall → Parts → List ℕ
taken_through limits [] parts = []
taken_through limits (call ∷ calls) parts = taken_by call parts ++ taken_through limits calls (parts_after_call limits call parts)
