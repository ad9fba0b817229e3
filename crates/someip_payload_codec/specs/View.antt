-- What windows stand for.
use Rattle.std.specs.Prelude.{ℕ, Bool, List}
use Rattle.someip_payload_codec.specs.declared.window.Window.{Window}

-- what is left to read: whether it is in the body of a length field, where it begins, and the bytes
pub record View : Type 0 where
  pub is_body : Bool
  pub place : ℕ
  pub bytes : List ℕ

-- what a window stands for
abbrev pub seen : Window → View
seen w = record { is_body = w.is_body; place = w.place; bytes = w.bytes.now }
