-- The requests that wait, as a slab holds them: an index has the key of each token.
use Rattle.std.specs.Prelude.{◌≡◌, ℕ, List, [], ◌∷◌, Option, None, Some}
use Rattle.std.specs.Option.{option_map}
use Rattle.std.specs.Ordering.{nat_cmp}
use Rattle.std.specs.BTreeMap as tree
use Rattle.std.specs.BTreeMap.{BTreeMap}
use Rattle.slab.specs.Slab as slab
use Rattle.slab.specs.Slab.{Slab}
use Rattle.someip_rpc.specs.declared.request.Asked.{Asked}
use Rattle.someip_rpc.specs.declared.open.Held.{Held}

-- what stands for the request of a key that has none
abbrev pub no_request : Asked
no_request = record {
  peer = record { ip = record { octets = [] }; port = 0 };
  endpoint = record { ip = record { octets = [] }; port = 0 };
  message = record { service = 0; method = 0 };
  client = 0;
  session = 0;
  interface = 0;
}

abbrev pub request_of : Option Held → Asked
request_of None = no_request
request_of (Some held) = held.request

-- the request of each token of an index
abbrev pub requests_of : Slab Held → List (ℕ × ℕ) → List (ℕ × Asked)
requests_of held [] = []
requests_of held (e ∷ es) = (e.0, request_of (slab.get held e.1)) ∷ requests_of held es

-- under the key of each token stands a request, with that token
abbrev pub Indexes : BTreeMap ℕ ℕ → Slab Held → Type 0
Indexes index held = (token key : ℕ) → tree.get nat_cmp index token ≡ Some key → option_map (λ h. h.token) (slab.get held key) ≡ Some token
