-- What is told of a wire, and what each call changes.
use Rattle.std.specs.Prelude.{◌≡◌, ℕ, min, List, [], ◌∷◌, ◌++◌, length, take, drop, Option, Some, None, Result, Ok, Err}
use Rattle.q3_io.specs.declared.address.Address.{Address}
use Rattle.q3_io.specs.declared.sink.Failed.{Failed}

-- a datagram, and the address that it comes from or goes to
pub record Parcel : Type 0 where
  pub address : Address
  pub bytes : List ℕ

-- the address that is bound, if one is; what each further `receive` finds, if anything; and what was sent, in order
pub record Traffic : Type 0 where
  pub at : Option Address
  pub arrivals : List (Option Parcel)
  pub sent : List Parcel

-- what the next `receive` finds: after the last that is told of, nothing is ready
abbrev pub next_of : List (Option Parcel) → Option Parcel
next_of [] = None
next_of (next ∷ others) = next

abbrev pub after_bind : Traffic → Address → Traffic
after_bind traffic at = record traffic { at = Some at }

abbrev pub after_send : Traffic → Address → List ℕ → Traffic
after_send traffic to bytes = record traffic { sent = traffic.sent ++ record { address = to; bytes = bytes } ∷ [] }

abbrev pub after_receive : Traffic → Traffic
after_receive traffic = record traffic { arrivals = drop 1 traffic.arrivals }

-- an address is bound, unless the call failed
abbrev pub Binds : Option Traffic → Option Traffic → Address → Result (Unit {0}) Failed → Type 0
Binds None now at result = now ≡ None
Binds (Some traffic) now at (Ok x) = now ≡ Some (after_bind traffic at)
Binds (Some traffic) now at (Err e) = now ≡ Some traffic

-- a datagram is sent, unless the call failed
abbrev pub Sends : Option Traffic → Option Traffic → Address → List ℕ → Result (Unit {0}) Failed → Type 0
Sends None now to bytes result = now ≡ None
Sends (Some traffic) now to bytes (Ok x) = now ≡ Some (after_send traffic to bytes)
Sends (Some traffic) now to bytes (Err e) = now ≡ Some traffic

-- an arrival is cut to the buffer, whose first bytes are then the arrival's
pub record Fills (parcel : Parcel) (old new : List ℕ) (from : Address) (count : ℕ) : Type 0 where
  pub from_is : from ≡ parcel.address
  pub count_is : count ≡ min (length parcel.bytes) (length old)
  pub bytes : take count new ≡ take count parcel.bytes

-- what the next `receive` finds is handed over: an arrival, or that nothing is ready; a call that failed finds nothing out
abbrev pub Receives : Option Traffic → Option Traffic → List ℕ → List ℕ → Result (Option (Address × ℕ)) Failed → Type 0
Receives None now old new result = now ≡ None
Receives (Some traffic) now old new (Ok None) = (now ≡ Some (after_receive traffic)) × (next_of traffic.arrivals ≡ None)
Receives (Some traffic) now old new (Ok (Some (from, count))) =
    (now ≡ Some (after_receive traffic)) × (parcel : Parcel) × (next_of traffic.arrivals ≡ Some parcel) × Fills parcel old new from count
Receives (Some traffic) now old new (Err e) = now ≡ Some traffic
