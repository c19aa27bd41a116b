-- Datagrams in memory, each with an address, and the room that is left for more.
use Rattle.std.specs.Prelude.{ℕ, Bool, true, false, List, [], ◌∷◌, Option, Some, None}
use Rattle.q3_io.specs.declared.address.Address.{Address}
use Rattle.q3_io.specs.Traffic.{Parcel}

-- the datagrams, how many more there may be, and for how many bytes more there is room
pub record ParcelsState : Type 0 where
  pub parcels : List Parcel
  pub spare : ℕ
  pub room : ℕ

-- addresses and bytes, as datagrams
unfoldable pub parcels_of : List Address → List (List ℕ) → List Parcel
parcels_of (address ∷ addresses) (bytes ∷ texts) = record { address = address; bytes = bytes } ∷ parcels_of addresses texts
parcels_of [] texts = []
parcels_of addresses [] = []

-- what stands past the last datagram
abbrev pub no_parcel : Parcel
no_parcel = record { address = record { host = 0; port = 0 }; bytes = [] }

-- what a receive finds: a datagram, where it is ready
abbrev pub found_of : Bool → Parcel → Option Parcel
found_of true parcel = Some parcel
found_of false parcel = None

-- of each datagram whether it is ready, and the datagrams
unfoldable pub arrivals_of : List Bool → List Parcel → List (Option Parcel)
arrivals_of (ready ∷ others) (parcel ∷ parcels) = found_of ready parcel ∷ arrivals_of others parcels
arrivals_of [] parcels = []
arrivals_of ready [] = []
