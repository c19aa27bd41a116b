-- Datagrams by their addresses and bytes.
use Rattle.std.proofs.Common.{◌≡◌, ℕ, ◌<◌, ◌≤◌, Bool, List, [], ◌∷◌, ◌++◌, length, drop, zero, suc, refl, ap, arith, Option}
use Rattle.std.specs.Prelude.{slice_index_or}
use Rattle.q3_io.specs.declared.address.Address.{Address}
use Rattle.q3_io.specs.Traffic.{Parcel, next_of}
use Rattle.q3_testio.specs.Parcels.{parcels_of, no_parcel, found_of, arrivals_of}

-- as many as addresses
pub length_parcels_of : (addresses : List Address) (texts : List (List ℕ)) → length addresses ≡ length texts → length (parcels_of addresses texts) ≡ length addresses
unfolding parcels_of
length_parcels_of [] texts e = refl
length_parcels_of (address ∷ addresses) [] e = absurd (omega arith)
length_parcels_of (address ∷ addresses) (bytes ∷ texts) e = ap suc (length_parcels_of addresses texts (omega arith))

-- one more
pub parcels_more : (addresses : List Address) (texts : List (List ℕ)) (address : Address) (bytes : List ℕ) → length addresses ≡ length texts
    → parcels_of (addresses ++ address ∷ []) (texts ++ bytes ∷ []) ≡ parcels_of addresses texts ++ record { address = address; bytes = bytes } ∷ []
unfolding parcels_of
parcels_more [] [] address bytes e = refl
parcels_more [] (text ∷ texts) address bytes e = absurd (omega arith)
parcels_more (other ∷ addresses) [] address bytes e = absurd (omega arith)
parcels_more (other ∷ addresses) (text ∷ texts) address bytes e =
    ap (λ (parcels : List Parcel). record { address = other; bytes = text } ∷ parcels) (parcels_more addresses texts address bytes (omega arith))

-- the one at a place
pub parcel_at : (addresses : List Address) (texts : List (List ℕ)) (place : ℕ) → length addresses ≡ length texts
    → slice_index_or (parcels_of addresses texts) place no_parcel
    ≡ record { address = slice_index_or addresses place (record { host = 0; port = 0 }); bytes = slice_index_or texts place [] }
unfolding parcels_of
parcel_at [] [] place e = refl
parcel_at [] (text ∷ texts) place e = absurd (omega arith)
parcel_at (address ∷ addresses) [] place e = absurd (omega arith)
parcel_at (address ∷ addresses) (text ∷ texts) zero e = refl
parcel_at (address ∷ addresses) (text ∷ texts) (suc place) e = parcel_at addresses texts place (omega arith)

-- ---- arrivals

arrivals_more : (ready : List Bool) (parcels : List Parcel) (one : Bool) (parcel : Parcel) → length ready ≡ length parcels
    → arrivals_of (ready ++ one ∷ []) (parcels ++ parcel ∷ []) ≡ arrivals_of ready parcels ++ found_of one parcel ∷ []
unfolding arrivals_of
arrivals_more [] [] one parcel e = refl
arrivals_more [] (other ∷ parcels) one parcel e = absurd (omega arith)
arrivals_more (other ∷ ready) [] one parcel e = absurd (omega arith)
arrivals_more (other ∷ ready) (first ∷ parcels) one parcel e =
    ap (λ (found : List (Option Parcel)). found_of other first ∷ found) (arrivals_more ready parcels one parcel (omega arith))

length_arrivals : (ready : List Bool) (parcels : List Parcel) → length ready ≡ length parcels → length (arrivals_of ready parcels) ≡ length ready
unfolding arrivals_of
length_arrivals [] parcels e = refl
length_arrivals (one ∷ ready) [] e = absurd (omega arith)
length_arrivals (one ∷ ready) (parcel ∷ parcels) e = ap suc (length_arrivals ready parcels (omega arith))

drop_before : (n : ℕ) (xs ys : List (Option Parcel)) → n ≤ length xs → drop n (xs ++ ys) ≡ drop n xs ++ ys
drop_before zero xs ys within = refl
drop_before (suc n) [] ys within = absurd (omega arith)
drop_before (suc n) (x ∷ xs) ys within = drop_before n xs ys (omega arith)

-- one more, after those that were found
pub told_more : (next : ℕ) (ready : List Bool) (parcels : List Parcel) (one : Bool) (parcel : Parcel) → length ready ≡ length parcels → next ≤ length ready
    → drop next (arrivals_of (ready ++ one ∷ []) (parcels ++ parcel ∷ [])) ≡ drop next (arrivals_of ready parcels) ++ found_of one parcel ∷ []
told_more next ready parcels one parcel e within =
    rw (arrivals_more ready parcels one parcel e)
    (drop_before next (arrivals_of ready parcels) (found_of one parcel ∷ []) (rw (length_arrivals ready parcels e) within))

-- the next one
pub found_at : (next : ℕ) (ready : List Bool) (parcels : List Parcel) (one : Bool) → length ready ≡ length parcels → next < length ready
    → next_of (drop next (arrivals_of ready parcels)) ≡ found_of (slice_index_or ready next one) (slice_index_or parcels next no_parcel)
unfolding arrivals_of
found_at next [] parcels d e within = absurd (omega arith)
found_at next (one ∷ ready) [] d e within = absurd (omega arith)
found_at zero (one ∷ ready) (parcel ∷ parcels) d e within = refl
found_at (suc next) (one ∷ ready) (parcel ∷ parcels) d e within = found_at next ready parcels d (omega arith) (omega arith)

-- none is left
pub none_left : (ready : List Bool) (parcels : List Parcel) → length ready ≡ length parcels → drop (length ready) (arrivals_of ready parcels) ≡ []
unfolding arrivals_of
none_left [] [] e = refl
none_left [] (parcel ∷ parcels) e = absurd (omega arith)
none_left (one ∷ ready) [] e = absurd (omega arith)
none_left (one ∷ ready) (parcel ∷ parcels) e = none_left ready parcels (omega arith)
