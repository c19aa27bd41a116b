use Rattle.std.proofs.Common.{◌≡◌, ◌∙◌, ◌<◌, ◌+◌, Bool, List, length, drop, Option, Some, None, sym, ap, rules, arith}
use Rattle.std.specs.Prelude.{slice_index_or}
use Rattle.std.proofs.Math.Seq.{drop-drop}
use Rattle.q3_io.specs.Traffic.{Parcel, next_of}
use Rattle.q3_testio.specs.Parcels.{arrivals_of, found_of, no_parcel}
use Rattle.q3_testio.proofs.ParcelPlaces.{found_at}
use Rattle.q3_testio.proofs.wire.MemWireWire.receive.Goals as goal

pub returns-then-not-index-clause-told : goal.returns-then-not-index-clause-told
returns-then-not-index-clause-told c =
    let wire = c.self.inside in
    let within : wire.next < length wire.ready.items = search (rules, arith) in
    let left = arrivals_of wire.ready.items wire.arrivals.parcels in
    let found : next_of (drop wire.next left) ≡ None =
    found_at wire.next wire.ready.items wire.arrivals.parcels c.index.result.now c.self.invariant.0 within
    ∙ ap (λ (ready : Bool). found_of ready (slice_index_or wire.arrivals.parcels wire.next no_parcel)) (sym c.index.ensures ∙ c.if-not-index.true) in
    rw (sym c.self.view_is) (ap (λ (arrivals : List (Option Parcel)). Some (record { at = wire.at; arrivals = arrivals; sent = wire.sent.parcels })) (sym (drop-drop 1 wire.next left)), found)

pub returns-then-not-index-clause-whole : goal.returns-then-not-index-clause-whole
returns-then-not-index-clause-whole c =
    let wire = c.self.inside in
    let left = arrivals_of wire.ready.items wire.arrivals.parcels in
    let rest : drop (wire.next + 1) left ≡ drop 1 (drop wire.next left) = sym (drop-drop 1 wire.next left) in
    search (rules, rest)

pub returns-clause-told : goal.returns-clause-told
returns-clause-told c =
    let wire = c.self.inside in
    let within : wire.next < length wire.ready.items = search (rules, arith) in
    let left = arrivals_of wire.ready.items wire.arrivals.parcels in
    let parcel = slice_index_or wire.arrivals.parcels wire.next no_parcel in
    let found : next_of (drop wire.next left) ≡ Some parcel =
    found_at wire.next wire.ready.items wire.arrivals.parcels c.index.result.now c.self.invariant.0 within
    ∙ ap (λ (ready : Bool). found_of ready parcel) (sym c.index.ensures ∙ c.if-not-index.false) in
    rw (sym c.self.view_is) (
      ap (λ (arrivals : List (Option Parcel)). Some (record { at = wire.at; arrivals = arrivals; sent = wire.sent.parcels })) (sym (drop-drop 1 wire.next left)),
      parcel,
      found,
      record { from_is = c.address.ensures; count_is = search rules; bytes = search rules },
    )

pub returns-clause-whole : goal.returns-clause-whole
returns-clause-whole c =
    let wire = c.self.inside in
    let left = arrivals_of wire.ready.items wire.arrivals.parcels in
    let rest : drop (wire.next + 1) left ≡ drop 1 (drop wire.next left) = sym (drop-drop 1 wire.next left) in
    search (rules, rest)
