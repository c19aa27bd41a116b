use Rattle.std.proofs.Common.{◌<◌, length, get_or, arith}
use Rattle.q3_config.proofs.Places.{HasNext, has_next, more}
use Rattle.q3_config.proofs.table.gather.Goals as goal

here : (c : goal.After-copy-arg-in-loop-place-1) → HasNext c.args.bytes.now c.loop-place.into.items c.args.places.now.items (get_or c.loop-place.place-items c.loop-place.place-index (record { start = 0; length = 0 }))
here c =
    let lt : c.loop-place.place-index < length c.args.places.now.items = rw c.deref_mut-place-items.ensures.value at c.loop-place-test.true in
    has_next c.args.bytes.now c.loop-place.into.items c.args.places.now.items c.loop-place.place-items c.loop-place.place-index _ c.requires.within c.loop-place.invariant.done lt

pub copy-requires-clause-within : goal.copy-requires-clause-within
copy-requires-clause-within c = (here c).within

pub copy-requires-clause-room : goal.copy-requires-clause-room
copy-requires-clause-room c = omega (arith, (here c).fits, c.requires.room, c.clear.ensures.capacity, c.loop-place.invariant.room)

pub loop-place-preserved : goal.loop-place-preserved
loop-place-preserved c =
    let lt : c.loop-place.place-index < length c.args.places.now.items = rw c.deref_mut-place-items.ensures.value at c.loop-place-test.true in
    record {
      done = more c.args.bytes.now c.loop-place.into.items c.copy.new.into.items c.args.places.now.items c.loop-place.place-items c.loop-place.place-index _ c.copy.result
          c.requires.within c.loop-place.invariant.done lt c.copy.ensures.items c.copy.ensures.place;
      room = omega (arith, c.loop-place.invariant.room, c.copy.ensures.room);
    }
