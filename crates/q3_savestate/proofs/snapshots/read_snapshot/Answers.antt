use Rattle.std.proofs.Common.{◌-◌, sym, ap, ◌∙◌}
use Rattle.q3_rings.specs.Rings.{CanPutBack, end_in}
use Rattle.q3_savestate.specs.Snapshots.{most_of}
use Rattle.q3_savestate.proofs.SnapshotRead.{can_back, is_full, was_put_back, IsAfter}
use Rattle.q3_savestate.proofs.snapshots.read_snapshot.Goals as goal

pub begin_back-requires-clause-can : goal.begin_back-requires-clause-can
begin_back-requires-clause-can c =
    rw (c.make_room.ensures.held, c.in_ok-head.ensures.number, c.from.ensures, c.from-2.ensures)
    (can_back c.args.profile.now.parse_ring c.args.most c.most_of.result c.in_ok-age.age c.in_ok-count.count c.in_ok-number.number c.args.rings.now c.read_slot.new.cursor c.long.new.self c.read_head.new.cursor
    c.short.new.self c.requires.may c.in_ok-number.ensures.newer c.in_ok-age.ensures c.in_ok-count.ensures c.most_of.ensures)

pub end_back-requires : goal.end_back-requires
end_back-requires c =
    is_full c.args.profile.now.entity c.in_ok-count.count c.in_ok-age.age c.in_ok-head.head c.make_room.new.rings c.begin_back.new.self c.read_entities.new.rings c.short.new.self c.read_entities.new.cursor
    (rw (← c.from.ensures, ← c.from-2.ensures) c.begin_back.ensures) c.in_ok-read_entities.ensures

is_after : (c : goal.After-from-3)
    → IsAfter c.args.profile.now c.args.newest c.args.left c.args.most (c.in_ok-age.age - c.in_ok-count.count) c.args.rings.now.held (end_in c.read_entities.new.rings) c.args.cursor.now c.read_entities.new.cursor
is_after c =
    let profile = c.args.profile.now in
    let held = c.args.rings.now.held in
    let may = c.requires.may in
    let can : CanPutBack held c.in_ok-head.head.number c.in_ok-age.age c.in_ok-count.count =
    rw c.in_ok-head.ensures.number
    (can_back profile.parse_ring c.args.most c.most_of.result c.in_ok-age.age c.in_ok-count.count c.in_ok-number.number c.args.rings.now c.read_slot.new.cursor c.long.new.self c.read_head.new.cursor
    c.short.new.self may c.in_ok-number.ensures.newer c.in_ok-age.ensures c.in_ok-count.ensures c.most_of.ensures) in
    was_put_back profile c.args.newest c.args.left c.args.most c.most_of.result held c.in_ok-number.number c.in_ok-age.age c.in_ok-count.count c.in_ok-head.head c.make_room.new.rings c.begin_back.new.self
    c.read_entities.new.rings c.args.cursor.now c.read_slot.new.cursor c.long.new.self c.read_head.new.cursor c.short.new.self c.read_entities.new.cursor
    (record {
      number_read = c.in_ok-number.ensures.found;
      age_read = c.in_ok-age.ensures;
      head_read = c.in_ok-head.ensures.found;
      count_read = c.in_ok-count.ensures;
      least_is = c.most_of.ensures ∙ ap (λ room. most_of room c.in_ok-age.age) (sym may.room_is);
    })
    c.make_room.ensures.are can may.older c.make_room.ensures.held c.make_room.ensures.placed (rw (← c.from.ensures, ← c.from-2.ensures) c.begin_back.ensures) c.in_ok-read_entities.ensures

pub returns-clause-found : goal.returns-clause-found
returns-clause-found c = rw (c.end_back.ensures, c.from-3.ensures) (is_after c).found

pub returns-clause-may : goal.returns-clause-may
returns-clause-may c = rw (c.end_back.ensures, c.from-3.ensures, ← c.requires.may.room_is) (is_after c).may
