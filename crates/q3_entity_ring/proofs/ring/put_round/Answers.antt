use Rattle.std.proofs.Common.{◌≡◌, ◌-◌, ◌≤◌, ◌++◌, List, length, take, drop, ap, ◌∙◌, arith}
use Rattle.std.proofs.lemmas.List.{take-append-drop, take_rest, length-take-le, length-drop}
use Rattle.q3_entity.specs.declared.state.EntityState.{EntityState}
use Rattle.q3_entity.specs.Entities.{zero_entity}
use Rattle.q3_entity_ring.specs.Turned.{filled}
use Rattle.q3_entity_ring.proofs.Rounds.{put_within, put_past, length-put, filled_put, length-filled}
use Rattle.q3_entity_ring.proofs.ring.put_round.Goals as goal

pub returns-then-entities-after-clause-cells : goal.returns-then-entities-after-clause-cells
returns-then-entities-after-clause-cells c =
    let room = c.args.room in
    let old = c.args.cells.now.items in
    let es = c.args.entities.now in
    let new = c.put_at.new.cells.items in
    let full = filled (zero_entity 0) room in
    put_within c.args.start room (full old) es (full new) (length-filled (zero_entity 0) room old c.requires.most) c.requires.within (omega arith)
    (filled_put (zero_entity 0) room c.args.start old es new c.requires.written c.requires.most (omega arith) c.put_at.ensures.cells)

pub returns-clause-cells : goal.returns-clause-cells
returns-clause-cells c =
    let room = c.args.room in
    let old = c.args.cells.now.items in
    let es = c.args.entities.now in
    let after = room - c.args.start in
    let middle = c.put_at-2.new.cells.items in
    let new = c.put_at-3.new.cells.items in
    let full = filled (zero_entity 0) room in
    let first : length (take after es) ≡ after = length-take-le after es (omega arith) in
    let rest : take (length es - after) (drop after es) ≡ drop after es = take_rest es after in
    let left : length (take (length es - after) (drop after es)) ≡ length es - after = ap length rest ∙ length-drop after es in
    let middle_is = filled_put (zero_entity 0) room c.args.start old (take after es) middle c.requires.written c.requires.most (omega arith) c.put_at-2.ensures.cells in
    let middle_most : length middle ≤ room =
    omega (arith, length-put c.args.start old (take after es) middle c.requires.written c.put_at-2.ensures.cells) in
    let new_is = filled_put (zero_entity 0) room 0 middle (take (length es - after) (drop after es)) new (omega arith) middle_most (omega arith) c.put_at-3.ensures.cells in
    put_past c.args.start room (full old) (take after es) (take (length es - after) (drop after es)) es
    (full middle) (full new) (length-filled (zero_entity 0) room old c.requires.most) c.requires.within
    (ap (λ (ys : List EntityState). take after es ++ ys) rest ∙ take-append-drop after es)
    (omega arith) (omega arith) c.requires.few middle_is new_is
