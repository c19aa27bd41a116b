use Rattle.std.proofs.Common.{rules, arith, ◌≡◌, List, Option, ◌++◌, take, drop, length, sym, subst}
use Rattle.std.specs.Prelude.{option_map, map}
use Rattle.q3_slot.specs.Slot.{SlotState, on_new_map}
use Rattle.q3_server.specs.Standing.{IsServer}
use Rattle.q3_server.proofs.KeepsClients.{all_written}
use Rattle.q3_server.proofs.KeepsServer.{server_begun}
use Rattle.q3_server.proofs.server.Server.new_map.Goals as goal

pub invariant_of-self-2 : goal.invariant_of-self-2
invariant_of-self-2 c =
    let was = c.self.invariant in
    let slots : List (Option SlotState) = take c.self.inside.slots.len (c.begin_map.new.slots ++ drop (length c.begin_map.new.slots) c.self.inside.slots.items) in
    let old : c.deref_mut.result.now ≡ c.self.inside.slots.items = search rules in
    let len : length c.deref_mut.result.now ≡ c.self.inside.slots.len = search rules in
    let are : slots ≡ map (option_map on_new_map) c.self.inside.slots.items = all_written c.self.inside.slots.len c.begin_map.new.slots c.deref_mut.result.now c.self.inside.slots.items (option_map on_new_map) c.begin_map.ensures old len in (
      search rules,
      search rules,
      search rules,
      subst (IsServer c.self.inside.shared.profile c.new_map.new.self slots) (sym c.note_change.ensures)
          (server_begun c.self.inside.shared.profile c.self.inside.shared.map c.new_map.new.self c.self.inside.slots.items c.self.inside.shared.frames c.below.ensures c.args.id c.args.feed slots c.requires (omega arith) (search rules) are was.3),
    )
