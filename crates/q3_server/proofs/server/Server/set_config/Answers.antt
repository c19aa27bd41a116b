use Rattle.std.proofs.Common.{rules, ◌≡◌, List, Option, None, ◌++◌, take, drop, length}
use Rattle.std.specs.Prelude.{option_map, map}
use Rattle.q3_config.specs.Laws.{piece_texts}
use Rattle.q3_slot.specs.Slot.{SlotState}
use Rattle.q3_slot.specs.Slots.{tells}
use Rattle.q3_server.proofs.KeepsClients.{all_written}
use Rattle.q3_server.proofs.KeepsServer.{server_configured}
use Rattle.q3_config.specs.Strings.{admit_fault}
use Rattle.q3_server.proofs.Sizes.{admitted_short}
use Rattle.q3_server.proofs.server.Server.set_config.Goals as goal

pub invariant_of-self : goal.invariant_of-self
invariant_of-self c =
    let was = c.self.invariant in
    let slots : List (Option SlotState) = take c.self.inside.slots.len (c.tell_all.new.slots ++ drop (length c.tell_all.new.slots) c.self.inside.slots.items) in
    let old : c.deref_mut.result.now ≡ c.self.inside.slots.items = search rules in
    let len : length c.deref_mut.result.now ≡ c.self.inside.slots.len = search rules in
    let are : slots ≡ map (option_map (tells (piece_texts c.args.index c.args.text.now))) c.self.inside.slots.items = all_written c.self.inside.slots.len c.tell_all.new.slots c.deref_mut.result.now c.self.inside.slots.items (option_map (tells (piece_texts c.args.index c.args.text.now))) c.tell_all.ensures old len in
    let none : admit_fault c.self.inside.shared.map.strings c.args.index c.args.text.now ≡ None = search rules in (
      search rules,
      search rules,
      search rules,
      server_configured c.self.inside.shared.profile c.self.inside.shared.map c.set_config.new.self c.self.inside.slots.items c.self.inside.shared.frames c.below.ensures c.args.index c.args.text.now slots c.if-index-eq-SYSTEM_INFO.false none c.set_config.ensures are was.3,
    )

pub first_without_room-requires-clause-short : goal.first_without_room-requires-clause-short
first_without_room-requires-clause-short c =
    let none : admit_fault c.configs.result.now c.args.index c.args.text.now ≡ None = search rules in
    admitted_short c.configs.result.now c.args.index c.args.text.now none
