use Rattle.q3_world.proofs.laws.layers.Goals as goal

pub returns : goal.returns
returns c = record {
  reads = c.built_is_read.ensures;
  hears = c.said_is_read.ensures;
  stays = c.client_stays.ensures;
  maps = c.map_stays.ensures;
  begins = c.begins_built.ensures;
  says = c.begins_said.ensures;
  sent = c.begun_may_be_sent.ensures;
  entity = c.normal_is_normal.ensures;
  normal = c.normal_is_normal-2.ensures;
  zero = c.zero_is_normal.ensures;
  tags = c.sent_is_tagged.ensures;
  qport = c.qport_is_told.ensures;
  does = c.tagged_does.ensures;
  gathers = c.ends_gather.ensures;
  sends = c.ends_send.ensures;
  server = record {
    lists = c.lists_stay_held.ensures;
    nothing = c.nothing_is_held.ensures;
    held = c.held_was_built.ensures;
    keeps = c.build_keeps.ensures;
    near = c.base_is_near.ensures;
    apart = c.slots_apart.ensures;
  };
  windows = record { flow = c.commands_flow.ensures; stays = c.stays_outgoing.ensures };
  rings = record {
    none = c.nothing_stands.ensures;
    added = c.accept_is_added.ensures;
    there = c.accepted_is_held.ensures;
    of_list = c.base_is_of_list.ensures;
    accepted = c.held_was_accepted.ensures;
    by_age = c.near_is_held_by_age.ensures;
    usual = c.usual_ring_holds.ensures;
  };
  configs = record {
    admitted = c.admitted_may_go.ensures;
    changes = c.pieces_are_changes.ensures;
    pieces = c.pieces_are_texts.ensures;
    make = c.pieces_make_change.ensures;
    read = c.spelled_is_read.ensures;
  };
}
