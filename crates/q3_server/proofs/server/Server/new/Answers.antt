use Rattle.q3_server.proofs.KeepsServer.{server_new}
use Rattle.q3_server.proofs.server.Server.new.Goals as goal

pub of_parts-requires-clause-stands : goal.of_parts-requires-clause-stands
of_parts-requires-clause-stands c =
    server_new c.below.ensures c.args.profile.now c.in_ok-copy.copy c.args.slots c.args.profile.now.server_ring c.in_ok-map.map c.in_ok-empty.empty.items c.in_ok-frames.frames c.in_ok-copy.ensures.copy c.in_ok-copy.ensures.codec
    c.in_ok-map.ensures c.in_ok-empty.ensures c.in_ok-frames.ensures.frames

pub of_parts-requires-clause-lists : goal.of_parts-requires-clause-lists
of_parts-requires-clause-lists c = c.in_ok-frames.ensures.lists c.in_ok-copy.copy.entity
