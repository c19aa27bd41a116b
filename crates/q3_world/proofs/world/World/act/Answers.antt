use Rattle.q3_world.specs.Files.{acts_of, line_acts}
use Rattle.q3_world.proofs.Filing.{does_nothing, numbered_left}
use Rattle.q3_world.proofs.world.World.act.Goals as goal

pub returns-in-Serve-clause-files : goal.returns-in-Serve-clause-files
unfolding acts_of line_acts
returns-in-Serve-clause-files g c = rw c.in-Serve.is (does_nothing _ _ _ _ c.serve.result c.serve.ensures.leaves.files)

pub returns-in-Serve-clause-numbered : goal.returns-in-Serve-clause-numbered
returns-in-Serve-clause-numbered g c = numbered_left _ _ c.args.self.now c.serve.new.self c.serve.result c.serve.ensures.leaves c.requires.numbered

pub returns-in-Send-clause-files : goal.returns-in-Send-clause-files
unfolding acts_of line_acts
returns-in-Send-clause-files g c = rw c.in-Send.is (does_nothing _ _ _ _ c.send.result c.send.ensures.leaves.files)

pub returns-in-Send-clause-numbered : goal.returns-in-Send-clause-numbered
returns-in-Send-clause-numbered g c = numbered_left _ _ c.args.self.now c.send.new.self c.send.result c.send.ensures.leaves c.requires.numbered

pub returns-in-Bytes-clause-files : goal.returns-in-Bytes-clause-files
unfolding acts_of line_acts
returns-in-Bytes-clause-files g c = rw c.in-Bytes.is (does_nothing _ _ _ _ c.tell_bytes.result c.tell_bytes.ensures.leaves.files)

pub returns-in-Bytes-clause-numbered : goal.returns-in-Bytes-clause-numbered
returns-in-Bytes-clause-numbered g c = numbered_left _ _ c.args.self.now c.tell_bytes.new.self c.tell_bytes.result c.tell_bytes.ensures.leaves c.requires.numbered
