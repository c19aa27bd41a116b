use Rattle.q3_schedules.proofs.NodeRecorded.{node_records_its_messages}
use Rattle.q3_schedules.proofs.laws.node_records_its_messages.Goals as goal

pub returns : goal.returns
returns c = node_records_its_messages
