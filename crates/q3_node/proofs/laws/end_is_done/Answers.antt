use Rattle.q3_node.specs.AtServer.{server_rules}
use Rattle.q3_node.specs.AtClient.{client_rules}
use Rattle.q3_node.proofs.Reaching.{end_is_done}
use Rattle.q3_node.proofs.laws.end_is_done.Goals as goal

pub returns-clause-server : goal.returns-clause-server
returns-clause-server c = end_is_done server_rules

pub returns-clause-client : goal.returns-clause-client
returns-clause-client c = end_is_done client_rules
