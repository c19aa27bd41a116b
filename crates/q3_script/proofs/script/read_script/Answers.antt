use Rattle.q3_script.proofs.SpelledScripts.{is_found, is_only, is_each}
use Rattle.q3_script.proofs.script.read_script.Goals as goal

pub returns-clause-found : goal.returns-clause-found
returns-clause-found c = is_found c.word_laws.ensures c.args.kind c.args.bytes.now c.read.result c.read.ensures

pub returns-clause-only : goal.returns-clause-only
returns-clause-only c = is_only c.word_laws.ensures c.args.kind c.args.bytes.now c.read.result c.read.ensures

pub returns-clause-each : goal.returns-clause-each
returns-clause-each c = is_each c.word_laws.ensures c.args.kind c.args.bytes.now c.read.result c.read.ensures
