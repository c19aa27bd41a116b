use Rattle.std.proofs.Common.{rules}
use Rattle.q3_player.specs.Heads.{empty_head}
use Rattle.q3_svmsg.specs.Reading.{section_at}
use Rattle.q3_svmsg.proofs.reading.read_section.Goals as goal

pub returns-clause-reads : goal.returns-clause-reads
unfolding section_at empty_head
returns-clause-reads g c =
    λ game.
    let told = c.read_against.ensures.reads game in
    search rules
