use Rattle.q3_ends.proofs.Files.{writes_nothing}
use Rattle.q3_ends.proofs.client.client_line.Goals as goal

pub returns-in-TypeText-clause-files : goal.returns-in-TypeText-clause-files
returns-in-TypeText-clause-files g c = rw c.in-TypeText.is (writes_nothing _ _ _ _)

pub returns-in-Move-clause-files : goal.returns-in-Move-clause-files
returns-in-Move-clause-files g c = rw c.in-Move.is (writes_nothing _ _ _ _)

pub returns-in-Show-clause-files : goal.returns-in-Show-clause-files
returns-in-Show-clause-files g c = rw c.in-Show.is (writes_nothing _ _ _ _)
