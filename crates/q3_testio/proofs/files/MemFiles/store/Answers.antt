use Rattle.q3_testio.proofs.ToldHeld.{have_files_put}
use Rattle.q3_testio.proofs.files.MemFiles.store.Goals as goal

pub invariant_of-self : goal.invariant_of-self
invariant_of-self c =
    have_files_put _ _ c.self.inside.store c.put.new.self c.as_bytes.result.now c.args.bytes.now _ c.put.ensures.whole c.self.invariant
