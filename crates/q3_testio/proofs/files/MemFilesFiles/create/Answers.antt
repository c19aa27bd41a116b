use Rattle.q3_testio.proofs.ToldHeld.{have_files_give}
use Rattle.q3_testio.proofs.files.MemFilesFiles.create.Goals as goal

pub invariant_of-self-2 : goal.invariant_of-self-2
invariant_of-self-2 c =
    let have = have_files_give _ _ c.self.inside.store c.put.new.self c.as_bytes-name.result.now _ c.put.ensures.whole (c.if-not-put.ensures.fits) c.self.invariant in
    rw (c.give.ensures.numbers, c.give.ensures.room) have
