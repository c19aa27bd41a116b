use Rattle.std.proofs.Common.{◌≡◌, ◌++◌, arith}
use Rattle.std.proofs.lemmas.Grind.{common_steps}
use Rattle.q3_testio.proofs.Sent.{sent_more}
use Rattle.q3_testio.proofs.sink.MemSinkSink.write_all.Goals as goal

pub returns-clause-adds : goal.returns-clause-adds
returns-clause-adds c =
    let more : c.extend_from_slice.new.self.items ≡ c.self.inside.written.items ++ c.args.bytes.now = grind (arith, common_steps) in
    rw (← c.self.view_is) (sent_more _ _ c.args.bytes.now more)
