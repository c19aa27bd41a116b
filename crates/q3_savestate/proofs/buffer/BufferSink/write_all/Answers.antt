use Rattle.std.proofs.Common.{◌≡◌, ℕ, true, List, [], ◌++◌, Some, ap, ◌∙◌, arith}
use Rattle.std.proofs.lemmas.Grind.{common_steps}
use Rattle.std.proofs.lemmas.List.{append-nil}
use Rattle.q3_io.specs.Written.{Written, Wrote, all_sent}
use Rattle.q3_savestate.proofs.buffer.BufferSink.write_all.Goals as goal

some_is : (x y : Written) → Some x ≡ Some y → x ≡ y
some_is x y e = cc

-- bytes after those that are kept
sent_more : (sent now text : List ℕ) → now ≡ sent ++ text → Wrote (Some (all_sent sent)) (Some (all_sent now)) text true
sent_more sent now text is = record {
  untold = λ e. absurd cc;
  told = λ had e.
      let same : all_sent sent ≡ had = some_is (all_sent sent) had e in
      (text, [], append-nil text ∙ ap (λ (w : Written). w.waits ++ text) same, rw is (ap (λ (w : Written). Some (all_sent (w.sent ++ text))) same));
}

pub returns-clause-adds : goal.returns-clause-adds
returns-clause-adds c =
    let more : c.extend_from_slice.new.self.items ≡ c.self.inside.bytes.items ++ c.args.bytes.now = grind (arith, common_steps) in
    rw (← c.self.view_is) (sent_more _ _ c.args.bytes.now more)
