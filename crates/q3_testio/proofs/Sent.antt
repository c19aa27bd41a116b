-- What was written to a sink that holds nothing back.
use Rattle.std.proofs.Common.{◌≡◌, ℕ, true, List, [], ◌++◌, Some, ap, ◌∙◌}
use Rattle.std.proofs.lemmas.List.{append-nil}
use Rattle.q3_io.specs.Written.{Written, Wrote, all_sent}

some_is : (x y : Written) → Some x ≡ Some y → x ≡ y
some_is x y e = cc

-- bytes after those of it
pub sent_more : (sent now text : List ℕ) → now ≡ sent ++ text → Wrote (Some (all_sent sent)) (Some (all_sent now)) text true
sent_more sent now text is = record {
  untold = λ e. absurd cc;
  told = λ had e.
      let same : all_sent sent ≡ had = some_is (all_sent sent) had e in
      (text, [], append-nil text ∙ ap (λ (w : Written). w.waits ++ text) same, rw is (ap (λ (w : Written). Some (all_sent (w.sent ++ text))) same));
}
