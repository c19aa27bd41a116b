use Rattle.std.proofs.Common.{◌≡◌, List, ℕ, length, take, drop, ap, ◌∙◌, arith}
use Rattle.std.proofs.lemmas.List.{take_all, length-drop}
use Rattle.q3_demo.specs.Records.{head_bytes, number_of}
use Rattle.q3_demo.proofs.Finding.{head_read}
use Rattle.q3_demo.proofs.record.read_head.Goals as goal

pub returns-clause-finds : goal.returns-clause-finds
returns-clause-finds g c =
    let fills = c.in_ok-read_whole.ensures.fills in
    let buffer : List ℕ = c.read_whole.new.into in
    let room : length buffer ≡ head_bytes = c.in_ok-read_whole.ensures.room in
    let head = head_read fills.0 buffer c.in_ok-read_whole.field-0 fills.2 (omega arith) (omega arith) in
    let after : take 4 (drop 4 buffer) ≡ drop 4 buffer = take_all 4 (drop 4 buffer) (omega (arith, length-drop 4 buffer)) in
    (fills.0, fills.1, (head.some, c.read_u32.ensures ∙ head.number_is, c.read_u32-2.ensures ∙ ap (λ (xs : List ℕ). number_of xs) after ∙ head.size_is))
