use Rattle.std.proofs.Common.{◌≡◌, ◌+◌, ℕ, length, take, drop, subst, arith}
use Rattle.std.proofs.lemmas.List.{take_at, length-take}
use Rattle.q3_demo.specs.Records.{head_bytes}
use Rattle.q3_demo.specs.Running.{HasFrom}
use Rattle.q3_demo.proofs.Finding.{head_found, far, cut, whole}
use Rattle.q3_demo.proofs.Asking.{head_alone, head_and_message, asked_so}
use Rattle.q3_demo.proofs.record.next_record.Goals as goal
use Rattle.q3_demo.proofs.record.next_record.Goals.{then-next-gt-MOST_BYTES-via-then-next-gt-MOST_BYTES, then-next-gt-MOST_BYTES-via-else-next-gt-MOST_BYTES+in_ok-read_whole+then-branch-length}

pub returns-then-next-gt-MOST_BYTES-clause-finds : goal.returns-then-next-gt-MOST_BYTES-clause-finds
returns-then-next-gt-MOST_BYTES-clause-finds g c =
    let finds = rw c.in-Some.is at c.in_ok-head.ensures.finds in
    let found = head_found (g.F.Files.told c.args.files.now) c.args.file c.args.at finds.0 c.in-Some.head finds.1 finds.2 in
    let number : ℕ = c.in-Some.head.number in
    let size : ℕ = c.in-Some.head.length in
    elim c.then-next-gt-MOST_BYTES.branch [
      | then-next-gt-MOST_BYTES-via-then-next-gt-MOST_BYTES w ↦
          far (g.F.Files.told c.args.files.now) c.args.file c.args.at c.args.last number size c.then-next-gt-MOST_BYTES.into found (omega arith) (omega arith) (omega arith)
          (omega (arith, c.saturating_add-body.ensures, c.saturating_add-next.ensures, w.if-next-gt-MOST_BYTES.true))
      | then-next-gt-MOST_BYTES-via-else-next-gt-MOST_BYTES+in_ok-read_whole+then-branch-length w ↦
          let fills = w.in_ok-read_whole.ensures.fills in
          let body : c.saturating_add-body.result ≡ c.args.at + head_bytes = omega (arith, c.saturating_add-body.ensures, c.saturating_add-next.ensures, w.if-next-gt-MOST_BYTES.false) in
          cut (g.F.Files.told c.args.files.now) (g.F.Files.told c.read_head.new.files) c.args.file c.args.at c.args.last number size w.in_ok-read_whole.field-0
          w.read_whole.new.into c.then-next-gt-MOST_BYTES.into fills.0 found (omega arith) (omega arith) (omega arith) c.in_ok-head.ensures.asks
          (subst (λ (n : ℕ). HasFrom (g.F.Files.told c.read_head.new.files) c.args.file n fills.0) body fills.1) fills.2
          (omega (arith, w.in_ok-read_whole.ensures.room, length-take size c.args.into.now)) w.if-branch-length.true
    ]

pub returns-clause-finds : goal.returns-clause-finds
returns-clause-finds g c =
    let finds = rw c.in-Some.is at c.in_ok-head.ensures.finds in
    let found = head_found (g.F.Files.told c.args.files.now) c.args.file c.args.at finds.0 c.in-Some.head finds.1 finds.2 in
    let number : ℕ = c.in-Some.head.number in
    let size : ℕ = c.in-Some.head.length in
    let fills = c.in_ok-read_whole.ensures.fills in
    let body : c.saturating_add-body.result ≡ c.args.at + head_bytes = omega (arith, c.saturating_add-body.ensures, c.saturating_add-next.ensures) in
    let room : length c.read_whole.new.into ≡ size = omega (arith, c.in_ok-read_whole.ensures.room, length-take size c.args.into.now) in
    whole (g.F.Files.told c.args.files.now) (g.F.Files.told c.read_head.new.files) c.args.file c.args.at c.args.last number size c.saturating_add-next.result c.in_ok-read_whole.field-0
    c.read_whole.new.into _ fills.0 found (omega arith) (omega arith) (omega arith) c.in_ok-head.ensures.asks
    (subst (λ (n : ℕ). HasFrom (g.F.Files.told c.read_head.new.files) c.args.file n fills.0) body fills.1) fills.2
    room (omega arith) (take_at c.read_whole.new.into (drop size c.args.into.now) size room)
    (omega (arith, c.saturating_add-body.ensures, c.saturating_add-next.ensures)) (omega arith)

pub returns-in_err-read_whole-clause-cost : goal.returns-in_err-read_whole-clause-cost
returns-in_err-read_whole-clause-cost g c =
    let finds = rw c.in-Some.is at c.in_ok-head.ensures.finds in
    let found = head_found (g.F.Files.told c.args.files.now) c.args.file c.args.at finds.0 c.in-Some.head finds.1 finds.2 in
    let size : ℕ = c.in-Some.head.length in
    let body : c.saturating_add-body.result ≡ c.args.at + head_bytes = omega (arith, c.saturating_add-body.ensures, c.saturating_add-next.ensures) in
    let room : length (take size c.args.into.now) ≡ size = omega (arith, length-take size c.args.into.now) in
    λ gives. head_and_message (g.F.Files.told c.args.files.now) (g.F.Files.told c.read_head.new.files) (g.F.Files.told c.read_whole.new.files) c.args.file c.args.at c.args.last c.in-Some.head.number size found
    c.in_ok-head.ensures.asks (c.in_ok-head.ensures.cost gives)
    (asked_so (g.F.Files.told c.read_head.new.files) (g.F.Files.told c.read_whole.new.files) c.args.file _ _ _ _ body room (c.in_err-read_whole.ensures.cost gives))

pub returns-then-next-gt-MOST_BYTES-clause-cost : goal.returns-then-next-gt-MOST_BYTES-clause-cost
returns-then-next-gt-MOST_BYTES-clause-cost g c =
    let finds = rw c.in-Some.is at c.in_ok-head.ensures.finds in
    let found = head_found (g.F.Files.told c.args.files.now) c.args.file c.args.at finds.0 c.in-Some.head finds.1 finds.2 in
    let size : ℕ = c.in-Some.head.length in
    let room : length (take size c.args.into.now) ≡ size = omega (arith, length-take size c.args.into.now) in
    λ gives. elim c.then-next-gt-MOST_BYTES.branch [
      | then-next-gt-MOST_BYTES-via-then-next-gt-MOST_BYTES w ↦
          rw w.files-is (head_alone (g.F.Files.told c.args.files.now) (g.F.Files.told c.read_head.new.files) c.args.file c.args.at c.args.last (c.in_ok-head.ensures.cost gives))
      | then-next-gt-MOST_BYTES-via-else-next-gt-MOST_BYTES+in_ok-read_whole+then-branch-length w ↦
          let body : c.saturating_add-body.result ≡ c.args.at + head_bytes = omega (arith, c.saturating_add-body.ensures, c.saturating_add-next.ensures, w.if-next-gt-MOST_BYTES.false) in
          rw w.files-is
          (head_and_message (g.F.Files.told c.args.files.now) (g.F.Files.told c.read_head.new.files) (g.F.Files.told w.read_whole.new.files) c.args.file c.args.at c.args.last c.in-Some.head.number size found
          c.in_ok-head.ensures.asks (c.in_ok-head.ensures.cost gives)
          (asked_so (g.F.Files.told c.read_head.new.files) (g.F.Files.told w.read_whole.new.files) c.args.file _ _ _ _ body room (w.in_ok-read_whole.ensures.cost gives)))
    ]

pub returns-clause-cost : goal.returns-clause-cost
returns-clause-cost g c =
    let finds = rw c.in-Some.is at c.in_ok-head.ensures.finds in
    let found = head_found (g.F.Files.told c.args.files.now) c.args.file c.args.at finds.0 c.in-Some.head finds.1 finds.2 in
    let number : ℕ = c.in-Some.head.number in
    let size : ℕ = c.in-Some.head.length in
    let body : c.saturating_add-body.result ≡ c.args.at + head_bytes = omega (arith, c.saturating_add-body.ensures, c.saturating_add-next.ensures) in
    let room : length (take size c.args.into.now) ≡ size = omega (arith, length-take size c.args.into.now) in
    λ gives. head_and_message (g.F.Files.told c.args.files.now) (g.F.Files.told c.read_head.new.files) (g.F.Files.told c.read_whole.new.files) c.args.file c.args.at c.args.last number size found
    c.in_ok-head.ensures.asks (c.in_ok-head.ensures.cost gives) (asked_so (g.F.Files.told c.read_head.new.files) (g.F.Files.told c.read_whole.new.files) c.args.file _ _ _ _ body room (c.in_ok-read_whole.ensures.cost gives))
