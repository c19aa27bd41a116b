use Rattle.std.proofs.Common.{List, ℕ, [], ◌++◌, ◌/◌, ◌∙◌, arith}
use Rattle.std.proofs.lemmas.Result.{err_from_is_err_and}
use Rattle.byteorder.specs.Endian.{little_bytes}
use Rattle.q3_index.specs.declared.opening.Version.TheVariants.{Second}
use Rattle.q3_index.specs.Text.{spacing, magic, head_bytes}
use Rattle.q3_index.proofs.Putting.{byte_is, first_stops, put_first, put_more, put_stops, put_last}
use Rattle.q3_index.proofs.build.write_head.Goals as goal

pub returns-in_err-append-clause-writes : goal.returns-in_err-append-clause-writes
returns-in_err-append-clause-writes g c =
    let p = err_from_is_err_and c.from_residual.result c.from_residual.ensures.1 in
    let records : List ℕ = little_bytes 4 c.args.built.records ++ (little_bytes 4 (c.args.built.records / spacing) ++ []) in
    rw (p.1, p.2)
    (λ told is. first_stops told (g.F.Files.told c.append.new.files) c.args.index (magic Second) (little_bytes 8 c.args.length ++ (little_bytes 8 c.args.mark ++ (little_bytes 1 c.args.width ++ records)))
    c.in_err-append.field-0.0 (c.in_err-append.ensures.writes told is))

pub returns-in_err-append-2-clause-writes : goal.returns-in_err-append-2-clause-writes
returns-in_err-append-2-clause-writes g c =
    let p = err_from_is_err_and c.from_residual-in_err-append-2.result c.from_residual-in_err-append-2.ensures.1 in
    let left_5 : List ℕ = little_bytes 4 (c.args.built.records / spacing) ++ [] in
    let left_4 : List ℕ = little_bytes 4 c.args.built.records ++ left_5 in
    let left_3 : List ℕ = little_bytes 1 c.args.width ++ left_4 in
    let left_2 : List ℕ = little_bytes 8 c.args.mark ++ left_3 in
    let left_1 : List ℕ = little_bytes 8 c.args.length ++ left_2 in
    let all : List ℕ = head_bytes Second c.args.length c.args.mark c.args.width c.args.built.records in
    let stops = rw c.to_le_bytes.ensures at c.in_err-append-2.ensures.writes in
    rw (p.1, p.2)
    (λ told is. put_stops told (g.F.Files.told c.append.new.files) (g.F.Files.told c.append-2.new.files) c.args.index (little_bytes 8 c.args.length) left_2 all c.in_err-append-2.field-0.0
    (put_first {X = Unit {0}} told (g.F.Files.told c.append.new.files) c.args.index (magic Second) left_1 c.in_ok-append.field-0 (c.in_ok-append.ensures.writes told is)) stops)

pub returns-in_err-append-3-clause-writes : goal.returns-in_err-append-3-clause-writes
returns-in_err-append-3-clause-writes g c =
    let p = err_from_is_err_and c.from_residual-in_err-append-3.result c.from_residual-in_err-append-3.ensures.1 in
    let left_5 : List ℕ = little_bytes 4 (c.args.built.records / spacing) ++ [] in
    let left_4 : List ℕ = little_bytes 4 c.args.built.records ++ left_5 in
    let left_3 : List ℕ = little_bytes 1 c.args.width ++ left_4 in
    let left_2 : List ℕ = little_bytes 8 c.args.mark ++ left_3 in
    let left_1 : List ℕ = little_bytes 8 c.args.length ++ left_2 in
    let all : List ℕ = head_bytes Second c.args.length c.args.mark c.args.width c.args.built.records in
    let put_1 = rw c.to_le_bytes.ensures at c.in_ok-append-2.ensures.writes in
    let stops = rw c.to_le_bytes-2.ensures at c.in_err-append-3.ensures.writes in
    rw (p.1, p.2)
    (λ told is. put_stops told (g.F.Files.told c.append-2.new.files) (g.F.Files.told c.append-3.new.files) c.args.index (little_bytes 8 c.args.mark) left_3 all c.in_err-append-3.field-0.0
    (put_more told (g.F.Files.told c.append.new.files) (g.F.Files.told c.append-2.new.files) c.args.index (little_bytes 8 c.args.length) left_2 all
    (put_first {X = Unit {0}} told (g.F.Files.told c.append.new.files) c.args.index (magic Second) left_1 c.in_ok-append.field-0 (c.in_ok-append.ensures.writes told is)) put_1) stops)

pub returns-in_err-append-4-clause-writes : goal.returns-in_err-append-4-clause-writes
returns-in_err-append-4-clause-writes g c =
    let p = err_from_is_err_and c.from_residual-in_err-append-4.result c.from_residual-in_err-append-4.ensures.1 in
    let left_5 : List ℕ = little_bytes 4 (c.args.built.records / spacing) ++ [] in
    let left_4 : List ℕ = little_bytes 4 c.args.built.records ++ left_5 in
    let left_3 : List ℕ = little_bytes 1 c.args.width ++ left_4 in
    let left_2 : List ℕ = little_bytes 8 c.args.mark ++ left_3 in
    let left_1 : List ℕ = little_bytes 8 c.args.length ++ left_2 in
    let all : List ℕ = head_bytes Second c.args.length c.args.mark c.args.width c.args.built.records in
    let put_1 = rw c.to_le_bytes.ensures at c.in_ok-append-2.ensures.writes in
    let put_2 = rw c.to_le_bytes-2.ensures at c.in_ok-append-3.ensures.writes in
    let stops = rw (c.to_le_bytes-3.ensures ∙ byte_is c.args.width (omega arith)) at c.in_err-append-4.ensures.writes in
    rw (p.1, p.2)
    (λ told is. put_stops told (g.F.Files.told c.append-3.new.files) (g.F.Files.told c.append-4.new.files) c.args.index (little_bytes 1 c.args.width) left_4 all c.in_err-append-4.field-0.0
    (put_more told (g.F.Files.told c.append-2.new.files) (g.F.Files.told c.append-3.new.files) c.args.index (little_bytes 8 c.args.mark) left_3 all
    (put_more told (g.F.Files.told c.append.new.files) (g.F.Files.told c.append-2.new.files) c.args.index (little_bytes 8 c.args.length) left_2 all
    (put_first {X = Unit {0}} told (g.F.Files.told c.append.new.files) c.args.index (magic Second) left_1 c.in_ok-append.field-0 (c.in_ok-append.ensures.writes told is)) put_1) put_2) stops)

pub returns-in_err-append-5-clause-writes : goal.returns-in_err-append-5-clause-writes
returns-in_err-append-5-clause-writes g c =
    let p = err_from_is_err_and c.from_residual-in_err-append-5.result c.from_residual-in_err-append-5.ensures.1 in
    let left_5 : List ℕ = little_bytes 4 (c.args.built.records / spacing) ++ [] in
    let left_4 : List ℕ = little_bytes 4 c.args.built.records ++ left_5 in
    let left_3 : List ℕ = little_bytes 1 c.args.width ++ left_4 in
    let left_2 : List ℕ = little_bytes 8 c.args.mark ++ left_3 in
    let left_1 : List ℕ = little_bytes 8 c.args.length ++ left_2 in
    let all : List ℕ = head_bytes Second c.args.length c.args.mark c.args.width c.args.built.records in
    let put_1 = rw c.to_le_bytes.ensures at c.in_ok-append-2.ensures.writes in
    let put_2 = rw c.to_le_bytes-2.ensures at c.in_ok-append-3.ensures.writes in
    let put_3 = rw (c.to_le_bytes-3.ensures ∙ byte_is c.args.width (omega arith)) at c.in_ok-append-4.ensures.writes in
    let stops = rw c.to_le_bytes-4.ensures at c.in_err-append-5.ensures.writes in
    rw (p.1, p.2)
    (λ told is. put_stops told (g.F.Files.told c.append-4.new.files) (g.F.Files.told c.append-5.new.files) c.args.index (little_bytes 4 c.args.built.records) left_5 all c.in_err-append-5.field-0.0
    (put_more told (g.F.Files.told c.append-3.new.files) (g.F.Files.told c.append-4.new.files) c.args.index (little_bytes 1 c.args.width) left_4 all
    (put_more told (g.F.Files.told c.append-2.new.files) (g.F.Files.told c.append-3.new.files) c.args.index (little_bytes 8 c.args.mark) left_3 all
    (put_more told (g.F.Files.told c.append.new.files) (g.F.Files.told c.append-2.new.files) c.args.index (little_bytes 8 c.args.length) left_2 all
    (put_first {X = Unit {0}} told (g.F.Files.told c.append.new.files) c.args.index (magic Second) left_1 c.in_ok-append.field-0 (c.in_ok-append.ensures.writes told is)) put_1) put_2) put_3) stops)

pub returns-clause-writes : goal.returns-clause-writes
returns-clause-writes g c =
    let left_5 : List ℕ = little_bytes 4 (c.args.built.records / spacing) ++ [] in
    let left_4 : List ℕ = little_bytes 4 c.args.built.records ++ left_5 in
    let left_3 : List ℕ = little_bytes 1 c.args.width ++ left_4 in
    let left_2 : List ℕ = little_bytes 8 c.args.mark ++ left_3 in
    let left_1 : List ℕ = little_bytes 8 c.args.length ++ left_2 in
    let all : List ℕ = head_bytes Second c.args.length c.args.mark c.args.width c.args.built.records in
    let put_1 = rw c.to_le_bytes.ensures at c.in_ok-append-2.ensures.writes in
    let put_2 = rw c.to_le_bytes-2.ensures at c.in_ok-append-3.ensures.writes in
    let put_3 = rw (c.to_le_bytes-3.ensures ∙ byte_is c.args.width (omega arith)) at c.in_ok-append-4.ensures.writes in
    let put_4 = rw c.to_le_bytes-4.ensures at c.in_ok-append-5.ensures.writes in
    let last = rw (c.to_le_bytes-5.ensures, c.requires.checkpoints) at c.append-6.ensures.writes in
    λ told is. put_last told (g.F.Files.told c.append-5.new.files) (g.F.Files.told c.append-6.new.files) c.args.index (little_bytes 4 (c.args.built.records / spacing)) all c.append-6.result
    (put_more told (g.F.Files.told c.append-4.new.files) (g.F.Files.told c.append-5.new.files) c.args.index (little_bytes 4 c.args.built.records) left_5 all
    (put_more told (g.F.Files.told c.append-3.new.files) (g.F.Files.told c.append-4.new.files) c.args.index (little_bytes 1 c.args.width) left_4 all
    (put_more told (g.F.Files.told c.append-2.new.files) (g.F.Files.told c.append-3.new.files) c.args.index (little_bytes 8 c.args.mark) left_3 all
    (put_more told (g.F.Files.told c.append.new.files) (g.F.Files.told c.append-2.new.files) c.args.index (little_bytes 8 c.args.length) left_2 all
    (put_first {X = Unit {0}} told (g.F.Files.told c.append.new.files) c.args.index (magic Second) left_1 c.in_ok-append.field-0 (c.in_ok-append.ensures.writes told is)) put_1) put_2) put_3) put_4) last
