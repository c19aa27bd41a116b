use Rattle.std.proofs.Common.{List, ℕ, [], ◌++◌}
use Rattle.std.proofs.lemmas.Result.{err_from_is_err_and}
use Rattle.byteorder.specs.Endian.{little_bytes}
use Rattle.q3_index.specs.Steps.{numbers_bytes}
use Rattle.q3_index.proofs.Putting.{first_stops, put_first, put_more, put_stops, put_last}
use Rattle.q3_index.proofs.build.write_numbers.Goals as goal

pub returns-in_err-append-clause-writes : goal.returns-in_err-append-clause-writes
returns-in_err-append-clause-writes g c =
    let p = err_from_is_err_and c.from_residual.result c.from_residual.ensures.1 in
    let stops = rw c.to_le_bytes.ensures at c.in_err-append.ensures.writes in
    rw (p.1, p.2)
    (λ told is. first_stops told (g.F.Files.told c.append.new.files) c.args.index (little_bytes 4 c.args.records) (little_bytes 8 c.args.place ++ (little_bytes 4 c.args.length ++ []))
    c.in_err-append.field-0.0 (stops told is))

pub returns-in_err-append-2-clause-writes : goal.returns-in_err-append-2-clause-writes
returns-in_err-append-2-clause-writes g c =
    let p = err_from_is_err_and c.from_residual-in_err-append-2.result c.from_residual-in_err-append-2.ensures.1 in
    let first = rw c.to_le_bytes.ensures at c.in_ok-append.ensures.writes in
    let stops = rw c.to_le_bytes-2.ensures at c.in_err-append-2.ensures.writes in
    let left : List ℕ = little_bytes 4 c.args.length ++ [] in
    rw (p.1, p.2)
    (λ told is. put_stops told (g.F.Files.told c.append.new.files) (g.F.Files.told c.append-2.new.files) c.args.index (little_bytes 8 c.args.place) left
    (numbers_bytes c.args.records c.args.place c.args.length) c.in_err-append-2.field-0.0
    (put_first {X = Unit {0}} told (g.F.Files.told c.append.new.files) c.args.index (little_bytes 4 c.args.records) (little_bytes 8 c.args.place ++ left) tt (first told is)) stops)

pub returns-clause-writes : goal.returns-clause-writes
returns-clause-writes g c =
    let first = rw c.to_le_bytes.ensures at c.in_ok-append.ensures.writes in
    let second = rw c.to_le_bytes-2.ensures at c.in_ok-append-2.ensures.writes in
    let last = rw c.to_le_bytes-3.ensures at c.append-3.ensures.writes in
    let left : List ℕ = little_bytes 4 c.args.length ++ [] in
    let all : List ℕ = numbers_bytes c.args.records c.args.place c.args.length in
    λ told is. put_last told (g.F.Files.told c.append-2.new.files) (g.F.Files.told c.append-3.new.files) c.args.index (little_bytes 4 c.args.length) all c.append-3.result
    (put_more told (g.F.Files.told c.append.new.files) (g.F.Files.told c.append-2.new.files) c.args.index (little_bytes 8 c.args.place) left all
    (put_first {X = Unit {0}} told (g.F.Files.told c.append.new.files) c.args.index (little_bytes 4 c.args.records) (little_bytes 8 c.args.place ++ left) c.in_ok-append.field-0 (first told is)) second) last
