use Rattle.std.proofs.Common.{◌≡◌, ◌+◌, ◌-◌, List, ℕ, length, take, drop, Ok, refl, sym, subst, arith}
use Rattle.std.proofs.lemmas.Grind.{common_steps}
use Rattle.std.proofs.lemmas.List.{length-take, length-drop}
use borrow.Rule.Slice.PartMut.{put_mid}
use Rattle.q3_io.specs.Told.{ReadsAt}
use Rattle.q3_demo.proofs.Whole.{has_some, comes_none, comes_more, comes_end, read_asks, asks_then, asks_same, put_front, put_before, put_length}
use Rattle.q3_demo.proofs.Asking.{Costs, only_same, only_then, read_only, turn_gives}
use Rattle.q3_demo.proofs.record.read_whole.Goals as goal

pub loop-count-init : goal.loop-count-init
loop-count-init g c = record {
  come = comes_none (g.F.Files.told c.args.files.now) c.args.file c.args.at c.args.into.now;
  fits = omega arith;
  room = refl;
  given = refl;
  asks = asks_same (g.F.Files.told c.args.files.now);
  only = only_same (g.F.Files.told c.args.files.now) c.args.file;
  cost = λ gives told is there. omega arith;
  reads = refl;
  others = refl;
}

pub returns-in_default-clause-fills : goal.returns-in_default-clause-fills
returns-in_default-clause-fills g c =
    let some = has_some (g.F.Files.told c.args.files.now) c.args.file c.args.at in
    (some.0, some.1, refl)

pub returns-then-more-eq0-clause-fills : goal.returns-then-more-eq0-clause-fills
returns-then-more-eq0-clause-fills g c =
    let into : List ℕ = c.loop-count.into in
    let count : ℕ = c.loop-count.count in
    let left : ℕ = length into - count in
    let part : List ℕ = take left (drop count into) in
    let long : length part ≡ left = omega (arith, length-take left (drop count into), length-drop count into) in
    let room : length c.read_at.new.into ≡ left = omega (arith, c.read_at.auto.into) in
    comes_end (g.F.Files.told c.args.files.now) (g.F.Files.told c.loop-count.files) (g.F.Files.told c.read_at.new.self) c.args.file c.args.at count part c.read_at.new.into
    into (put_mid count left into c.read_at.new.into) c.loop-count.invariant.asks c.loop-count.invariant.come
    (subst (λ (n : ℕ). ReadsAt (g.F.Files.told c.loop-count.files) (g.F.Files.told c.read_at.new.self) c.args.file (c.args.at + count) part c.read_at.new.into (Ok n)) c.if-more-eq0.true c.in-Ok.ensures.told)
    (put_before count left into c.read_at.new.into (omega arith)) (omega arith) (omega (arith, put_length count into c.read_at.new.into (omega arith) room))

pub loop-count-preserved : goal.loop-count-preserved
loop-count-preserved g c =
    let into : List ℕ = c.loop-count.into in
    let count : ℕ = c.loop-count.count in
    let left : ℕ = length into - count in
    let part : List ℕ = take left (drop count into) in
    let long : length part ≡ left = omega (arith, length-take left (drop count into), length-drop count into) in
    let room : length c.read_at.new.into ≡ left = omega (arith, c.read_at.auto.into) in
    let whole : length (put_mid count left into c.read_at.new.into) ≡ length into = put_length count into c.read_at.new.into (omega arith) room in
    let told = c.in-Ok.ensures.told in
    record {
      come = comes_more (g.F.Files.told c.args.files.now) (g.F.Files.told c.loop-count.files) (g.F.Files.told c.read_at.new.self) c.args.file c.args.at count c.in-Ok.more part c.read_at.new.into
          into (put_mid count left into c.read_at.new.into) c.loop-count.invariant.asks c.loop-count.invariant.come told
          (put_front count left c.in-Ok.more into c.read_at.new.into (omega arith) (omega (arith, c.in-Ok.ensures.count)));
      fits = omega (arith, c.in-Ok.ensures.count);
      room = omega arith;
      given = grind (arith, common_steps);
      asks = asks_then (g.F.Files.told c.args.files.now) (g.F.Files.told c.loop-count.files) (g.F.Files.told c.read_at.new.self) c.loop-count.invariant.asks
          (read_asks (g.F.Files.told c.loop-count.files) (g.F.Files.told c.read_at.new.self) c.args.file (c.args.at + count) part c.read_at.new.into (Ok c.in-Ok.more) told);
      only = only_then (g.F.Files.told c.args.files.now) (g.F.Files.told c.loop-count.files) (g.F.Files.told c.read_at.new.self) c.args.file c.loop-count.invariant.only
          (read_only (g.F.Files.told c.loop-count.files) (g.F.Files.told c.read_at.new.self) c.args.file (c.args.at + count) part c.read_at.new.into (Ok c.in-Ok.more) told);
      cost = λ gives. subst (λ (room : ℕ). Costs (g.F.Files.told c.args.files.now) (g.F.Files.told c.read_at.new.self) c.args.file c.args.at room (count + c.in-Ok.more)) (sym whole)
          (turn_gives (g.F.Files.told c.args.files.now) (g.F.Files.told c.loop-count.files) (g.F.Files.told c.read_at.new.self) c.args.file c.args.at count (length into) c.in-Ok.more part c.read_at.new.into
          c.loop-count.invariant.asks (c.loop-count.invariant.cost gives) told (c.in-Ok.ensures.all gives) (omega arith));
      reads = grind (arith, common_steps);
      others = grind (arith, common_steps);
    }
