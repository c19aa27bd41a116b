use Rattle.std.proofs.Common.{◌≡◌, ◌+◌, ℕ, List, drop, length, take, Some, Ok, Err, subst, arith}
use Rattle.std.proofs.lemmas.Result.{err_from_is_err_and}
use Rattle.std.specs.Prelude.{IsTrue}
use Rattle.q3_demo.specs.Records.{head_bytes}
use Rattle.q3_demo.specs.Running.{HasFrom}
use Rattle.q3_demo.specs.Playing.{Played, step}
use Rattle.q3_demo.specs.Player.{PlayerState, PlaysOn}
use Rattle.q3_demo.proofs.PlayingOn.{begins_buffer, plays_record, refuses_record}
use Rattle.q3_demo.proofs.Asking.{CostsStep, costs_step}
use Rattle.q3_demo.proofs.player.Player.next.Goals as goal

pub returns-in_err-applied-clause-plays : goal.returns-in_err-applied-clause-plays
returns-in_err-applied-clause-plays g c =
    let p = err_from_is_err_and c.from_residual-in_err-applied.result c.from_residual-in_err-applied.ensures.1 in
    let finds = rw c.in-Message.is at c.in_ok-piece.ensures.finds in
    let room : length c.next_record.new.into ≡ c.self.inside.message.len = omega (arith, c.in_ok-piece.ensures.room, c.deref_mut.ensures.len) in
    let message : take c.in-Message.length c.deref.result.now ≡ take c.in-Message.length (drop head_bytes finds.0) =
    begins_buffer c.next_record.new.into _ c.deref.result.now _ c.self.inside.message.len c.in-Message.length c.deref.ensures.value room finds.2.1 in
    let inside : PlayerState = record { played = record { state = c.self.inside.state; records = c.self.inside.records; last = c.self.inside.last; at = c.self.inside.at }; heard = c.self.inside.log.commands } in
    let now : PlayerState = record { played = record { state = c.apply.new.state; records = c.self.inside.records; last = c.self.inside.last; at = c.self.inside.at }; heard = c.apply.new.log.commands } in
    rw (p.1, p.2)
    (subst
    (λ (was : PlayerState). (bytes : List ℕ) × HasFrom (g.F.Files.told c.args.files.now) c.args.file was.played.at bytes
    × ((demo : List ℕ) → drop was.played.at demo ≡ bytes → PlaysOn (step demo was.played) was now (Err c.in_err-applied.field-0.0)))
    c.self.view_is
    (finds.0, finds.1, λ demo there. refuses_record demo finds.0 _ inside now c.in-Message.number c.in-Message.length c.in-Message.next c.in_err-applied.field-0.0 there finds.2.0 message c.in_err-applied.ensures.answer))

pub returns-clause-plays : goal.returns-clause-plays
returns-clause-plays g c =
    let finds = rw c.in-Message.is at c.in_ok-piece.ensures.finds in
    let room : length c.next_record.new.into ≡ c.self.inside.message.len = omega (arith, c.in_ok-piece.ensures.room, c.deref_mut.ensures.len) in
    let message : take c.in-Message.length c.deref.result.now ≡ take c.in-Message.length (drop head_bytes finds.0) =
    begins_buffer c.next_record.new.into _ c.deref.result.now _ c.self.inside.message.len c.in-Message.length c.deref.ensures.value room finds.2.1 in
    let inside : PlayerState = record { played = record { state = c.self.inside.state; records = c.self.inside.records; last = c.self.inside.last; at = c.self.inside.at }; heard = c.self.inside.log.commands } in
    let now : PlayerState = record { played = record { state = c.apply.new.state; records = c.self.inside.records + 1; last = c.in-Message.number; at = c.in-Message.next }; heard = c.apply.new.log.commands } in
    subst
    (λ (was : PlayerState). (bytes : List ℕ) × HasFrom (g.F.Files.told c.args.files.now) c.args.file was.played.at bytes
    × ((demo : List ℕ) → drop was.played.at demo ≡ bytes → PlaysOn (step demo was.played) was now (Ok (Some c.in_ok-applied.applied))))
    c.self.view_is (
      finds.0,
      finds.1,
      λ demo there. plays_record demo finds.0 _ inside c.in-Message.number c.in-Message.length c.in-Message.next c.in_ok-applied.applied c.apply.new.state c.apply.new.log.commands there finds.2.0 message
          c.in_ok-applied.ensures.answer c.in_ok-applied.ensures.state c.in_ok-applied.ensures.log,
    )

pub returns-in_err-piece-clause-cost : goal.returns-in_err-piece-clause-cost
returns-in_err-piece-clause-cost g c =
    let inside : Played = record { state = c.self.inside.state; records = c.self.inside.records; last = c.self.inside.last; at = c.self.inside.at } in
    subst
    (λ (was : PlayerState). IsTrue g.F.Files.reads_whole → CostsStep (g.F.Files.told c.args.files.now) (g.F.Files.told c.next_record.new.files) c.args.file was.played) c.self.view_is
    (λ gives. costs_step (g.F.Files.told c.args.files.now) (g.F.Files.told c.next_record.new.files) c.args.file inside (c.in_err-piece.ensures.cost gives))

pub returns-in_err-applied-clause-cost : goal.returns-in_err-applied-clause-cost
returns-in_err-applied-clause-cost g c =
    let inside : Played = record { state = c.self.inside.state; records = c.self.inside.records; last = c.self.inside.last; at = c.self.inside.at } in
    subst
    (λ (was : PlayerState). IsTrue g.F.Files.reads_whole → CostsStep (g.F.Files.told c.args.files.now) (g.F.Files.told c.next_record.new.files) c.args.file was.played) c.self.view_is
    (λ gives. costs_step (g.F.Files.told c.args.files.now) (g.F.Files.told c.next_record.new.files) c.args.file inside (c.in_ok-piece.ensures.cost gives))

pub returns-clause-cost : goal.returns-clause-cost
returns-clause-cost g c =
    let inside : Played = record { state = c.self.inside.state; records = c.self.inside.records; last = c.self.inside.last; at = c.self.inside.at } in
    subst
    (λ (was : PlayerState). IsTrue g.F.Files.reads_whole → CostsStep (g.F.Files.told c.args.files.now) (g.F.Files.told c.next_record.new.files) c.args.file was.played) c.self.view_is
    (λ gives. costs_step (g.F.Files.told c.args.files.now) (g.F.Files.told c.next_record.new.files) c.args.file inside (c.in_ok-piece.ensures.cost gives))
