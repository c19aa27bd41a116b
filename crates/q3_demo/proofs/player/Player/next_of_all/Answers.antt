use Rattle.std.proofs.Common.{◌≡◌, ℕ, false, List, drop, refl, subst}
use Rattle.std.specs.Prelude.{nat_lt}
use Rattle.std.proofs.lemmas.Bool.{le-ltb}
use Rattle.q3_demo.specs.Running.{HasFrom}
use Rattle.q3_demo.specs.Playing.{most_records}
use Rattle.q3_demo.specs.Player.{PlayerState, PlaysOn, end_alone, step_of_all}
use Rattle.q3_demo.proofs.EndingAll.{ends_all}
use Rattle.q3_demo.proofs.player.Player.next_of_all.Goals as goal

pub returns-clause-plays : goal.returns-clause-plays
returns-clause-plays g c =
    let finds = c.next_record-piece.ensures.finds in
    let inside : PlayerState = record { played = record { state = c.self.inside.state; records = c.self.inside.records; last = c.self.inside.last; at = c.self.inside.at }; heard = c.self.inside.log.commands } in
    let late : nat_lt c.self.inside.records most_records ≡ false = le-ltb c.self.inside.records most_records c.if-self-lt-MOST_RECORDS.false in
    rw c.end_alone.ensures
    (subst
    (λ (was : PlayerState). (bytes : List ℕ) × HasFrom (g.F.Files.told c.args.files.now) c.args.file was.played.at bytes
    × ((demo : List ℕ) → drop was.played.at demo ≡ bytes → PlaysOn (step_of_all demo was.played) was inside (end_alone c.self.inside.at c.next_record-piece.result)))
    c.self.view_is
    (finds.0, finds.1, λ demo there. ends_all demo finds.0 inside inside _ c.next_record-piece.result late there finds.2 refl))
