use Rattle.std.proofs.Common.{◌≡◌, ◌≤◌, Ok, Err, refl, ap, arith}
use Rattle.std.proofs.lemmas.Result.{err_from_is_err_and}
use Rattle.q3_io.specs.Told.{contents_at}
use Rattle.q3_index.specs.Running.{IndexState}
use Rattle.q3_index.specs.declared.error.SeekError.TheVariants.{PastEnd}
use Rattle.q3_index.proofs.Asking.{asks_same, two_asked}
use Rattle.q3_index.proofs.Seeking.{past_end, starts_wrong, plays_wrong, plays_all}
use Rattle.q3_index.proofs.Costing.{past_costs, start_costs, play_costs, made_is_cheap, made_plays}
use Rattle.q3_index.proofs.index.Index.seek.Goals as goal

pub returns-then-number-self-clause-seeks : goal.returns-then-number-self-clause-seeks
returns-then-number-self-clause-seeks g c =
    let records : c.self.inside.records ≡ c.args.self.now.records = ap (λ (s : IndexState). s.records) c.self.view_is in
    λ told is. rw records
    (past_end c.args.profile.now (contents_at told c.args.self.now.demo) (contents_at told c.args.self.now.index) c.args.self.now.records c.args.self.now.checkpoints c.args.number (omega arith))

pub returns-then-number-self-clause-plays : goal.returns-then-number-self-clause-plays
returns-then-number-self-clause-plays g c =
    λ told is made some. made_plays c.seeking_is_playing.ensures c.args.profile.now c.args.self.now (contents_at told c.args.self.now.demo) (contents_at told c.args.self.now.index) c.args.number (Err (PastEnd c.self.inside.records)) made some (returns-then-number-self-clause-seeks g c told is)

pub returns-then-number-self-clause-cost : goal.returns-then-number-self-clause-cost
returns-then-number-self-clause-cost g c =
    let records : c.self.inside.records ≡ c.args.self.now.records = ap (λ (s : IndexState). s.records) c.self.view_is in
    past_costs g.F.Files.reads_whole c.args.profile.now c.args.self.now c.args.number (g.F.Files.told c.args.files.now) (g.F.Files.told c.args.files.now) (omega arith)

pub returns-then-number-self-clause-cheap : goal.returns-then-number-self-clause-cheap
returns-then-number-self-clause-cheap g c =
    made_is_cheap c.seeking_goes_on.ensures g.F.Files.reads_whole c.args.profile.now c.args.self.now c.args.number (g.F.Files.told c.args.files.now) (g.F.Files.told c.args.files.now) (returns-then-number-self-clause-cost g c)

pub returns-then-number-self-clause-asks : goal.returns-then-number-self-clause-asks
returns-then-number-self-clause-asks g c = asks_same (g.F.Files.told c.args.files.now)

pub returns-in_err-player-clause-seeks : goal.returns-in_err-player-clause-seeks
returns-in_err-player-clause-seeks g c =
    let records : c.self.inside.records ≡ c.args.self.now.records = ap (λ (s : IndexState). s.records) c.self.view_is in
    let p = err_from_is_err_and c.from_residual.result c.from_residual.ensures.1 in
    rw (p.1, p.2)
    (λ told is. starts_wrong c.args.profile.now c.args.self.now (contents_at told c.args.self.now.demo) (contents_at told c.args.self.now.index) c.args.number c.in_err-player.field-0.0 (omega arith)
    (c.in_err-player.ensures.starts told is))

pub returns-in_err-player-clause-plays : goal.returns-in_err-player-clause-plays
returns-in_err-player-clause-plays g c =
    λ told is made some. made_plays c.seeking_is_playing.ensures c.args.profile.now c.args.self.now (contents_at told c.args.self.now.demo) (contents_at told c.args.self.now.index) c.args.number c.from_residual.result made some (returns-in_err-player-clause-seeks g c told is)

pub returns-in_err-player-clause-cost : goal.returns-in_err-player-clause-cost
returns-in_err-player-clause-cost g c =
    let records : c.self.inside.records ≡ c.args.self.now.records = ap (λ (s : IndexState). s.records) c.self.view_is in
    let within : c.args.number ≤ c.args.self.now.records = omega (arith, c.if-number-self.false) in
    start_costs g.F.Files.reads_whole c.args.profile.now c.args.self.now c.args.number (g.F.Files.told c.args.files.now) (g.F.Files.told c.start.new.files) within c.in_err-player.ensures.only

pub returns-in_err-player-clause-cheap : goal.returns-in_err-player-clause-cheap
returns-in_err-player-clause-cheap g c =
    made_is_cheap c.seeking_goes_on.ensures g.F.Files.reads_whole c.args.profile.now c.args.self.now c.args.number (g.F.Files.told c.args.files.now) (g.F.Files.told c.start.new.files) (returns-in_err-player-clause-cost g c)

pub returns-in_err-go_on-clause-seeks : goal.returns-in_err-go_on-clause-seeks
returns-in_err-go_on-clause-seeks g c =
    let records : c.self.inside.records ≡ c.args.self.now.records = ap (λ (s : IndexState). s.records) c.self.view_is in
    let within : c.args.number ≤ c.args.self.now.records = omega (arith, c.if-number-self.false) in
    let p = err_from_is_err_and c.from_residual-in_err-go_on.result c.from_residual-in_err-go_on.ensures.1 in
    rw (p.1, p.2)
    (plays_wrong (g.F.Files.told c.args.files.now) (g.F.Files.told c.start.new.files) c.args.profile.now c.args.self.now c.self.inside.demo c.args.number c.in_ok-player.player.played
    c.go_on.new.player.played c.in_err-go_on.field-0.0 (ap (λ (s : IndexState). s.demo) c.self.view_is) within c.in_ok-player.ensures.asks c.in_ok-player.ensures.starts c.in_err-go_on.ensures.goes)

pub returns-in_err-go_on-clause-plays : goal.returns-in_err-go_on-clause-plays
returns-in_err-go_on-clause-plays g c =
    λ told is made some. made_plays c.seeking_is_playing.ensures c.args.profile.now c.args.self.now (contents_at told c.args.self.now.demo) (contents_at told c.args.self.now.index) c.args.number c.from_residual-in_err-go_on.result made some (returns-in_err-go_on-clause-seeks g c told is)

pub returns-in_err-go_on-clause-cost : goal.returns-in_err-go_on-clause-cost
returns-in_err-go_on-clause-cost g c =
    let records : c.self.inside.records ≡ c.args.self.now.records = ap (λ (s : IndexState). s.records) c.self.view_is in
    let within : c.args.number ≤ c.args.self.now.records = omega (arith, c.if-number-self.false) in
    play_costs g.F.Files.reads_whole c.args.profile.now c.args.self.now c.self.inside.demo c.args.number (g.F.Files.told c.args.files.now) (g.F.Files.told c.start.new.files) (g.F.Files.told c.go_on.new.files) c.in_ok-player.player.played (ap (λ (s : IndexState). s.demo) c.self.view_is) within
    c.in_ok-player.ensures.asks c.in_ok-player.ensures.only c.in_ok-player.ensures.starts c.in_err-go_on.ensures.cost

pub returns-in_err-go_on-clause-cheap : goal.returns-in_err-go_on-clause-cheap
returns-in_err-go_on-clause-cheap g c =
    made_is_cheap c.seeking_goes_on.ensures g.F.Files.reads_whole c.args.profile.now c.args.self.now c.args.number (g.F.Files.told c.args.files.now) (g.F.Files.told c.go_on.new.files) (returns-in_err-go_on-clause-cost g c)

pub returns-clause-seeks : goal.returns-clause-seeks
returns-clause-seeks g c =
    let records : c.self.inside.records ≡ c.args.self.now.records = ap (λ (s : IndexState). s.records) c.self.view_is in
    let within : c.args.number ≤ c.args.self.now.records = omega (arith, c.if-number-self.false) in
    plays_all (g.F.Files.told c.args.files.now) (g.F.Files.told c.start.new.files) c.args.profile.now c.args.self.now c.self.inside.demo c.args.number c.in_ok-player.player.played
    c.go_on.new.player.played c.into_state.result (ap (λ (s : IndexState). s.demo) c.self.view_is) within c.in_ok-player.ensures.asks c.in_ok-player.ensures.starts c.in_ok-go_on.ensures.goes c.into_state.ensures

pub returns-clause-plays : goal.returns-clause-plays
returns-clause-plays g c =
    λ told is made some. made_plays c.seeking_is_playing.ensures c.args.profile.now c.args.self.now (contents_at told c.args.self.now.demo) (contents_at told c.args.self.now.index) c.args.number (Ok c.into_state.result) made some (returns-clause-seeks g c told is)

pub returns-clause-cost : goal.returns-clause-cost
returns-clause-cost g c =
    let records : c.self.inside.records ≡ c.args.self.now.records = ap (λ (s : IndexState). s.records) c.self.view_is in
    let within : c.args.number ≤ c.args.self.now.records = omega (arith, c.if-number-self.false) in
    play_costs g.F.Files.reads_whole c.args.profile.now c.args.self.now c.self.inside.demo c.args.number (g.F.Files.told c.args.files.now) (g.F.Files.told c.start.new.files) (g.F.Files.told c.go_on.new.files) c.in_ok-player.player.played (ap (λ (s : IndexState). s.demo) c.self.view_is) within
    c.in_ok-player.ensures.asks c.in_ok-player.ensures.only c.in_ok-player.ensures.starts c.in_ok-go_on.ensures.cost

pub returns-clause-cheap : goal.returns-clause-cheap
returns-clause-cheap g c =
    made_is_cheap c.seeking_goes_on.ensures g.F.Files.reads_whole c.args.profile.now c.args.self.now c.args.number (g.F.Files.told c.args.files.now) (g.F.Files.told c.go_on.new.files) (returns-clause-cost g c)

pub returns-then-number-self-clause-only : goal.returns-then-number-self-clause-only
returns-then-number-self-clause-only g c = λ other apart away. refl

pub returns-in_err-player-clause-only : goal.returns-in_err-player-clause-only
returns-in_err-player-clause-only g c = λ other apart away. c.in_err-player.ensures.only other away

pub returns-in_err-go_on-clause-only : goal.returns-in_err-go_on-clause-only
returns-in_err-go_on-clause-only g c =
    two_asked c.args.self.now.demo c.args.self.now.index c.self.inside.demo (g.F.Files.told c.args.files.now) (g.F.Files.told c.start.new.files) (g.F.Files.told c.go_on.new.files) (ap (λ (s : IndexState). s.demo) c.self.view_is) c.in_ok-player.ensures.only c.in_err-go_on.ensures.only

pub returns-clause-only : goal.returns-clause-only
returns-clause-only g c =
    two_asked c.args.self.now.demo c.args.self.now.index c.self.inside.demo (g.F.Files.told c.args.files.now) (g.F.Files.told c.start.new.files) (g.F.Files.told c.go_on.new.files) (ap (λ (s : IndexState). s.demo) c.self.view_is) c.in_ok-player.ensures.only c.in_ok-go_on.ensures.only
