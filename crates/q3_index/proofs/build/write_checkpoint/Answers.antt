use Rattle.std.proofs.Common.{◌≡◌, List, ℕ, [], ◌++◌, ap₂, ◌∙◌}
use Rattle.std.proofs.lemmas.Result.{err_from_is_err_and}
use Rattle.q3_savestate.specs.State.{state_bytes}
use Rattle.q3_clstate.specs.State.{AppliedState}
use Rattle.q3_savestate.specs.Applied.{saved_in}
use Rattle.q3_demo.specs.declared.error.DemoError.TheVariants.{NoMemory}
use Rattle.q3_demo.specs.Playing.{Played}
use Rattle.q3_profile.specs.declared.profile.Profile.{Profile}
use Rattle.q3_index.specs.Text.{checkpoint_bytes, state_of}
use Rattle.q3_index.specs.Steps.{numbers_bytes}
use Rattle.q3_index.proofs.Putting.{put_none, put_ends, point_is, point_breaks, point_put}
use Rattle.q3_index.proofs.build.write_checkpoint.Goals as goal

pub returns-in_err-append_state-clause-writes : goal.returns-in_err-append_state-clause-writes
returns-in_err-append_state-clause-writes g c =
    let p = err_from_is_err_and c.from_residual.result c.from_residual.ensures.1 in
    let all : List ℕ = checkpoint_bytes c.args.player.now.played.state.profile c.args.player.now.played in
    rw (p.1, p.2)
    (λ told is has. put_ends told (g.F.Files.told c.args.files.now) c.args.index all all NoMemory (put_none told (g.F.Files.told c.args.files.now) c.args.index all is has) tt)

pub returns-in_err-write_numbers-clause-writes : goal.returns-in_err-write_numbers-clause-writes
returns-in_err-write_numbers-clause-writes g c =
    let p = err_from_is_err_and c.from_residual-in_err-write_numbers.result c.from_residual-in_err-write_numbers.ensures.1 in
    let played : Played = c.args.player.now.played in
    let profile : Profile = played.state.profile in
    let state : c.append_state.new.into.items ≡ state_of profile played =
    c.in_ok-append_state.ensures ∙ ap₂ (λ (old : List ℕ) (s : AppliedState). old ++ state_bytes s.profile (saved_in s)) c.clear.ensures.items c.state.ensures in
    let same : numbers_bytes c.records.result c.place.result c.len.result ++ (c.append_state.new.into.items ++ []) ≡ checkpoint_bytes profile played =
    point_is profile played c.records.result c.place.result c.len.result c.append_state.new.into.items c.records.ensures c.place.ensures (c.len.ensures ∙ c.append_state.new.into.ok.0) state in
    rw (p.1, p.2)
    (λ told is has. point_breaks told (g.F.Files.told c.write_numbers.new.files) c.args.index (numbers_bytes c.records.result c.place.result c.len.result) c.append_state.new.into.items
    (checkpoint_bytes profile played) c.in_err-write_numbers.field-0.0 same (c.in_err-write_numbers.ensures.writes told is))

pub returns-clause-writes : goal.returns-clause-writes
returns-clause-writes g c =
    let played : Played = c.args.player.now.played in
    let profile : Profile = played.state.profile in
    let state : c.append_state.new.into.items ≡ state_of profile played =
    c.in_ok-append_state.ensures ∙ ap₂ (λ (old : List ℕ) (s : AppliedState). old ++ state_bytes s.profile (saved_in s)) c.clear.ensures.items c.state.ensures in
    let same : numbers_bytes c.records.result c.place.result c.len.result ++ (c.append_state.new.into.items ++ []) ≡ checkpoint_bytes profile played =
    point_is profile played c.records.result c.place.result c.len.result c.append_state.new.into.items c.records.ensures c.place.ensures (c.len.ensures ∙ c.append_state.new.into.ok.0) state in
    let last = rw c.deref.ensures.value at c.append.ensures.writes in
    λ told is has. point_put told (g.F.Files.told c.write_numbers.new.files) (g.F.Files.told c.append.new.files) c.args.index (numbers_bytes c.records.result c.place.result c.len.result)
    c.append_state.new.into.items (checkpoint_bytes profile played) c.append.result same (c.in_ok-write_numbers.ensures.writes told is) last
