use Rattle.std.proofs.Common.{Ok, Err, inr}
use Rattle.std.proofs.lemmas.Result.{err_from_is_err_and}
use Rattle.q3_runs.proofs.Sought.{seek_unprofiled, seek_ended, seek_unopened, seek_refused, seek_printed, seek_gives_profile, seek_gives_demo, seek_gives_index, seek_gives_all, asks_then}
use Rattle.q3_runs.proofs.SoughtPlays.{plays_unopened, plays_refused, plays_printed}
use Rattle.q3_runs.specs.Input.{as_told}
use Rattle.q3_runs.proofs.SoughtCheap.{cheap_unloaded, cheap_unfound, cheap_unlisted, cheap_unopened, cheap_sought}
use Rattle.q3_runs.proofs.demos.seek.Goals as goal

pub returns-in_err-profile-clause-executes : goal.returns-in_err-profile-clause-executes
returns-in_err-profile-clause-executes g c =
    let p = err_from_is_err_and c.from_residual.result c.from_residual.ensures.1 in
    rw (p.1, p.2) (seek_unprofiled c.texts_follow.ensures (g.F.Files.told c.args.files.now) c.args.profile.now c.args.demo.now c.args.index.now c.args.records (g.O.Sink.written c.args.out.now) c.in_err-profile.field-0.0 c.in_err-profile.ensures.gets)

pub returns-in_err-profile-clause-gives : goal.returns-in_err-profile-clause-gives
returns-in_err-profile-clause-gives g c =
    let p = err_from_is_err_and c.from_residual.result c.from_residual.ensures.1 in
    rw (p.1, p.2) (seek_gives_profile (g.F.Files.told c.args.files.now) (g.F.Files.told c.load_profile.new.files) c.args.profile.now c.args.demo.now c.args.index.now c.args.records c.in_err-profile.field-0.0 c.in_err-profile.ensures.gets c.in_err-profile.ensures.gives)

pub returns-in_err-demo-clause-executes : goal.returns-in_err-demo-clause-executes
returns-in_err-demo-clause-executes g c =
    let p = err_from_is_err_and c.from_residual-in_err-demo.result c.from_residual-in_err-demo.ensures.1 in
    rw (p.1, p.2) (seek_ended c.texts_follow.ensures (g.F.Files.told c.args.files.now) c.args.profile.now c.args.demo.now c.args.index.now c.args.records c.in_ok-profile.profile (g.O.Sink.written c.args.out.now) c.in_err-demo.field-0.0 c.in_ok-profile.ensures.gets (inr c.in_err-demo.ensures.finds))

pub returns-in_err-demo-clause-gives : goal.returns-in_err-demo-clause-gives
returns-in_err-demo-clause-gives g c =
    let p = err_from_is_err_and c.from_residual-in_err-demo.result c.from_residual-in_err-demo.ensures.1 in
    rw (p.1, p.2) (seek_gives_demo (g.F.Files.told c.args.files.now) (g.F.Files.told c.load_profile.new.files) (g.F.Files.told c.find_file.new.files) c.args.profile.now c.args.demo.now c.args.index.now c.args.records c.in_ok-profile.profile c.in_err-demo.field-0.0 c.in_ok-profile.ensures.gets c.in_ok-profile.ensures.gives c.in_err-demo.ensures.gives c.in_err-demo.ensures.finds)

pub returns-in_err-index-clause-executes : goal.returns-in_err-index-clause-executes
returns-in_err-index-clause-executes g c =
    let p = err_from_is_err_and c.from_residual-in_err-index.result c.from_residual-in_err-index.ensures.1 in
    rw (p.1, p.2) (seek_ended c.texts_follow.ensures (g.F.Files.told c.args.files.now) c.args.profile.now c.args.demo.now c.args.index.now c.args.records c.in_ok-profile.profile (g.O.Sink.written c.args.out.now) c.in_err-index.field-0.0 c.in_ok-profile.ensures.gets (inr c.in_err-index.ensures.finds))

pub returns-in_err-index-clause-gives : goal.returns-in_err-index-clause-gives
returns-in_err-index-clause-gives g c =
    let p = err_from_is_err_and c.from_residual-in_err-index.result c.from_residual-in_err-index.ensures.1 in
    rw (p.1, p.2) (seek_gives_index (g.F.Files.told c.args.files.now) (g.F.Files.told c.load_profile.new.files) (g.F.Files.told c.find_file.new.files) (g.F.Files.told c.find_file-2.new.files) c.args.profile.now c.args.demo.now c.args.index.now c.args.records c.in_ok-profile.profile c.in_ok-demo.demo c.in_err-index.field-0.0 c.in_ok-profile.ensures.gets c.in_ok-profile.ensures.gives c.in_ok-demo.ensures.gives c.in_err-index.ensures.gives c.in_err-index.ensures.finds)

pub returns-in_err-opened-clause-executes : goal.returns-in_err-opened-clause-executes
returns-in_err-opened-clause-executes g c =
    let p = err_from_is_err_and c.from_residual-in_err-opened.result c.from_residual-in_err-opened.ensures.1 in
    rw (p.1, p.2) (seek_unopened c.texts_follow.ensures (g.F.Files.told c.args.files.now) (g.F.Files.told c.load_profile.new.files) (g.F.Files.told c.find_file.new.files) (g.F.Files.told c.find_file-2.new.files) c.args.profile.now c.args.demo.now c.args.index.now c.args.records c.in_ok-profile.profile c.in_ok-demo.demo c.in_ok-index.index (g.O.Sink.written c.args.out.now) c.in_err-opened.field-0.0
    c.in_ok-profile.ensures.gets c.in_ok-profile.ensures.gives c.in_ok-demo.ensures.looks c.in_ok-index.ensures.looks c.in_err-opened.ensures.opens)

pub returns-in_err-opened-clause-gives : goal.returns-in_err-opened-clause-gives
returns-in_err-opened-clause-gives g c =
    seek_gives_all (g.F.Files.told c.args.files.now) (g.F.Files.told c.load_profile.new.files) (g.F.Files.told c.find_file.new.files) (g.F.Files.told c.find_file-2.new.files) (g.F.Files.told c.open_index.new.files) c.args.profile.now c.args.demo.now c.args.index.now c.args.records c.in_ok-profile.profile c.in_ok-demo.demo c.in_ok-index.index _
    c.in_ok-profile.ensures.gets c.in_ok-profile.ensures.gives c.in_ok-demo.ensures.gives c.in_ok-index.ensures.gives c.open_index.ensures.asks

pub returns-in_err-opened-clause-sought : goal.returns-in_err-opened-clause-sought
returns-in_err-opened-clause-sought g c =
    let p = err_from_is_err_and c.from_residual-in_err-opened.result c.from_residual-in_err-opened.ensures.1 in
    rw (p.1, p.2) (plays_unopened (g.F.Files.told c.args.files.now) (g.F.Files.told c.load_profile.new.files) (g.F.Files.told c.find_file.new.files) (g.F.Files.told c.find_file-2.new.files) c.args.profile.now c.args.demo.now c.args.index.now c.args.records c.in_ok-profile.profile c.in_ok-demo.demo c.in_ok-index.index (g.O.Sink.written c.args.out.now) (g.O.Sink.written c.args.out.now) c.in_err-opened.field-0.0
    (record {
      opening = c.index_opens.ensures;
      seeking = c.seeking_is_playing.ensures;
      passes = c.in_ok-profile.ensures.gets;
      is_profile = c.in_ok-profile.ensures.passes;
      codec = c.codec_stands.ensures.codec;
      mark = c.codec_stands.ensures.mark;
      gives = c.in_ok-profile.ensures.gives;
      looks = c.in_ok-demo.ensures.looks;
      next = c.in_ok-index.ensures.looks;
    }) c.in_err-opened.ensures.opens)

pub returns-in_err-state-clause-executes : goal.returns-in_err-state-clause-executes
returns-in_err-state-clause-executes g c =
    let p = err_from_is_err_and c.from_residual-in_err-state.result c.from_residual-in_err-state.ensures.1 in
    rw (p.1, p.2) (seek_refused c.texts_follow.ensures (g.F.Files.told c.args.files.now) (g.F.Files.told c.load_profile.new.files) (g.F.Files.told c.find_file.new.files) (g.F.Files.told c.find_file-2.new.files) (g.F.Files.told c.open_index.new.files) c.args.profile.now c.args.demo.now c.args.index.now c.args.records c.in_ok-profile.profile c.in_ok-demo.demo c.in_ok-index.index c.in_ok-opened.opened (g.O.Sink.written c.args.out.now) c.in_err-state.field-0.0
    c.in_ok-profile.ensures.gets c.in_ok-profile.ensures.gives c.in_ok-demo.ensures.looks c.in_ok-index.ensures.looks c.in_ok-opened.ensures.opens c.in_ok-opened.ensures.asks c.in_err-state.ensures.seeks)

pub returns-in_err-state-clause-gives : goal.returns-in_err-state-clause-gives
returns-in_err-state-clause-gives g c =
    seek_gives_all (g.F.Files.told c.args.files.now) (g.F.Files.told c.load_profile.new.files) (g.F.Files.told c.find_file.new.files) (g.F.Files.told c.find_file-2.new.files) (g.F.Files.told c.seek.new.files) c.args.profile.now c.args.demo.now c.args.index.now c.args.records c.in_ok-profile.profile c.in_ok-demo.demo c.in_ok-index.index _
    c.in_ok-profile.ensures.gets c.in_ok-profile.ensures.gives c.in_ok-demo.ensures.gives c.in_ok-index.ensures.gives (asks_then (g.F.Files.told c.find_file-2.new.files) (g.F.Files.told c.open_index.new.files) (g.F.Files.told c.seek.new.files) c.open_index.ensures.asks c.seek.ensures.asks)

pub returns-in_err-state-clause-sought : goal.returns-in_err-state-clause-sought
returns-in_err-state-clause-sought g c =
    let p = err_from_is_err_and c.from_residual-in_err-state.result c.from_residual-in_err-state.ensures.1 in
    rw (p.1, p.2) (plays_refused (g.F.Files.told c.args.files.now) (g.F.Files.told c.load_profile.new.files) (g.F.Files.told c.find_file.new.files) (g.F.Files.told c.find_file-2.new.files) (g.F.Files.told c.open_index.new.files) c.args.profile.now c.args.demo.now c.args.index.now c.args.records c.in_ok-profile.profile c.in_ok-demo.demo c.in_ok-index.index c.in_ok-opened.opened (g.O.Sink.written c.args.out.now) (g.O.Sink.written c.args.out.now) c.in_err-state.field-0.0
    (record {
      opening = c.index_opens.ensures;
      seeking = c.seeking_is_playing.ensures;
      passes = c.in_ok-profile.ensures.gets;
      is_profile = c.in_ok-profile.ensures.passes;
      codec = c.codec_stands.ensures.codec;
      mark = c.codec_stands.ensures.mark;
      gives = c.in_ok-profile.ensures.gives;
      looks = c.in_ok-demo.ensures.looks;
      next = c.in_ok-index.ensures.looks;
    }) c.in_ok-opened.ensures.opens c.in_ok-opened.ensures.asks c.in_err-state.ensures.seeks)

pub returns-clause-executes : goal.returns-clause-executes
returns-clause-executes g c =
    seek_printed (g.F.Files.told c.args.files.now) (g.F.Files.told c.load_profile.new.files) (g.F.Files.told c.find_file.new.files) (g.F.Files.told c.find_file-2.new.files) (g.F.Files.told c.open_index.new.files) c.args.profile.now c.args.demo.now c.args.index.now c.args.records c.in_ok-profile.profile c.in_ok-demo.demo c.in_ok-index.index c.in_ok-opened.opened c.in_ok-state.state (g.O.Sink.written c.args.out.now) (g.O.Sink.written c.print_left.new.out) c.print_left.result
    c.in_ok-profile.ensures.gets c.in_ok-profile.ensures.gives c.in_ok-demo.ensures.looks c.in_ok-index.ensures.looks c.in_ok-opened.ensures.opens c.in_ok-opened.ensures.asks c.in_ok-state.ensures.seeks c.print_left.ensures.prints

pub returns-clause-gives : goal.returns-clause-gives
returns-clause-gives g c =
    seek_gives_all (g.F.Files.told c.args.files.now) (g.F.Files.told c.load_profile.new.files) (g.F.Files.told c.find_file.new.files) (g.F.Files.told c.find_file-2.new.files) (g.F.Files.told c.seek.new.files) c.args.profile.now c.args.demo.now c.args.index.now c.args.records c.in_ok-profile.profile c.in_ok-demo.demo c.in_ok-index.index c.print_left.result
    c.in_ok-profile.ensures.gets c.in_ok-profile.ensures.gives c.in_ok-demo.ensures.gives c.in_ok-index.ensures.gives (asks_then (g.F.Files.told c.find_file-2.new.files) (g.F.Files.told c.open_index.new.files) (g.F.Files.told c.seek.new.files) c.open_index.ensures.asks c.seek.ensures.asks)

pub returns-clause-sought : goal.returns-clause-sought
returns-clause-sought g c =
    plays_printed (g.F.Files.told c.args.files.now) (g.F.Files.told c.load_profile.new.files) (g.F.Files.told c.find_file.new.files) (g.F.Files.told c.find_file-2.new.files) (g.F.Files.told c.open_index.new.files) c.args.profile.now c.args.demo.now c.args.index.now c.args.records c.in_ok-profile.profile c.in_ok-demo.demo c.in_ok-index.index c.in_ok-opened.opened c.in_ok-state.state (g.O.Sink.written c.args.out.now) (g.O.Sink.written c.print_left.new.out) c.print_left.result
    (record {
      opening = c.index_opens.ensures;
      seeking = c.seeking_is_playing.ensures;
      passes = c.in_ok-profile.ensures.gets;
      is_profile = c.in_ok-profile.ensures.passes;
      codec = c.codec_stands.ensures.codec;
      mark = c.codec_stands.ensures.mark;
      gives = c.in_ok-profile.ensures.gives;
      looks = c.in_ok-demo.ensures.looks;
      next = c.in_ok-index.ensures.looks;
    }) c.in_ok-opened.ensures.opens c.in_ok-opened.ensures.asks c.in_ok-state.ensures.seeks c.print_left.ensures.prints

pub returns-in_err-profile-clause-cheap : goal.returns-in_err-profile-clause-cheap
returns-in_err-profile-clause-cheap g c = λ reads. cheap_unloaded (g.F.Files.told c.args.files.now) (g.F.Files.told c.load_profile.new.files) c.args.profile.now c.args.demo.now c.args.index.now c.args.records c.in_err-profile.ensures.asks

pub returns-in_err-demo-clause-cheap : goal.returns-in_err-demo-clause-cheap
returns-in_err-demo-clause-cheap g c =
    λ reads. cheap_unfound (g.F.Files.told c.args.files.now) (g.F.Files.told c.load_profile.new.files) (g.F.Files.told c.find_file.new.files) c.args.profile.now c.args.demo.now c.args.index.now c.args.records (as_told (Err c.in_err-demo.field-0.0)) c.in_ok-profile.ensures.asks c.in_err-demo.ensures.looks

pub returns-in_err-index-clause-cheap : goal.returns-in_err-index-clause-cheap
returns-in_err-index-clause-cheap g c =
    λ reads. cheap_unlisted (g.F.Files.told c.args.files.now) (g.F.Files.told c.load_profile.new.files) (g.F.Files.told c.find_file.new.files) (g.F.Files.told c.find_file-2.new.files) c.args.profile.now c.args.demo.now c.args.index.now c.args.records (Ok c.in_ok-demo.demo) (as_told (Err c.in_err-index.field-0.0))
    c.in_ok-profile.ensures.asks c.in_ok-demo.ensures.looks c.in_err-index.ensures.looks

pub returns-in_err-opened-clause-cheap : goal.returns-in_err-opened-clause-cheap
returns-in_err-opened-clause-cheap g c =
    λ reads. cheap_unopened (g.F.Files.told c.args.files.now) (g.F.Files.told c.load_profile.new.files) (g.F.Files.told c.find_file.new.files) (g.F.Files.told c.find_file-2.new.files) (g.F.Files.told c.open_index.new.files) c.args.profile.now c.args.demo.now c.args.index.now c.in_ok-demo.demo c.in_ok-index.index c.args.records c.in_ok-profile.profile
    (record {
      opening = c.index_opens.ensures;
      seeking = c.seeking_is_playing.ensures;
      passes = c.in_ok-profile.ensures.gets;
      is_profile = c.in_ok-profile.ensures.passes;
      codec = c.codec_stands.ensures.codec;
      mark = c.codec_stands.ensures.mark;
      gives = c.in_ok-profile.ensures.gives;
      looks = c.in_ok-demo.ensures.looks;
      next = c.in_ok-index.ensures.looks;
    })
    c.in_ok-profile.ensures.asks c.open_index.ensures.asks c.open_index.ensures.only

pub returns-in_err-state-clause-cheap : goal.returns-in_err-state-clause-cheap
returns-in_err-state-clause-cheap g c =
    cheap_sought g.F.Files.reads_whole (g.F.Files.told c.args.files.now) (g.F.Files.told c.load_profile.new.files) (g.F.Files.told c.find_file.new.files) (g.F.Files.told c.find_file-2.new.files) (g.F.Files.told c.open_index.new.files) (g.F.Files.told c.seek.new.files) c.args.profile.now c.args.demo.now c.args.index.now c.in_ok-demo.demo c.in_ok-index.index c.args.records c.in_ok-profile.profile c.in_ok-opened.opened
    (record {
      opening = c.index_opens.ensures;
      seeking = c.seeking_is_playing.ensures;
      passes = c.in_ok-profile.ensures.gets;
      is_profile = c.in_ok-profile.ensures.passes;
      codec = c.codec_stands.ensures.codec;
      mark = c.codec_stands.ensures.mark;
      gives = c.in_ok-profile.ensures.gives;
      looks = c.in_ok-demo.ensures.looks;
      next = c.in_ok-index.ensures.looks;
    })
    c.in_ok-profile.ensures.asks c.in_ok-opened.ensures.opens c.in_ok-opened.ensures.asks c.in_ok-opened.ensures.only c.seek.ensures.asks c.seek.ensures.only c.seek.ensures.cheap

pub returns-clause-cheap : goal.returns-clause-cheap
returns-clause-cheap g c =
    cheap_sought g.F.Files.reads_whole (g.F.Files.told c.args.files.now) (g.F.Files.told c.load_profile.new.files) (g.F.Files.told c.find_file.new.files) (g.F.Files.told c.find_file-2.new.files) (g.F.Files.told c.open_index.new.files) (g.F.Files.told c.seek.new.files) c.args.profile.now c.args.demo.now c.args.index.now c.in_ok-demo.demo c.in_ok-index.index c.args.records c.in_ok-profile.profile c.in_ok-opened.opened
    (record {
      opening = c.index_opens.ensures;
      seeking = c.seeking_is_playing.ensures;
      passes = c.in_ok-profile.ensures.gets;
      is_profile = c.in_ok-profile.ensures.passes;
      codec = c.codec_stands.ensures.codec;
      mark = c.codec_stands.ensures.mark;
      gives = c.in_ok-profile.ensures.gives;
      looks = c.in_ok-demo.ensures.looks;
      next = c.in_ok-index.ensures.looks;
    })
    c.in_ok-profile.ensures.asks c.in_ok-opened.ensures.opens c.in_ok-opened.ensures.asks c.in_ok-opened.ensures.only c.seek.ensures.asks c.seek.ensures.only c.seek.ensures.cheap
