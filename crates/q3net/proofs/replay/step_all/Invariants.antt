use Rattle.std.proofs.Common.{◌≡◌, ◌+◌, ◌≤◌, length, drop}
use Rattle.q3_profile.specs.declared.profile.Profile.{Profile}
use Rattle.q3_world.specs.Files.{AreNumbered}
use Rattle.q3_world.specs.Forgetting.{AreWanted}
use Rattle.q3net.proofs.RunActs.{HasActed}
use Rattle.q3net.proofs.Stepping.{HasStepped}
use Rattle.q3net.proofs.Thinning.{full_at, full_of, IsAlike}
use Rattle.q3net.proofs.replay.step_all.Given as goal

abbrev pub invariant-loop-event : goal.invariant-loop-event
invariant-loop-event g l =
    ((profile : Profile) → HasStepped profile l.initial.world (full_of l.initial.world l.world l.events l.event-index) (g.O.Sink.written l.initial.out) (g.O.Sink.written l.out) l.events l.event-index)
    × (length l.world.kept.datagrams ≤ length l.initial.world.kept.datagrams + l.event-index)
    × (g.O.Sink.faults l.out ≡ g.O.Sink.faults l.initial.out)
    × HasActed l.initial.world.kept (full_at l.initial.world.kept l.events l.event-index) (g.F.Files.told l.initial.files) (g.F.Files.told l.files) l.events l.event-index
    × (g.F.Files.write_faults l.files ≡ g.F.Files.write_faults l.initial.files)
    × (g.F.Files.faults l.files ≡ g.F.Files.faults l.initial.files)
    × AreNumbered (g.F.Files.told l.files) (g.F.Files.given l.files) l.world.numbers l.world.kept.ends
    × IsAlike l.initial.world.kept l.world.kept l.events l.event-index
    × (l.done ≡ l.event-index)
    × (length l.initial.world.kept.datagrams ≡ 0 → AreWanted (drop l.event-index l.events) l.world.kept.datagrams)
