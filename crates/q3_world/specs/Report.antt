-- The report of a replay: the lines of each event's answer.
use Rattle.std.specs.Prelude.{ℕ, List}
use Rattle.std.specs.List.{flat_map}
use Rattle.q3_profile.specs.declared.profile.Profile.{Profile}
use Rattle.q3_script.specs.declared.event.Event.{Event}
use Rattle.q3_report.specs.AnswerLines.{lines_of}
use Rattle.q3_world.specs.World.{opening, answers}

-- the report of a replay of these events, from the opening world
unfoldable pub report : Profile → List Event → List ℕ
report profile events = flat_map lines_of (answers profile (opening profile) events)
