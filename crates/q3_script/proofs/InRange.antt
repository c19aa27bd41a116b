-- An event that a script may have is within its ranges.
use Rattle.q3_script.specs.declared.event.Event.{Event}
use Rattle.q3_script.specs.declared.event.Event.TheVariants.{Client, Port, Map, Entity, Remove, Baseline, Player, Area, Time, Config, Say, TypeText, Move, Serve, Send, Deliver, RecordTo, Stop, Show, Bytes, Toclient, Toserver, At, End}
use Rattle.q3_script.specs.declared.cause.ScriptKind.{ScriptKind}
use Rattle.q3_script.specs.declared.cause.ScriptKind.TheVariants as kinds
use Rattle.q3_script.specs.Grammar.{IsInRange, IsReplayEvent, IsServeEvent, IsJoinEvent, IsEventOf}

pub replay_in_range : (event : Event) → IsReplayEvent event → IsInRange event
replay_in_range (Client c challenge qport dup address) is = is
replay_in_range (Port c port) is = is
replay_in_range (Map id feed) is = is
replay_in_range (Entity state) is = is
replay_in_range (Remove number) is = is
replay_in_range (Baseline state) is = is
replay_in_range (Player c player) is = is
replay_in_range (Area c area) is = is
replay_in_range (Time time) is = is
replay_in_range (Config index text) is = is
replay_in_range (Say c text) is = is
replay_in_range (TypeText c text) is = is
replay_in_range (Move c one) is = is
replay_in_range (Serve c) is = is
replay_in_range (Send c) is = is
replay_in_range (Deliver datagram) is = is
replay_in_range (RecordTo c name) is = is
replay_in_range (Stop c) is = is
replay_in_range (Show c) is = is
replay_in_range (Bytes datagram) is = is
replay_in_range (Toclient c bytes) is = is
replay_in_range (Toserver c bytes) is = is
replay_in_range (At ms) is = absurd is
replay_in_range (End ms) is = absurd is

serve_in_range : (event : Event) → IsServeEvent event → IsInRange event
serve_in_range (Client c challenge qport dup address) is = is
serve_in_range (Port c port) is = absurd is
serve_in_range (Map id feed) is = is
serve_in_range (Entity state) is = is
serve_in_range (Remove number) is = is
serve_in_range (Baseline state) is = is
serve_in_range (Player c player) is = is
serve_in_range (Area c area) is = is
serve_in_range (Time time) is = is
serve_in_range (Config index text) is = is
serve_in_range (Say c text) is = is
serve_in_range (TypeText c text) is = absurd is
serve_in_range (Move c one) is = absurd is
serve_in_range (Serve c) is = is
serve_in_range (Send c) is = absurd is
serve_in_range (Deliver datagram) is = absurd is
serve_in_range (RecordTo c name) is = absurd is
serve_in_range (Stop c) is = absurd is
serve_in_range (Show c) is = absurd is
serve_in_range (Bytes datagram) is = absurd is
serve_in_range (Toclient c bytes) is = absurd is
serve_in_range (Toserver c bytes) is = absurd is
serve_in_range (At ms) is = is
serve_in_range (End ms) is = is

join_in_range : (event : Event) → IsJoinEvent event → IsInRange event
join_in_range (Client c challenge qport dup address) is = is
join_in_range (Port c port) is = absurd is
join_in_range (Map id feed) is = absurd is
join_in_range (Entity state) is = absurd is
join_in_range (Remove number) is = absurd is
join_in_range (Baseline state) is = absurd is
join_in_range (Player c player) is = absurd is
join_in_range (Area c area) is = absurd is
join_in_range (Time time) is = absurd is
join_in_range (Config index text) is = absurd is
join_in_range (Say c text) is = absurd is
join_in_range (TypeText c text) is = is
join_in_range (Move c one) is = is
join_in_range (Serve c) is = absurd is
join_in_range (Send c) is = is
join_in_range (Deliver datagram) is = absurd is
join_in_range (RecordTo c name) is = is
join_in_range (Stop c) is = is
join_in_range (Show c) is = is
join_in_range (Bytes datagram) is = absurd is
join_in_range (Toclient c bytes) is = absurd is
join_in_range (Toserver c bytes) is = absurd is
join_in_range (At ms) is = is
join_in_range (End ms) is = is

pub in_range : (kind : ScriptKind) (event : Event) → IsEventOf kind event → IsInRange event
in_range kinds.Replay event is = replay_in_range event is
in_range kinds.Serve event is = serve_in_range event is
in_range kinds.Join event is = join_in_range event is
