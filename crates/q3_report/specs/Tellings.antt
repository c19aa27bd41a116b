-- What the program's answers tell, with what they lend.
use Rattle.std.specs.Prelude.{option_map}
use Rattle.q3_rings.specs.Loans.{snapshot_of}
use Rattle.q3_report.specs.declared.answer.Taker as taker
use Rattle.q3_report.specs.declared.answer.Taker.TheVariants as takers
use Rattle.q3_report.specs.declared.answer.Shown as shown
use Rattle.q3_report.specs.declared.answer.Shown.TheVariants as shows
use Rattle.q3_report.specs.declared.answer.Answer.{Answer}
use Rattle.q3_report.specs.declared.answer.Answer.TheVariants as answers
use Rattle.q3_report.specs.Answers.{Taking, ByClient, ByServer, Showing, ShowsNobody, ShowsNothing, ShowsNewest, Answered, Given, Served, SentOut, Took, Untaken, Shown, Bytes}

abbrev pub taking_of : taker.Taker → Taking
taking_of (takers.Client c took client log ended) = ByClient c took client.now.state log.now.commands ended
taking_of (takers.Server took heard) = ByServer took heard.now

abbrev pub showing_of : shown.Shown → Showing
showing_of shows.NoClient = ShowsNobody
showing_of shows.Nothing = ShowsNothing
showing_of (shows.Newest view) = ShowsNewest (snapshot_of view)

abbrev pub answered_of : Answer → Answered
answered_of (answers.HandedIn handed) = Given handed
answered_of (answers.Serve c emitted datagram) = Served c emitted datagram
answered_of (answers.Send c sent datagram) = SentOut c sent datagram
answered_of (answers.Took front taker) = Took front (taking_of taker)
answered_of (answers.Untaken front cause) = Untaken front cause
answered_of (answers.Show c what) = Shown c (showing_of what)
answered_of (answers.Bytes datagram bytes) = Bytes datagram (option_map (λ bytes. bytes.now) bytes)
