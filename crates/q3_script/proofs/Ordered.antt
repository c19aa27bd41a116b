-- The order of a script's lines: what a reader keeps of the lines so far, against what the grammar asks of all of them.
use Rattle.std.proofs.Common.{◌≡◌, ℕ, ◌≤◌, Bool, true, false, cond, ltb, List, [], ◌∷◌, Option, Some, Result, Ok, Err, ◌⊎◌, inl, inr, refl, sym, ap, subst, ◌∙◌}
use Rattle.std.specs.Bool.{Decides}
use Rattle.std.specs.List.{AllByRecursion}
use Rattle.std.proofs.lemmas.Bool.{both_ways, ltb-false, le-ltb}
use Rattle.std.proofs.lemmas.Bool.Decides.{Decides-eqb}
use Rattle.q3_io.specs.declared.address.Address.{Address}
use Rattle.q3_script.specs.declared.event.Event.{Event}
use Rattle.q3_script.specs.declared.event.Event.TheVariants.{Client, Port, Map, Entity, Remove, Baseline, Player, Area, Time, Config, Say, TypeText, Move, Serve, Send, Deliver, RecordTo, Stop, Show, Bytes, Toclient, Toserver, At, End}
use Rattle.q3_words.specs.declared.cause.LineCause.{LineCause}
use Rattle.q3_words.specs.declared.cause.LineCause.TheVariants.{Order}
use Rattle.q3_script.specs.declared.cause.ScriptKind.{ScriptKind}
use Rattle.q3_script.specs.declared.cause.ScriptKind.TheVariants as kinds
use Rattle.q3_script.specs.Script.{Course, no_course, timed, node_after, is_of, first_after, client_course_after, course_after, is_complete}
use Rattle.q3_script.specs.Grammar.{TimesRise, EndsLast, IsOfClient, IsOneClient, AreOrdered}
use Rattle.q3_script.proofs.Values.{ok_is}

-- from a course on, each event may stand where it does, and the script may end after the last
abbrev pub Goes : ScriptKind → Course → List Event → Type 0
Goes kind course [] = is_complete kind course ≡ true
Goes kind course (event ∷ events) = (next : Course) × (course_after kind course event ≡ Ok next) × Goes kind next events

-- a course, and a refusal
abbrev goes_to : Course → Result Course LineCause
goes_to course = Ok course

abbrev refused : Result Course LineCause
refused = Err Order

-- a test that didn't refuse
pub guard_ok : {A E : Type 0} (b : Bool) (e : E) (r : Result A E) (y : A) → cond b (Err e) r ≡ Ok y → (b ≡ false) × (r ≡ Ok y)
guard_ok true e r y is = absurd cc
guard_ok false e r y is = (refl, is)

pub guard_else : {A E : Type 0} (b : Bool) (e : E) (r : Result A E) (y : A) → cond b r (Err e) ≡ Ok y → (b ≡ true) × (r ≡ Ok y)
guard_else true e r y is = (refl, is)
guard_else false e r y is = absurd cc

-- ---- lines of a node

-- from a course on, each event may stand where it does in a node's script, and the last is `end`
abbrev NodeGoes : Course → List Event → Type 0
NodeGoes course [] = course.ended ≡ true
NodeGoes course (event ∷ events) = (next : Course) × (course.ended ≡ false) × (node_after course event ≡ Ok next) × NodeGoes next events

-- a time that isn't refused
record IsTimed (course : Course) (ms : ℕ) (next : Course) : Type 0 where
  least : course.time ≤ ms
  is : record course { time = ms } ≡ next

timed-ok : (course : Course) (ms : ℕ) (next : Course) → timed course ms ≡ Ok next → IsTimed course ms next
timed-ok course ms next e =
    let parts = guard_ok (ltb ms course.time) Order (goes_to (record course { time = ms })) next e in
    record { least = ltb-false ms course.time parts.0; is = ok_is (record course { time = ms }) next parts.1 }

timed-is : (course : Course) (ms : ℕ) → course.time ≤ ms → timed course ms ≡ Ok (record course { time = ms })
timed-is course ms least = rw (le-ltb _ _ least) refl

-- an event that is no time
record IsNoTime (event : Event) : Type 0 where
  stays : (course : Course) → node_after course event ≡ Ok course
  rise : (least : ℕ) (events : List Event) → TimesRise least events → TimesRise least (event ∷ events)
  risen : (least : ℕ) (events : List Event) → TimesRise least (event ∷ events) → TimesRise least events
  ends : (events : List Event) → EndsLast events → EndsLast (event ∷ events)
  ended : (events : List Event) → EndsLast (event ∷ events) → EndsLast events

abbrev IsAt : Event → Type 0
IsAt event = (ms : ℕ) × (event ≡ At ms)

abbrev IsEnd : Event → Type 0
IsEnd event = (ms : ℕ) × (event ≡ End ms)

by_time : (event : Event) → IsAt event ⊎ (IsEnd event ⊎ IsNoTime event)
by_time (Client c challenge qport dup address) = inr (inr (record { stays = λ course. refl; rise = λ least events r. r; risen = λ least events r. r; ends = λ events e. e; ended = λ events e. e }))
by_time (Port c port) = inr (inr (record { stays = λ course. refl; rise = λ least events r. r; risen = λ least events r. r; ends = λ events e. e; ended = λ events e. e }))
by_time (Map id feed) = inr (inr (record { stays = λ course. refl; rise = λ least events r. r; risen = λ least events r. r; ends = λ events e. e; ended = λ events e. e }))
by_time (Entity state) = inr (inr (record { stays = λ course. refl; rise = λ least events r. r; risen = λ least events r. r; ends = λ events e. e; ended = λ events e. e }))
by_time (Remove number) = inr (inr (record { stays = λ course. refl; rise = λ least events r. r; risen = λ least events r. r; ends = λ events e. e; ended = λ events e. e }))
by_time (Baseline state) = inr (inr (record { stays = λ course. refl; rise = λ least events r. r; risen = λ least events r. r; ends = λ events e. e; ended = λ events e. e }))
by_time (Player c player) = inr (inr (record { stays = λ course. refl; rise = λ least events r. r; risen = λ least events r. r; ends = λ events e. e; ended = λ events e. e }))
by_time (Area c area) = inr (inr (record { stays = λ course. refl; rise = λ least events r. r; risen = λ least events r. r; ends = λ events e. e; ended = λ events e. e }))
by_time (Time time) = inr (inr (record { stays = λ course. refl; rise = λ least events r. r; risen = λ least events r. r; ends = λ events e. e; ended = λ events e. e }))
by_time (Config index text) = inr (inr (record { stays = λ course. refl; rise = λ least events r. r; risen = λ least events r. r; ends = λ events e. e; ended = λ events e. e }))
by_time (Say c text) = inr (inr (record { stays = λ course. refl; rise = λ least events r. r; risen = λ least events r. r; ends = λ events e. e; ended = λ events e. e }))
by_time (TypeText c text) = inr (inr (record { stays = λ course. refl; rise = λ least events r. r; risen = λ least events r. r; ends = λ events e. e; ended = λ events e. e }))
by_time (Move c one) = inr (inr (record { stays = λ course. refl; rise = λ least events r. r; risen = λ least events r. r; ends = λ events e. e; ended = λ events e. e }))
by_time (Serve c) = inr (inr (record { stays = λ course. refl; rise = λ least events r. r; risen = λ least events r. r; ends = λ events e. e; ended = λ events e. e }))
by_time (Send c) = inr (inr (record { stays = λ course. refl; rise = λ least events r. r; risen = λ least events r. r; ends = λ events e. e; ended = λ events e. e }))
by_time (Deliver datagram) = inr (inr (record { stays = λ course. refl; rise = λ least events r. r; risen = λ least events r. r; ends = λ events e. e; ended = λ events e. e }))
by_time (RecordTo c name) = inr (inr (record { stays = λ course. refl; rise = λ least events r. r; risen = λ least events r. r; ends = λ events e. e; ended = λ events e. e }))
by_time (Stop c) = inr (inr (record { stays = λ course. refl; rise = λ least events r. r; risen = λ least events r. r; ends = λ events e. e; ended = λ events e. e }))
by_time (Show c) = inr (inr (record { stays = λ course. refl; rise = λ least events r. r; risen = λ least events r. r; ends = λ events e. e; ended = λ events e. e }))
by_time (Bytes datagram) = inr (inr (record { stays = λ course. refl; rise = λ least events r. r; risen = λ least events r. r; ends = λ events e. e; ended = λ events e. e }))
by_time (Toclient c bytes) = inr (inr (record { stays = λ course. refl; rise = λ least events r. r; risen = λ least events r. r; ends = λ events e. e; ended = λ events e. e }))
by_time (Toserver c bytes) = inr (inr (record { stays = λ course. refl; rise = λ least events r. r; risen = λ least events r. r; ends = λ events e. e; ended = λ events e. e }))
by_time (At ms) = inl (ms, refl)
by_time (End ms) = inr (inl (ms, refl))

-- nothing follows the end
closed : (course : Course) (events : List Event) → course.ended ≡ true → NodeGoes course events → events ≡ []
closed course [] shut goes = refl
closed course (event ∷ events) shut goes = absurd (both_ways course.ended goes.1 shut)

-- what is asked of the events from a time on
abbrev IsOrdered : ℕ → List Event → Type 0
IsOrdered least events = TimesRise least events × EndsLast events

-- an end in order
end_ordered : (least ms : ℕ) (events : List Event) → least ≤ ms → events ≡ [] → IsOrdered least (End ms ∷ events)
end_ordered least ms events le none = ((le, subst (λ (x : List Event). TimesRise ms x) (sym none) tt), none)

-- events that a node takes stand in order
node_ordered : (course : Course) (events : List Event) → course.ended ≡ false → NodeGoes course events → IsOrdered course.time events
node_ordered course [] going goes = absurd (both_ways course.ended going goes)
node_ordered course (event ∷ events) going goes =
    elim (by_time event) [
      | inl at ↦
          let is = timed-ok course at.0 goes.0 (ap (λ (x : Event). node_after course x) (sym at.1) ∙ goes.2) in
          let rest = node_ordered goes.0 events (ap (λ (x : Course). x.ended) (sym is.is) ∙ going) goes.3 in
          let rise : TimesRise at.0 events = subst (λ (x : Course). TimesRise x.time events) (sym is.is) rest.0 in
          let whole : IsOrdered course.time (At at.0 ∷ events) = ((is.least, rise), rest.1) in
          subst (λ (x : Event). IsOrdered course.time (x ∷ events)) (sym at.1) whole
      | inr late ↦ elim late [
        | inl end ↦
            let is = timed-ok (record course { ended = true }) end.0 goes.0 (ap (λ (x : Event). node_after course x) (sym end.1) ∙ goes.2) in
            let none = closed goes.0 events (ap (λ (x : Course). x.ended) (sym is.is)) goes.3 in
            subst (λ (x : Event). IsOrdered course.time (x ∷ events)) (sym end.1) (end_ordered course.time end.0 events is.least none)
        | inr other ↦
            let same : course ≡ goes.0 = ok_is course goes.0 (sym (other.stays course) ∙ goes.2) in
            let rest = node_ordered goes.0 events (ap (λ (x : Course). x.ended) (sym same) ∙ going) goes.3 in
            (other.rise course.time events (subst (λ (x : Course). TimesRise x.time events) (sym same) rest.0), other.ends events rest.1)
      ]
    ]

-- and a node takes those that do
node_goes : (course : Course) (events : List Event) → course.ended ≡ false → TimesRise course.time events → EndsLast events → NodeGoes course events
node_goes course [] going rise ends = absurd ends
node_goes course (event ∷ events) going rise ends =
    elim (by_time event) [
      | inl at ↦
          let rise' = subst (λ (x : Event). TimesRise course.time (x ∷ events)) at.1 rise in
          let ends' = subst (λ (x : Event). EndsLast (x ∷ events)) at.1 ends in
          (record course { time = at.0 }, going, ap (λ (x : Event). node_after course x) at.1 ∙ timed-is course at.0 rise'.0, node_goes (record course { time = at.0 }) events going rise'.1 ends')
      | inr late ↦ elim late [
        | inl end ↦
            let rise' = subst (λ (x : Event). TimesRise course.time (x ∷ events)) end.1 rise in
            let none = subst (λ (x : Event). EndsLast (x ∷ events)) end.1 ends in
            let last : Course = record (record course { ended = true }) { time = end.0 } in
            (last, going, ap (λ (x : Event). node_after course x) end.1 ∙ timed-is (record course { ended = true }) end.0 rise'.0, subst (λ (x : List Event). NodeGoes last x) (sym none) refl)
        | inr other ↦ (course, going, other.stays course, node_goes course events going (other.risen course.time events rise) (other.ended events ends))
      ]
    ]

-- ---- a server's script

serve_node : (course : Course) (events : List Event) → Goes kinds.Serve course events → NodeGoes course events
serve_node course [] goes = goes
serve_node course (event ∷ events) goes =
    let parts = guard_ok course.ended Order (node_after course event) goes.0 goes.1 in
    (goes.0, parts.0, parts.1, serve_node goes.0 events goes.2)

-- a test that doesn't refuse
open_is : (b : Bool) (r : Result Course LineCause) (next : Course) → b ≡ false → r ≡ Ok next → cond b refused r ≡ Ok next
open_is b r next going is = rw going is

node_serve : (course : Course) (events : List Event) → NodeGoes course events → Goes kinds.Serve course events
node_serve course [] goes = goes
node_serve course (event ∷ events) goes = (goes.0, open_is course.ended (node_after course event) goes.0 goes.1 goes.2, node_serve goes.0 events goes.3)

-- ---- a client's script

-- the client stays
same_client : (course : Course) (event : Event) (next : Course) → node_after course event ≡ Ok next → next.client ≡ course.client
same_client course event next e =
    elim (by_time event) [
      | inl at ↦
          let is = timed-ok course at.0 next (ap (λ (x : Event). node_after course x) (sym at.1) ∙ e) in
          ap (λ (x : Course). x.client) (sym is.is)
      | inr late ↦ elim late [
        | inl end ↦
            let is = timed-ok (record course { ended = true }) end.0 next (ap (λ (x : Event). node_after course x) (sym end.1) ∙ e) in
            ap (λ (x : Course). x.client) (sym is.is)
        | inr other ↦ let same : course ≡ next = ok_is course next (sym (other.stays course) ∙ e) in ap (λ (x : Course). x.client) (sym same)
      ]
    ]

-- whether a line is of the client
is_of-Decides : (c : ℕ) (event : Event) → Decides (is_of c event) (IsOfClient c event)
is_of-Decides c (Client d challenge qport dup address) = (λ e. absurd cc, λ never. absurd never)
is_of-Decides c (Port d port) = (λ e. tt, λ is. refl)
is_of-Decides c (Map id feed) = (λ e. tt, λ is. refl)
is_of-Decides c (Entity state) = (λ e. tt, λ is. refl)
is_of-Decides c (Remove number) = (λ e. tt, λ is. refl)
is_of-Decides c (Baseline state) = (λ e. tt, λ is. refl)
is_of-Decides c (Player d player) = (λ e. tt, λ is. refl)
is_of-Decides c (Area d area) = (λ e. tt, λ is. refl)
is_of-Decides c (Time time) = (λ e. tt, λ is. refl)
is_of-Decides c (Config index text) = (λ e. tt, λ is. refl)
is_of-Decides c (Say d text) = (λ e. tt, λ is. refl)
is_of-Decides c (TypeText d text) = Decides-eqb d c
is_of-Decides c (Move d one) = Decides-eqb d c
is_of-Decides c (Serve d) = (λ e. tt, λ is. refl)
is_of-Decides c (Send d) = Decides-eqb d c
is_of-Decides c (Deliver datagram) = (λ e. tt, λ is. refl)
is_of-Decides c (RecordTo d name) = Decides-eqb d c
is_of-Decides c (Stop d) = Decides-eqb d c
is_of-Decides c (Show d) = Decides-eqb d c
is_of-Decides c (Bytes datagram) = (λ e. tt, λ is. refl)
is_of-Decides c (Toclient d bytes) = (λ e. tt, λ is. refl)
is_of-Decides c (Toserver d bytes) = (λ e. tt, λ is. refl)
is_of-Decides c (At ms) = (λ e. tt, λ is. refl)
is_of-Decides c (End ms) = (λ e. tt, λ is. refl)

join_node : (c : ℕ) (course : Course) (events : List Event) → course.client ≡ Some c → Goes kinds.Join course events → NodeGoes course events × AllByRecursion (IsOfClient c) events
join_node c course [] client goes = (goes, tt)
join_node c course (event ∷ events) client goes =
    let parts = guard_ok course.ended Order (client_course_after course course.client event) goes.0 goes.1 in
    let told : client_course_after course (Some c) event ≡ Ok goes.0 = ap (λ (o : Option ℕ). client_course_after course o event) (sym client) ∙ parts.1 in
    let of = guard_else (is_of c event) Order (node_after course event) goes.0 told in
    let rest = join_node c goes.0 events (same_client course event goes.0 of.1 ∙ client) goes.2 in
    ((goes.0, parts.0, of.1, rest.0), ((is_of-Decides c event).0 of.0, rest.1))

node_join : (c : ℕ) (course : Course) (events : List Event) → course.client ≡ Some c → NodeGoes course events → AllByRecursion (IsOfClient c) events → Goes kinds.Join course events
node_join c course [] client goes all = goes
node_join c course (event ∷ events) client goes all =
    let of : is_of c event ≡ true = (is_of-Decides c event).1 all.0 in
    let told : client_course_after course (Some c) event ≡ Ok goes.0 = rw of goes.2 in
    let is : client_course_after course course.client event ≡ Ok goes.0 = ap (λ (o : Option ℕ). client_course_after course o event) client ∙ told in
    (goes.0, open_is course.ended (client_course_after course course.client event) goes.0 goes.1 is, node_join c goes.0 events (same_client course event goes.0 goes.2 ∙ client) goes.3 all.1)

-- a client that joins
record IsClient (event : Event) : Type 0 where
  c : ℕ
  challenge : ℕ
  qport : ℕ
  dup : ℕ
  address : Address
  is : event ≡ Client c challenge qport dup address

-- and any other event, which can't be the first
record IsNoClient (event : Event) : Type 0 where
  refuses : first_after no_course event ≡ refused
  never : (events : List Event) → IsOneClient (event ∷ events) → ⊥

by_client : (event : Event) → IsClient event ⊎ IsNoClient event
by_client (Client c challenge qport dup address) = inl (record { c = c; challenge = challenge; qport = qport; dup = dup; address = address; is = refl })
by_client (Port c port) = inr (record { refuses = refl; never = λ events is. is })
by_client (Map id feed) = inr (record { refuses = refl; never = λ events is. is })
by_client (Entity state) = inr (record { refuses = refl; never = λ events is. is })
by_client (Remove number) = inr (record { refuses = refl; never = λ events is. is })
by_client (Baseline state) = inr (record { refuses = refl; never = λ events is. is })
by_client (Player c player) = inr (record { refuses = refl; never = λ events is. is })
by_client (Area c area) = inr (record { refuses = refl; never = λ events is. is })
by_client (Time time) = inr (record { refuses = refl; never = λ events is. is })
by_client (Config index text) = inr (record { refuses = refl; never = λ events is. is })
by_client (Say c text) = inr (record { refuses = refl; never = λ events is. is })
by_client (TypeText c text) = inr (record { refuses = refl; never = λ events is. is })
by_client (Move c one) = inr (record { refuses = refl; never = λ events is. is })
by_client (Serve c) = inr (record { refuses = refl; never = λ events is. is })
by_client (Send c) = inr (record { refuses = refl; never = λ events is. is })
by_client (Deliver datagram) = inr (record { refuses = refl; never = λ events is. is })
by_client (RecordTo c name) = inr (record { refuses = refl; never = λ events is. is })
by_client (Stop c) = inr (record { refuses = refl; never = λ events is. is })
by_client (Show c) = inr (record { refuses = refl; never = λ events is. is })
by_client (Bytes datagram) = inr (record { refuses = refl; never = λ events is. is })
by_client (Toclient c bytes) = inr (record { refuses = refl; never = λ events is. is })
by_client (Toserver c bytes) = inr (record { refuses = refl; never = λ events is. is })
by_client (At ms) = inr (record { refuses = refl; never = λ events is. is })
by_client (End ms) = inr (record { refuses = refl; never = λ events is. is })

-- after the client's line
abbrev joined : ℕ → Course
joined c = record no_course { client = Some c }

join_ordered : (events : List Event) → Goes kinds.Join no_course events → AreOrdered kinds.Join events
join_ordered [] goes = absurd cc
join_ordered (event ∷ events) goes =
    elim (by_client event) [
      | inl first ↦
          let same : joined first.c ≡ goes.0 = ok_is (joined first.c) goes.0 (ap (λ (x : Event). first_after no_course x) (sym first.is) ∙ goes.1) in
          let rest = join_node first.c (joined first.c) events refl (subst (λ (x : Course). Goes kinds.Join x events) (sym same) goes.2) in
          let ordered = node_ordered (joined first.c) events refl rest.0 in
          let whole : AreOrdered kinds.Join (Client first.c first.challenge first.qport first.dup first.address ∷ events) = (ordered.0, ordered.1, rest.1) in
          subst (λ (x : Event). AreOrdered kinds.Join (x ∷ events)) (sym first.is) whole
      | inr other ↦ let none : refused ≡ goes_to goes.0 = sym other.refuses ∙ goes.1 in absurd cc
    ]

join_goes : (events : List Event) → AreOrdered kinds.Join events → Goes kinds.Join no_course events
join_goes [] ordered = absurd ordered.1
join_goes (event ∷ events) ordered =
    elim (by_client event) [
      | inl first ↦
          let whole : AreOrdered kinds.Join (Client first.c first.challenge first.qport first.dup first.address ∷ events) = subst (λ (x : Event). AreOrdered kinds.Join (x ∷ events)) first.is ordered in
          let goes = node_join first.c (joined first.c) events refl (node_goes (joined first.c) events refl whole.0 whole.1) whole.2 in
          (joined first.c, ap (λ (x : Event). first_after no_course x) first.is, goes)
      | inr other ↦ absurd (other.never events ordered.2)
    ]

-- ---- every kind

replay_goes : (course : Course) (events : List Event) → Goes kinds.Replay course events
replay_goes course [] = refl
replay_goes course (event ∷ events) = (course, refl, replay_goes course events)

-- events that go on from the first line stand in order
pub goes_ordered : (kind : ScriptKind) (events : List Event) → Goes kind no_course events → AreOrdered kind events
goes_ordered kinds.Replay events goes = tt
goes_ordered kinds.Serve events goes = node_ordered no_course events refl (serve_node no_course events goes)
goes_ordered kinds.Join events goes = join_ordered events goes

-- and those that stand in order go on
pub ordered_goes : (kind : ScriptKind) (events : List Event) → AreOrdered kind events → Goes kind no_course events
ordered_goes kinds.Replay events ordered = replay_goes no_course events
ordered_goes kinds.Serve events ordered = node_serve no_course events (node_goes no_course events refl ordered.0 ordered.1)
ordered_goes kinds.Join events ordered = join_goes events ordered
