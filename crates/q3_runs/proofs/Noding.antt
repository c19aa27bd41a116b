-- How a node ends: a server, or a client, over a wire.
use Rattle.std.proofs.Common.{◌≡◌, ℕ, Bool, true, false, List, [], ◌∷◌, ◌++◌, Option, Some, None, Result, Ok, Err, refl, sym, ap, subst, ◌∙◌, append_assoc, inl, inr, arith, ◌≢◌, ◌||◌, map}
use Rattle.std.proofs.lemmas.Grind.{flat_map-append}
use Rattle.std.proofs.lemmas.List.{append-nil}
use Rattle.std.proofs.lemmas.List.Folds.{list_any-append}
use Rattle.q3_bits.specs.ResultBind.{◌>>=◌}
use Rattle.q3_io.specs.declared.address.Address.{Address}
use Rattle.q3_io.specs.Laws.{TextsFollow}
use Rattle.q3_io.specs.Told.{Told, Named}
use Rattle.q3_io.specs.Traffic.{Parcel, Traffic}
use Rattle.q3_io.specs.Written.{Written, Wrote}
use Rattle.q3_io.specs.Acts.{FileAct, ActsOn}
use Rattle.q3_io.specs.declared.sink.Failed.{Failed}
use Rattle.q3_profile.specs.declared.profile.Profile.{Profile}
use Rattle.q3_script.specs.declared.event.Event.{Event}
use Rattle.q3_script.specs.declared.event.Event.TheVariants as events
use Rattle.q3_script.specs.declared.cause.ScriptKind.{ScriptKind}
use Rattle.q3_script.specs.declared.cause.ScriptKind.TheVariants as kinds
use Rattle.q3_script.specs.Grammar.{IsOneClient}
use Rattle.q3_server.specs.Server.{places, new_server}
use Rattle.q3_node.specs.declared.error.NodeError.{NodeError}
use Rattle.q3_node.specs.declared.error.NodeError.TheVariants as node
use Rattle.q3_node.specs.Node.{Turn, Node, Rules, most_turns, new_node, turns_of, did_end, answer_text, text_of, acts_of, want_memory}
use Rattle.q3_node.specs.AtServer.{server_rules}
use Rattle.q3_node.specs.AtClient.{ClientEnd, client_of, client_rules}
use Rattle.q3_node.specs.Running.{ToArrive, ToRead, Effects, effects, all_acts, failed_act, at_bound, Leaves, Passes, StopsBy, EndsIn, Ran, RanBound, StaysFlushed, WireCause as NodeWireCause, WriteCause as NodeWriteCause, FileCause as NodeFileCause}
use Rattle.q3_runs.specs.declared.fault.Fault.{Fault}
use Rattle.q3_runs.specs.declared.fault.Fault.TheVariants as faults
use Rattle.q3_runs.specs.Faults.{Gets, node_fault, ReadCause, WriteCause, FileCause, WireCause}
use Rattle.q3_runs.specs.Input.{IsFront, Holds, looked_up, created, LeavesTold, LeavesFirst, LooksUpTold, LooksUpFirst, Touches, Gives}
use Rattle.q3_runs.specs.Verdict.{Verdict, Outside, IsServeVerdict, IsJoinVerdict, memory_by, names_by, profile_in, events_in, ending_of, node_verdict, served, client_turns, joined, GetsFrom}
use Rattle.q3_runs.specs.Run.{ComesAfter, place_of, left_so, EndsEarly, IsBeforehand, ExecutesWired, LeavesFiles, MayBind}
use Rattle.q3_runs.proofs.Loading.{held, same_held}
use Rattle.q3_runs.proofs.Acting.{none_on, both_on, first_more, all_left, first_left}
use Rattle.q3_runs.proofs.Looking.{got_ok, gave, gave_first, came_outside, profile_names, script_names}
use Rattle.q3_runs.proofs.Ending.{writes_some}
use Rattle.q3_runs.proofs.Refusing.{OfInput, profile_of_input, events_of_input}

-- ---- what is still to come

some_read : (clock : Option (List ℕ)) → (readings : List ℕ) × ToRead clock readings
some_read None = (0 ∷ [], omega arith)
some_read (Some told) = (told, refl)

some_arrive : (told : Option Traffic) → (arrivals : List (Option Parcel)) × ToArrive told arrivals
some_arrive None = ([], tt)
some_arrive (Some traffic) = (traffic.arrivals, refl)

-- ---- a node's command

-- the turns of a node, by what its two files hold, and by what is to come
abbrev TurnsBy : Type 0
TurnsBy = Option (List ℕ) → Option (List ℕ) → List ℕ → List (Option Parcel) → Result (List Turn) Fault

-- a command that is a node's at an address, by the profile and the script of these names
pub record IsNodes (told : Outside) (Rule : Verdict → Type 0) (kind : ScriptKind) (profile script : List ℕ) (at : Address) (turns : TurnsBy) : Type 0 where
  pub verdict : (of_profile of_script : Option (List ℕ)) → Holds told.files profile of_profile → Holds told.files script of_script
      → (readings : List ℕ) → ToRead told.clock readings → (arrivals : List (Option Parcel)) → ToArrive told.wire arrivals
      → Rule (node_verdict (names_by (profile_in of_profile) profile script) at (turns of_profile of_script readings arrivals))
  pub no_profile : (of_profile of_script : Option (List ℕ)) (readings : List ℕ) (arrivals : List (Option Parcel)) (e : Fault)
      → profile_in of_profile ≡ Err e → turns of_profile of_script readings arrivals ≡ Err e
  pub no_events : (of_profile of_script : Option (List ℕ)) (readings : List ℕ) (arrivals : List (Option Parcel)) (by : Profile) (e : Fault)
      → profile_in of_profile ≡ Ok by → events_in kind of_script ≡ Err e → turns of_profile of_script readings arrivals ≡ Err e

-- a server
serve_turns : Profile → List ℕ → List (Option Parcel) → List Event → Result (List Turn) Fault
serve_turns by readings arrivals events = Ok (turns_of most_turns server_rules (new_node (new_server by places) events) readings arrivals)

pub serves : (told : Outside) (profile script : List ℕ) (at : Address) → IsNodes told (IsServeVerdict told profile script at) kinds.Serve profile script at served
unfolding serve_turns
serves told profile script at = record {
  verdict = λ of_profile of_script holds holds_script readings to_read arrivals to_arrive. (of_profile, of_script, holds, holds_script, readings, to_read, arrivals, to_arrive, refl);
  no_profile = λ of_profile of_script readings arrivals e is. ap (λ (says : Result Profile Fault). says >>= (λ by. events_in kinds.Serve of_script >>= serve_turns by readings arrivals)) is;
  no_events = λ of_profile of_script readings arrivals by e passes is.
      ap (λ (says : Result Profile Fault). says >>= (λ by. events_in kinds.Serve of_script >>= serve_turns by readings arrivals)) passes
      ∙ ap (λ (says : Result (List Event) Fault). says >>= serve_turns by readings arrivals) is;
}

served_so : (of_profile of_script : Option (List ℕ)) (by : Profile) (events : List Event) (readings : List ℕ) (arrivals : List (Option Parcel))
    → profile_in of_profile ≡ Ok by → events_in kinds.Serve of_script ≡ Ok events
    → served of_profile of_script readings arrivals ≡ Ok (turns_of most_turns server_rules (new_node (new_server by places) events) readings arrivals)
unfolding serve_turns
served_so of_profile of_script by events readings arrivals passes is =
    ap (λ (says : Result Profile Fault). says >>= (λ by. events_in kinds.Serve of_script >>= serve_turns by readings arrivals)) passes
    ∙ ap (λ (says : Result (List Event) Fault). says >>= serve_turns by readings arrivals) is

-- a client
join_turns : Address → Profile → List ℕ → List (Option Parcel) → List Event → Result (List Turn) Fault
join_turns server by readings arrivals events = Ok (client_turns (client_of by server events) events readings arrivals)

pub joins : (told : Outside) (profile script : List ℕ) (at server : Address) → IsNodes told (IsJoinVerdict told profile script at server) kinds.Join profile script at (joined server)
unfolding join_turns
joins told profile script at server = record {
  verdict = λ of_profile of_script holds holds_script readings to_read arrivals to_arrive. (of_profile, of_script, holds, holds_script, readings, to_read, arrivals, to_arrive, refl);
  no_profile = λ of_profile of_script readings arrivals e is. ap (λ (says : Result Profile Fault). says >>= (λ by. events_in kinds.Join of_script >>= join_turns server by readings arrivals)) is;
  no_events = λ of_profile of_script readings arrivals by e passes is.
      ap (λ (says : Result Profile Fault). says >>= (λ by. events_in kinds.Join of_script >>= join_turns server by readings arrivals)) passes
      ∙ ap (λ (says : Result (List Event) Fault). says >>= join_turns server by readings arrivals) is;
}

joined_so : (server : Address) (of_profile of_script : Option (List ℕ)) (by : Profile) (events : List Event) (readings : List ℕ) (arrivals : List (Option Parcel)) (end : ClientEnd)
    → profile_in of_profile ≡ Ok by → events_in kinds.Join of_script ≡ Ok events → client_of by server events ≡ Some end
    → joined server of_profile of_script readings arrivals ≡ Ok (turns_of most_turns client_rules (new_node end events) readings arrivals)
unfolding join_turns
joined_so server of_profile of_script by events readings arrivals end passes is client =
    ap (λ (says : Result Profile Fault). says >>= (λ by. events_in kinds.Join of_script >>= join_turns server by readings arrivals)) passes
    ∙ ap (λ (says : Result (List Event) Fault). says >>= join_turns server by readings arrivals) is
    ∙ ap (λ (one : Option ClientEnd). Ok (client_turns one events readings arrivals)) client

pub one_client : (profile : Profile) (server : Address) (all : List Event) → IsOneClient all → (end : ClientEnd) × (client_of profile server all ≡ Some end)
one_client profile server (events.Client c challenge qport dup address ∷ others) is = (_, refl)
one_client profile server other is = absurd is

-- ---- before it ran

-- by what the input says
noded_refused : {files : Option Told} (follow : TextsFollow) (Rule : Verdict → Type 0) (told : Outside) (old : Option Written) (names : List (List ℕ)) (at : Address) (answer : Result (List Turn) Fault) (e : Fault) → answer ≡ Err e
    → Rule (node_verdict names at answer) → ExecutesWired Rule told old old (left_so told.wire files) (Err e)
noded_refused follow Rule told old names at answer e refuses is =
    (node_verdict names at (Err e), subst (λ (a : Result (List Turn) Fault). Rule (node_verdict names at a)) refuses is, inl ([], inl (refl, refl), refl, follow.none, tt))

-- where memory ran out, a read failed, or the wire did before an address was bound
comes_before : {files : Option Told} (Rule : Verdict → Type 0) (told : Outside) (names : List (List ℕ)) (at : Address) (answer : Result (List Turn) Fault) (fault : Fault) → IsBeforehand (Err fault)
    → ComesAfter (place_of (node_verdict names at answer).stops fault) [] (node_verdict names at answer).text → (follow : TextsFollow) (old : Option Written) → Rule (node_verdict names at answer)
    → ExecutesWired Rule told old old (left_so told.wire files) (Err fault)
comes_before Rule told names at (Ok turns) fault outside comes follow old is =
    (node_verdict names at (Ok turns), is, inl ([], inr (fault, refl, comes), inr (inl (outside, refl, refl)), follow.none, λ nothing. nothing))
comes_before Rule told names at (Err e) fault outside comes follow old is =
    (node_verdict names at (Err e), is, inl ([], inr (fault, refl, comes), refl, follow.none, tt))

memory_comes : (wants : Bool) (text : List ℕ) → ComesAfter (memory_by wants) [] text
memory_comes true text = (text, refl)
memory_comes false text = refl

noded_memory : (names : List (List ℕ)) (at : Address) (answer : Result (List Turn) Fault) → ComesAfter (place_of (node_verdict names at answer).stops faults.NoMemory) [] (node_verdict names at answer).text
noded_memory names at (Ok turns) = memory_comes (want_memory turns) (text_of turns)
noded_memory names at (Err e) = ([], refl)

noded_reads : (names : List (List ℕ)) (at : Address) (answer : Result (List Turn) Fault) → ComesAfter (place_of (node_verdict names at answer).stops faults.Read) [] (node_verdict names at answer).text
noded_reads names at (Ok turns) = refl
noded_reads names at (Err e) = refl

-- a part that reads a file ended it
pub part_executes : {A : Type 0} {files : Option Told} (follow : TextsFollow) (Rule : Verdict → Type 0) (told : Outside) (old : Option Written) (names : List (List ℕ)) (at : Address) (answer : Result (List Turn) Fault)
    (said : Result A Fault) (e : Fault) → Rule (node_verdict names at answer) → (said ≡ Err e → answer ≡ Err e) → Gets said (Err e) → ExecutesWired Rule told old old (left_so told.wire files) (Err e)
part_executes {files} follow Rule told old names at answer said e is so gets =
    elim gets [
      | inl by_input ↦ noded_refused follow Rule told old names at answer e (so (sym by_input)) is
      | inr outside ↦ elim outside [
        | inl memory ↦ (
            let so : e ≡ faults.NoMemory = cc in
            subst (λ (d : Fault). ExecutesWired Rule told old old (left_so told.wire files) (Err d)) (sym so)
            (comes_before Rule told names at answer faults.NoMemory tt (noded_memory names at answer) follow old is)
            )
        | inr read ↦ (
            let so : e ≡ faults.Read = cc in
            subst (λ (d : Fault). ExecutesWired Rule told old old (left_so told.wire files) (Err d)) (sym so)
            (comes_before Rule told names at answer faults.Read tt (noded_reads names at answer) follow old is)
            )
      ]
    ]

-- what is left of the files before its turns, by its input or by what comes from outside
part_given : {A : Type 0} (said : Result A Fault) (e : Fault) (names : List (List ℕ)) (at : Address) (answer : Result (List Turn) Fault) (told now : Option Told) → Gets said (Err e) → (said ≡ Err e → answer ≡ Err e)
    → Gives {A = Unit {0}} (Err e) names told now → Touches {A = Unit {0}} (Err e) (node_verdict names at answer).named (node_verdict names at answer).acts told now
part_given {A} said e names at answer told now gets so gives =
    elim gets [
      | inl by_input ↦ subst (λ (a : Result (List Turn) Fault). Touches {A = Unit {0}} (Err e) (node_verdict names at a).named (node_verdict names at a).acts told now) (sym (so (sym by_input))) gives
      | inr outside ↦ inr (came_outside {A = A} e (Err e) refl outside, early_given names answer (gave_first {A = Unit {0}} (Err e) names told now gives))
    ]
  where
    early_given : (names : List (List ℕ)) (answer : Result (List Turn) Fault) → LooksUpFirst told now names → LeavesFirst told now (node_verdict names at answer).named (node_verdict names at answer).acts
    early_given names (Ok turns) first = first_more told now (map looked_up names) (created (acts_of turns)) [] (acts_of turns) first
    early_given names (Err cause) first = first

-- ---- without a profile

pub no_profile_executes : {files : Option Told} (follow : TextsFollow) (told : Outside) (Rule : Verdict → Type 0) (kind : ScriptKind) (profile script : List ℕ) (at : Address) (turns : TurnsBy) (old : Option Written) (e : Fault)
    → IsNodes told Rule kind profile script at turns → GetsFrom profile_in told.files profile (Err e) → ExecutesWired Rule told old old (left_so told.wire files) (Err e)
no_profile_executes follow told Rule kind profile script at turns old e nodes gets =
    let s = held told.files script in
    let readings = some_read told.clock in
    let arrivals = some_arrive told.wire in
    part_executes follow Rule told old (names_by (profile_in gets.0) profile script) at (turns gets.0 s.0 readings.0 arrivals.0) (profile_in gets.0) e
    (nodes.verdict gets.0 s.0 gets.1 s.1 readings.0 readings.1 arrivals.0 arrivals.1) (nodes.no_profile gets.0 s.0 readings.0 arrivals.0 e) gets.2

pub no_profile_given : (told : Outside) (Rule : Verdict → Type 0) (kind : ScriptKind) (profile script : List ℕ) (at : Address) (turns : TurnsBy) (now : Option Told) (e : Fault)
    → IsNodes told Rule kind profile script at turns → GetsFrom profile_in told.files profile (Err e) → Gives {A = Profile} (Err e) (profile ∷ []) told.files now → LeavesFiles Rule told.files now (Err e)
no_profile_given told Rule kind profile script at turns now e nodes gets gives =
    let s = held told.files script in
    let readings = some_read told.clock in
    let arrivals = some_arrive told.wire in
    let names = names_by (profile_in gets.0) profile script in
    let answer = turns gets.0 s.0 readings.0 arrivals.0 in (
      node_verdict names at answer,
      nodes.verdict gets.0 s.0 gets.1 s.1 readings.0 readings.1 arrivals.0 arrivals.1,
      part_given (profile_in gets.0) e names at answer told.files now gets.2 (nodes.no_profile gets.0 s.0 readings.0 arrivals.0 e)
          (profile_names gets.0 e profile script told.files now gets.2 gives),
    )

-- ---- without a script

pub no_script_executes : {files : Option Told} (follow : TextsFollow) (told : Outside) (Rule : Verdict → Type 0) (kind : ScriptKind) (profile script : List ℕ) (at : Address) (turns : TurnsBy) (mid : Option Told) (by : Profile) (old : Option Written) (e : Fault)
    → IsNodes told Rule kind profile script at turns → GetsFrom profile_in told.files profile (Ok by) → Gives (Ok by) (profile ∷ []) told.files mid → GetsFrom (events_in kind) mid script (Err e)
    → ExecutesWired Rule told old old (left_so told.wire files) (Err e)
no_script_executes follow told Rule kind profile script at turns mid by old e nodes passes gives gets =
    let of_script = same_held told.files mid (profile ∷ []) script gets.0 (gave by (profile ∷ []) told.files mid gives) gets.1 in
    let readings = some_read told.clock in
    let arrivals = some_arrive told.wire in
    part_executes follow Rule told old (names_by (profile_in passes.0) profile script) at (turns passes.0 gets.0 readings.0 arrivals.0) (events_in kind gets.0) e
    (nodes.verdict passes.0 gets.0 passes.1 of_script readings.0 readings.1 arrivals.0 arrivals.1)
    (nodes.no_events passes.0 gets.0 readings.0 arrivals.0 by e (got_ok (profile_in passes.0) by passes.2)) gets.2

pub no_script_given : (told : Outside) (Rule : Verdict → Type 0) (kind : ScriptKind) (profile script : List ℕ) (at : Address) (turns : TurnsBy) (mid now : Option Told) (by : Profile) (e : Fault)
    → IsNodes told Rule kind profile script at turns → GetsFrom profile_in told.files profile (Ok by) → Gives (Ok by) (profile ∷ []) told.files mid → GetsFrom (events_in kind) mid script (Err e)
    → Gives {A = Unit {0}} (Err e) (script ∷ []) mid now → LeavesFiles Rule told.files now (Err e)
no_script_given told Rule kind profile script at turns mid now by e nodes passes first gets second =
    let looked = gave by (profile ∷ []) told.files mid first in
    let of_script = same_held told.files mid (profile ∷ []) script gets.0 looked gets.1 in
    let is = got_ok (profile_in passes.0) by passes.2 in
    let readings = some_read told.clock in
    let arrivals = some_arrive told.wire in
    let names = names_by (profile_in passes.0) profile script in
    let answer = turns passes.0 gets.0 readings.0 arrivals.0 in
    let given = subst (λ (says : Result Profile Fault). Gives {A = Unit {0}} (Err e) (names_by says profile script) told.files now) (sym is)
    (script_names told.files mid now profile script by e looked second) in (
      node_verdict names at answer,
      nodes.verdict passes.0 gets.0 passes.1 of_script readings.0 readings.1 arrivals.0 arrivals.1,
      part_given (events_in kind gets.0) e names at answer told.files now gets.2 (nodes.no_events passes.0 gets.0 readings.0 arrivals.0 by e is) given,
    )

-- ---- with both

-- both were read: by what is to come, the verdict is that of these turns
pub record Passed (told : Outside) (Rule : Verdict → Type 0) (profile script : List ℕ) (at : Address) (turns : List ℕ → List (Option Parcel) → List Turn) : Type 0 where
  pub is : (readings : List ℕ) → ToRead told.clock readings → (arrivals : List (Option Parcel)) → ToArrive told.wire arrivals
      → Rule (node_verdict (profile ∷ script ∷ []) at (Ok (turns readings arrivals)))

passed_so : (told : Outside) (Rule : Verdict → Type 0) (kind : ScriptKind) (profile script : List ℕ) (at : Address) (turns : TurnsBy) (now_turns : List ℕ → List (Option Parcel) → List Turn)
    (mid : Option Told) (by : Profile) (events : List Event)
    → IsNodes told Rule kind profile script at turns → (passes : GetsFrom profile_in told.files profile (Ok by)) → Gives (Ok by) (profile ∷ []) told.files mid
    → (gets : GetsFrom (events_in kind) mid script (Ok events))
    → ((readings : List ℕ) (arrivals : List (Option Parcel)) → turns passes.0 gets.0 readings arrivals ≡ Ok (now_turns readings arrivals))
    → Passed told Rule profile script at now_turns
passed_so told Rule kind profile script at turns now_turns mid by events nodes passes gives gets same = record {
  is = λ readings to_read arrivals to_arrive.
      let of_script = same_held told.files mid (profile ∷ []) script gets.0 (gave by (profile ∷ []) told.files mid gives) gets.1 in
      subst (λ (says : Result Profile Fault). Rule (node_verdict (names_by says profile script) at (Ok (now_turns readings arrivals)))) (got_ok (profile_in passes.0) by passes.2)
      (subst (λ (answer : Result (List Turn) Fault). Rule (node_verdict (names_by (profile_in passes.0) profile script) at answer)) (same readings arrivals)
      (nodes.verdict passes.0 gets.0 passes.1 of_script readings to_read arrivals to_arrive));
}

pub serve_passed : (told : Outside) (profile script : List ℕ) (at : Address) (mid : Option Told) (by : Profile) (events : List Event)
    → GetsFrom profile_in told.files profile (Ok by) → Gives (Ok by) (profile ∷ []) told.files mid → GetsFrom (events_in kinds.Serve) mid script (Ok events)
    → Passed told (IsServeVerdict told profile script at) profile script at (turns_of most_turns server_rules (new_node (new_server by places) events))
serve_passed told profile script at mid by events passes gives gets =
    passed_so told (IsServeVerdict told profile script at) kinds.Serve profile script at served (turns_of most_turns server_rules (new_node (new_server by places) events)) mid by events
    (serves told profile script at) passes gives gets
    (λ readings arrivals. served_so passes.0 gets.0 by events readings arrivals (got_ok (profile_in passes.0) by passes.2) (got_ok (events_in kinds.Serve gets.0) events gets.2))

pub join_passed : (told : Outside) (profile script : List ℕ) (at server : Address) (mid : Option Told) (by : Profile) (events : List Event) (end : ClientEnd) → client_of by server events ≡ Some end
    → GetsFrom profile_in told.files profile (Ok by) → Gives (Ok by) (profile ∷ []) told.files mid → GetsFrom (events_in kinds.Join) mid script (Ok events)
    → Passed told (IsJoinVerdict told profile script at server) profile script at (turns_of most_turns client_rules (new_node end events))
join_passed told profile script at server mid by events end client passes gives gets =
    passed_so told (IsJoinVerdict told profile script at server) kinds.Join profile script at (joined server) (turns_of most_turns client_rules (new_node end events)) mid by events
    (joins told profile script at server) passes gives gets
    (λ readings arrivals. joined_so server passes.0 gets.0 by events readings arrivals end (got_ok (profile_in passes.0) by passes.2) (got_ok (events_in kinds.Join gets.0) events gets.2) client)

-- ---- it ran

text_front : (turns first rest : List Turn) → turns ≡ first ++ rest → IsFront (text_of first) (text_of turns)
text_front turns first rest is = (text_of rest, sym (flat_map-append (λ (turn : Turn). answer_text turn.answer) first rest) ∙ ap text_of (sym is))

ending_so : (turns : List Turn) (ended : Bool) → did_end turns ≡ ended → ending_of (did_end turns) ≡ ending_of ended
ending_so turns ended is = ap ending_of is

-- what is to come stays where an address is bound
arrive_bound : (told : Option Traffic) (at : Address) (arrivals : List (Option Parcel)) → ToArrive (at_bound told at) arrivals → ToArrive told arrivals
arrive_bound None at arrivals to = tt
arrive_bound (Some traffic) at arrivals to = to

-- the verdict of a node that has these turns
abbrev of_turns : List ℕ → List ℕ → Address → List Turn → Verdict
of_turns profile script at turns = node_verdict (profile ∷ script ∷ []) at (Ok turns)

-- turns after others are those of all
text_last : (turns first rest : List Turn) (last : Turn) → turns ≡ first ++ last ∷ rest → text_of turns ≡ (text_of first ++ text_of (last ∷ [])) ++ text_of rest
text_last turns first rest last is =
    ap text_of (is ∙ sym (append_assoc first (last ∷ []) rest))
    ∙ flat_map-append (λ (turn : Turn). answer_text turn.answer) (first ++ (last ∷ [])) rest
    ∙ ap (λ (text : List ℕ). text ++ text_of rest) (flat_map-append (λ (turn : Turn). answer_text turn.answer) first (last ∷ []))

-- one of them wants memory, or does something to files
last_wants : (turns first rest : List Turn) (last : Turn) → turns ≡ first ++ last ∷ rest → last.memory ≡ true → want_memory turns ≡ true
last_wants turns first rest last is wants =
    ap want_memory is ∙ (list_any-append (λ (turn : Turn). turn.memory) first (last ∷ rest) ∙ rw wants (of_first (want_memory first)))
  where
    of_first : (first : Bool) → (first || true) ≡ true
    of_first true = refl
    of_first false = refl

acts_whole : (turns first rest : List Turn) (last : Turn) → turns ≡ first ++ last ∷ rest → acts_of turns ≡ acts_of first ++ (last.acts ++ acts_of rest)
acts_whole turns first rest last is = ap acts_of is ∙ flat_map-append (λ (turn : Turn). turn.acts) first (last ∷ rest)

none_last : (first acts rest : List FileAct) → first ++ (acts ++ rest) ≡ [] → acts ≡ []
none_last [] [] rest none = refl
none_last [] (act ∷ acts) rest none = absurd cc
none_last (act ∷ first) acts rest none = absurd cc

last_acts : (turns first rest : List Turn) (last : Turn) → turns ≡ first ++ last ∷ rest → last.acts ≢ [] → acts_of turns ≢ []
last_acts turns first rest last is some none = some (none_last (acts_of first) last.acts (acts_of rest) (sym (acts_whole turns first rest last is) ∙ none))

-- want of memory comes where a turn wants some
memory_after : (wants : Bool) (printed text : List ℕ) → wants ≡ true → IsFront printed text → ComesAfter (memory_by wants) printed text
memory_after true printed text is front = front
memory_after false printed text is front = absurd cc

-- a node's turns, in one of which it ended early
abbrev ends_early : (told : Outside) (turns : List Turn) (at : Address) (looked : Option Told) (given : List Named) (clock : Option (List ℕ)) (old : Option Written) (after : Effects) (e : NodeError)
    → LeavesTold told.files looked given [] → EndsIn turns e told.clock clock (effects old (at_bound told.wire at) looked) after → EndsEarly turns at told old after.written (left_so after.wire after.files) e
ends_early told turns at looked given clock old after e looks ends = record { looked = looked; given = given; looks = looks; clock = clock; ends = ends }

-- the text of the turns that passed
printed_first : (turns : List Turn) (e : NodeError) (clock now : Option (List ℕ)) (before after : Effects) → (ends : EndsIn turns e clock now before after) → after.written ≡ ends.mid.written
    → Wrote before.written after.written (text_of ends.first) true
printed_first turns e clock now before after ends same = rw same ends.passed.printed

-- a node's loop ended early, of files that only these names were given to
ran_failed : (follow : TextsFollow) (told : Outside) (Rule : Verdict → Type 0) (profile script : List ℕ) (at : Address) (turns : List Turn) (clock : Option (List ℕ)) (old : Option Written) (looked : Option Told)
    (after : Effects) (e : NodeError) → Rule (of_turns profile script at turns) → LooksUpTold told.files looked (profile ∷ script ∷ [])
    → Ran turns told.clock clock (effects old (at_bound told.wire at) looked) after (Err e) → StaysFlushed {T = Unit {0}} old after.written (Err e)
    → ExecutesWired Rule told old after.written (left_so after.wire after.files) (Err (node_fault e))
ran_failed follow told Rule profile script at turns clock old looked after node.NoMemory is looks ran flushed =
    let front = text_front turns ran.first (ran.last ∷ ran.rest) ran.whole in (
      of_turns profile script at turns,
      is,
      inl (
        text_of ran.first,
        inr (faults.NoMemory, refl, memory_after (want_memory turns) (text_of ran.first) (text_of turns) (last_wants turns ran.first ran.rest ran.last ran.whole ran.stops.0) front),
        inr (inr (node.NoMemory, refl, ends_early told turns at looked (map looked_up (profile ∷ script ∷ [])) clock old after node.NoMemory looks ran, refl)),
        printed_first turns node.NoMemory told.clock clock (effects old (at_bound told.wire at) looked) after ran (ap (λ (x : Effects). x.written) ran.stops.1),
        flushed,
      ),
    )
ran_failed follow told Rule profile script at turns clock old looked after node.WireFault is looks ran flushed =
    let front = text_front turns ran.first (ran.last ∷ ran.rest) ran.whole in (
      of_turns profile script at turns,
      is,
      inl (
        text_of ran.first,
        inr (faults.Wire, refl, front),
        inr (inr (node.WireFault, refl, ends_early told turns at looked (map looked_up (profile ∷ script ∷ [])) clock old after node.WireFault looks ran, refl)),
        printed_first turns node.WireFault told.clock clock (effects old (at_bound told.wire at) looked) after ran (ap (λ (x : Effects). x.written) ran.stops.1),
        flushed,
      ),
    )
ran_failed follow told Rule profile script at turns clock old looked after node.WriteFault is looks ran flushed =
    let all = text_last turns ran.first ran.rest ran.last ran.whole in (
      of_turns profile script at turns,
      is,
      inr (
        refl,
        follow.early (text_of ran.rest) (follow.more ran.passed.printed ran.stops.printed refl) all,
        ends_early told turns at looked (map looked_up (profile ∷ script ∷ [])) clock old after node.WriteFault looks ran,
      ),
    )
ran_failed follow told Rule profile script at turns clock old looked after node.FileFault is looks ran flushed =
    let front = text_front turns ran.first (ran.last ∷ ran.rest) ran.whole in (
      of_turns profile script at turns,
      is,
      inl (
        text_of ran.first,
        inr (faults.FileWrite, refl, writes_some (acts_of turns) (text_of ran.first) (text_of turns) (last_acts turns ran.first ran.rest ran.last ran.whole ran.stops.0) front),
        inr (inr (node.FileFault, refl, ends_early told turns at looked (map looked_up (profile ∷ script ∷ [])) clock old after node.FileFault looks ran, refl)),
        printed_first turns node.FileFault told.clock clock (effects old (at_bound told.wire at) looked) after ran ran.stops.1,
        flushed,
      ),
    )
ran_failed follow told Rule profile script at turns clock old looked after node.Turns is looks ran flushed =
    let ends = sym (ending_so turns false ran.0) in
    (of_turns profile script at turns, is, inl (text_of turns, inl (ends, refl), inl (ends, ran.1.leaves.wire), ran.1.leaves.printed, flushed))

pub loop_failed : {S : Type 0} (follow : TextsFollow) (told : Outside) (Rule : Verdict → Type 0) (profile script : List ℕ) (at : Address) (rules : Rules S) (first : Node S) (bound : Bool)
    (clock : Option (List ℕ)) (old : Option Written) (looked : Option Told) (after : Effects) (e : NodeError) → Passed told Rule profile script at (turns_of most_turns rules first)
    → LooksUpTold told.files looked (profile ∷ script ∷ []) → RanBound bound rules first at told.clock clock (effects old told.wire looked) after (Err e) → StaysFlushed {T = Unit {0}} old after.written (Err e)
    → ExecutesWired Rule told old after.written (left_so after.wire after.files) (Err (node_fault e))
loop_failed follow told Rule profile script at rules first true clock old looked after e passed looks ran flushed =
    ran_failed follow told Rule profile script at (turns_of most_turns rules first ran.0 ran.2) clock old looked after e (passed.is ran.0 ran.1 ran.2 (arrive_bound told.wire at ran.2 ran.3)) looks ran.4 flushed
loop_failed follow told Rule profile script at rules first false clock old looked after node.NoMemory passed looks ran flushed =
    let readings = some_read told.clock in
    let arrivals = some_arrive told.wire in
    let turns = turns_of most_turns rules first readings.0 arrivals.0 in
    rw ran.2 (comes_before {files = looked} Rule told (profile ∷ script ∷ []) at (Ok turns) faults.NoMemory tt (memory_comes (want_memory turns) (text_of turns)) follow old (passed.is readings.0 readings.1 arrivals.0 arrivals.1))
loop_failed follow told Rule profile script at rules first false clock old looked after node.WireFault passed looks ran flushed =
    let readings = some_read told.clock in
    let arrivals = some_arrive told.wire in
    let turns = turns_of most_turns rules first readings.0 arrivals.0 in
    rw ran.2 (comes_before {files = looked} Rule told (profile ∷ script ∷ []) at (Ok turns) faults.Wire tt (text_of turns, refl) follow old (passed.is readings.0 readings.1 arrivals.0 arrivals.1))
loop_failed follow told Rule profile script at rules first false clock old looked after node.WriteFault passed looks ran flushed = absurd ran.0
loop_failed follow told Rule profile script at rules first false clock old looked after node.FileFault passed looks ran flushed = absurd ran.0
loop_failed follow told Rule profile script at rules first false clock old looked after node.Turns passed looks ran flushed = absurd ran.0

-- or with `end`
pub loop_done : {S : Type 0} (told : Outside) (Rule : Verdict → Type 0) (profile script : List ℕ) (at : Address) (rules : Rules S) (first : Node S) (bound : Bool)
    (clock : Option (List ℕ)) (old : Option Written) (looked : Option Told) (after : Effects) → Passed told Rule profile script at (turns_of most_turns rules first)
    → RanBound bound rules first at told.clock clock (effects old told.wire looked) after (Ok tt) → StaysFlushed {T = Unit {0}} old after.written (Ok tt)
    → ExecutesWired Rule told old after.written (left_so after.wire after.files) (Ok tt)
loop_done told Rule profile script at rules first true clock old looked after passed ran flushed =
    let turns = turns_of most_turns rules first ran.0 ran.2 in
    let ends = sym (ending_so turns true ran.4.0) in (
      of_turns profile script at turns,
      passed.is ran.0 ran.1 ran.2 (arrive_bound told.wire at ran.2 ran.3),
      inl (text_of turns, inl (ends, refl), inl (ends, ran.4.1.leaves.wire), ran.4.1.leaves.printed, flushed),
    )
loop_done told Rule profile script at rules first false clock old looked after passed ran flushed = absurd ran.0

-- ---- what it leaves of the files

-- what the first of these turns did, or a part of the one after them
turns_left : (told looked now : Option Told) (names : List Named) (turns : List Turn) (done rest : List FileAct) (result : Result (Unit {0}) Failed) → LeavesTold told looked names []
    → ActsOn looked now done result → acts_of turns ≡ done ++ rest → LeavesFirst told now (names ++ created (acts_of turns)) (acts_of turns)
turns_left told looked now names turns done rest result before acts whole = first_left told looked now names (acts_of turns) done rest result before acts whole

ran_left : (told looked : Option Told) (names : List Named) (turns : List Turn) (clock now : Option (List ℕ)) (before after : Effects) (e : NodeError) → LeavesTold told looked names [] → before.files ≡ looked
    → Ran turns clock now before after (Err e) → Touches {A = Unit {0}} (Err (node_fault e)) (names ++ created (acts_of turns)) (acts_of turns) told after.files
ran_left told looked names turns clock now before after node.NoMemory left same ran =
    let files : ActsOn looked after.files (acts_of ran.first) all_acts =
    subst (λ (x : Effects). ActsOn looked x.files (acts_of ran.first) all_acts) (sym ran.stops.1) (subst (λ (f : Option Told). ActsOn f ran.mid.files (acts_of ran.first) all_acts) same ran.passed.files) in
    inr (tt, turns_left told looked after.files names turns (acts_of ran.first) (ran.last.acts ++ acts_of ran.rest) all_acts left files (acts_whole turns ran.first ran.rest ran.last ran.whole))
ran_left told looked names turns clock now before after node.WireFault left same ran =
    let files : ActsOn looked after.files (acts_of ran.first) all_acts =
    subst (λ (x : Effects). ActsOn looked x.files (acts_of ran.first) all_acts) (sym ran.stops.1) (subst (λ (f : Option Told). ActsOn f ran.mid.files (acts_of ran.first) all_acts) same ran.passed.files) in
    inr (tt, turns_left told looked after.files names turns (acts_of ran.first) (ran.last.acts ++ acts_of ran.rest) all_acts left files (acts_whole turns ran.first ran.rest ran.last ran.whole))
ran_left told looked names turns clock now before after node.WriteFault left same ran =
    let first = subst (λ (f : Option Told). ActsOn f ran.mid.files (acts_of ran.first) all_acts) same ran.passed.files in
    let last = subst (λ (acts : List FileAct). ActsOn ran.mid.files after.files acts all_acts) (append-nil ran.last.acts) ran.stops.files in
    let both = both_on looked ran.mid.files after.files (acts_of ran.first) ran.last.acts all_acts first last in
    inr (tt, turns_left told looked after.files names turns (acts_of ran.first ++ ran.last.acts) (acts_of ran.rest) all_acts left both (acts_whole turns ran.first ran.rest ran.last ran.whole ∙ sym (append_assoc (acts_of ran.first) ran.last.acts (acts_of ran.rest))))
ran_left told looked names turns clock now before after node.FileFault left same ran =
    let first = subst (λ (f : Option Told). ActsOn f ran.mid.files (acts_of ran.first) all_acts) same ran.passed.files in
    let both = both_on looked ran.mid.files after.files (acts_of ran.first) ran.last.acts failed_act first ran.stops.3 in
    inr (tt, turns_left told looked after.files names turns (acts_of ran.first ++ ran.last.acts) (acts_of ran.rest) failed_act left both (acts_whole turns ran.first ran.rest ran.last ran.whole ∙ sym (append_assoc (acts_of ran.first) ran.last.acts (acts_of ran.rest))))
ran_left told looked names turns clock now before after node.Turns left same ran =
    inl (all_left told looked after.files names (acts_of turns) left (subst (λ (f : Option Told). ActsOn f after.files (acts_of turns) all_acts) same ran.1.leaves.files))

-- both names were looked up, and then the node ran, or not
pub loop_left : {S : Type 0} (told : Outside) (Rule : Verdict → Type 0) (profile script : List ℕ) (at : Address) (rules : Rules S) (first : Node S) (bound : Bool)
    (clock : Option (List ℕ)) (old : Option Written) (looked : Option Told) (after : Effects) (e : NodeError) → Passed told Rule profile script at (turns_of most_turns rules first)
    → LooksUpTold told.files looked (profile ∷ script ∷ []) → RanBound bound rules first at told.clock clock (effects old told.wire looked) after (Err e)
    → LeavesFiles Rule told.files after.files (Err (node_fault e))
loop_left told Rule profile script at rules first true clock old looked after e passed left ran =
    let turns = turns_of most_turns rules first ran.0 ran.2 in (
      of_turns profile script at turns,
      passed.is ran.0 ran.1 ran.2 (arrive_bound told.wire at ran.2 ran.3),
      ran_left told.files looked (map looked_up (profile ∷ script ∷ [])) turns told.clock clock (effects old (at_bound told.wire at) looked) after e left refl ran.4,
    )
loop_left told Rule profile script at rules first false clock old looked after node.NoMemory passed left ran =
    let readings = some_read told.clock in
    let arrivals = some_arrive told.wire in
    let turns = turns_of most_turns rules first readings.0 arrivals.0 in (
      of_turns profile script at turns,
      passed.is readings.0 readings.1 arrivals.0 arrivals.1,
      inr (tt, turns_left told.files looked after.files (map looked_up (profile ∷ script ∷ [])) turns [] (acts_of turns) all_acts left (rw ran.2 (none_on looked)) refl),
    )
loop_left told Rule profile script at rules first false clock old looked after node.WireFault passed left ran =
    let readings = some_read told.clock in
    let arrivals = some_arrive told.wire in
    let turns = turns_of most_turns rules first readings.0 arrivals.0 in (
      of_turns profile script at turns,
      passed.is readings.0 readings.1 arrivals.0 arrivals.1,
      inr (tt, turns_left told.files looked after.files (map looked_up (profile ∷ script ∷ [])) turns [] (acts_of turns) all_acts left (rw ran.2 (none_on looked)) refl),
    )
loop_left told Rule profile script at rules first false clock old looked after node.WriteFault passed left ran = absurd ran.0
loop_left told Rule profile script at rules first false clock old looked after node.FileFault passed left ran = absurd ran.0
loop_left told Rule profile script at rules first false clock old looked after node.Turns passed left ran = absurd ran.0

pub loop_all : {S : Type 0} (told : Outside) (Rule : Verdict → Type 0) (profile script : List ℕ) (at : Address) (rules : Rules S) (first : Node S) (bound : Bool)
    (clock : Option (List ℕ)) (old : Option Written) (looked : Option Told) (after : Effects) → Passed told Rule profile script at (turns_of most_turns rules first)
    → LooksUpTold told.files looked (profile ∷ script ∷ []) → RanBound bound rules first at told.clock clock (effects old told.wire looked) after (Ok tt)
    → LeavesFiles Rule told.files after.files (Ok tt)
loop_all told Rule profile script at rules first true clock old looked after passed left ran =
    let turns = turns_of most_turns rules first ran.0 ran.2 in (
      of_turns profile script at turns,
      passed.is ran.0 ran.1 ran.2 (arrive_bound told.wire at ran.2 ran.3),
      inl (all_left told.files looked after.files (map looked_up (profile ∷ script ∷ [])) (acts_of turns) left ran.4.1.leaves.files),
    )
loop_all told Rule profile script at rules first false clock old looked after passed left ran = absurd ran.0

-- ---- a node that does nothing to files, and is told of none

-- none of the first turns does something, nor the one after them
none_first : (turns first rest : List Turn) (last : Turn) → turns ≡ first ++ last ∷ rest → acts_of turns ≡ [] → (acts_of first ≡ []) × (last.acts ≡ [])
none_first turns first rest last is none =
    let all = sym (acts_whole turns first rest last is) ∙ none in
    (front_none (acts_of first) (last.acts ++ acts_of rest) all, none_last (acts_of first) last.acts (acts_of rest) all)
  where
    front_none : (first more : List FileAct) → first ++ more ≡ [] → first ≡ []
    front_none [] more none = refl
    front_none (act ∷ first) more none = absurd cc

with_files : Effects → Option Told → Effects
with_files shown files = record shown { files = files }

still_leaves : (turns : List Turn) (all : Bool) (before after : Effects) (files : Option Told) → acts_of turns ≡ [] → Leaves turns all before after → Leaves turns all (with_files before files) (with_files after files)
unfolding with_files
still_leaves turns all before after files none leaves =
    record { printed = leaves.printed; wire = leaves.wire; files = subst (λ (acts : List FileAct). ActsOn files files acts all_acts) (sym none) (none_on files) }

still_stops : (e : NodeError) (turn : Turn) (before after : Effects) (files : Option Told) → turn.acts ≡ [] → StopsBy e turn before after → StopsBy e turn (with_files before files) (with_files after files)
unfolding with_files
still_stops node.NoMemory turn before after files none stops = (stops.0, ap (λ (x : Effects). with_files x files) stops.1)
still_stops node.WireFault turn before after files none stops = (stops.0, ap (λ (x : Effects). with_files x files) stops.1)
still_stops node.WriteFault turn before after files none stops = still_leaves (turn ∷ []) false before after files (append-nil turn.acts ∙ none) stops
still_stops node.FileFault turn before after files none stops = absurd (stops.0 none)
still_stops node.Turns turn before after files none stops = absurd stops

still_ends : (turns : List Turn) (e : NodeError) (clock now : Option (List ℕ)) (before after : Effects) (files : Option Told) → acts_of turns ≡ [] → EndsIn turns e clock now before after
    → EndsIn turns e clock now (with_files before files) (with_files after files)
unfolding with_files
still_ends turns e clock now before after files none ends =
    let both = none_first turns ends.first ends.rest ends.last ends.whole none in
    record {
      first = ends.first;
      last = ends.last;
      rest = ends.rest;
      whole = ends.whole;
      mid = with_files ends.mid files;
      passed = still_leaves ends.first true before ends.mid files both.0 ends.passed;
      flushed = ends.flushed;
      stops = still_stops e ends.last ends.mid after files both.1 ends.stops;
      read = ends.read;
    }

still_passes : (turns : List Turn) (clock now : Option (List ℕ)) (before after : Effects) (files : Option Told) → acts_of turns ≡ [] → Passes turns clock now before after
    → Passes turns clock now (with_files before files) (with_files after files)
still_passes turns clock now before after files none passes = record { leaves = still_leaves turns true before after files none passes.leaves; read = passes.read }

still_ran : (turns : List Turn) (clock now : Option (List ℕ)) (before after : Effects) (files : Option Told) (result : Result (Unit {0}) NodeError) → acts_of turns ≡ [] → Ran turns clock now before after result
    → Ran turns clock now (with_files before files) (with_files after files) result
still_ran turns clock now before after files (Ok x) none ran = (ran.0, still_passes turns clock now before after files none ran.1)
still_ran turns clock now before after files (Err node.Turns) none ran = (ran.0, still_passes turns clock now before after files none ran.1)
still_ran turns clock now before after files (Err node.NoMemory) none ran = still_ends turns node.NoMemory clock now before after files none ran
still_ran turns clock now before after files (Err node.WireFault) none ran = still_ends turns node.WireFault clock now before after files none ran
still_ran turns clock now before after files (Err node.WriteFault) none ran = still_ends turns node.WriteFault clock now before after files none ran
still_ran turns clock now before after files (Err node.FileFault) none ran = still_ends turns node.FileFault clock now before after files none ran

pub still_bound : {S : Type 0} (rules : Rules S) (first : Node S) (at : Address) (bound : Bool) (clock now : Option (List ℕ)) (old written : Option Written) (were are : Option Traffic) (files : Option Told)
    (result : Result (Unit {0}) NodeError) → ((readings : List ℕ) (arrivals : List (Option Parcel)) → acts_of (turns_of most_turns rules first readings arrivals) ≡ [])
    → RanBound bound rules first at clock now (effects old were None) (effects written are None) result → RanBound bound rules first at clock now (effects old were files) (effects written are files) result
unfolding with_files
still_bound rules first at true clock now old written were are files result none ran =
    (ran.0, ran.1, ran.2, ran.3, still_ran (turns_of most_turns rules first ran.0 ran.2) clock now (effects old (at_bound were at) None) (effects written are None) files result (none ran.0 ran.2) ran.4)
still_bound rules first at false clock now old written were are files result none ran = (ran.0, ran.1, ap (λ (x : Effects). with_files x files) ran.2)

-- a server does nothing to files
pub served_left : (told : Outside) (Rule : Verdict → Type 0) (profile script : List ℕ) (at : Address) (turns : List ℕ → List (Option Parcel) → List Turn) (looked : Option Told) (ended : Result (Unit {0}) Fault)
    → Passed told Rule profile script at turns → LooksUpTold told.files looked (profile ∷ script ∷ []) → ((readings : List ℕ) (arrivals : List (Option Parcel)) → acts_of (turns readings arrivals) ≡ [])
    → LeavesFiles Rule told.files looked ended
served_left told Rule profile script at turns looked ended passed left none =
    let readings = some_read told.clock in
    let arrivals = some_arrive told.wire in (
      of_turns profile script at (turns readings.0 arrivals.0),
      passed.is readings.0 readings.1 arrivals.0 arrivals.1,
      inl (all_left told.files looked looked (map looked_up (profile ∷ script ∷ [])) (acts_of (turns readings.0 arrivals.0)) left
          (subst (λ (acts : List FileAct). ActsOn looked looked acts all_acts) (sym (none readings.0 arrivals.0)) (none_on looked))),
    )

-- its verdict binds an address
pub passed_binds : (told : Outside) (Rule : Verdict → Type 0) (profile script : List ℕ) (at : Address) (turns : List ℕ → List (Option Parcel) → List Turn) → Passed told Rule profile script at turns
    → MayBind Rule
passed_binds told Rule profile script at turns passed =
    let readings = some_read told.clock in
    let arrivals = some_arrive told.wire in
    (of_turns profile script at (turns readings.0 arrivals.0), passed.is readings.0 readings.1 arrivals.0 arrivals.1, at, refl)

-- ---- causes

pub node_read_cause : (before now : ℕ) (e : NodeError) → now ≡ before → ReadCause {T = Unit {0}} before now (Err (node_fault e))
node_read_cause before now node.NoMemory same = same
node_read_cause before now node.WireFault same = same
node_read_cause before now node.WriteFault same = same
node_read_cause before now node.FileFault same = same
node_read_cause before now node.Turns same = same

pub node_write_cause : (before now : ℕ) (e : NodeError) → NodeWriteCause {T = Unit {0}} before now (Err e) → WriteCause before now (Err (node_fault e))
node_write_cause before now node.NoMemory cause = cause
node_write_cause before now node.WireFault cause = cause
node_write_cause before now node.WriteFault cause = cause
node_write_cause before now node.FileFault cause = cause
node_write_cause before now node.Turns cause = cause

pub node_wire_cause : (before now : ℕ) (e : NodeError) → NodeWireCause {T = Unit {0}} before now (Err e) → WireCause before now (Err (node_fault e))
node_wire_cause before now node.NoMemory cause = cause
node_wire_cause before now node.WireFault cause = cause
node_wire_cause before now node.WriteFault cause = cause
node_wire_cause before now node.FileFault cause = cause
node_wire_cause before now node.Turns cause = cause

by_file : (before now : ℕ) (e : NodeError) → NodeFileCause {T = Unit {0}} before now (Err e) → FileCause before now (Err (node_fault e))
by_file before now node.NoMemory cause = cause
by_file before now node.WireFault cause = cause
by_file before now node.WriteFault cause = cause
by_file before now node.FileFault cause = cause
by_file before now node.Turns cause = cause

pub node_file_cause : (before mid now : ℕ) (e : NodeError) → mid ≡ before → NodeFileCause {T = Unit {0}} mid now (Err e) → FileCause before now (Err (node_fault e))
node_file_cause before mid now e same cause = by_file before now e (subst (λ (count : ℕ). NodeFileCause {T = Unit {0}} count now (Err e)) same cause)

-- a part that reads a file fails by no write
pub part_file_cause : {A : Type 0} (said : Result A Fault) (e : Fault) (before now : ℕ) → Gets said (Err e) → (said ≡ Err faults.FileWrite → ⊥) → now ≡ before → FileCause before now (Err e)
part_file_cause said faults.FileWrite before now gets never same =
    absurd (elim gets [
      | inl by_input ↦ never (sym by_input)
      | inr outside ↦ elim outside [ inl memory ↦ (cc) | inr read ↦ (cc) ]
    ])
part_file_cause said other before now gets never same = same

pub no_profile_written : (file : Option (List ℕ)) → profile_in file ≡ Err faults.FileWrite → ⊥
no_profile_written file is = subst (λ (answer : Result Profile Fault). OfInput answer) is (profile_of_input file)

pub no_events_written : (kind : ScriptKind) (file : Option (List ℕ)) → events_in kind file ≡ Err faults.FileWrite → ⊥
no_events_written kind file is = subst (λ (answer : Result (List Event) Fault). OfInput answer) is (events_of_input kind file)

-- a part that reads a file fails by no wire
pub part_wire_cause : {A : Type 0} (said : Result A Fault) (e : Fault) (before now : ℕ) → Gets said (Err e) → (said ≡ Err faults.Wire → ⊥) → now ≡ before → WireCause before now (Err e)
part_wire_cause said faults.Wire before now gets never same =
    absurd (elim gets [
      | inl by_input ↦ never (sym by_input)
      | inr outside ↦ elim outside [ inl memory ↦ (cc) | inr read ↦ (cc) ]
    ])
part_wire_cause said other before now gets never same = same

pub no_profile_wire : (file : Option (List ℕ)) → profile_in file ≡ Err faults.Wire → ⊥
no_profile_wire file is = subst (λ (answer : Result Profile Fault). OfInput answer) is (profile_of_input file)

pub no_events_wire : (kind : ScriptKind) (file : Option (List ℕ)) → events_in kind file ≡ Err faults.Wire → ⊥
no_events_wire kind file is = subst (λ (answer : Result (List Event) Fault). OfInput answer) is (events_of_input kind file)
