-- What commands leave stays well formed and in range.
use Rattle.std.proofs.Common.{◌≡◌, ℕ, ◌-◌, ◌^◌, ◌<◌, ◌≤◌, Bool, true, false, List, [], ◌∷◌, Option, Some, None, option_and_then, arith}
use Rattle.std.specs.Prelude.{All, IfSome, ◌&&◌, nat_lt, nat_le, unwrap_or, codes}
use Rattle.std.proofs.lemmas.Bool.{cond_both, leb-true}
use Rattle.std.proofs.lemmas.List.Elements.{All-cons, All-head, All-tail}
use Rattle.q3_text.specs.declared.text.Command.{Command}
use Rattle.q3_text.specs.Texts.{IsText}
use Rattle.q3_text.specs.Info.{info_of}
use Rattle.q3_text.specs.Decimals.{is_decimal, value_of, number_at, info_number}
use Rattle.q3_strings.specs.Laws.{IsCommand}
use Rattle.q3_window.specs.Incoming.{IncomingState, executing, fresh_of, executing_all}
use Rattle.q3_config.specs.Strings.{Strings, AreStrings, string_at, server_id}
use Rattle.q3_config.specs.Changes.{after_command}
use Rattle.q3_config.specs.Laws.{HoldTexts}
use Rattle.q3_clstate.specs.State.{AppliedState, Settings, id_in, settled, tells_id, after_texts, hearing}
use Rattle.q3_clstate.specs.Standing.{IsApplied}
use Rattle.q3_clstate.proofs.Below.{Below}

-- ---- an id that strings tell

and_right : (a b : Bool) → (a && b) ≡ true → b ≡ true
and_right true b e = e
and_right false b e = absurd cc

number_within : (low high : ℕ) (word : List ℕ) → IfSome (number_at low high word) (λ n. n ≤ high)
unfolding number_at
number_within low high word =
    cond_both (is_decimal word && nat_le low (value_of word) && nat_le (value_of word) high) (Some (value_of word)) None (λ o. IfSome o (λ n. n ≤ high))
    (λ is. leb-true (value_of word) high (and_right (is_decimal word && nat_le low (value_of word)) (nat_le (value_of word) high) is)) (λ e. tt)

told_below : (o : Option (List ℕ)) (id : ℕ) → id < 2 ^ 31 → unwrap_or (option_and_then info_number o) id < 2 ^ 31
told_below None id is = is
told_below (Some word) id is = of_number (info_number word) (number_within 0 (2 ^ 31 - 1) word)
  where
    of_number : (n : Option ℕ) → IfSome n (λ n. n ≤ 2 ^ 31 - 1) → unwrap_or n id < 2 ^ 31
    of_number None t = is
    of_number (Some n) few = omega (arith, few)

pub id_below : (strings : Strings) (id : ℕ) → id < 2 ^ 31 → id_in id strings < 2 ^ 31
unfolding server_id
id_below strings id is = told_below (info_of (string_at strings 1) (codes "sv_serverid")) id is

-- ---- config strings, and the id

record AreSettings (settings : Settings) : Type 0 where
  strings : AreStrings settings.strings
  texts : HoldTexts settings.strings
  id : settings.id < 2 ^ 31

settled_are : Below → (settings : Settings) (tells : Bool) (text : List ℕ) → AreSettings settings → IsText text
    → AreSettings (settled settings.id tells (after_command settings.strings text))
settled_are below settings tells text are is =
    let applied = after_command settings.strings text in
    record {
      strings = below.strings.command settings.strings text are.strings is;
      texts = below.texts.command settings.strings text are.texts is;
      id = cond_both (applied.changed && tells) (id_in settings.id applied.strings) settings.id (λ (id : ℕ). id < 2 ^ 31)
          (λ e. id_below applied.strings settings.id are.id) (λ e. are.id);
    }

texts_are : Below → (settings : Settings) (commands : List Command) → AreSettings settings → All IsCommand commands → AreSettings (after_texts settings commands)
unfolding after_texts
texts_are below settings [] are each = are
texts_are below settings (command ∷ commands) are each =
    texts_are below (settled settings.id (tells_id command.text) (after_command settings.strings command.text)) commands
    (settled_are below settings (tells_id command.text) command.text are (All-head IsCommand command commands each).text) (All-tail IsCommand command commands each)

-- ---- the commands that are executed

fresh_are : (executed : ℕ) (commands : List Command) → All IsCommand commands → All IsCommand (fresh_of executed commands)
unfolding fresh_of
fresh_are executed [] each = each
fresh_are executed (command ∷ commands) each =
    let first = All-head IsCommand command commands each in
    let rest = All-tail IsCommand command commands each in
    cond_both (nat_lt executed command.number) (command ∷ fresh_of command.number commands) (fresh_of executed commands) (All IsCommand)
    (λ e. All-cons IsCommand command (fresh_of command.number commands) first (fresh_are command.number commands rest)) (λ e. fresh_are executed commands rest)

record IsWindow (window : IncomingState) : Type 0 where
  number : window.executed < 2 ^ 32
  last : IsText window.last

executed_all_is : (window : IncomingState) (commands : List Command) → IsWindow window → All IsCommand commands → IsWindow (executing_all window commands)
unfolding executing_all
executed_all_is window [] is each = is
executed_all_is window (command ∷ commands) is each =
    let first = All-head IsCommand command commands each in
    executed_all_is (executing command) commands (record { number = first.number; last = first.text }) (All-tail IsCommand command commands each)

-- ---- a state whose commands are executed

pub hearing_stays : Below → (state : AppliedState) (commands : List Command) → All IsCommand commands → IsApplied state → IsApplied (hearing state commands)
hearing_stays below state commands each is =
    let fresh = fresh_are state.executed.executed commands each in
    let settings = texts_are below (record { strings = state.strings; id = state.id }) (fresh_of state.executed.executed commands)
    (record { strings = is.strings; texts = is.texts; id = is.id }) fresh in
    let window = executed_all_is state.executed (fresh_of state.executed.executed commands) (record { number = is.executed; last = is.last }) fresh in
    record {
      profile = is.profile;
      number = is.number;
      executed = window.number;
      last = window.last;
      id = settings.id;
      slot = is.slot;
      feed = is.feed;
      strings = settings.strings;
      texts = settings.texts;
      baselines = is.baselines;
      room = is.room;
      held = is.held;
      newest = is.newest;
      snapshots = is.snapshots;
    }
