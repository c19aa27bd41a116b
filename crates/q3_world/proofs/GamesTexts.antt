-- Config strings after commands that don't change string 1: they tell the same id.
use Rattle.std.proofs.lemmas.Bool.{cond_both, eqb-false}
use Rattle.std.proofs.Common.{[], List, None, Option, Some, ap, codes, false, length, map, refl, sym, ℕ, ◌++◌, ◌∙◌, ◌∷◌, ◌≡◌, option_and_then, Bool}
use Rattle.std.specs.Prelude.{All, nat_lt, unwrap_or, ◌==◌, ◌&&◌}
use Rattle.std.specs.Str.{bytes_eq}
use Rattle.std.proofs.lemmas.List.{get_or-set_other}
use Rattle.std.proofs.lemmas.List.Elements.{All-head, All-tail}
use Rattle.q3_clstate.specs.State.{Settings, after_texts, id_in, settled, tells_id}
use Rattle.q3_config.specs.Changes.{Applied}
use Rattle.q3_config.specs.Changes.{change_or, unchanged, after_change, after_command, after_commands, after_shape, finish, go_on, grow, make_change, without_pending}
use Rattle.q3_config.specs.Commands.{Change, Word, First, Middle, Last, Whole, change_in}
use Rattle.q3_config.specs.Strings.{Pending, Strings, longest_string, server_id, set_fault, string_at}
use Rattle.q3_config.specs.declared.error.ConfigError.{ConfigError}
use Rattle.q3_slot.specs.Slots.{changes_own, is_of_index}
use Rattle.q3_text.specs.Decimals.{info_number}
use Rattle.q3_text.specs.Info.{info_of}
use Rattle.q3_text.specs.Texts.{translated}
use Rattle.q3_text.specs.declared.text.Command.{Command}
use Rattle.q3_world.specs.World.{texts_of}

-- string 1 stays
abbrev Same : Strings → Applied → Type 0
Same strings applied = string_at applied.strings 1 ≡ string_at strings 1

module _ (strings : Strings) (index : ℕ) (other : index ≡ 1 → ⊥) where
  set_same : (text : List ℕ) (fault : Option ConfigError) → Same strings (change_or strings index text fault)
  set_same text None = get_or-set_other strings.texts index 1 (map translated text) [] (λ e. other (sym e))
  set_same text (Some fault) = refl

make_same : (strings : Strings) (index : ℕ) (text : List ℕ) → (index ≡ 1 → ⊥) → Same strings (make_change strings index text)
make_same strings index text other =
    cond_both (bytes_eq (string_at strings index) (map translated text)) (unchanged strings) (change_or strings index text (set_fault strings index text))
    (Same strings) (λ e. refl) (λ e. set_same strings index other text (set_fault strings index text))

finish_same : (strings : Strings) (word : Word) (index : ℕ) (text : List ℕ) → (index ≡ 1 → ⊥) → Same strings (finish strings word index text)
finish_same strings Whole index text other = refl
finish_same strings First index text other = refl
finish_same strings Middle index text other = refl
finish_same strings Last index text other = make_same (without_pending strings) index text other

grow_same : (strings : Strings) (word : Word) (index : ℕ) (text : List ℕ) → (index ≡ 1 → ⊥) → Same strings (grow strings word index text)
grow_same strings word index text other =
    cond_both (nat_lt longest_string (length text)) (unchanged (without_pending strings)) (finish strings word index text)
    (Same strings) (λ e. refl) (λ e. finish_same strings word index text other)

go_on_same : (strings : Strings) (word : Word) (index : ℕ) (text : List ℕ) (found : Option Pending) → (index ≡ 1 → ⊥) → Same strings (go_on strings word index text found)
go_on_same strings word index text None other = refl
go_on_same strings word index text (Some pending) other =
    cond_both (pending.index == index) (grow strings word index (pending.text ++ text)) (unchanged strings)
    (Same strings) (λ e. grow_same strings word index (pending.text ++ text) other) (λ e. refl)

change_same : (strings : Strings) (word : Word) (index : ℕ) (text : List ℕ) → (index ≡ 1 → ⊥) → Same strings (after_change strings word index text)
change_same strings Whole index text other = make_same strings index text other
change_same strings First index text other = refl
change_same strings Middle index text other = go_on_same strings Middle index text strings.pending other
change_same strings Last index text other = go_on_same strings Last index text strings.pending other

shape_same : (strings : Strings) (found : Option Change) → is_of_index 1 found ≡ false → Same strings (after_shape strings found)
shape_same strings None is = refl
shape_same strings (Some change) is = change_same strings change.word change.index change.text (eqb-false change.index 1 is)

-- a command that doesn't change string 1
own_stays : (strings : Strings) (text : List ℕ) → changes_own text ≡ false → Same strings (after_command strings text)
unfolding after_command
own_stays strings text is = shape_same strings (change_in text) is

tells_same : (before after : Strings) → string_at after 1 ≡ string_at before 1 → server_id after ≡ server_id before
unfolding server_id
tells_same before after same = ap (λ (text : List ℕ). option_and_then info_number (info_of text (codes "sv_serverid"))) same

-- leaves the id
pub id_stays : (strings : Strings) (text : List ℕ) → changes_own text ≡ false → server_id (after_command strings text).strings ≡ server_id strings
id_stays strings text is = tells_same strings (after_command strings text).strings (own_stays strings text is)

-- a text that leaves string 1 as it is
abbrev pub LeavesOwn : List ℕ → Type 0
LeavesOwn text = changes_own text ≡ false

-- and so do many
pub ids_stay : (strings : Strings) (texts : List (List ℕ)) → All LeavesOwn texts → server_id (after_commands strings texts) ≡ server_id strings
unfolding after_commands
ids_stay strings [] own = refl
ids_stay strings (text ∷ texts) own =
    ids_stay (after_command strings text).strings texts (All-tail LeavesOwn text texts own) ∙ id_stays strings text (All-head LeavesOwn text texts own)

-- commands go on after others
pub after_commands-append : (strings : Strings) (first rest : List (List ℕ)) → after_commands strings (first ++ rest) ≡ after_commands (after_commands strings first) rest
unfolding after_commands
after_commands-append strings [] rest = refl
after_commands-append strings (text ∷ first) rest = after_commands-append (after_command strings text).strings first rest

-- ---- what a client hears

-- its strings are those after the texts
pub strings_of_texts : (settings : Settings) (commands : List Command) → (after_texts settings commands).strings ≡ after_commands settings.strings (texts_of commands)
unfolding after_texts after_commands
strings_of_texts settings [] = refl
strings_of_texts settings (command ∷ commands) = strings_of_texts (settled settings.id (tells_id command.text) (after_command settings.strings command.text)) commands

settled_id : (id : ℕ) (tells : Bool) (applied : Applied) → id_in id applied.strings ≡ id → (settled id tells applied).id ≡ id
settled_id id tells applied is = cond_both (applied.changed && tells) (id_in id applied.strings) id (λ (x : ℕ). x ≡ id) (λ e. is) (λ e. refl)

-- and its id stays, where its strings tell that id or none
pub id_after : (settings : Settings) (commands : List Command) → All LeavesOwn (texts_of commands) → id_in settings.id settings.strings ≡ settings.id
    → (after_texts settings commands).id ≡ settings.id
unfolding after_texts
id_after settings [] own is = refl
id_after settings (command ∷ commands) own is =
    let applied = after_command settings.strings command.text in
    let tells : server_id applied.strings ≡ server_id settings.strings = id_stays settings.strings command.text (All-head LeavesOwn command.text (texts_of commands) own) in
    let same : id_in settings.id applied.strings ≡ settings.id = ap (λ (o : Option ℕ). unwrap_or o settings.id) tells ∙ is in
    let of = tells_id command.text in
    let id : (settled settings.id of applied).id ≡ settings.id = settled_id settings.id of applied same in
    let next : id_in (settled settings.id of applied).id applied.strings ≡ (settled settings.id of applied).id = ap (λ (i : ℕ). id_in i applied.strings) id ∙ (same ∙ sym id) in
    id_after (settled settings.id of applied) commands (All-tail LeavesOwn command.text (texts_of commands) own) next ∙ id
