-- Where bytes are no state, the place that is told is within them.
use Rattle.std.proofs.Common.{◌≡◌, ℕ, zero, suc, ◌+◌, ◌≤◌, Bool, List, [], ◌∷◌, length, take, None, Result, Ok, Err, refl, ap, subst, arith, ltb-false}
use Rattle.std.specs.Prelude.{nat_lt, nat_le, ◌==◌, ◌&&◌, if◌then◌else◌}
use Rattle.std.proofs.lemmas.Bool.{cond_both}
use Rattle.std.proofs.lemmas.List.{length-drop}
use Rattle.byteorder.specs.Endian.{little_number}
use Rattle.q3_bits.specs.ResultBind.{◌>>=◌}
use Rattle.q3_fields.specs.declared.kind.Kind.{Kind}
use Rattle.q3_fields.specs.Kinds.{Layout}
use Rattle.q3_profile.specs.declared.profile.Profile.{Profile}
use Rattle.q3_rings.specs.Rings.{HeldSnapshots}
use Rattle.q3_savestate.specs.Cursor.{Cursor, Field, cursor_after, field_at, number_at, end_at}
use Rattle.q3_savestate.specs.Entities.{words_at, state_words_at, entity_at, entities_at, baselines_at}
use Rattle.q3_savestate.specs.Texts.{strings_after, strings_at, some_pending_at, pending_at}
use Rattle.q3_savestate.specs.Snapshots.{numbers_at, shorts_at, player_at, head_at, snapshot_at, snapshots_after, snapshots_at}
use Rattle.q3_savestate.specs.State.{start_at, flag_at, state_at}

-- bytes that are read end at this place
abbrev Ends : ℕ → Cursor → Type 0
Ends end cursor = cursor.at + length cursor.bytes ≡ end

-- so do those after what is read, and a place that is refused is within them
record Stays {X : Type 0} (end : ℕ) (r : Field X) : Type 0 where
  found : (x : X × Cursor) → r ≡ Ok x → Ends end x.1
  refused : (at : ℕ) → r ≡ Err at → at ≤ end

ok_stays : {X : Type 0} (end : ℕ) (x : X) (cursor : Cursor) → Ends end cursor → Stays end (Ok (x, cursor))
ok_stays end x cursor is = record {
  found = λ y same. let one : cursor ≡ y.1 = cc in subst (λ (c : Cursor). Ends end c) one is;
  refused = λ at same. absurd cc;
}

err_stays : {X : Type 0} (end at : ℕ) → at ≤ end → Stays {X = X} end (Err at)
err_stays end at within = record {
  found = λ y same. absurd cc;
  refused = λ other same. let one : at ≡ other = cc in subst (λ (n : ℕ). n ≤ end) one within;
}

field_stays : {X : Type 0} (end count : ℕ) (value : List ℕ → X) (rule : X → Bool) (cursor : Cursor) → Ends end cursor → Stays end (field_at count value rule cursor)
field_stays {X = X} end count value rule cursor is =
    let read : Field X = Ok (value (take count cursor.bytes), cursor_after count cursor) in
    let within : Stays {X = X} end (Err cursor.at) = err_stays end cursor.at (omega arith) in
    cond_both (nat_lt (length cursor.bytes) count) (Err cursor.at) (if rule (value (take count cursor.bytes)) then read else Err cursor.at) (Stays end) (λ short. within)
    (λ long. cond_both (rule (value (take count cursor.bytes))) read (Err cursor.at) (Stays end)
    (λ right. ok_stays end (value (take count cursor.bytes)) (cursor_after count cursor) (omega (arith, length-drop count cursor.bytes, ltb-false (length cursor.bytes) count long)))
    (λ wrong. within))

then_stays : {X Y : Type 0} (end : ℕ) (r : Field X) (f : X × Cursor → Field Y) → Stays end r → ((x : X × Cursor) → Ends end x.1 → Stays end (f x)) → Stays end (r >>= f)
then_stays end (Ok x) f first others = others x (first.found x refl)
then_stays end (Err at) f first others = err_stays end at (first.refused at refl)

-- ---- entities

words_stay : (end : ℕ) (kinds : List Kind) (cursor : Cursor) → Ends end cursor → Stays end (words_at kinds cursor)
unfolding words_at
words_stay end [] cursor is = ok_stays end [] cursor is
words_stay end (kind ∷ kinds) cursor is = search (then_stays, field_stays, ok_stays, words_stay end kinds)

state_words_stay : (end : ℕ) (kinds : List Kind) (cursor : Cursor) → Ends end cursor → Stays end (state_words_at kinds cursor)
unfolding state_words_at
state_words_stay end kinds cursor is = search (then_stays, ok_stays, words_stay)

entity_stays : (end : ℕ) (table : Layout) (least : ℕ) (cursor : Cursor) → Ends end cursor → Stays end (entity_at table least cursor)
unfolding entity_at
entity_stays end table least cursor is = search (then_stays, field_stays, ok_stays, state_words_stay)

entities_stay : (end : ℕ) (table : Layout) (count least : ℕ) (cursor : Cursor) → Ends end cursor → Stays end (entities_at table count least cursor)
unfolding entities_at
entities_stay end table zero least cursor is = ok_stays end [] cursor is
entities_stay end table (suc count) least cursor is = search (then_stays, ok_stays, entity_stays, entities_stay end table count)

baselines_stay : (end : ℕ) (table : Layout) (cursor : Cursor) → Ends end cursor → Stays end (baselines_at table cursor)
unfolding baselines_at
baselines_stay end table cursor is = search (then_stays, field_stays, ok_stays, entities_stay)

-- ---- strings

counted_strings_stay : (end count least : ℕ) (texts : List (List ℕ)) (cursor : Cursor) → Ends end cursor → Stays end (strings_after count least texts cursor)
unfolding strings_after
counted_strings_stay end zero least texts cursor is = ok_stays end texts cursor is
counted_strings_stay end (suc count) least texts cursor is = search (then_stays, field_stays, counted_strings_stay end count) depth 10

strings_stay : (end : ℕ) (cursor : Cursor) → Ends end cursor → Stays end (strings_at cursor)
unfolding strings_at
strings_stay end cursor is = search (then_stays, field_stays, counted_strings_stay)

some_stays : (end : ℕ) (cursor : Cursor) → Ends end cursor → Stays end (some_pending_at cursor)
some_stays end cursor is = search (then_stays, field_stays, ok_stays) depth 10

pending_stays : (end : ℕ) (cursor : Cursor) → Ends end cursor → Stays end (pending_at cursor)
unfolding pending_at
pending_stays end cursor is =
    then_stays end (number_at 1 0 1 cursor) (λ some. if some.0 == 0 then Ok (None, some.1) else some_pending_at some.1) (field_stays end 1 (little_number 1) (λ number. nat_le 0 number && nat_le number 1) cursor is)
    (λ some here. cond_both (some.0 == 0) (Ok (None, some.1)) (some_pending_at some.1) (Stays end) (λ none. ok_stays end None some.1 here) (λ one. some_stays end some.1 here))

-- ---- snapshots

numbers_stay : (end bytes count : ℕ) (cursor : Cursor) → Ends end cursor → Stays end (numbers_at bytes count cursor)
unfolding numbers_at
numbers_stay end bytes zero cursor is = ok_stays end [] cursor is
numbers_stay end bytes (suc count) cursor is = search (then_stays, field_stays, ok_stays, numbers_stay end bytes count)

shorts_stay : (end : ℕ) (cursor : Cursor) → Ends end cursor → Stays end (shorts_at cursor)
shorts_stay end cursor is = search (then_stays, ok_stays, numbers_stay)

player_stays : (end : ℕ) (profile : Profile) (cursor : Cursor) → Ends end cursor → Stays end (player_at profile cursor)
unfolding player_at
player_stays end profile cursor is = search (then_stays, ok_stays, state_words_stay, shorts_stay, numbers_stay) depth 10

head_stays : (end : ℕ) (profile : Profile) (number : ℕ) (cursor : Cursor) → Ends end cursor → Stays end (head_at profile number cursor)
unfolding head_at
head_stays end profile number cursor is = search (then_stays, field_stays, ok_stays, player_stays) depth 10

snapshot_stays : (end : ℕ) (profile : Profile) (held : HeldSnapshots) (newest left most : ℕ) (cursor : Cursor) → Ends end cursor
    → Stays end (snapshot_at profile held newest left most cursor)
unfolding snapshot_at
snapshot_stays end profile held newest left most cursor is = search (then_stays, field_stays, ok_stays, head_stays, entities_stay) depth 10

counted_snapshots_stay : (end : ℕ) (profile : Profile) (newest left most : ℕ) (held : HeldSnapshots) (cursor : Cursor) → Ends end cursor
    → Stays end (snapshots_after profile newest left most held cursor)
unfolding snapshots_after
counted_snapshots_stay end profile newest zero most held cursor is = ok_stays end held cursor is
counted_snapshots_stay end profile newest (suc left) most held cursor is = search (then_stays, snapshot_stays, counted_snapshots_stay end profile newest left)

snapshots_stay : (end : ℕ) (profile : Profile) (cursor : Cursor) → Ends end cursor → Stays end (snapshots_at profile cursor)
unfolding snapshots_at
snapshots_stay end profile cursor is = search (then_stays, field_stays, counted_snapshots_stay)

-- ---- a state

start_stays : (end : ℕ) (cursor : Cursor) → Ends end cursor → Stays end (start_at cursor)
unfolding start_at
start_stays end cursor is = search (then_stays, field_stays, ok_stays) depth 12

flag_stays : (end : ℕ) (cursor : Cursor) → Ends end cursor → Stays end (flag_at cursor)
flag_stays end cursor is = search (then_stays, field_stays, ok_stays)

-- a place that is told is within the bytes
record Refuses {X : Type 0} (end : ℕ) (r : Result X ℕ) : Type 0 where
  refused : (place : ℕ) → r ≡ Err place → place ≤ end

then_refuses : {X Y : Type 0} (end : ℕ) (r : Field X) (f : X × Cursor → Result Y ℕ) → Stays end r → ((x : X × Cursor) → Ends end x.1 → Refuses end (f x)) → Refuses end (r >>= f)
then_refuses end (Ok x) f first others = others x (first.found x refl)
then_refuses end (Err at) f first others = record { refused = λ place is. let same : at ≡ place = cc in first.refused place (ap (λ n. Err n) same) }

end_refuses : {Y : Type 0} (end : ℕ) (cursor : Cursor) (y : Y) → Ends end cursor → Refuses end (end_at cursor >>= λ none. Ok y)
end_refuses {Y = Y} end cursor y is =
    cond_both (length cursor.bytes == 0) (Ok tt) (Err cursor.at) (λ (r : Result (Unit {0}) ℕ). Refuses end (r >>= λ none. Ok y))
    (λ none. record { refused = λ place e. absurd cc }) (λ some. record { refused = λ place e. let same : cursor.at ≡ place = cc in omega arith })

state_refuses : (profile : Profile) (bytes : List ℕ) (cursor : Cursor) → cursor ≡ record { at = 0; bytes = bytes } → Ends (length bytes) cursor → Refuses (length bytes) (state_at profile bytes)
unfolding state_at
state_refuses profile bytes cursor first is =
    let here : Ends (length bytes) (record { at = 0; bytes = bytes }) = omega arith in
    search (then_refuses, end_refuses, start_stays, pending_stays, flag_stays, strings_stay, baselines_stay, snapshots_stay) depth 12

pub refused_within : (profile : Profile) (bytes : List ℕ) (place : ℕ) → state_at profile bytes ≡ Err place → place ≤ length bytes
refused_within profile bytes place is = (state_refuses profile bytes (record { at = 0; bytes = bytes }) refl (omega arith)).refused place is
