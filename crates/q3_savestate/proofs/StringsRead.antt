-- Config strings that are read one after the other beside empty ones.
use Rattle.std.proofs.Common.{◌≡◌, ℕ, zero, suc, ◌+◌, ◌-◌, ◌<◌, ◌≤◌, true, false, List, [], ◌∷◌, length, map, replicate, get_or, set, None, Ok, Err, refl, ap, ◌∙◌, sym, arith}
use Rattle.std.specs.Prelude.{◌==◌, ◌&&◌, not, nat_lt}
use Rattle.std.specs.List.{list_all}
use Rattle.std.proofs.lemmas.Bool.{and_parts, lt-ltb, le-ltb, le-leb, ltb-true, not-true}
use Rattle.q3_text.specs.Texts.{translated}
use Rattle.q3_config.specs.Strings.{Strings, AreStrings, places, longest_string, most_size, size_of, config_size, fits, set_fault, after_set}
use Rattle.q3_savestate.specs.Cursor.{Cursor, is_text_byte, number_at, text_at}
use Rattle.q3_savestate.specs.Texts.{room_in, strings_after}
use Rattle.q3_savestate.proofs.Ranges.{in_range, text_told}
use Rattle.q3_config.specs.Laws.{SizesAddUp}

-- ---- a string that is set

same_byte : (byte : ℕ) → is_text_byte byte ≡ true → translated byte ≡ byte
same_byte byte is =
    let parts = and_parts (nat_lt 0 byte && nat_lt byte 128) (not (byte == 37)) is in
    let range = and_parts (nat_lt 0 byte) (nat_lt byte 128) parts.0 in
    let low : nat_lt 127 byte ≡ false = le-ltb 127 byte (omega (arith, ltb-true byte 128 range.1)) in
    rw (low, not-true (byte == 37) parts.1) refl

-- bytes that a text may hold are kept as they are
pub same_bytes : (text : List ℕ) → list_all is_text_byte text ≡ true → map translated text ≡ text
same_bytes [] is = refl
same_bytes (byte ∷ text) is =
    let parts = and_parts (is_text_byte byte) (list_all is_text_byte text) is in
    rw (same_byte byte parts.0, same_bytes text parts.1) refl

size_of-most : (text : List ℕ) → size_of text ≤ length text + 1
size_of-most [] = omega arith
size_of-most (byte ∷ text) = omega arith

-- a string of which there is room for the length is set where none is
pub no_fault : (sizes : SizesAddUp) (strings : Strings) (index : ℕ) (text : List ℕ) → AreStrings strings → index < places → get_or strings.texts index [] ≡ [] → 1 ≤ length text → length text ≤ room_in strings.texts
    → set_fault strings index text ≡ None
unfolding set_fault
no_fault sizes strings index text are within empty some short =
    let place : nat_lt index places ≡ true = lt-ltb index places within in
    let long : nat_lt longest_string (length text) ≡ false = le-ltb longest_string (length text) (omega arith) in
    let size : config_size (set strings.texts index (map translated text)) ≤ most_size =
    omega (arith, sizes.set strings.texts index text (omega (arith, are.count)), ap size_of empty, size_of-most text, are.size) in
    let room : fits strings index text ≡ true = le-leb (config_size (set strings.texts index (map translated text))) most_size size in
    rw (place, long, room) refl

-- ---- a string that is read

-- its index, its length and its bytes are read, where the strings from some index on are empty
pub record ReadsString (strings : Strings) (least room taken : ℕ) (cursor second third next : Cursor) (index count : ℕ) (text : List ℕ) : Type 0 where
  pub are : AreStrings strings
  pub empty : (index : ℕ) → least ≤ index → get_or strings.texts index [] ≡ []
  pub room_is : room ≡ room_in strings.texts
  pub taken_is : taken ≡ count
  pub index_read : Ok (index, second) ≡ number_at 2 least (places - 1) cursor
  pub count_read : Ok (count, third) ≡ number_at 2 1 room second
  pub text_read : Ok (text, next) ≡ text_at taken third

-- it is set as it is
pub is_set : {strings : Strings} {least room taken : ℕ} {cursor second third next : Cursor} {index count : ℕ} {text : List ℕ} → (sizes : SizesAddUp) → ReadsString strings least room taken cursor second third next index count text
    → (set_fault strings index text ≡ None) × (map translated text ≡ text)
is_set {strings} {least} {room} {taken} {cursor} {second} {third} {next} {index} {count} {text} sizes reads =
    let place = in_range 2 least (places - 1) cursor second index (sym reads.index_read) in
    let long = in_range 2 1 room second third count (sym reads.count_read) in
    let told = text_told taken third next text (sym reads.text_read) in
    let short : length text ≤ room_in strings.texts = omega (arith, reads.taken_is, reads.room_is, long.1, told.1) in (
      no_fault sizes strings index text reads.are (omega (arith, place.1)) (reads.empty index place.0) (omega (arith, reads.taken_is, long.0, told.1)) short,
      same_bytes text told.0,
    )

-- so it stands at its index
pub stands : {strings : Strings} {least room taken : ℕ} {cursor second third next : Cursor} {index count : ℕ} {text : List ℕ} → (sizes : SizesAddUp) → ReadsString strings least room taken cursor second third next index count text
    → (place : ℕ) (after : Strings) → place ≡ index → after ≡ after_set strings place text (set_fault strings place text) → set strings.texts index text ≡ after.texts
stands {strings} {index = index} {text = text} sizes reads place after same is =
    let set_is = is_set sizes reads in
    sym (ap (λ strings. strings.texts) is ∙ rw (same, set_is.0) (ap (λ text. set strings.texts index text) set_is.1))

-- and is one step
pub is_step : {strings : Strings} {least room taken : ℕ} {cursor second third next : Cursor} {index count : ℕ} {text : List ℕ} → ReadsString strings least room taken cursor second third next index count text
    → (left : ℕ) → strings_after (suc left) least strings.texts cursor ≡ strings_after left (index + 1) (set strings.texts index text) next
unfolding strings_after
is_step {strings} {least} {room} {taken} {cursor} {second} {third} {next} {index} {count} {text} reads left =
    rw (← reads.index_read, ← reads.room_is, ← reads.count_read, ← reads.taken_is, ← reads.text_read) refl

-- ---- strings one after the other

-- as many were read, and those that are left make the whole
pub record HasStrings (count : ℕ) (start now : Cursor) (k least : ℕ) (texts : List (List ℕ)) : Type 0 where
  pub left : strings_after (count - k) least texts now ≡ strings_after count 0 (replicate places []) start
  pub empty : (index : ℕ) → least ≤ index → get_or texts index [] ≡ []

empty_at : (count index : ℕ) → get_or {A = List ℕ} (replicate count []) index [] ≡ []
empty_at zero index = refl
empty_at (suc count) zero = refl
empty_at (suc count) (suc index) = empty_at count index

pub begin : (count : ℕ) (start : Cursor) (texts : List (List ℕ)) → texts ≡ replicate places [] → HasStrings count start start 0 0 texts
begin count start texts e = record {
  left = ap (λ n. strings_after n 0 texts start) (omega arith) ∙ ap (λ texts. strings_after count 0 texts start) e;
  empty = λ index _. ap (λ texts. get_or texts index []) e ∙ empty_at places index;
}

-- one more is read
pub more : (count : ℕ) (start now next : Cursor) (k least after : ℕ) (texts others : List (List ℕ)) → HasStrings count start now k least texts → k < count
    → ((left : ℕ) → strings_after (suc left) least texts now ≡ strings_after left after others next) → ((index : ℕ) → after ≤ index → get_or others index [] ≡ [])
    → HasStrings count start next (k + 1) after others
more count start now next k least after texts others has lt step empty =
    let one : count - k ≡ suc (count - (k + 1)) = omega arith in
    record {
      left = sym (step (count - (k + 1))) ∙ ap (λ n. strings_after n least texts now) (sym one) ∙ has.left;
      empty = empty;
    }

-- one can't be read
pub stops : (count : ℕ) (start now : Cursor) (k least at : ℕ) (texts : List (List ℕ)) → HasStrings count start now k least texts → k < count
    → ((left : ℕ) → strings_after (suc left) least texts now ≡ Err at) → Err at ≡ strings_after count 0 (replicate places []) start
stops count start now k least at texts has lt step =
    let one : count - k ≡ suc (count - (k + 1)) = omega arith in
    sym (step (count - (k + 1))) ∙ ap (λ n. strings_after n least texts now) (sym one) ∙ has.left

-- all are read
pub all : (count : ℕ) (start now : Cursor) (k least : ℕ) (texts : List (List ℕ)) → HasStrings count start now k least texts → k ≡ count
    → Ok (texts, now) ≡ strings_after count 0 (replicate places []) start
unfolding strings_after
all count start now k least texts has e =
    let none : count - k ≡ 0 = omega arith in
    ap (λ n. strings_after n least texts now) (sym none) ∙ has.left
