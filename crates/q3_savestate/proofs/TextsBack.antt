-- Config strings and the text that is pending: what was written is read, and what is read stood there.
use Rattle.std.proofs.Common.{◌≡◌, ℕ, zero, suc, ◌+◌, ◌-◌, ◌<◌, ◌≤◌, if◌then◌else◌, List, [], ◌∷◌, ◌++◌, length, replicate, Option, None, Some, IfSome, Ok, refl, sym, ap, subst, ◌∙◌, arith}
use Rattle.std.specs.Prelude.{◌==◌, All, slice_set}
use Rattle.std.specs.List.{flat_map, sum_by}
use Rattle.std.proofs.lemmas.List.{append_assoc, length-append, length-replicate, set_at}
use Rattle.std.proofs.lemmas.List.Elements.{All-append, All-cons, All-head, All-nil, All-replicate, All-tail}
use Rattle.std.proofs.lemmas.List.Sums.{sum-map, sum_by-append, sum_by-cons}
use Rattle.std.proofs.lemmas.List.Folds.{sum_by-replicate}
use Rattle.std.proofs.lemmas.Option.{IfSome_then}
use Rattle.byteorder.specs.Endian.{little_bytes}
use Rattle.q3_bits.specs.ResultBind.{◌>>=◌}
use Rattle.q3_bits.proofs.Binds.{bind_ok}
use Rattle.q3_text.specs.Texts.{IsTextByte}
use Rattle.q3_config.specs.Strings.{Pending, Strings, AreStrings, places, longest_string, most_size, size_of, config_size}
use Rattle.q3_config.specs.Laws.{HoldTexts, SizesAddUp}
use Rattle.q3_savestate.specs.Cursor.{Cursor, Field, number_at, text_at}
use Rattle.q3_savestate.specs.Texts.{set_strings, string_bytes, strings_bytes, room_in, strings_after, strings_at, pending_bytes, some_pending_at, pending_at}
use Rattle.q3_savestate.proofs.Fields.{Took, took_none, took_both, took_counted, carried, number_back, numbered, text_back, worded}
use Rattle.q3_savestate.proofs.Gaps.{set_in_gap}

-- ---- sizes

-- the size as a sum over the strings
sized : (texts : List (List ℕ)) → config_size texts ≡ 1 + sum_by size_of texts
unfolding config_size
sized texts = ap (λ n. 1 + n) (sum-map size_of texts)

-- what a string that isn't empty adds
size_of-some : (text : List ℕ) → 1 ≤ length text → size_of text ≡ length text + 1
size_of-some [] some = absurd (omega arith)
size_of-some (byte ∷ text) some = refl

-- the size with a string among others
sized_with : (front others : List (List ℕ)) (text : List ℕ) → 1 ≤ length text → config_size (front ++ text ∷ others) ≡ config_size front + length text + 1 + sum_by size_of others
sized_with front others text some =
    omega (arith, sized (front ++ text ∷ others), sized front, sum_by-append size_of front (text ∷ others), sum_by-cons size_of text others, size_of-some text some)

-- and with so many after them that are empty
sized_empty : (front : List (List ℕ)) (count : ℕ) → config_size (front ++ replicate count []) ≡ config_size front
sized_empty front count = omega (arith, sized (front ++ replicate count []), sized front, sum_by-append size_of front (replicate count []), sum_by-replicate size_of count [])

-- ---- the strings that are set

-- a string that isn't empty is
set_some : (index : ℕ) (text : List ℕ) (texts : List (List ℕ)) → 1 ≤ length text → set_strings index (text ∷ texts) ≡ (index, text) ∷ set_strings (index + 1) texts
unfolding set_strings
set_some index [] texts some = absurd (omega arith)
set_some index (byte ∷ text) texts some = refl

-- empty strings aren't
set_gap : (index count place : ℕ) (texts : List (List ℕ)) → place ≡ index + count → set_strings index (replicate count [] ++ texts) ≡ set_strings place texts
unfolding set_strings
set_gap index zero place texts is = ap (λ n. set_strings n texts) (omega arith)
set_gap index (suc count) place texts is = set_gap (index + 1) count place texts (omega arith)

-- so none is where all are empty
set_none : (index count : ℕ) → set_strings index (replicate count []) ≡ []
unfolding set_strings
set_none index zero = refl
set_none index (suc count) = set_none (index + 1) count

-- they are no more than the strings
set_few : (index : ℕ) (texts : List (List ℕ)) → length (set_strings index texts) ≤ length texts
unfolding set_strings
set_few index [] = omega arith
set_few index ([] ∷ texts) = omega (arith, set_few (index + 1) texts)
set_few index ((byte ∷ text) ∷ texts) = omega (arith, set_few (index + 1) texts)

-- ---- what was written is read

-- no more strings
none_back : (least : ℕ) (texts : List (List ℕ)) (cursor : Cursor) → strings_after zero least texts cursor ≡ Ok (texts, cursor)
unfolding strings_after
none_back least texts cursor = refl

-- a string that isn't empty
one_back : (count least index : ℕ) (texts : List (List ℕ)) (text : List ℕ) (at : ℕ) (rest : List ℕ) → least ≤ index → index < places → 1 ≤ length text → length text ≤ room_in texts
    → All IsTextByte text → strings_after (suc count) least texts (record { at = at; bytes = string_bytes (index, text) ++ rest })
    ≡ strings_after count (index + 1) (slice_set texts index text) (record { at = at + length (string_bytes (index, text)); bytes = rest })
unfolding strings_after
one_back count least index texts text at rest above below some short each =
    let first = number_back 2 least (places - 1) index at (little_bytes 2 (length text) ++ text ++ rest) (omega arith) above (omega arith) in
    let long = number_back 2 1 (room_in texts) (length text) (at + 2) (text ++ rest) (omega arith) some short in
    let word = text_back text (at + 2 + 2) rest each in
    rw (first, long, word) (ap (λ place. strings_after count (index + 1) (slice_set texts index text) (record { at = place; bytes = rest })) (omega arith))

-- there is room for it
has_room : (front others : List (List ℕ)) (text : List ℕ) (count : ℕ) → 1 ≤ length text → length text ≤ longest_string → config_size (front ++ text ∷ others) ≤ most_size
    → length text ≤ room_in (front ++ replicate count [])
has_room front others text count some short fits = omega (arith, sized_with front others text some, sized_empty front count)

-- strings after others
after_back : (front texts : List (List ℕ)) (count least index at : ℕ) (rest : List ℕ) → count ≡ length texts → length front ≡ index → least ≤ index → index + count ≤ places
    → config_size (front ++ texts) ≤ most_size → All (λ text. length text ≤ longest_string) texts → All (All IsTextByte) texts
    → strings_after (length (set_strings index texts)) least (front ++ replicate count []) (record { at = at; bytes = flat_map string_bytes (set_strings index texts) ++ rest })
    ≡ Ok (front ++ texts, record { at = at + length (flat_map string_bytes (set_strings index texts)); bytes = rest })
unfolding set_strings
after_back front [] zero least index at rest whole long above within fits short each =
    none_back least (front ++ []) (record { at = at; bytes = rest }) ∙ ap (λ place. Ok (front ++ [], record { at = place; bytes = rest })) (omega arith)
after_back front [] (suc count) least index at rest whole long above within fits short each = absurd (omega arith)
after_back front (text ∷ texts) zero least index at rest whole long above within fits short each = absurd (omega arith)
after_back front ([] ∷ texts) (suc count) least index at rest whole long above within fits short each =
    let more = after_back (front ++ [] ∷ []) texts count least (index + 1) at rest (omega arith) (length-append front ([] ∷ []) ∙ ap (λ n. n + 1) long) (omega (arith, above)) (omega (arith, within))
    (subst (λ all. config_size all ≤ most_size) (sym (append_assoc front ([] ∷ []) texts)) fits)
    (All-tail (λ text. length text ≤ longest_string) [] texts short) (All-tail (All IsTextByte) [] texts each) in
    rw (← append_assoc front ([] ∷ []) (replicate count []), ← append_assoc front ([] ∷ []) texts) more
after_back front ((byte ∷ bytes) ∷ texts) (suc count) least index at rest whole long above within fits short each =
    let text : List ℕ = byte ∷ bytes in
    let others : List ℕ = flat_map string_bytes (set_strings (index + 1) texts) in
    let room = has_room front texts text (suc count) (omega arith) (All-head (λ text. length text ≤ longest_string) text texts short) fits in
    let one = one_back (length (set_strings (index + 1) texts)) least index (front ++ replicate (suc count) []) text at (others ++ rest) above (omega (arith, within)) (omega arith) room
    (All-head (All IsTextByte) text texts each) in
    let more = after_back (front ++ text ∷ []) texts count (index + 1) (index + 1) (at + length (string_bytes (index, text))) rest (omega arith)
    (length-append front (text ∷ []) ∙ ap (λ n. n + 1) long) (omega arith) (omega (arith, within)) (subst (λ all. config_size all ≤ most_size) (sym (append_assoc front (text ∷ []) texts)) fits)
    (All-tail (λ text. length text ≤ longest_string) text texts short) (All-tail (All IsTextByte) text texts each) in
    let here : slice_set (front ++ replicate (suc count) []) index text ≡ (front ++ text ∷ []) ++ replicate count [] =
    set_at front [] (replicate count []) text index long ∙ sym (append_assoc front (text ∷ []) (replicate count [])) in
    let place : at + length (string_bytes (index, text)) + length others ≡ at + length (string_bytes (index, text) ++ others) = omega (arith, length-append (string_bytes (index, text)) others) in
    rw (append_assoc (string_bytes (index, text)) others rest, one, here, more, append_assoc front (text ∷ []) texts)
    (ap (λ place. Ok (front ++ text ∷ texts, record { at = place; bytes = rest })) place)

-- all strings
pub strings_back : (strings : Strings) (texts : List (List ℕ)) (at : ℕ) (rest : List ℕ) → AreStrings strings → HoldTexts strings → strings.texts ≡ texts
    → strings_at (record { at = at; bytes = strings_bytes texts ++ rest }) ≡ Ok (texts, record { at = at + length (strings_bytes texts); bytes = rest })
unfolding strings_at
strings_back strings texts at rest are hold is =
    let long : length texts ≡ places = ap length (sym is) ∙ are.count in
    let count : ℕ = length (set_strings 0 texts) in
    let most : count ≤ places = omega (arith, set_few 0 texts, long) in
    let first = number_back 2 0 places count at (flat_map string_bytes (set_strings 0 texts) ++ rest) (omega (arith, most)) (omega arith) most in
    let more = after_back [] texts places 0 0 (at + 2) rest (sym long) refl (omega arith) (omega arith) (subst (λ texts. config_size texts ≤ most_size) is are.size)
    (subst (λ texts. All (λ text. length text ≤ longest_string) texts) is are.each) (subst (λ texts. All (All IsTextByte) texts) is hold.each) in
    rw (first, more) (ap (λ place. Ok (texts, record { at = place; bytes = rest })) (omega arith))

-- ---- what is read stood there

-- strings that are read after others: all of them, and which they are
record ReadsAfter (count least room : ℕ) (front : List (List ℕ)) (cursor : Cursor) (all : List (List ℕ)) (rest : Cursor) : Type 0 where
  texts : List (List ℕ)
  is : all ≡ front ++ texts
  took : Took cursor (flat_map string_bytes (set_strings least texts)) rest
  set : length (set_strings least texts) ≡ count
  long : length texts ≡ room
  fits : config_size all ≤ most_size
  short : All (λ text. length text ≤ longest_string) texts
  each : All (All IsTextByte) texts

-- none
none_after : (least room : ℕ) (front : List (List ℕ)) (cursor : Cursor) → All (λ byte. byte < 256) cursor.bytes → config_size (front ++ replicate room []) ≤ most_size
    → ReadsAfter zero least room front cursor (front ++ replicate room []) cursor
none_after least room front cursor fit fits = record {
  texts = replicate room [];
  is = refl;
  took = rw (set_none least room) (took_none cursor fit);
  set = ap length (set_none least room);
  long = length-replicate {A = List ℕ} room [];
  fits = fits;
  short = All-replicate (λ text. length text ≤ longest_string) room [] (omega arith);
  each = All-replicate (All IsTextByte) room [] (All-nil IsTextByte);
}

-- one before others
one_after : (count least room before after index : ℕ) (front : List (List ℕ)) (cursor next rest : Cursor) (text : List ℕ) (all : List (List ℕ)) → index ≡ least + before → room ≡ before + suc after
    → 1 ≤ length text → length text ≤ longest_string → All IsTextByte text → Took cursor (string_bytes (index, text)) next
    → ReadsAfter count (index + 1) after (front ++ replicate before [] ++ text ∷ []) next all rest → ReadsAfter (suc count) least room front cursor all rest
one_after count least room before after index front cursor next rest text all place whole some short each one more =
    let texts : List (List ℕ) = replicate before [] ++ text ∷ more.texts in
    let set : set_strings least texts ≡ (index, text) ∷ set_strings (index + 1) more.texts = set_gap least before index (text ∷ more.texts) place ∙ set_some index text more.texts some in
    record {
      texts = texts;
      is = more.is ∙ append_assoc (front ++ replicate before []) (text ∷ []) more.texts ∙ append_assoc front (replicate before []) (text ∷ more.texts);
      took = rw set (took_both cursor next rest (string_bytes (index, text)) (flat_map string_bytes (set_strings (index + 1) more.texts)) one more.took);
      set = ap length set ∙ ap suc more.set;
      long = omega (arith, length-append (replicate before []) (text ∷ more.texts), length-replicate {A = List ℕ} before [], more.long, whole);
      fits = more.fits;
      short = All-append (λ text. length text ≤ longest_string) (replicate before []) (text ∷ more.texts) (All-replicate (λ text. length text ≤ longest_string) before [] (omega arith))
          (All-cons (λ text. length text ≤ longest_string) text more.texts short more.short);
      each = All-append (All IsTextByte) (replicate before []) (text ∷ more.texts) (All-replicate (All IsTextByte) before [] (All-nil IsTextByte)) (All-cons (All IsTextByte) text more.texts each more.each);
    }

-- a string that is read
record ReadsString (least : ℕ) (texts : List (List ℕ)) (cursor : Cursor) (index : ℕ) (text : List ℕ) (rest : Cursor) : Type 0 where
  took : Took cursor (string_bytes (index, text)) rest
  above : least ≤ index
  below : index < places
  some : 1 ≤ length text
  room : length text ≤ room_in texts
  each : All IsTextByte text

-- by its index, its length and its text
string_was : (least size : ℕ) (texts : List (List ℕ)) (cursor next last rest : Cursor) (index : ℕ) (text : List ℕ) → All (λ byte. byte < 256) cursor.bytes
    → number_at 2 least (places - 1) cursor ≡ Ok (index, next) → number_at 2 1 (room_in texts) next ≡ Ok (size, last) → text_at size last ≡ Ok (text, rest)
    → ReadsString least texts cursor index text rest
string_was least size texts cursor next last rest index text fit e f g =
    let first = numbered 2 least (places - 1) cursor index next fit e in
    let long = numbered 2 1 (room_in texts) next size last first.took.fit f in
    let word = worded size last text rest long.took.fit g in
    record {
      took = took_both cursor last rest (little_bytes 2 index ++ little_bytes 2 (length text)) text
          (took_both cursor next last (little_bytes 2 index) (little_bytes 2 (length text)) first.took (subst (λ n. Took next (little_bytes 2 n) last) (sym word.long) long.took)) word.took;
      above = first.above;
      below = omega (arith, first.below);
      some = omega (arith, long.above, word.long);
      room = omega (arith, long.below, word.long);
      each = word.each;
    }

-- it is put in its place, and others are read after it
one_more_put : (count least room index : ℕ) (front all : List (List ℕ)) (cursor next : Cursor) (texts : List (List ℕ)) (rest : Cursor) (text : List ℕ) → length front ≡ least → least + room ≡ places
    → all ≡ front ++ replicate room [] → ReadsString least all cursor index text next
    → ((ahead : List (List ℕ)) → length ahead ≡ index + 1 → slice_set all index text ≡ ahead ++ replicate (places - (index + 1)) [] → config_size (slice_set all index text) ≤ most_size
    → ReadsAfter count (index + 1) (places - (index + 1)) ahead next texts rest)
    → ReadsAfter (suc count) least room front cursor texts rest
one_more_put count least room index front all cursor next texts rest text long whole are one more =
    let before : ℕ = index - least in
    let after : ℕ = places - (index + 1) in
    let head : List (List ℕ) = front ++ replicate before [] in
    let ahead : List (List ℕ) = head ++ text ∷ [] in
    let place : index ≡ least + before = omega (arith, one.above) in
    let count_is : room ≡ before + suc after = omega (arith, one.above, one.below, whole) in
    let here : slice_set all index text ≡ ahead ++ replicate after [] = rw are (set_in_gap front [] text before after room index count_is (omega (arith, place, long))) in
    let size : config_size (slice_set all index text) ≤ most_size =
    omega (arith, ap config_size here, sized_empty ahead after, sized_with head [] text one.some, sized_empty front before, ap config_size are, sized_empty front room, one.room, one.some) in
    one_after count least room before after index front cursor next rest text texts place count_is one.some (omega (arith, one.room)) one.each one.took
    (more ahead (omega (arith, length-append head (text ∷ []), length-append front (replicate before []), length-replicate {A = List ℕ} before [], long, place)) here size)

-- so are strings after others
after_were : (count least room : ℕ) (front all : List (List ℕ)) (cursor : Cursor) (texts : List (List ℕ)) (rest : Cursor) → length front ≡ least → least + room ≡ places
    → all ≡ front ++ replicate room [] → config_size all ≤ most_size → All (λ byte. byte < 256) cursor.bytes → strings_after count least all cursor ≡ Ok (texts, rest)
    → ReadsAfter count least room front cursor texts rest
unfolding strings_after
after_were zero least room front all cursor texts rest long whole are fits fit e =
    carried (ReadsAfter zero least room front cursor) all texts cursor rest e
    (rw are (none_after least room front cursor fit (subst (λ all. config_size all ≤ most_size) are fits)))
after_were (suc count) least room front all cursor texts rest long whole are fits fit e =
    let index = bind_ok (number_at 2 least (places - 1) cursor)
    (λ index. number_at 2 1 (room_in all) index.1 >>= λ length. text_at length.0 length.1 >>= λ text. strings_after count (index.0 + 1) (slice_set all index.0 text.0) text.1) (texts, rest) e in
    let size = bind_ok (number_at 2 1 (room_in all) index.0.1)
    (λ length. text_at length.0 length.1 >>= λ text. strings_after count (index.0.0 + 1) (slice_set all index.0.0 text.0) text.1) (texts, rest) index.2 in
    let text = bind_ok (text_at size.0.0 size.0.1) (λ text. strings_after count (index.0.0 + 1) (slice_set all index.0.0 text.0) text.1) (texts, rest) size.2 in
    let one = string_was least size.0.0 all cursor index.0.1 size.0.1 text.0.1 index.0.0 text.0.0 fit index.1 size.1 text.1 in
    one_more_put count least room index.0.0 front all cursor text.0.1 texts rest text.0.0 long whole are one
    (λ ahead ahead_long ahead_is ahead_fits. after_were count (index.0.0 + 1) (places - (index.0.0 + 1)) ahead (slice_set all index.0.0 text.0.0) text.0.1 texts rest ahead_long (omega (arith, one.below)) ahead_is
    ahead_fits one.took.fit text.2)

-- all strings that are read
pub record ReadsStrings (cursor : Cursor) (texts : List (List ℕ)) (rest : Cursor) : Type 0 where
  pub took : Took cursor (strings_bytes texts) rest
  pub long : length texts ≡ places
  pub fits : config_size texts ≤ most_size
  pub short : All (λ text. length text ≤ longest_string) texts
  pub each : All (All IsTextByte) texts

-- by their number and those that are set
counted_strings : (count : ℕ) (cursor next rest : Cursor) (texts : List (List ℕ)) → Took cursor (little_bytes 2 count) next → ReadsAfter count 0 places [] next texts rest
    → ReadsStrings cursor texts rest
counted_strings count cursor next rest texts one more = rw more.is (record {
  took = took_counted string_bytes count cursor next rest (set_strings 0 more.texts) one more.took more.set;
  long = more.long;
  fits = subst (λ texts. config_size texts ≤ most_size) more.is more.fits;
  short = more.short;
  each = more.each;
})

-- they stood there
pub reads_strings : (sizes : SizesAddUp) (cursor : Cursor) (texts : List (List ℕ)) (rest : Cursor) → All (λ byte. byte < 256) cursor.bytes → strings_at cursor ≡ Ok (texts, rest) → ReadsStrings cursor texts rest
unfolding strings_at
reads_strings sizes cursor texts rest fit e =
    let count = bind_ok (number_at 2 0 places cursor) (λ count. strings_after count.0 0 (replicate places []) count.1) (texts, rest) e in
    let number = numbered 2 0 places cursor count.0.0 count.0.1 fit count.1 in
    counted_strings count.0.0 cursor count.0.1 rest texts number.took
    (after_were count.0.0 0 places [] (replicate places []) count.0.1 texts rest refl refl refl (omega (arith, sizes.empty places)) number.took.fit count.2)

-- ---- the text that is pending

-- a text that may be pending
pub record IsPending (pending : Pending) : Type 0 where
  pub within : pending.index < places
  pub short : length pending.text ≤ longest_string
  pub each : All IsTextByte pending.text

-- it is read
some_back : (pending : Pending) (at : ℕ) (rest : List ℕ) → IsPending pending
    → some_pending_at (record { at = at; bytes = (little_bytes 4 pending.index ++ little_bytes 2 (length pending.text) ++ pending.text) ++ rest })
    ≡ Ok (Some pending, record { at = at + 6 + length pending.text; bytes = rest })
some_back pending at rest is =
    let index = number_back 4 0 (places - 1) pending.index at (little_bytes 2 (length pending.text) ++ pending.text ++ rest) (omega (arith, is.within)) (omega arith) (omega (arith, is.within)) in
    let long = number_back 2 0 longest_string (length pending.text) (at + 4) (pending.text ++ rest) (omega (arith, is.short)) (omega arith) is.short in
    let text = text_back pending.text (at + 4 + 2) rest is.each in
    rw (index, long, text) (ap (λ place. Ok (Some pending, record { at = place; bytes = rest })) (omega arith))

-- so is none
pub pending_back : (pending : Option Pending) (at : ℕ) (rest : List ℕ) → IfSome pending (λ pending. (pending.index < places) × (length pending.text ≤ longest_string))
    → IfSome pending (λ pending. All IsTextByte pending.text)
    → pending_at (record { at = at; bytes = pending_bytes pending ++ rest }) ≡ Ok (pending, record { at = at + length (pending_bytes pending); bytes = rest })
unfolding pending_at
pending_back None at rest is each = rw (number_back 1 0 1 0 at rest (omega arith) (omega arith) (omega arith)) refl
pending_back (Some pending) at rest is each =
    let text : List ℕ = little_bytes 4 pending.index ++ little_bytes 2 (length pending.text) ++ pending.text in
    let some = some_back pending (at + 1) rest (record { within = is.0; short = is.1; each = each }) in
    rw (number_back 1 0 1 1 at (text ++ rest) (omega arith) (omega arith) (omega arith), some) (ap (λ place. Ok (Some pending, record { at = place; bytes = rest })) (omega arith))

-- a text that is read as pending, or none
pub record ReadsPending (cursor : Cursor) (pending : Option Pending) (rest : Cursor) : Type 0 where
  pub took : Took cursor (pending_bytes pending) rest
  pub is : IfSome pending IsPending

-- some text, after the byte that says so
text_pends : (cursor next last end rest : Cursor) (index size : ℕ) (text : List ℕ) → Took cursor (little_bytes 1 1) next → number_at 4 0 (places - 1) next ≡ Ok (index, last)
    → number_at 2 0 longest_string last ≡ Ok (size, end) → text_at size end ≡ Ok (text, rest) → ReadsPending cursor (Some (record { index = index; text = text })) rest
text_pends cursor next last end rest index size text one e f g =
    let first = numbered 4 0 (places - 1) next index last one.fit e in
    let long = numbered 2 0 longest_string last size end first.took.fit f in
    let word = worded size end text rest long.took.fit g in
    let sized = subst (λ n. Took last (little_bytes 2 n) end) (sym word.long) long.took in
    let front = took_both cursor last end (little_bytes 1 1 ++ little_bytes 4 index) (little_bytes 2 (length text)) (took_both cursor next last (little_bytes 1 1) (little_bytes 4 index) one first.took) sized in
    record {
      took = took_both cursor end rest (little_bytes 1 1 ++ little_bytes 4 index ++ little_bytes 2 (length text)) text front word.took;
      is = record { within = omega (arith, first.below); short = omega (arith, long.below, word.long); each = word.each };
    }

-- as it is read
some_was : (cursor next : Cursor) (pending : Option Pending) (rest : Cursor) → Took cursor (little_bytes 1 1) next → some_pending_at next ≡ Ok (pending, rest) → ReadsPending cursor pending rest
some_was cursor next pending rest one e =
    let index = bind_ok (number_at 4 0 (places - 1) next)
    (λ index. number_at 2 0 longest_string index.1 >>= λ length. text_at length.0 length.1 >>= λ text. Ok (Some (record { index = index.0; text = text.0 }), text.1)) (pending, rest) e in
    let size = bind_ok (number_at 2 0 longest_string index.0.1) (λ length. text_at length.0 length.1 >>= λ text. Ok (Some (record { index = index.0.0; text = text.0 }), text.1)) (pending, rest) index.2 in
    let text = bind_ok (text_at size.0.0 size.0.1) (λ text. Ok (Some (record { index = index.0.0; text = text.0 }), text.1)) (pending, rest) size.2 in
    carried (ReadsPending cursor) (Some (record { index = index.0.0; text = text.0.0 })) pending text.0.1 rest text.2
    (text_pends cursor next index.0.1 size.0.1 text.0.1 index.0.0 size.0.0 text.0.0 one index.1 size.1 text.1)

-- by whether the byte is 0
pending_by : (cursor next : Cursor) (some : ℕ) (pending : Option Pending) (rest : Cursor) → Took cursor (little_bytes 1 some) next → some ≤ 1
    → (if some == 0 then Ok (None, next) else some_pending_at next) ≡ Ok (pending, rest) → ReadsPending cursor pending rest
pending_by cursor next zero pending rest one most e = carried (ReadsPending cursor) None pending next rest e (record { took = one; is = tt })
pending_by cursor next (suc zero) pending rest one most e = some_was cursor next pending rest one e
pending_by cursor next (suc (suc some)) pending rest one most e = absurd (omega arith)

-- it stood there
pub reads_pending : (cursor : Cursor) (pending : Option Pending) (rest : Cursor) → All (λ byte. byte < 256) cursor.bytes → pending_at cursor ≡ Ok (pending, rest) → ReadsPending cursor pending rest
unfolding pending_at
reads_pending cursor pending rest fit e =
    let goes_on : ℕ × Cursor → Field (Option Pending) = λ some. if some.0 == 0 then Ok (None, some.1) else some_pending_at some.1 in
    let some = bind_ok (number_at 1 0 1 cursor) goes_on (pending, rest) e in
    let number = numbered 1 0 1 cursor some.0.0 some.0.1 fit some.1 in
    pending_by cursor some.0.1 some.0.0 pending rest number.took number.below some.2

-- its parts
pub pending_were : (cursor : Cursor) (pending : Option Pending) (rest : Cursor) → All (λ byte. byte < 256) cursor.bytes → pending_at cursor ≡ Ok (pending, rest)
    → IfSome pending (λ pending. (pending.index < places) × (length pending.text ≤ longest_string)) × IfSome pending (λ pending. All IsTextByte pending.text)
    × (cursor.bytes ≡ pending_bytes pending ++ rest.bytes) × (rest.at ≡ cursor.at + length (pending_bytes pending)) × All (λ byte. byte < 256) rest.bytes
pending_were cursor pending rest fit e =
    let was = reads_pending cursor pending rest fit e in (
      IfSome_then pending was.is (λ pending is. (is.within, is.short)),
      IfSome_then pending was.is (λ pending is. is.each),
      was.took.stood,
      was.took.place,
      was.took.fit,
    )
