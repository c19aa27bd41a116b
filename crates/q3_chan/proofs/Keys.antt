-- Keys that go on from place to place, and bytes that are XORed with them one after the other.
use Rattle.std.proofs.Common.{◌≡◌, ◌∙◌, ℕ, ◌+◌, ◌-◌, ◌*◌, ◌/◌, ◌%◌, ◌^◌, ◌<◌, ◌≤◌, List, [], ◌∷◌, ◌++◌, min, length, take, drop, map, get_or, set, append_assoc, add-one, refl, sym, ap, subst, length-set, length-drop, add_comm, arith}
use Rattle.std.specs.List.{fold, range_with_len}
use Rattle.std.specs.Int.Bits.{bit_xor, xor_zero_r}
use Rattle.std.proofs.Math.Path.{fun_ext}
use Rattle.std.proofs.lemmas.Nat.Gcd.{dvd_of_mod-eq-zero}
use Rattle.std.proofs.Math.Nat.{mod-mod_of_dvd, add-mod_right, mod-eq_of_lt}
use Rattle.std.proofs.Math.Seq.{drop-cons}
use Rattle.std.proofs.lemmas.List.{append-nil, length-take-le, get_or-take, get_or-drop, take_all, drop_all, take_more_set, drop-set-lt}
use Rattle.std.proofs.lemmas.List.FromFn.{map-range_with_len_more}
use Rattle.std.proofs.lemmas.List.Sums.{fold-append}
use Rattle.q3_chan.specs.Scrambling.{shifted_at, keyed, scrambled, GoesOn, Went, Repeats}

-- ---- from place to place

-- nothing is XORed yet
pub went_none : (keys : ℕ → ℕ) (place key : ℕ) (old : List ℕ) → keys place ≡ key → Went keys place old place key old
went_none keys place key old here = record { key_is = here; bytes = refl }

-- the byte at a place is the first that is left
keyed_here : (keys : ℕ → ℕ) (place : ℕ) (bytes : List ℕ) (key : ℕ) → place < length bytes → keys (place + 1) ≡ key
    → keyed (λ k. keys (k + 1)) place (drop place bytes) ≡ bit_xor (get_or bytes place 0) key ∷ keyed (λ k. keys (k + 1)) (place + 1) (drop (place + 1) bytes)
unfolding keyed
keyed_here keys place bytes key within is =
    ap (keyed (λ k. keys (k + 1)) place) (drop-cons bytes place 0 within)
    ∙ ap (λ (n : ℕ). bit_xor (get_or bytes place 0) (keys (place + 1)) ∷ keyed (λ k. keys (k + 1)) (place + 1) (drop n bytes)) (sym (add-one place))
    ∙ ap (λ (n : ℕ). bit_xor (get_or bytes place 0) n ∷ keyed (λ k. keys (k + 1)) (place + 1) (drop (place + 1) bytes)) is

-- a byte is XORed with its key
went_more : (keys : ℕ → ℕ) (place : ℕ) (old : List ℕ) (at key : ℕ) (new : List ℕ) (next : ℕ) → Went keys place old at key new → at < length new
    → keys (at + 1) ≡ next → Went keys place old (at + 1) next (set new at (bit_xor (get_or new at 0) next))
went_more keys place old at key new next w within is =
    let byte = bit_xor (get_or new at 0) next in
    let rest = keyed (λ k. keys (k + 1)) (at + 1) (drop (at + 1) new) in
    let below : at < at + 1 = omega arith in
    record {
      key_is = is;
      bytes =
          ap (λ (l : List ℕ). take (at + 1) (set new at byte) ++ keyed (λ k. keys (k + 1)) (at + 1) l) (drop-set-lt (at + 1) new at byte below)
          ∙ ap (λ (l : List ℕ). l ++ rest) (take_more_set new at byte within)
          ∙ append_assoc (take at new) (byte ∷ []) rest
          ∙ ap (λ (l : List ℕ). take at new ++ l) (sym (keyed_here keys at new next within is))
          ∙ w.bytes;
    }

-- one stretch after another
pub went_on : (keys : ℕ → ℕ) (place : ℕ) (old : List ℕ) (at key : ℕ) (new : List ℕ) (to last : ℕ) (newest : List ℕ) → Went keys place old at key new
    → Went keys at new to last newest → Went keys place old to last newest
went_on keys place old at key new to last newest w v = record { key_is = v.key_is; bytes = v.bytes ∙ w.bytes }

-- ---- by a text

-- the byte at a place of the text takes the key on
pub text_more : (keys : ℕ → ℕ) (place key : ℕ) (text old : List ℕ) (k at now : ℕ) (new : List ℕ) (adds : ℕ) → GoesOn keys place key text
    → Went keys place old at now new → at ≡ place + k → k < length text → at < length new → get_or text k 0 * 2 ^ (at % 2) ≡ adds
    → Went keys place old (at + 1) (bit_xor now adds) (set new at (bit_xor (get_or new at 0) (bit_xor now adds)))
text_more keys place key text old k at now new adds g w is within room by =
    let next : keys (at + 1) ≡ bit_xor now adds =
    ap (λ (n : ℕ). keys (n + 1)) is ∙ g.next k within ∙ ap (λ (n : ℕ). bit_xor (keys n) (get_or text k 0 * 2 ^ (n % 2))) (sym is)
    ∙ ap (λ (n : ℕ). bit_xor n (get_or text k 0 * 2 ^ (at % 2))) w.key_is ∙ ap (bit_xor now) by
    in went_more keys place old at now new (bit_xor now adds) w room next

went_at : (keys : ℕ → ℕ) (place : ℕ) (old : List ℕ) (at to key : ℕ) (new : List ℕ) → Went keys place old at key new → at ≡ to → Went keys place old to key new
went_at keys place old at to key new w is = let P : ℕ → Type 0 = λ n. Went keys place old n key new in subst P is w

-- the byte at an even place isn't shifted, that at an odd one is
even_adds : (byte place : ℕ) → place % 2 ≡ 0 → byte * 2 ^ (place % 2) ≡ byte
even_adds byte place even = ap (λ (n : ℕ). byte * 2 ^ n) even ∙ omega arith

odd_adds : (byte place : ℕ) → place % 2 ≡ 1 → byte * 2 ^ (place % 2) ≡ byte * 2
odd_adds byte place odd = ap (λ (n : ℕ). byte * 2 ^ n) odd

-- bytes with the one at a place XORed
abbrev pub put_key : List ℕ → ℕ → ℕ → List ℕ
put_key bytes place key = set bytes place (bit_xor (get_or bytes place 0) key)

-- two bytes of the text, from an even place on
pub pair_more : (keys : ℕ → ℕ) (place key : ℕ) (text old : List ℕ) (pair now : ℕ) (new : List ℕ) → GoesOn keys place key text → place % 2 ≡ 0
    → Went keys place old (place + 2 * pair) now new → pair < length text / 2 → place + length text ≤ length new
    → Went keys place old (place + 2 * (pair + 1)) (bit_xor (bit_xor now (get_or text (2 * pair) 0)) (get_or text (2 * pair + 1) 0 * 2))
    (put_key (put_key new (place + 2 * pair) (bit_xor now (get_or text (2 * pair) 0))) (place + 2 * pair + 1)
    (bit_xor (bit_xor now (get_or text (2 * pair) 0)) (get_or text (2 * pair + 1) 0 * 2)))
pair_more keys place key text old pair now new g even w within room =
    let at = place + 2 * pair in
    let first = get_or text (2 * pair) 0 in
    let second = get_or text (2 * pair + 1) 0 in
    let one = put_key new at (bit_xor now first) in
    let long : length one ≡ length new = length-set new at (bit_xor (get_or new at 0) (bit_xor now first)) in
    let so : Went keys place old (at + 1) (bit_xor now first) one =
    text_more keys place key text old (2 * pair) at now new first g w refl (omega arith) (omega arith) (even_adds first at (omega arith)) in
    let both : Went keys place old (at + 1 + 1) (bit_xor (bit_xor now first) (second * 2)) (put_key one (at + 1) (bit_xor (bit_xor now first) (second * 2))) =
    text_more keys place key text old (2 * pair + 1) (at + 1) (bit_xor now first) one (second * 2) g so (omega arith) (omega arith) (omega arith)
    (odd_adds second (at + 1) (omega arith))
    in went_at keys place old (at + 1 + 1) (place + 2 * (pair + 1)) (bit_xor (bit_xor now first) (second * 2)) (put_key one (at + 1) (bit_xor (bit_xor now first) (second * 2))) both (omega arith)

-- the last byte of the text, where no pair is left
pub last_more : (keys : ℕ → ℕ) (place key : ℕ) (text old : List ℕ) (pair now : ℕ) (new : List ℕ) → GoesOn keys place key text → place % 2 ≡ 0
    → Went keys place old (place + 2 * pair) now new → length text ≡ 2 * pair + 1 → place + length text ≤ length new
    → Went keys place old (place + length text) (bit_xor now (get_or text (length text - 1) 0))
    (put_key new (place + (length text - 1)) (bit_xor now (get_or text (length text - 1) 0)))
last_more keys place key text old pair now new g even w odd room =
    let last = length text - 1 in
    let at = place + last in
    let byte = get_or text last 0 in
    let here : Went keys place old at now new = went_at keys place old (place + 2 * pair) at now new w (omega arith) in
    let more : Went keys place old (at + 1) (bit_xor now byte) (put_key new at (bit_xor now byte)) =
    text_more keys place key text old last at now new byte g here refl (omega arith) (omega arith) (even_adds byte at (omega arith))
    in went_at keys place old (at + 1) (place + length text) (bit_xor now byte) (put_key new at (bit_xor now byte)) more (omega arith)

-- no byte of the text is left
pub none_more : (keys : ℕ → ℕ) (place : ℕ) (text old : List ℕ) (pair now : ℕ) (new : List ℕ) → Went keys place old (place + 2 * pair) now new
    → length text ≡ 2 * pair → Went keys place old (place + length text) now new
none_more keys place text old pair now new w even = went_at keys place old (place + 2 * pair) (place + length text) now new w (omega arith)

-- after the first byte of the text, at an odd place
pub first_more : (keys : ℕ → ℕ) (place key : ℕ) (text old rest : List ℕ) (to last : ℕ) (new : List ℕ) → GoesOn keys place key text → place % 2 ≡ 1
    → 0 < length text → place < length old → rest ≡ drop 1 text → to ≡ place + length text
    → (GoesOn keys (place + 1) (bit_xor key (get_or text 0 0 * 2)) rest
    → Went keys (place + 1) (put_key old place (bit_xor key (get_or text 0 0 * 2))) (place + 1 + length rest) last new)
    → Went keys place old to last new
first_more keys place key text old rest to last new g odd some room is all goes =
    let byte = get_or text 0 0 in
    let next = bit_xor key (byte * 2) in
    let first : Went keys place old (place + 1) next (put_key old place next) =
    text_more keys place key text old 0 place key old (byte * 2) g (went_none keys place key old g.here) (omega arith) some room (odd_adds byte place odd) in
    let long : length rest ≡ length text - 1 = ap length is ∙ length-drop 1 text in
    let others : GoesOn keys (place + 1) next rest =
    record {
      here = first.key_is;
      next = λ k within.
          let same : place + (k + 1) ≡ place + 1 + k = omega arith in
          let item : get_or text (k + 1) 0 ≡ get_or rest k 0 = ap (λ (n : ℕ). get_or text n 0) (add_comm k 1) ∙ sym (get_or-drop 1 text k 0) ∙ ap (λ (l : List ℕ). get_or l k 0) (sym is) in
          let P : ℕ → Type 0 = λ n. keys (n + 1) ≡ bit_xor (keys n) (get_or rest k 0 * 2 ^ (n % 2)) in
          subst P same (g.next (k + 1) (omega arith) ∙ ap (λ (n : ℕ). bit_xor (keys (place + (k + 1))) (n * 2 ^ ((place + (k + 1)) % 2))) item);
    } in
    went_at keys place old (place + 1 + length rest) to last new
    (went_on keys place old (place + 1) next (put_key old place next) (place + 1 + length rest) last new first (goes others)) (omega arith)

-- ---- the keys of a text

-- the key before a place: the start, XORed with what each place from the first one on before it adds
abbrev pub key_before : ℕ → ℕ → List ℕ → ℕ → ℕ
key_before from start text place = fold bit_xor start (map (shifted_at from text) (range_with_len from (place - from)))

pub key_first : (from start : ℕ) (text : List ℕ) → key_before from start text from ≡ start
key_first from start text =
    let none : from - from ≡ 0 = omega arith in ap (λ (n : ℕ). fold bit_xor start (map (shifted_at from text) (range_with_len from n))) none

pub key_next : (from start : ℕ) (text : List ℕ) (place : ℕ) → from ≤ place
    → key_before from start text (place + 1) ≡ bit_xor (key_before from start text place) (shifted_at from text place)
key_next from start text place after =
    let one : place + 1 - from ≡ place - from + 1 = omega arith in
    let is : from + (place - from) ≡ place = omega arith in
    let adds = shifted_at from text in
    ap (λ (n : ℕ). fold bit_xor start (map adds (range_with_len from n))) one
    ∙ ap (fold bit_xor start) (map-range_with_len_more adds from (place - from) place is)
    ∙ fold-append bit_xor start (map adds (range_with_len from (place - from))) (adds place ∷ [])

-- after the last byte all is scrambled
pub went_all : (from start : ℕ) (text old : List ℕ) (to key : ℕ) (new : List ℕ) → Went (key_before from start text) from old to key new → length new ≤ to
    → new ≡ scrambled from start text old
unfolding keyed
went_all from start text old to key new w all =
    sym (ap (λ (l : List ℕ). take to new ++ keyed (λ k. key_before from start text (k + 1)) to l) (drop_all to new all)
    ∙ append-nil (take to new) ∙ take_all to new all)
    ∙ w.bytes

-- an empty text adds nothing
pub empty_more : (from start : ℕ) (old : List ℕ) (place : ℕ) (new : List ℕ) → Went (key_before from start []) from old place start new → from ≤ place
    → place < length new → Went (key_before from start []) from old (place + 1) start (set new place (bit_xor (get_or new place 0) start))
unfolding shifted_at
empty_more from start old place new w after room =
    let next : key_before from start [] (place + 1) ≡ start =
    key_next from start [] place after ∙ xor_zero_r (key_before from start [] place) ∙ w.key_is
    in went_more (key_before from start []) from old place start new start w room next

-- ---- passes through a text

-- a place at which the text begins anew
pub record Begins (from : ℕ) (text : List ℕ) (place : ℕ) : Type 0 where
  pub after : from ≤ place
  pub turns : (k : ℕ) → k < length text → (place + k - from) % length text ≡ k

pub begins_first : (from : ℕ) (text : List ℕ) → Begins from text from
begins_first from text = record {
  after = omega arith;
  turns = λ k within. let is : from + k - from ≡ k = omega arith in ap (λ (n : ℕ). n % length text) is ∙ mod-eq_of_lt within;
}

pub begins_next : (from : ℕ) (text : List ℕ) (place : ℕ) → Begins from text place → Begins from text (place + length text)
begins_next from text place b =
    let after = b.after in
    record {
      after = omega arith;
      turns = λ k within.
          let is : place + length text + k - from ≡ place + k - from + length text = omega arith in
          ap (λ (n : ℕ). n % length text) is ∙ add-mod_right (place + k - from) (length text) ∙ b.turns k within;
    }

-- what a place adds, where the text has bytes
shifted_some : (from : ℕ) (text : List ℕ) (place : ℕ) → 0 < length text
    → shifted_at from text place ≡ get_or text ((place - from) % length text) 0 * 2 ^ (place % 2)
unfolding shifted_at
shifted_some from [] place some = absurd (omega arith)
shifted_some from (byte ∷ text) place some = refl

-- a front of the text takes the key on from such a place
pub front_goes_on : (from start : ℕ) (text : List ℕ) (place key count : ℕ) → Begins from text place → key_before from start text place ≡ key
    → count ≤ length text → GoesOn (key_before from start text) place key (take count text)
front_goes_on from start text place key count b here few = record {
  here = here;
  next = λ k within.
      let inside : k < count = omega (arith, length-take-le count text few) in
      let after : from ≤ place + k = omega (arith, b.after) in
      let turn : (place + k - from) % length text ≡ k = b.turns k (omega arith) in
      key_next from start text (place + k) after
      ∙ ap (bit_xor (key_before from start text (place + k)))
      (shifted_some from text (place + k) (omega arith)
      ∙ ap (λ (n : ℕ). get_or text n 0 * 2 ^ ((place + k) % 2)) turn
      ∙ ap (λ (n : ℕ). n * 2 ^ ((place + k) % 2)) (sym (get_or-take count text k 0 inside)));
}

-- the text was gone through some times, and what it was gone through is XORed
pub record IsGoingThrough (from start : ℕ) (text old : List ℕ) (place key : ℕ) (new : List ℕ) : Type 0 where
  pub went : Went (key_before from start text) from old place key new
  pub begins : place < length new → Begins from text place

pub through_none : (from start : ℕ) (text old : List ℕ) → IsGoingThrough from start text old from start old
through_none from start text old = record {
  went = went_none (key_before from start text) from start old (key_first from start text);
  begins = λ left. begins_first from text;
}

-- a front of the text, which is all of it if bytes are left after it
pub through_more : (from start : ℕ) (text old : List ℕ) (place key : ℕ) (new : List ℕ) (count last : ℕ) (newest : List ℕ)
    → IsGoingThrough from start text old place key new → place < length new → count ≡ min (length text) (length new - place) → length newest ≡ length new
    → (GoesOn (key_before from start text) place key (take count text)
    → Went (key_before from start text) place new (place + length (take count text)) last newest)
    → IsGoingThrough from start text old (place + count) last newest
through_more from start text old place key new count last newest i left few stays goes =
    let keys = key_before from start text in
    let fits : count ≤ length text = omega arith in
    let long : length (take count text) ≡ count = length-take-le count text fits in
    let begins = i.begins left in
    let went : Went keys place new (place + length (take count text)) last newest =
    goes (front_goes_on from start text place key count begins i.went.key_is fits) in
    record {
      went = went_on keys from old place key new (place + count) last newest i.went
          (went_at keys place new (place + length (take count text)) (place + count) last newest went (omega arith));
      begins = λ left'.
          let whole : length text ≡ count = omega arith in
          let P : ℕ → Type 0 = λ n. Begins from text (place + n) in subst P whole (begins_next from text place begins);
    }

-- ---- a text so many times

repeats_shifted : (from : ℕ) (text all : List ℕ) (place : ℕ) → 0 < length text → Repeats text all → shifted_at from all place ≡ shifted_at from text place
repeats_shifted from text all place some r =
    let filled = r.some in
    let turn = (place - from) % length all in
    let within : turn < length all = omega arith in
    let same : turn % length text ≡ (place - from) % length text = mod-mod_of_dvd (length text) (place - from) (dvd_of_mod-eq-zero (length text) r.whole) in
    shifted_some from all place filled
    ∙ ap (λ (n : ℕ). n * 2 ^ (place % 2)) (r.bytes turn within ∙ ap (λ (n : ℕ). get_or text n 0) same)
    ∙ sym (shifted_some from text place some)

-- what is scrambled by it is what is scrambled by the text
pub repeats_scrambled : (from start : ℕ) (text all bytes : List ℕ) → 0 < length text → Repeats text all
    → scrambled from start all bytes ≡ scrambled from start text bytes
repeats_scrambled from start text all bytes some r =
    let same : shifted_at from all ≡ shifted_at from text = fun_ext (λ place. repeats_shifted from text all place some r) in
    ap (λ (adds : ℕ → ℕ). take from bytes ++ keyed (λ place. fold bit_xor start (map adds (range_with_len from (place + 1 - from)))) from (drop from bytes)) same
