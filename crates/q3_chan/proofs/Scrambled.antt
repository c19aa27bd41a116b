-- Laws of scrambling.
use Rattle.std.proofs.Common.{◌≡◌, ◌∙◌, ℕ, zero, suc, ◌+◌, ◌<◌, ◌≤◌, ◌*◌, ◌-◌, ◌%◌, ◌^◌, List, [], ◌∷◌, ◌++◌, length, take, drop, map, get_or, Option, Some, None, refl, ap, lit<, arith}
use Rattle.std.specs.List.{All, fold, range_with_len}
use Rattle.std.specs.Int.Bits.{bit_xor, xor_assoc, xor_self, xor_zero_r}
use Rattle.std.proofs.lemmas.Nat.{xor_of_8}
use Rattle.std.proofs.lemmas.List.Elements.{All-nil, All-cons, All-tail, All-take, All-drop, All-append}
use Rattle.q3_text.specs.Texts.{IsText}
use Rattle.q3_chan.specs.Scrambling.{shifted_at, key_at, keyed}
use Rattle.q3_chan.specs.Laws.{TwiceIsNone, FrontStays, BytesStayBytes, SideTwiceIsNone, SideFrontStays, SideBytesStay}
use Rattle.q3_chan.specs.Keys.{clear_bytes, scrambled_by}
use Rattle.std.specs.Option.{IfSome}

keyed_twice : (key : ℕ → ℕ) (place : ℕ) (bytes : List ℕ) → keyed key place (keyed key place bytes) ≡ bytes
unfolding keyed
keyed_twice key place [] = refl
keyed_twice key place (byte ∷ bytes) =
    let once : bit_xor (bit_xor byte (key place)) (key place) ≡ byte =
    xor_assoc byte (key place) (key place) ∙ ap (bit_xor byte) (xor_self (key place)) ∙ xor_zero_r byte
    in ap (λ (b : ℕ). b ∷ keyed key (place + 1) (keyed key (place + 1) bytes)) once ∙ ap (λ (l : List ℕ). byte ∷ l) (keyed_twice key (place + 1) bytes)

-- the first bytes as they are, and the others keyed
abbrev after_front : (ℕ → ℕ) → ℕ → ℕ → List ℕ → List ℕ
after_front key place count bytes = take count bytes ++ keyed key place (drop count bytes)

twice : (key : ℕ → ℕ) (place count : ℕ) (bytes : List ℕ) → after_front key place count (after_front key place count bytes) ≡ bytes
unfolding keyed
twice key place zero bytes = keyed_twice key place bytes
twice key place (suc count) [] = refl
twice key place (suc count) (byte ∷ bytes) = ap (λ (l : List ℕ). byte ∷ l) (twice key place count bytes)

pub twice_is_none : TwiceIsNone
twice_is_none from start text bytes = twice (key_at from start text) from from bytes

-- ---- what stays

keyed_long : (key : ℕ → ℕ) (place : ℕ) (bytes : List ℕ) → length (keyed key place bytes) ≡ length bytes
unfolding keyed
keyed_long key place [] = refl
keyed_long key place (byte ∷ bytes) = ap suc (keyed_long key (place + 1) bytes)

long : (key : ℕ → ℕ) (place count : ℕ) (bytes : List ℕ) → length (after_front key place count bytes) ≡ length bytes
unfolding keyed
long key place zero bytes = keyed_long key place bytes
long key place (suc count) [] = refl
long key place (suc count) (byte ∷ bytes) = ap suc (long key place count bytes)

front : (key : ℕ → ℕ) (place count : ℕ) (bytes : List ℕ) (k : ℕ) → k ≤ count → take k (after_front key place count bytes) ≡ take k bytes
unfolding keyed
front key place count bytes zero few = refl
front key place zero bytes (suc k) few = absurd (omega arith)
front key place (suc count) [] (suc k) few = refl
front key place (suc count) (byte ∷ bytes) (suc k) few = ap (λ (l : List ℕ). byte ∷ l) (front key place count bytes k (omega arith))

pub front_stays : FrontStays
front_stays from start text bytes = (long (key_at from start text) from from bytes, front (key_at from start text) from from bytes)

-- ---- bytes stay bytes

abbrev AreBytes : List ℕ → Type 0
AreBytes bytes = All (λ byte. byte < 2 ^ 8) bytes

keyed_bytes : (key : ℕ → ℕ) (place : ℕ) (bytes : List ℕ) → ((k : ℕ) → key k < 2 ^ 8) → AreBytes bytes → AreBytes (keyed key place bytes)
unfolding keyed
keyed_bytes key place [] small all = All-nil (λ (b : ℕ). b < 2 ^ 8)
keyed_bytes key place (byte ∷ bytes) small all =
    let P : ℕ → Type 0 = λ b. b < 2 ^ 8 in
    All-cons P (bit_xor byte (key place)) (keyed key (place + 1) bytes) (xor_of_8 byte (key place) (all zero 0 (omega arith)) (small place))
    (keyed_bytes key (place + 1) bytes small (All-tail P byte bytes all))

small_key : (adds : ℕ → ℕ) (start from count : ℕ) → ((k : ℕ) → adds k < 2 ^ 8) → start < 2 ^ 8
    → fold bit_xor start (map adds (range_with_len from count)) < 2 ^ 8
small_key adds start from zero small few = few
small_key adds start from (suc count) small few = small_key adds (bit_xor start (adds from)) (from + 1) count small (xor_of_8 start (adds from) few (small from))

shift_small : (byte odd : ℕ) → byte < 128 → odd < 2 → byte * 2 ^ odd < 2 ^ 8
shift_small byte zero small one = omega arith
shift_small byte (suc zero) small one = omega arith
shift_small byte (suc (suc odd)) small one = absurd (omega arith)

shifted_small : (from : ℕ) (text : List ℕ) (place : ℕ) → IsText text → shifted_at from text place < 2 ^ 8
unfolding shifted_at
shifted_small from [] place is = lit< tt
shifted_small from (byte ∷ text) place is =
    let turn = (place - from) % length (byte ∷ text) in
    let within : turn < length (byte ∷ text) = omega arith in
    shift_small (get_or (byte ∷ text) turn 0) (place % 2) (is.each turn 0 within).seven_bits (omega arith)

pub bytes_stay_bytes : BytesStayBytes
bytes_stay_bytes from start text bytes small is all =
    let P : ℕ → Type 0 = λ b. b < 2 ^ 8 in
    let keys : (k : ℕ) → key_at from start text k < 2 ^ 8 =
    λ k. small_key (shifted_at from text) start from (k + 1 - from) (λ n. shifted_small from text n is) small
    in All-append P (take from bytes) (keyed (key_at from start text) from (drop from bytes)) (All-take P from bytes all)
    (keyed_bytes (key_at from start text) from (drop from bytes) keys (All-drop P from bytes all))

-- ---- after the leading longs

twice_by : (from : ℕ) (start : Option ℕ) (text bytes : List ℕ) → scrambled_by from start text (scrambled_by from start text bytes) ≡ bytes
twice_by from None text bytes = refl
twice_by from (Some start) text bytes = twice_is_none from start text bytes

pub side_twice_is_none : SideTwiceIsNone
side_twice_is_none side key bytes = twice_by (clear_bytes side) key.start key.text bytes

front_by : (from : ℕ) (start : Option ℕ) (text bytes : List ℕ) → (length (scrambled_by from start text bytes) ≡ length bytes)
    × ((k : ℕ) → k ≤ from → take k (scrambled_by from start text bytes) ≡ take k bytes)
front_by from None text bytes = (refl, λ k few. refl)
front_by from (Some start) text bytes = front_stays from start text bytes

pub side_front_stays : SideFrontStays
side_front_stays side key bytes = front_by (clear_bytes side) key.start key.text bytes

bytes_by : (from : ℕ) (start : Option ℕ) (text bytes : List ℕ) → IfSome start (λ start. start < 2 ^ 8) → IsText text → AreBytes bytes → AreBytes (scrambled_by from start text bytes)
bytes_by from None text bytes small is all = all
bytes_by from (Some start) text bytes small is all = bytes_stay_bytes from start text bytes small is all

pub side_bytes_stay : SideBytesStay
side_bytes_stay side key bytes = bytes_by (clear_bytes side) key.start key.text bytes
