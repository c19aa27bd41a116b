-- Scrambling: from a place on, each byte of a message is XORed with a key that goes on from place to place by a text.
use Rattle.std.specs.Prelude.{◌≡◌, ℕ, ◌+◌, ◌-◌, ◌*◌, ◌%◌, ◌^◌, ◌<◌, List, [], ◌∷◌, ◌++◌, length, take, drop, map, fold, slice_index, bit_xor}
use Rattle.std.specs.List.{range_with_len}

-- what a place adds to the keys from it on: the text's byte there, shifted by one at odd places; an empty text adds nothing
unfoldable pub shifted_at : ℕ → List ℕ → ℕ → ℕ
shifted_at from [] place = 0
shifted_at from text place = slice_index text ((place - from) % length text) * 2 ^ (place % 2)

-- the key byte of a place: the start, XORed with what each place from the first one on up to it adds
abbrev pub key_at : ℕ → ℕ → List ℕ → ℕ → ℕ
key_at from start text place = fold bit_xor start (map (shifted_at from text) (range_with_len from (place + 1 - from)))

-- bytes, each XORed with the key of its place, from a place on
unfoldable pub keyed : (ℕ → ℕ) → ℕ → List ℕ → List ℕ
keyed key place [] = []
keyed key place (byte ∷ bytes) = bit_xor byte (key place) ∷ keyed key (place + 1) bytes

-- a message with the bytes from a place on scrambled
abbrev pub scrambled : ℕ → ℕ → List ℕ → List ℕ → List ℕ
scrambled from start text bytes = take from bytes ++ keyed (key_at from start text) from (drop from bytes)

-- ---- a key that goes on from place to place

-- a key and the bytes of a text after it: each key is the one before it, XORed with the text's byte, shifted by one at odd
-- places
pub record GoesOn (keys : ℕ → ℕ) (place : ℕ) (key : ℕ) (text : List ℕ) : Type 0 where
  pub here : keys place ≡ key
  pub next : (k : ℕ) → k < length text → keys (place + k + 1) ≡ bit_xor (keys (place + k)) (slice_index text k * 2 ^ ((place + k) % 2))

-- the bytes from a place on up to another are XORed, each with the key after it, and the last of these keys is told
pub record Went (keys : ℕ → ℕ) (place : ℕ) (old : List ℕ) (to : ℕ) (key : ℕ) (new : List ℕ) : Type 0 where
  pub key_is : keys to ≡ key
  pub bytes : take to new ++ keyed (λ k. keys (k + 1)) to (drop to new) ≡ take place old ++ keyed (λ k. keys (k + 1)) place (drop place old)

-- a text so many times, one after the other
pub record Repeats (text all : List ℕ) : Type 0 where
  pub some : 0 < length all
  pub whole : length all % length text ≡ 0
  pub bytes : (k : ℕ) → k < length all → slice_index all k ≡ slice_index text (k % length text)
