-- Rows of reads: what was written one after another is read so, and what was read so was written.
use Rattle.std.proofs.Common.{◌≡◌, ℕ, ◌+◌, List, [], ◌++◌, append_assoc, sym, refl, ap, subst, ◌∙◌}
use Rattle.std.specs.Prelude.{◌<◌, All, Result, Ok}
use Rattle.q3_bits.specs.ResultBind.{◌>>=◌}
use Rattle.q3_bits.proofs.Binds.{bind_ok, bind_is}
use Rattle.q3_savestate.specs.Cursor.{Cursor, Field}
use Rattle.q3_savestate.proofs.Fields.{Took, took_none, took_both, carried}

-- a byte
abbrev pub IsByte : ℕ → Type 0
IsByte byte = byte < 256

-- ---- what was written is read

-- a text, with whatever follows it, is read as this value, and what follows is left
pub record ReadsBack {X : Type 0} (read : Cursor → Field X) (text : List ℕ) (x : X) : Type 0 where
  pub from : (cursor : Cursor) (rest : List ℕ) → cursor.bytes ≡ text ++ rest → (left : Cursor) × (read cursor ≡ Ok (x, left)) × (left.bytes ≡ rest)

-- as a law on one field says it
pub reads_back : {X : Type 0} (read : Cursor → Field X) (text : List ℕ) (x : X) (count : ℕ)
    → ((at : ℕ) (rest : List ℕ) → read (record { at = at; bytes = text ++ rest }) ≡ Ok (x, record { at = at + count; bytes = rest })) → ReadsBack read text x
reads_back read text x count back = record {
  from = λ cursor rest is.
      (record { at = cursor.at + count; bytes = rest }, ap (λ (bytes : List ℕ). read (record { at = cursor.at; bytes = bytes })) is ∙ back cursor.at rest, refl);
}

-- one text after another
pub back_then : {X Y : Type 0} {read : Cursor → Field X} {front after : List ℕ} {x : X} {y : Y} (more : X × Cursor → Field Y)
    → ReadsBack read front x → ReadsBack (λ cursor. more (x, cursor)) after y → ReadsBack (λ cursor. read cursor >>= more) (front ++ after) y
back_then {read = read} {front = front} {after = after} {x = x} {y = y} more first second = record {
  from = λ cursor rest is.
      let one = first.from cursor (after ++ rest) (is ∙ append_assoc front after rest) in
      let two = second.from one.0 rest one.2 in
      (two.0, bind_is (read cursor) more (x, one.0) (Ok (y, two.0)) one.1 two.1, two.2);
}

-- where nothing more is read
pub back_end : {X : Type 0} (x : X) → ReadsBack (λ cursor. Ok (x, cursor)) [] x
back_end x = record { from = λ cursor rest is. (cursor, refl, is) }

-- the last read, and the value that is made of what was read
pub back_last : {X Y : Type 0} {read : Cursor → Field X} {text : List ℕ} {x : X} (f : X → Y)
    → ReadsBack read text x → ReadsBack (λ cursor. read cursor >>= λ found. Ok (f found.0, found.1)) text (f x)
back_last {read = read} {x = x} f first = record {
  from = λ cursor rest is.
      let one = first.from cursor rest is in
      (one.0, bind_is (read cursor) (λ found. Ok (f found.0, found.1)) (x, one.0) (Ok (f x, one.0)) one.1 refl, one.2);
}

-- a whole text is read as this value
pub record ReadsAllBack {Y : Type 0} (read : Cursor → Result Y ℕ) (text : List ℕ) (y : Y) : Type 0 where
  pub from : (cursor : Cursor) → cursor.bytes ≡ text → read cursor ≡ Ok y

-- a text in front of others
pub all_back_then : {X Y : Type 0} {read : Cursor → Field X} {front after : List ℕ} {x : X} {y : Y} (more : X × Cursor → Result Y ℕ)
    → ReadsBack read front x → ReadsAllBack (λ cursor. more (x, cursor)) after y → ReadsAllBack (λ cursor. read cursor >>= more) (front ++ after) y
all_back_then {read = read} {after = after} {x = x} {y = y} more first second = record {
  from = λ cursor is.
      let one = first.from cursor after is in
      bind_is (read cursor) more (x, one.0) (Ok y) one.1 (second.from one.0 one.2);
}

-- ---- what was read was written

-- what is read as a value is its text, and this holds of it
pub record WasRead {X : Type 0} (read : Cursor → Field X) (spelled : X → List ℕ) (P : X → Type 0) : Type 0 where
  pub was : (cursor : Cursor) (x : X) (left : Cursor) → All IsByte cursor.bytes → read cursor ≡ Ok (x, left) → P x × Took cursor (spelled x) left

-- what is read is a value and a text of which this holds
pub record HasRead {Y : Type 0} (read : Cursor → Field Y) (Q : Y → List ℕ → Type 0) : Type 0 where
  pub has : (cursor : Cursor) (y : Y) (left : Cursor) → All IsByte cursor.bytes → read cursor ≡ Ok (y, left) → (text : List ℕ) × Q y text × Took cursor text left

-- a read in front of others
pub were_then : {X Y : Type 0} {read : Cursor → Field X} {spelled : X → List ℕ} {P : X → Type 0} {Q : Y → List ℕ → Type 0} (more : X × Cursor → Field Y)
    → WasRead read spelled P → ((x : X) → P x → HasRead (λ cursor. more (x, cursor)) (λ y text. Q y (spelled x ++ text)))
    → HasRead (λ cursor. read cursor >>= more) Q
were_then {read = read} {spelled = spelled} more first others = record {
  has = λ cursor y left bytes is.
      let step = bind_ok (read cursor) more (y, left) is in
      let one = first.was cursor step.0.0 step.0.1 bytes step.1 in
      let two = (others step.0.0 one.0).has step.0.1 y left one.1.fit step.2 in
      (spelled step.0.0 ++ two.0, two.1, took_both cursor step.0.1 left (spelled step.0.0) two.0 one.1 two.2);
}

-- where nothing more is read
pub were_end : {Y : Type 0} {Q : Y → List ℕ → Type 0} (y : Y) → Q y [] → HasRead (λ cursor. Ok (y, cursor)) Q
were_end {Q = Q} y holds = record {
  has = λ cursor x left bytes is. carried (λ x left. (text : List ℕ) × Q x text × Took cursor text left) y x cursor left is ([], holds, took_none cursor bytes);
}

-- the last read, and the value that is made of what was read
pub were_last : {X Y : Type 0} {read : Cursor → Field X} {spelled : X → List ℕ} {P : X → Type 0} {Q : Y → List ℕ → Type 0} (f : X → Y)
    → WasRead read spelled P → ((x : X) → P x → Q (f x) (spelled x)) → HasRead (λ cursor. read cursor >>= λ found. Ok (f found.0, found.1)) Q
were_last {read = read} {spelled = spelled} {Q = Q} f first holds = record {
  has = λ cursor y left bytes is.
      let step = bind_ok (read cursor) (λ found. Ok (f found.0, found.1)) (y, left) is in
      let one = first.was cursor step.0.0 step.0.1 bytes step.1 in
      carried (λ y left. (text : List ℕ) × Q y text × Took cursor text left) (f step.0.0) y step.0.1 left step.2
      (spelled step.0.0, holds step.0.0 one.0, one.1);
}

-- what holds of what is read gives what else holds
pub were_so : {Y : Type 0} {read : Cursor → Field Y} {Q R : Y → List ℕ → Type 0} → HasRead read Q → ((y : Y) (text : List ℕ) → Q y text → R y text) → HasRead read R
were_so row so = record {
  has = λ cursor y left bytes is. let one = row.has cursor y left bytes is in (one.0, so y one.0 one.1, one.2);
}

-- a row of reads whose text is that of its value
pub were_row : {X : Type 0} {read : Cursor → Field X} (spelled : X → List ℕ) (P : X → Type 0) → HasRead read (λ x text. P x × (text ≡ spelled x)) → WasRead read spelled P
were_row spelled P row = record {
  was = λ cursor x left bytes is.
      let one = row.has cursor x left bytes is in
      (one.1.0, subst (λ text. Took cursor text left) one.1.1 one.2);
}

-- all that is read is a value and a text of which this holds
pub record HasReadAll {Y : Type 0} (read : Cursor → Result Y ℕ) (Q : Y → List ℕ → Type 0) : Type 0 where
  pub has : (cursor : Cursor) (y : Y) → All IsByte cursor.bytes → read cursor ≡ Ok y → Q y cursor.bytes

-- a read in front of others
pub all_were_then : {X Y : Type 0} {read : Cursor → Field X} {spelled : X → List ℕ} {P : X → Type 0} {Q : Y → List ℕ → Type 0} (more : X × Cursor → Result Y ℕ)
    → WasRead read spelled P → ((x : X) → P x → HasReadAll (λ cursor. more (x, cursor)) (λ y text. Q y (spelled x ++ text)))
    → HasReadAll (λ cursor. read cursor >>= more) Q
all_were_then {read = read} {spelled = spelled} {Q = Q} more first others = record {
  has = λ cursor y bytes is.
      let step = bind_ok (read cursor) more y is in
      let one = first.was cursor step.0.0 step.0.1 bytes step.1 in
      let two = (others step.0.0 one.0).has step.0.1 y one.1.fit step.2 in
      subst (λ text. Q y text) (sym one.1.stood) two;
}
