-- The head of an index, and those of its checkpoints, as they are read.
use Rattle.std.proofs.Common.{◌≡◌, ℕ, ◌+◌, ◌-◌, ◌<◌, ◌/◌, ◌≤◌, Bool, true, false, List, length, take, drop, Result, Ok, Err, refl, sym, ap, subst, ◌∙◌, lt-ltb, le-ltb, arith}
use Rattle.std.specs.Prelude.{nat_lt, nat_le, ◌&&◌, if◌then◌else◌}
use Rattle.std.proofs.lemmas.Bool.{cond_both, and_parts, leb-true}
use Rattle.std.proofs.lemmas.List.{length-drop, drop-drop}
use Rattle.byteorder.specs.Endian.{little_number}
use Rattle.q3_bits.specs.ResultBind.{◌>>=◌}
use Rattle.q3_bits.proofs.Binds.{bind_ok, bind_is}
use Rattle.q3_savestate.specs.Cursor.{Cursor, Field, cursor_after, field_at, number_at}
use Rattle.q3_index.specs.declared.index.Checkpoint.{Checkpoint}
use Rattle.q3_index.specs.declared.opening.Head.{Head}
use Rattle.q3_index.specs.declared.opening.Version.{Version}
use Rattle.q3_index.specs.declared.opening.Version.TheVariants.{First, Second}
use Rattle.q3_index.specs.Text.{spacing}
use Rattle.q3_index.specs.Opening.{version_at, head_after, head_at}
use Rattle.q3_index.specs.Steps.{from_place, value_of, head_size, numbers_at, checkpoint_at, read_to}
use Rattle.q3_index.proofs.Fields.{IsFront, ok_front, field_front, then_front, front_value, then_value, LeadsTo, ok_leads, field_leads, then_leads, refused_on}

-- ---- the head of either version, of which 33 bytes are read

-- what it begins with
version_front : (at : ℕ) (bytes : List ℕ) → IsFront 25 (version_at (record { at = at; bytes = take 33 bytes })) (version_at (record { at = at; bytes = bytes }))
unfolding version_at
version_front at bytes = search (then_front {X = List ℕ} {Y = Version} 25, ok_front, field_front {X = List ℕ} 8 33 25 refl) depth 10

-- after that, where a byte is left in the first version
first_front : (at : ℕ) (bytes : List ℕ) → IsFront 1 (head_after First (record { at = at; bytes = take 25 bytes })) (head_after First (record { at = at; bytes = bytes }))
unfolding head_after
first_front at bytes =
    search (
      then_front {X = ℕ} {Y = Head} 17,
      then_front {X = ℕ} {Y = Head} 9,
      then_front {X = ℕ} {Y = Head} 5,
      then_front {X = ℕ} {Y = Head} 1,
      ok_front,
      field_front {X = ℕ} 8 25 17 refl,
      field_front {X = ℕ} 8 17 9 refl,
      field_front {X = ℕ} 4 9 5 refl,
      field_front {X = ℕ} 4 5 1 refl,
    ) depth 10

second_front : (at : ℕ) (bytes : List ℕ) → IsFront 0 (head_after Second (record { at = at; bytes = take 25 bytes })) (head_after Second (record { at = at; bytes = bytes }))
unfolding head_after
second_front at bytes =
    search (
      then_front {X = ℕ} {Y = Head} 17,
      then_front {X = ℕ} {Y = Head} 9,
      then_front {X = ℕ} {Y = Head} 8,
      then_front {X = ℕ} {Y = Head} 4,
      then_front {X = ℕ} {Y = Head} 0,
      ok_front,
      field_front {X = ℕ} 8 25 17 refl,
      field_front {X = ℕ} 8 17 9 refl,
      field_front {X = ℕ} 1 9 8 refl,
      field_front {X = ℕ} 4 8 4 refl,
      field_front {X = ℕ} 4 4 0 refl,
    ) depth 10

after_front : (version : Version) (at : ℕ) (bytes : List ℕ)
    → value_of (head_after version (record { at = at; bytes = take 25 bytes })) ≡ value_of (head_after version (record { at = at; bytes = bytes }))
after_front First at bytes = front_value 1 (head_after First (record { at = at; bytes = take 25 bytes })) (head_after First (record { at = at; bytes = bytes })) (first_front at bytes)
after_front Second at bytes = front_value 0 (head_after Second (record { at = at; bytes = take 25 bytes })) (head_after Second (record { at = at; bytes = bytes })) (second_front at bytes)

head_front : (at : ℕ) (bytes : List ℕ) → value_of (head_at (record { at = at; bytes = take 33 bytes })) ≡ value_of (head_at (record { at = at; bytes = bytes }))
unfolding head_at
head_front at bytes =
    then_value 25 (version_at (record { at = at; bytes = take 33 bytes })) (version_at (record { at = at; bytes = bytes })) (λ version. head_after version.0 version.1) (version_front at bytes) after_front

-- the checkpoints stand after as many bytes as its version's head has
record Follows (bytes : List ℕ) (r : Field Head) : Type 0 where
  found : (x : Head × Cursor) → r ≡ Ok x → x.1 ≡ from_place bytes (head_size x.0.version)

then_follows : {X : Type 0} (bytes : List ℕ) (at : ℕ) (r : Field X) (f : X × Cursor → Field Head) → LeadsTo bytes at r → ((x : X) → Follows bytes (f (x, from_place bytes at))) → Follows bytes (r >>= f)
then_follows bytes at (Ok x) f first others = rw (sym (first.found x.0 x.1 refl)) at (others x.0)
then_follows bytes at (Err place) f first others = record { found = λ x e. absurd cc }

last_follows : (bytes : List ℕ) (head : Head) → Follows bytes (Ok (head, from_place bytes (head_size head.version)))
last_follows bytes head = record {
  found = λ x e.
      let pairs : ◌≡◌ {A = Head × Cursor} (head, from_place bytes (head_size head.version)) x = cc in
      subst (λ (q : Head × Cursor). q.1 ≡ from_place bytes (head_size q.0.version)) pairs refl;
}

version_leads : (bytes : List ℕ) → LeadsTo bytes 8 (version_at (from_place bytes 0))
unfolding version_at
version_leads bytes = search (then_leads {X = List ℕ} {Y = Version} bytes 8, ok_leads, field_leads {X = List ℕ} bytes 0 8 8 refl) depth 10

after_follows : (bytes : List ℕ) (version : Version) → Follows bytes (head_after version (from_place bytes 8))
unfolding head_after
after_follows bytes First =
    search (
      then_follows {X = ℕ} bytes 16,
      then_follows {X = ℕ} bytes 24,
      then_follows {X = ℕ} bytes 28,
      then_follows {X = ℕ} bytes 32,
      ok_leads,
      last_follows,
      field_leads {X = ℕ} bytes 8 8 16 refl,
      field_leads {X = ℕ} bytes 16 8 24 refl,
      field_leads {X = ℕ} bytes 24 4 28 refl,
      field_leads {X = ℕ} bytes 28 4 32 refl,
    ) depth 10
after_follows bytes Second =
    search (
      then_follows {X = ℕ} bytes 16,
      then_follows {X = ℕ} bytes 24,
      then_follows {X = ℕ} bytes 25,
      then_follows {X = ℕ} bytes 29,
      then_follows {X = ℕ} bytes 33,
      last_follows,
      field_leads {X = ℕ} bytes 8 8 16 refl,
      field_leads {X = ℕ} bytes 16 8 24 refl,
      field_leads {X = ℕ} bytes 24 1 25 refl,
      field_leads {X = ℕ} bytes 25 4 29 refl,
      field_leads {X = ℕ} bytes 29 4 33 refl,
    ) depth 10

head_follows : (bytes : List ℕ) → Follows bytes (head_at (from_place bytes 0))
unfolding head_at
head_follows bytes = then_follows bytes 8 (version_at (from_place bytes 0)) (λ version. head_after version.0 version.1) (version_leads bytes) (after_follows bytes)

-- a head that was read, with what follows it
follows_on : (bytes : List ℕ) (r : Field Head) (head : Head) → Follows bytes r → value_of r ≡ Ok head → r ≡ Ok (head, from_place bytes (head_size head.version))
follows_on bytes (Ok x) head follows is =
    let one : x.0 ≡ head = cc in
    ap (λ (c : Cursor). Ok (x.0, c)) (follows.found x refl) ∙ ap (λ (head : Head). Ok (head, from_place bytes (head_size head.version))) one
follows_on bytes (Err at) head follows is = absurd cc

-- what is read of the first bytes of a file is its head
head_value : (bytes part : List ℕ) (r : Result Head ℕ) → part ≡ take 33 bytes → r ≡ value_of (head_at (from_place part 0)) → value_of (head_at (from_place bytes 0)) ≡ r
head_value bytes part r same is = sym (is ∙ ap (λ (p : List ℕ). value_of (head_at (record { at = 0; bytes = p }))) same ∙ head_front 0 bytes)

pub head_found : (bytes part : List ℕ) (head : Head) → part ≡ take 33 bytes → Ok head ≡ value_of (head_at (from_place part 0))
    → head_at (from_place bytes 0) ≡ Ok (head, from_place bytes (head_size head.version))
head_found bytes part head same is = follows_on bytes (head_at (from_place bytes 0)) head (head_follows bytes) (head_value bytes part (Ok head) same is)

pub head_refused : (bytes part : List ℕ) (place : ℕ) → part ≡ take 33 bytes → Err place ≡ value_of (head_at (from_place part 0)) → head_at (from_place bytes 0) ≡ Err place
head_refused bytes part place same is = refused_on (head_at (from_place bytes 0)) place (head_value bytes part (Err place) same is)

-- ---- how many checkpoints

-- a value that was read meets its rule
field_rule : {X : Type 0} (count : ℕ) (value : List ℕ → X) (rule : X → Bool) (cursor : Cursor) (x : X × Cursor) → field_at count value rule cursor ≡ Ok x → rule x.0 ≡ true
field_rule {X = X} count value rule cursor x =
    let read : X × Cursor = (value (take count cursor.bytes), cursor_after count cursor) in
    cond_both (nat_lt (length cursor.bytes) count) (Err cursor.at) (if rule read.0 then Ok read else Err cursor.at) (λ (r : Field X). r ≡ Ok x → rule x.0 ≡ true) (λ short e. absurd cc)
    (λ long. cond_both (rule read.0) (Ok read) (Err cursor.at) (λ (r : Field X). r ≡ Ok x → rule x.0 ≡ true)
    (λ right e. let same : read ≡ x = cc in subst (λ (p : X × Cursor). rule p.0 ≡ true) same right) (λ wrong e. absurd cc))

-- one that may be this alone is this
number_exact : (count n : ℕ) (cursor : Cursor) (x : ℕ × Cursor) → number_at count n n cursor ≡ Ok x → x.0 ≡ n
number_exact count n cursor x is =
    let both = and_parts (nat_le n x.0) (nat_le x.0 n) (field_rule count (little_number count) (λ number. nat_le n number && nat_le number n) cursor x is) in
    omega (arith, leb-true n x.0 both.0, leb-true x.0 n both.1)

record Counts (r : Field Head) : Type 0 where
  found : (x : Head × Cursor) → r ≡ Ok x → x.0.count ≡ x.0.records / spacing

then_counts : {X : Type 0} (r : Field X) (f : X × Cursor → Field Head) → ((x : X × Cursor) → Counts (f x)) → Counts (r >>= f)
then_counts (Ok x) f all = all x
then_counts (Err at) f all = record { found = λ x e. absurd cc }

last_counts : (version : Version) (length mark width records : ℕ) (cursor : Cursor)
    → Counts (number_at 4 (records / spacing) (records / spacing) cursor >>= λ count. Ok (record { version = version; length = length; mark = mark; width = width; records = records; count = count.0 }, count.1))
last_counts version length mark width records cursor = record {
  found = λ x e.
      let on : ℕ × Cursor → Field Head = λ count. Ok (record { version = version; length = length; mark = mark; width = width; records = records; count = count.0 }, count.1) in
      let p = bind_ok (number_at 4 (records / spacing) (records / spacing) cursor) on x e in
      let pairs : ◌≡◌ {A = Head × Cursor} (record { version = version; length = length; mark = mark; width = width; records = records; count = p.0.0 }, p.0.1) x = cc in
      subst (λ (q : Head × Cursor). q.0.count ≡ q.0.records / spacing) pairs (number_exact 4 (records / spacing) cursor p.0 p.1);
}

head_counts : (cursor : Cursor) → Counts (head_at cursor)
unfolding head_at head_after
head_counts cursor = search (then_counts, last_counts) depth 10

value_counts : (r : Field Head) (head : Head) → Counts r → Ok head ≡ value_of r → head.count ≡ head.records / spacing
value_counts (Ok x) head counts is =
    let one : x.0 ≡ head = cc in
    subst (λ (h : Head). h.count ≡ h.records / spacing) one (counts.found x refl)
value_counts (Err at) head counts is = absurd cc

pub counts_so : (cursor : Cursor) (head : Head) → Ok head ≡ value_of (head_at cursor) → head.count ≡ head.records / spacing
counts_so cursor head is = value_counts (head_at cursor) head (head_counts cursor) is

-- ---- a checkpoint

numbers_front : (number least most at : ℕ) (bytes : List ℕ) → IsFront 0 (numbers_at number least most (record { at = at; bytes = take 16 bytes })) (numbers_at number least most (record { at = at; bytes = bytes }))
unfolding numbers_at
numbers_front number least most at bytes =
    search (
      then_front {X = ℕ} {Y = Checkpoint} 12,
      then_front {X = ℕ} {Y = Checkpoint} 4,
      then_front {X = ℕ} {Y = Checkpoint} 0,
      ok_front,
      field_front {X = ℕ} 4 16 12 refl,
      field_front {X = ℕ} 8 12 4 refl,
      field_front {X = ℕ} 4 4 0 refl,
    ) depth 10

-- bytes that are left of a file
record IsIn (bytes : List ℕ) (cursor : Cursor) : Type 0 where
  is : cursor ≡ from_place bytes cursor.at

record StaysIn {X : Type 0} (bytes : List ℕ) (r : Field X) : Type 0 where
  found : (x : X × Cursor) → r ≡ Ok x → IsIn bytes x.1

field_in : {X : Type 0} (bytes : List ℕ) (count : ℕ) (value : List ℕ → X) (rule : X → Bool) (cursor : Cursor) → IsIn bytes cursor → StaysIn bytes (field_at count value rule cursor)
field_in bytes count value rule cursor is = record {
  found = λ x e.
      let here : field_at count value rule (from_place bytes cursor.at) ≡ Ok x = ap (field_at count value rule) (sym is.is) ∙ e in
      let there : x.1 ≡ from_place bytes (cursor.at + count) = (field_leads bytes cursor.at count (cursor.at + count) refl value rule).found x.0 x.1 here in
      record { is = there ∙ ap (from_place bytes) (sym (ap (λ (c : Cursor). c.at) there)) };
}

-- a checkpoint's state stands after its numbers
record Stands (bytes : List ℕ) (r : Field Checkpoint) : Type 0 where
  found : (x : Checkpoint × Cursor) → r ≡ Ok x → x.1 ≡ from_place bytes x.0.state

then_stands : {X : Type 0} (bytes : List ℕ) (r : Field X) (f : X × Cursor → Field Checkpoint) → StaysIn bytes r → ((x : X × Cursor) → IsIn bytes x.1 → Stands bytes (f x)) → Stands bytes (r >>= f)
then_stands bytes (Ok x) f first others = others x (first.found x refl)
then_stands bytes (Err at) f first others = record { found = λ x e. absurd cc }

last_stands : (bytes : List ℕ) (place length : ℕ) (cursor : Cursor) → IsIn bytes cursor → Stands bytes (Ok (record { place = place; state = cursor.at; length = length }, cursor))
last_stands bytes place length cursor is = record {
  found = λ x e.
      let pairs : ◌≡◌ {A = Checkpoint × Cursor} (record { place = place; state = cursor.at; length = length }, cursor) x = cc in
      subst (λ (q : Checkpoint × Cursor). q.1 ≡ from_place bytes q.0.state) pairs is.is;
}

numbers_stand : (bytes : List ℕ) (number least most : ℕ) (cursor : Cursor) → IsIn bytes cursor → Stands bytes (numbers_at number least most cursor)
unfolding numbers_at
numbers_stand bytes number least most cursor is = search (then_stands, field_in, last_stands) depth 10

stands_on : (bytes : List ℕ) (r : Field Checkpoint) (found : Checkpoint) → Stands bytes r → value_of r ≡ Ok found → r ≡ Ok (found, from_place bytes found.state)
stands_on bytes (Ok x) found stands is =
    let one : x.0 ≡ found = cc in
    ap (λ (c : Cursor). Ok (x.0, c)) (stands.found x refl) ∙ ap (λ (checkpoint : Checkpoint). Ok (checkpoint, from_place bytes checkpoint.state)) one
stands_on bytes (Err at) found stands is = absurd cc

-- what is read of the first bytes there
numbers_value : (bytes part : List ℕ) (number least most at : ℕ) (r : Result Checkpoint ℕ) → part ≡ take 16 (drop at bytes) → r ≡ value_of (numbers_at number least most (record { at = at; bytes = part }))
    → value_of (numbers_at number least most (from_place bytes at)) ≡ r
numbers_value bytes part number least most at r same is =
    sym (is ∙ ap (λ (p : List ℕ). value_of (numbers_at number least most (record { at = at; bytes = p }))) same
    ∙ front_value 0 (numbers_at number least most (record { at = at; bytes = take 16 (drop at bytes) })) (numbers_at number least most (from_place bytes at)) (numbers_front number least most at (drop at bytes)))

numbers_found : (bytes part : List ℕ) (number least most at : ℕ) (found : Checkpoint) → part ≡ take 16 (drop at bytes)
    → Ok found ≡ value_of (numbers_at number least most (record { at = at; bytes = part })) → numbers_at number least most (from_place bytes at) ≡ Ok (found, from_place bytes found.state)
numbers_found bytes part number least most at found same is =
    stands_on bytes (numbers_at number least most (from_place bytes at)) found (numbers_stand bytes number least most (from_place bytes at) (record { is = refl }))
    (numbers_value bytes part number least most at (Ok found) same is)

-- as many bytes as its state has follow them
with_state : Checkpoint × Cursor → Field Checkpoint
with_state checkpoint = field_at checkpoint.0.length (λ (bytes : List ℕ). bytes) (λ bytes. true) checkpoint.1 >>= λ state. Ok (checkpoint.0, state.1)

checkpoint_is : (number least most : ℕ) (cursor : Cursor) → checkpoint_at number least most cursor ≡ (numbers_at number least most cursor >>= with_state)
unfolding checkpoint_at with_state
checkpoint_is number least most cursor = refl

pub checkpoint_whole : (bytes part : List ℕ) (number least most at : ℕ) (found : Checkpoint) → part ≡ take 16 (drop at bytes)
    → Ok found ≡ value_of (numbers_at number least most (record { at = at; bytes = part })) → found.length ≤ length bytes - found.state
    → checkpoint_at number least most (from_place bytes at) ≡ Ok (read_to bytes found)
unfolding with_state
checkpoint_whole bytes part number least most at found same is within =
    let long : nat_lt (length (drop found.state bytes)) found.length ≡ false = le-ltb (length (drop found.state bytes)) found.length (omega (arith, length-drop found.state bytes)) in
    let rest : drop found.length (drop found.state bytes) ≡ drop (found.state + found.length) bytes = drop-drop found.length found.state bytes in
    checkpoint_is number least most (from_place bytes at)
    ∙ bind_is (numbers_at number least most (from_place bytes at)) with_state (found, from_place bytes found.state) (Ok (read_to bytes found)) (numbers_found bytes part number least most at found same is)
    (rw (long, rest) refl)

pub checkpoint_cut : (bytes part : List ℕ) (number least most at : ℕ) (found : Checkpoint) → part ≡ take 16 (drop at bytes)
    → Ok found ≡ value_of (numbers_at number least most (record { at = at; bytes = part })) → length bytes - found.state < found.length
    → checkpoint_at number least most (from_place bytes at) ≡ Err found.state
unfolding with_state
checkpoint_cut bytes part number least most at found same is less =
    let short : nat_lt (length (drop found.state bytes)) found.length ≡ true = lt-ltb (length (drop found.state bytes)) found.length (omega (arith, length-drop found.state bytes)) in
    checkpoint_is number least most (from_place bytes at)
    ∙ bind_is (numbers_at number least most (from_place bytes at)) with_state (found, from_place bytes found.state) (Err found.state) (numbers_found bytes part number least most at found same is)
    (rw short refl)

fails_on : (r : Field Checkpoint) (f : Checkpoint × Cursor → Field Checkpoint) (place : ℕ) → r ≡ Err place → (r >>= f) ≡ Err place
fails_on r f place is = ap (λ (q : Field Checkpoint). q >>= f) is

pub checkpoint_refused : (bytes part : List ℕ) (number least most at place : ℕ) → part ≡ take 16 (drop at bytes)
    → Err place ≡ value_of (numbers_at number least most (record { at = at; bytes = part })) → checkpoint_at number least most (from_place bytes at) ≡ Err place
checkpoint_refused bytes part number least most at place same is =
    checkpoint_is number least most (from_place bytes at)
    ∙ fails_on (numbers_at number least most (from_place bytes at)) with_state place
    (refused_on (numbers_at number least most (from_place bytes at)) place (numbers_value bytes part number least most at (Err place) same is))
