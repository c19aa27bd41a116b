-- The heads of an index are read as they were written, and what stands between them are the states.
use Rattle.std.proofs.Common.{◌≡◌, ℕ, zero, suc, ◌+◌, ◌/◌, ◌^◌, ◌<◌, ◌≤◌, true, List, [], ◌∷◌, ◌++◌, length, take, drop, Some, Result, Ok, refl, sym, ap, subst, ◌∙◌, append_assoc, arith, length-append}
use Rattle.std.specs.List.{flat_map, slice_get}
use Rattle.std.proofs.lemmas.List.{append-nil, take_at, drop_at}
use Rattle.byteorder.specs.Endian.{little_bytes}
use Rattle.q3_bits.specs.ResultBind.{◌>>=◌}
use Rattle.q3_bits.proofs.Binds.{bind_is}
use Rattle.q3_fields.specs.Kinds.{HasNumberBits, least_number_bits, most_number_bits}
use Rattle.q3_profile.specs.declared.profile.Profile.{Profile}
use Rattle.q3_savestate.specs.Cursor.{Cursor}
use Rattle.q3_savestate.proofs.Fields.{field_back, number_back}
use Rattle.q3_demo.specs.Playing.{Played}
use Rattle.q3_index.specs.declared.index.Checkpoint.{Checkpoint}
use Rattle.q3_index.specs.declared.opening.Head.{Head}
use Rattle.q3_index.specs.declared.opening.Version.{Version}
use Rattle.q3_index.specs.declared.opening.Version.TheVariants.{First, Second}
use Rattle.q3_index.specs.Text.{spacing, magic, width_bytes, Tells, head_bytes, state_of, checkpoint_bytes}
use Rattle.q3_index.specs.Opening.{checkpoints_at, is_magic, version_at, head_after, head_at, checkpoints_of, heads_at}
use Rattle.q3_index.specs.Steps.{head_size}
use Rattle.q3_index.proofs.Points.{ArePoints}

-- ---- checkpoints

-- what an index says of what was played, from a place in it on
abbrev pub places_of : Profile → ℕ → List Played → List Checkpoint
places_of profile at [] = []
places_of profile at (played ∷ others) =
    record { place = played.at; state = at + 16; length = length (state_of profile played) } ∷ places_of profile (at + 16 + length (state_of profile played)) others

-- the bytes in front of a checkpoint's state
abbrev front_bytes : Profile → Played → List ℕ
front_bytes profile played = little_bytes 4 played.records ++ (little_bytes 8 played.at ++ little_bytes 4 (length (state_of profile played)))

-- its bytes, and others after them
split : (profile : Profile) (played : Played) (rest : List ℕ) → checkpoint_bytes profile played ++ rest ≡ front_bytes profile played ++ (state_of profile played ++ rest)
split profile played rest = ap (λ state. front_bytes profile played ++ (state ++ rest)) (append-nil (state_of profile played))

-- how many bytes it has
length-checkpoint_bytes : (profile : Profile) (played : Played) → length (checkpoint_bytes profile played) ≡ 16 + length (state_of profile played)
length-checkpoint_bytes profile played = omega (arith, length-append (state_of profile played) [])

-- one is read, and then others
one_back : (number least most place at end count : ℕ) (state left rest : List ℕ) (others : List Checkpoint) → number < 2 ^ 32 → least ≤ place → place ≤ most → most < 2 ^ 64 → length state < 2 ^ 32
    → checkpoints_at count (number + spacing) (place + 1) most (record { at = at + 16 + length state; bytes = left }) ≡ Ok (others, record { at = end; bytes = rest })
    → checkpoints_at (suc count) number least most (record { at = at; bytes = little_bytes 4 number ++ (little_bytes 8 place ++ (little_bytes 4 (length state) ++ (state ++ left))) })
    ≡ Ok (record { place = place; state = at + 16; length = length state } ∷ others, record { at = end; bytes = rest })
unfolding checkpoints_at
one_back number least most place at end count state left rest others fits above below wide short more =
    let there : at + 16 ≡ at + 4 + 8 + 4 = omega arith in
    let last : List ℕ = state ++ left in
    let later : List ℕ = little_bytes 4 (length state) ++ last in
    let Read : Type 0 = Result (List Checkpoint × Cursor) ℕ in
    let on : ℕ → List Checkpoint × Cursor → Read = λ at others. Ok (record { place = place; state = at; length = length state } ∷ others.0, others.1) in
    let after : ℕ → Read = λ at. checkpoints_at count (number + spacing) (place + 1) most (record { at = at + length state; bytes = left }) >>= on at in
    let goes_on : after (at + 4 + 8 + 4) ≡ Ok (record { place = place; state = at + 16; length = length state } ∷ others, record { at = end; bytes = rest }) =
    sym (ap after there) ∙ bind_is _ (on (at + 16)) (others, record { at = end; bytes = rest }) _ more refl in
    bind_is _ _ (number, record { at = at + 4; bytes = little_bytes 8 place ++ later }) _ (number_back 4 number number number at (little_bytes 8 place ++ later) (omega arith) (omega arith) (omega arith))
    (bind_is _ _ (place, record { at = at + 4 + 8; bytes = later }) _ (number_back 8 least most place (at + 4) later (omega arith) above below)
    (bind_is _ _ (length state, record { at = at + 4 + 8 + 4; bytes = last }) _ (number_back 4 0 4294967295 (length state) (at + 4 + 8) last (omega arith) (omega arith) (omega arith))
    (bind_is _ _ (state, record { at = at + 4 + 8 + 4 + length state; bytes = left }) _ (field_back (length state) (λ bytes. bytes) (λ bytes. true) state state left (at + 4 + 8 + 4) refl refl refl) goes_on)))

-- they are read
pub checkpoints_back : (profile : Profile) (points : List Played) (number least most at : ℕ) (rest : List ℕ) → most < 2 ^ 64 → ArePoints profile number least most points
    → (end : ℕ) × (checkpoints_at (length points) number least most (record { at = at; bytes = flat_map (checkpoint_bytes profile) points ++ rest }) ≡ Ok (places_of profile at points, record { at = end; bytes = rest }))
unfolding checkpoints_at
checkpoints_back profile [] number least most at rest wide are = (at, refl)
checkpoints_back profile (played ∷ others) number least most at rest wide are =
    let one = are.0 in
    let state : List ℕ = state_of profile played in
    let left : List ℕ = flat_map (checkpoint_bytes profile) others ++ rest in
    let more = checkpoints_back profile others (number + spacing) (played.at + 1) most (at + 16 + length state) rest wide are.1 in
    let bytes : flat_map (checkpoint_bytes profile) (played ∷ others) ++ rest ≡ little_bytes 4 number ++ (little_bytes 8 played.at ++ (little_bytes 4 (length state) ++ (state ++ left))) =
    append_assoc (checkpoint_bytes profile played) (flat_map (checkpoint_bytes profile) others) rest ∙ split profile played left
    ∙ ap (λ (n : ℕ). little_bytes 4 n ++ (little_bytes 8 played.at ++ (little_bytes 4 (length state) ++ (state ++ left)))) one.records in (
      more.0,
      ap (λ (bytes : List ℕ). checkpoints_at (suc (length others)) number least most (record { at = at; bytes = bytes })) bytes
          ∙ one_back number least most played.at at more.0 (length others) state left rest (places_of profile (at + 16 + length state) others) one.fits one.above one.below wide one.short more.1,
    )

-- ---- heads

-- how long a head is
pub length-head_bytes : (version : Version) (length_is mark width records : ℕ) → length (head_bytes version length_is mark width records) ≡ head_size version
length-head_bytes First length_is mark width records = refl
length-head_bytes Second length_is mark width records = refl

-- what it begins with is read
version_back : (version : Version) (rest : List ℕ) → version_at (record { at = 0; bytes = magic version ++ rest }) ≡ Ok (version, record { at = 8; bytes = rest })
unfolding version_at
version_back First rest = bind_is _ _ (magic First, record { at = 8; bytes = rest }) _ (field_back 8 (λ found. found) is_magic (magic First) (magic First) rest 0 refl refl refl) refl
version_back Second rest = bind_is _ _ (magic Second, record { at = 8; bytes = rest }) _ (field_back 8 (λ found. found) is_magic (magic Second) (magic Second) rest 0 refl refl refl) refl

-- and what follows that
rest_back : (version : Version) (length mark width records : ℕ) (text : List ℕ) → Tells version width → HasNumberBits width → length < 2 ^ 64 → mark < 2 ^ 64 → records < 2 ^ 32
    → head_after version (record { at = 8; bytes = little_bytes 8 length ++ (little_bytes 8 mark ++ (width_bytes version width ++ (little_bytes 4 records ++ (little_bytes 4 (records / spacing) ++ text)))) })
    ≡ Ok (record { version = version; length = length; mark = mark; width = width; records = records; count = records / spacing }, record { at = head_size version; bytes = text })
unfolding head_after
rest_back First length mark width records text tells fits long marked few =
    let count : ℕ = records / spacing in
    let fourth : List ℕ = little_bytes 4 count ++ text in
    let third : List ℕ = little_bytes 4 records ++ fourth in
    let second : List ℕ = little_bytes 8 mark ++ third in
    bind_is _ _ (length, record { at = 16; bytes = second }) _ (number_back 8 0 18446744073709551615 length 8 second (omega arith) (omega arith) (omega arith))
    (bind_is _ _ (mark, record { at = 24; bytes = third }) _ (number_back 8 0 18446744073709551615 mark 16 third (omega arith) (omega arith) (omega arith))
    (bind_is _ _ (records, record { at = 28; bytes = fourth }) _ (number_back 4 0 4294967295 records 24 fourth (omega arith) (omega arith) (omega arith))
    (bind_is _ _ (count, record { at = 32; bytes = text }) _ (number_back 4 count count count 28 text (omega arith) (omega arith) (omega arith))
    (ap (λ (width : ℕ). Ok (record { version = First; length = length; mark = mark; width = width; records = records; count = count }, record { at = 32; bytes = text })) (sym tells)))))
rest_back Second length mark width records text tells fits long marked few =
    let count : ℕ = records / spacing in
    let fifth : List ℕ = little_bytes 4 count ++ text in
    let fourth : List ℕ = little_bytes 4 records ++ fifth in
    let third : List ℕ = little_bytes 1 width ++ fourth in
    let second : List ℕ = little_bytes 8 mark ++ third in
    bind_is _ _ (length, record { at = 16; bytes = second }) _ (number_back 8 0 18446744073709551615 length 8 second (omega arith) (omega arith) (omega arith))
    (bind_is _ _ (mark, record { at = 24; bytes = third }) _ (number_back 8 0 18446744073709551615 mark 16 third (omega arith) (omega arith) (omega arith))
    (bind_is _ _ (width, record { at = 25; bytes = fourth }) _ (number_back 1 least_number_bits most_number_bits width 24 fourth (omega (arith, fits.1)) fits.0 fits.1)
    (bind_is _ _ (records, record { at = 29; bytes = fifth }) _ (number_back 4 0 4294967295 records 25 fifth (omega arith) (omega arith) (omega arith))
    (bind_is _ _ (count, record { at = 33; bytes = text }) _ (number_back 4 count count count 29 text (omega arith) (omega arith) (omega arith)) refl))))

-- so is the whole of it
head_back : (version : Version) (length mark width records : ℕ) (text : List ℕ) → Tells version width → HasNumberBits width → length < 2 ^ 64 → mark < 2 ^ 64 → records < 2 ^ 32
    → head_at (record { at = 0; bytes = head_bytes version length mark width records ++ text })
    ≡ Ok (record { version = version; length = length; mark = mark; width = width; records = records; count = records / spacing }, record { at = head_size version; bytes = text })
unfolding head_at
head_back First length mark width records text tells fits long marked few =
    let rest : List ℕ = little_bytes 8 length ++ (little_bytes 8 mark ++ (little_bytes 4 records ++ (little_bytes 4 (records / spacing) ++ text))) in
    bind_is _ _ (First, record { at = 8; bytes = rest }) _ (version_back First rest) (rest_back First length mark width records text tells fits long marked few)
head_back Second length mark width records text tells fits long marked few =
    let rest : List ℕ = little_bytes 8 length ++ (little_bytes 8 mark ++ (little_bytes 1 width ++ (little_bytes 4 records ++ (little_bytes 4 (records / spacing) ++ text)))) in
    bind_is _ _ (Second, record { at = 8; bytes = rest }) _ (version_back Second rest) (rest_back Second length mark width records text tells fits long marked few)

-- and after it the heads of the checkpoints
pub heads_back : (version : Version) (length mark width records end : ℕ) (text : List ℕ) (checkpoints : List Checkpoint) → Tells version width → HasNumberBits width → length < 2 ^ 64 → mark < 2 ^ 64
    → records < 2 ^ 32 → checkpoints_at (records / spacing) spacing 0 length (record { at = head_size version; bytes = text }) ≡ Ok (checkpoints, record { at = end; bytes = [] })
    → heads_at (head_bytes version length mark width records ++ text) ≡ Ok (record { length = length; mark = mark; width = width; records = records; checkpoints = checkpoints })
unfolding heads_at checkpoints_of
heads_back version length mark width records end text checkpoints tells fits long marked few more =
    let head : Head = record { version = version; length = length; mark = mark; width = width; records = records; count = records / spacing } in
    bind_is _ _ (head, record { at = head_size version; bytes = text }) _ (head_back version length mark width records text tells fits long marked few)
    (bind_is _ _ checkpoints _ (bind_is _ _ (checkpoints, record { at = end; bytes = [] }) _ more refl) refl)

-- ---- states

-- the state of one of the points is where its checkpoint says
pub record HasPoint (profile : Profile) (index : List ℕ) (checkpoints : List Checkpoint) (i : ℕ) (played : Played) : Type 0 where
  pub checkpoint : Checkpoint
  pub found : slice_get checkpoints i ≡ Some checkpoint
  pub place : checkpoint.place ≡ played.at
  pub state : take checkpoint.length (drop checkpoint.state index) ≡ state_of profile played

-- a text between others
between : (front text rest whole : List ℕ) (at : ℕ) → whole ≡ front ++ (text ++ rest) → length front ≡ at → take (length text) (drop at whole) ≡ text
between front text rest whole at is long = ap (λ bytes. take (length text) (drop at bytes)) is ∙ ap (take (length text)) (drop_at front (text ++ rest) at long) ∙ take_at text rest (length text) refl

-- what is taken there is the state's bytes
pub point_back : (profile : Profile) (points : List Played) (i at : ℕ) (front whole : List ℕ) (played : Played) → length front ≡ at → whole ≡ front ++ flat_map (checkpoint_bytes profile) points
    → slice_get points i ≡ Some played → HasPoint profile whole (places_of profile at points) i played
point_back profile [] i at front whole played long is found = absurd cc
point_back profile (one ∷ others) zero at front whole played long is found =
    let same : one ≡ played = cc in
    let left : List ℕ = flat_map (checkpoint_bytes profile) others in
    let bytes : whole ≡ (front ++ front_bytes profile one) ++ (state_of profile one ++ left) =
    is ∙ ap (λ bytes. front ++ bytes) (split profile one left) ∙ sym (append_assoc front (front_bytes profile one) (state_of profile one ++ left)) in
    subst (λ (played : Played). HasPoint profile whole (places_of profile at (one ∷ others)) zero played) same (record {
      checkpoint = record { place = one.at; state = at + 16; length = length (state_of profile one) };
      found = refl;
      place = refl;
      state = between (front ++ front_bytes profile one) (state_of profile one) left whole (at + 16) bytes (length-append front (front_bytes profile one) ∙ ap (λ n. n + 16) long);
    })
point_back profile (one ∷ others) (suc i) at front whole played long is found =
    let size : length (front ++ checkpoint_bytes profile one) ≡ at + 16 + length (state_of profile one) =
    omega (arith, length-append front (checkpoint_bytes profile one), length-checkpoint_bytes profile one) in
    let there = point_back profile others i (at + 16 + length (state_of profile one)) (front ++ checkpoint_bytes profile one) whole played size
    (is ∙ sym (append_assoc front (checkpoint_bytes profile one) (flat_map (checkpoint_bytes profile) others))) found in
    record { checkpoint = there.checkpoint; found = there.found; place = there.place; state = there.state }
