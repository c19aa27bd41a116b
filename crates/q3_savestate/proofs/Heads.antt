-- Heads of snapshots, and the states of players.
use Rattle.std.proofs.Common.{◌≡◌, ℕ, zero, suc, ◌-◌, ◌*◌, ◌^◌, ◌<◌, ◌≤◌, List, [], ◌∷◌, ◌++◌, length, map, refl, sym, ap, subst, ◌∙◌, arith}
use Rattle.std.specs.Prelude.{All, ℤ}
use Rattle.std.specs.Int.{w16, cast_unsigned, cast_signed}
use Rattle.std.specs.List.{flat_map, concat}
use Rattle.std.proofs.lemmas.Int.{ints, of_z-to_z}
use Rattle.std.proofs.lemmas.List.{length-map}
use Rattle.std.proofs.lemmas.List.Elements.{All-nil, All-cons, All-head, All-tail, All-map, All-weaker}
use Rattle.byteorder.specs.Endian.{little_bytes}
use Rattle.q3_fields.specs.Kinds.{AreKinds}
use Rattle.q3_fields.specs.States.{AreWords}
use Rattle.q3_player.specs.declared.state.PlayerState.{PlayerState}
use Rattle.q3_player.specs.declared.head.SnapHead.{SnapHead}
use Rattle.q3_player.specs.State.{IsShort, AreShorts, IsState, IsNormal}
use Rattle.q3_profile.specs.declared.profile.Profile.{Profile}
use Rattle.q3_savestate.specs.Snapshots.{shorts_bytes, player_bytes, head_bytes, numbers_at, shorts_at, player_at, head_at}
use Rattle.q3_savestate.proofs.Rows.{IsByte, ReadsBack, back_then, back_last, back_end, WasRead, were_then, were_last, were_end, were_row}
use Rattle.q3_savestate.proofs.PartsRead.{bytes_read, bytes_were_read, number_read, number_was_read, words_read, words_were_read}

-- ---- numbers

-- the most that so many bytes hold
abbrev highest : ℕ → ℕ
highest bytes = 2 ^ (8 * bytes) - 1

-- a number of so many bytes is at most that
at_most : (bytes n : ℕ) → bytes ≤ 4 → n < 256 ^ bytes → n ≤ highest bytes
at_most zero n few fits = omega arith
at_most (suc zero) n few fits = omega arith
at_most (suc (suc zero)) n few fits = omega arith
at_most (suc (suc (suc zero))) n few fits = omega arith
at_most (suc (suc (suc (suc zero)))) n few fits = omega arith
at_most (suc (suc (suc (suc (suc bytes))))) n few fits = absurd (omega arith)

-- numbers one after another
pub numbers_read : (bytes count : ℕ) (numbers : List ℕ) → bytes ≤ 4 → length numbers ≡ count → All (λ n. n < 256 ^ bytes) numbers
    → ReadsBack (numbers_at bytes count) (flat_map (little_bytes bytes) numbers) numbers
unfolding numbers_at
numbers_read bytes zero [] few long fit = back_end []
numbers_read bytes (suc count) [] few long fit = absurd (omega arith)
numbers_read bytes zero (n ∷ numbers) few long fit = absurd (omega arith)
numbers_read bytes (suc count) (n ∷ numbers) few long fit =
    let below = All-head (λ n. n < 256 ^ bytes) n numbers fit in
    back_then _ (number_read bytes 0 (highest bytes) n below (omega arith) (at_most bytes n few below))
    (back_last (λ others. n ∷ others) (numbers_read bytes count numbers few (omega arith) (All-tail (λ n. n < 256 ^ bytes) n numbers fit)))

-- so many are read, of so many bytes each
pub numbers_were_read : (bytes count : ℕ) → WasRead (numbers_at bytes count) (flat_map (little_bytes bytes)) (λ numbers. (length numbers ≡ count) × All (λ n. n < 256 ^ bytes) numbers)
unfolding numbers_at
numbers_were_read bytes zero = were_row (flat_map (little_bytes bytes)) (λ numbers. (length numbers ≡ 0) × All (λ n. n < 256 ^ bytes) numbers)
    (were_end [] ((refl, All-nil (λ n. n < 256 ^ bytes)), refl))
numbers_were_read bytes (suc count) = were_row (flat_map (little_bytes bytes)) (λ numbers. (length numbers ≡ suc count) × All (λ n. n < 256 ^ bytes) numbers)
    (were_then _ (number_was_read bytes 0 (highest bytes)) (λ n fits.
    were_last (λ others. n ∷ others) (numbers_were_read bytes count) (λ numbers are.
    ((ap suc are.0, All-cons (λ n. n < 256 ^ bytes) n numbers fits.fits are.1), refl))))

-- ---- signed values

-- values as the numbers of their patterns
patterns_text : (values : List ℤ) → shorts_bytes values ≡ flat_map (little_bytes 2) (map (cast_unsigned w16) values)
patterns_text [] = refl
patterns_text (value ∷ values) = ap (λ text. little_bytes 2 (cast_unsigned w16 value) ++ text) (patterns_text values)

-- a signed value of 16 bits is that of its pattern, which has 16 bits
short_back : (value : ℤ) → IsShort value → cast_signed w16 (cast_unsigned w16 value) ≡ value
short_back value is = omega (arith, ints)

-- and the pattern has 16 bits
pattern_fits : (value : ℤ) → IsShort value → cast_unsigned w16 value < 256 ^ 2
pattern_fits value is = omega (arith, ints)

-- so are all of them
shorts_back : (values : List ℤ) → All IsShort values → map (cast_signed w16) (map (cast_unsigned w16) values) ≡ values
shorts_back [] are = refl
shorts_back (value ∷ values) are =
    let rest = shorts_back values (All-tail IsShort value values are) in
    let first = short_back value (All-head IsShort value values are) in
    cc

-- and all patterns have 16 bits
patterns_fit : (values : List ℤ) → All IsShort values → All (λ n. n < 256 ^ 2) (map (cast_unsigned w16) values)
patterns_fit values are = All-map (λ n. n < 256 ^ 2) (cast_unsigned w16) values (All-weaker IsShort (λ value. cast_unsigned w16 value < 256 ^ 2) pattern_fits values are)

-- a number of 16 bits is the pattern of its signed value, which has 16 bits
number_is_short : (n : ℕ) → n < 256 ^ 2 → IsShort (cast_signed w16 n)
number_is_short n fits = (omega (arith, ints), omega (arith, ints))

-- so are all of them
patterns_back : (numbers : List ℕ) → All (λ n. n < 256 ^ 2) numbers → map (cast_unsigned w16) (map (cast_signed w16) numbers) ≡ numbers
patterns_back [] fit = refl
patterns_back (n ∷ numbers) fit =
    let rest = patterns_back numbers (All-tail (λ n. n < 256 ^ 2) n numbers fit) in
    let first = of_z-to_z w16 n (All-head (λ n. n < 256 ^ 2) n numbers fit) in
    cc

-- and all of these are signed values of 16 bits
numbers_are_shorts : (numbers : List ℕ) → All (λ n. n < 256 ^ 2) numbers → All IsShort (map (cast_signed w16) numbers)
numbers_are_shorts numbers fit = All-map IsShort (cast_signed w16) numbers (All-weaker (λ n. n < 256 ^ 2) (λ n. IsShort (cast_signed w16 n)) number_is_short numbers fit)

-- 16 of them
pub shorts_read : (values : List ℤ) → AreShorts values → ReadsBack shorts_at (shorts_bytes values) values
shorts_read values are =
    let numbers : List ℕ = map (cast_unsigned w16) values in
    let read : ReadsBack shorts_at (flat_map (little_bytes 2) numbers) (map (cast_signed w16) numbers) =
    back_last (λ numbers. map (cast_signed w16) numbers)
    (numbers_read 2 16 numbers (omega arith) (length-map values (cast_unsigned w16) ∙ are.count) (patterns_fit values are.each)) in
    subst (λ text. ReadsBack shorts_at text values) (sym (patterns_text values))
    (subst (ReadsBack shorts_at (flat_map (little_bytes 2) numbers)) (shorts_back values are.each) read)

-- 16 are read
pub shorts_were_read : WasRead shorts_at shorts_bytes AreShorts
shorts_were_read = were_row shorts_bytes AreShorts (were_last (λ numbers. map (cast_signed w16) numbers) (numbers_were_read 2 16) (λ numbers are. (
  record { count = length-map numbers (cast_signed w16) ∙ are.0; each = numbers_are_shorts numbers are.1 },
  sym (patterns_text (map (cast_signed w16) numbers) ∙ ap (flat_map (little_bytes 2)) (patterns_back numbers are.1)),
)))

-- ---- players

-- 16 words
powerups_read : (words : List ℕ) → AreWords 16 words → ReadsBack (numbers_at 4 16) (flat_map (little_bytes 4) words) words
powerups_read words are = numbers_read 4 16 words (omega arith) are.count are.each

-- a state in normal form is read
pub player_read : (profile : Profile) (player : PlayerState) → AreKinds profile.player.kinds → IsState player → IsNormal profile.player.kinds player
    → ReadsBack (player_at profile) (player_bytes profile player) player
unfolding player_at
player_read profile player are is normal =
    back_then _ (words_read profile.player.kinds player.words are is.words (ap (λ (player : PlayerState). player.words) normal))
    (back_then _ (shorts_read player.stats is.stats)
    (back_then _ (shorts_read player.persistant is.persistant)
    (back_then _ (shorts_read player.ammo is.ammo)
    (back_then _ (powerups_read player.powerups is.powerups) (back_end player)))))

-- what a player's state is
abbrev pub IsPlayer : Profile → PlayerState → Type 0
IsPlayer profile player = IsState player × IsNormal profile.player.kinds player

-- and what is read is one
pub player_was_read : (profile : Profile) → AreKinds profile.player.kinds → WasRead (player_at profile) (player_bytes profile) (IsPlayer profile)
unfolding player_at
player_was_read profile are = were_row (player_bytes profile) (IsPlayer profile)
    (were_then _ (words_were_read profile.player.kinds are) (λ words state.
    were_then _ shorts_were_read (λ stats first.
    were_then _ shorts_were_read (λ persistant second.
    were_then _ shorts_were_read (λ ammo third.
    were_then _ (numbers_were_read 4 16) (λ powerups last.
    were_end (record { words = words; stats = stats; persistant = persistant; ammo = ammo; powerups = powerups }) (
      (
        record { words = state.0; stats = first; persistant = second; ammo = third; powerups = record { count = last.0; each = last.1 } },
        ap (λ (words : List ℕ). record { words = words; stats = stats; persistant = persistant; ammo = ammo; powerups = powerups }) state.1,
      ),
      refl,
    )))))))

-- ---- heads

-- what a head is, but for its number
pub record IsHead (profile : Profile) (head : SnapHead) : Type 0 where
  pub time : head.time < 2 ^ 32
  pub flags : head.flags < 256
  pub area : All IsByte head.area.items
  pub short : length head.area.items ≤ 32
  pub player : IsPlayer profile head.player

-- a head is read under its number
pub head_read : (profile : Profile) (head : SnapHead) → AreKinds profile.player.kinds → IsHead profile head
    → ReadsBack (head_at profile head.number) (head_bytes profile head) head
unfolding head_at
head_read profile head are is =
    back_then _ (number_read 4 0 4294967295 head.time is.time (omega arith) (let below = is.time in omega arith))
    (back_then _ (number_read 1 0 255 head.flags is.flags (omega arith) (let below = is.flags in omega arith))
    (back_then _ (number_read 1 0 32 (length head.area.items) (let short = is.short in omega arith) (omega arith) is.short)
    (back_then _ (bytes_read (length head.area.items) head.area.items refl)
    (back_then _ (player_read profile head.player are is.player.0 is.player.1) (back_end head)))))

-- and what is read is a head under it
pub head_was_read : (profile : Profile) (number : ℕ) → AreKinds profile.player.kinds
    → WasRead (head_at profile number) (head_bytes profile) (λ head. IsHead profile head × (head.number ≡ number))
unfolding head_at
head_was_read profile number are = were_row (head_bytes profile) (λ head. IsHead profile head × (head.number ≡ number))
    (were_then _ (number_was_read 4 0 4294967295) (λ time first.
    were_then _ (number_was_read 1 0 255) (λ flags second.
    were_then _ (number_was_read 1 0 32) (λ count third.
    were_then _ (bytes_were_read count) (λ area fourth.
    were_then _ (player_was_read profile are) (λ player is.
    were_end (record { number = number; time = time; flags = flags; area = record { items = area }; player = player }) (
      (record { time = first.fits; flags = second.fits; area = fourth.1; short = omega (arith, fourth.0, third.below); player = is }, refl),
      ap (λ (count : ℕ). concat (little_bytes 4 time ∷ little_bytes 1 flags ∷ little_bytes 1 count ∷ area ∷ player_bytes profile player ∷ [])) (sym fourth.0),
    )))))))
