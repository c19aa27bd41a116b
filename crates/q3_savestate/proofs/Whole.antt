-- Whole states: what was written is read, and what is read was written so.
use Rattle.std.proofs.Common.{◌≡◌, ℕ, ◌^◌, ◌<◌, ◌≤◌, ◌==◌, Bool, true, false, if◌then◌else◌, List, [], ◌∷◌, length, Ok, Err, inl, inr, refl, sym, ap, subst, arith}
use Rattle.std.specs.Prelude.{Option, not}
use Rattle.std.specs.List.{concat}
use Rattle.std.proofs.Math.Nat.{pow-le-pow_right}
use Rattle.std.proofs.lemmas.Bool.{cases_eq, eq-eqb, eqb-true}
use Rattle.std.proofs.lemmas.List.{nil_from_length}
use Rattle.byteorder.specs.Endian.{little_bytes}
use Rattle.q3_bits.specs.ResultBind.{◌>>=◌}
use Rattle.q3_bits.proofs.Binds.{bind_ok}
use Rattle.q3_text.specs.Texts.{IsText, most_bytes}
use Rattle.q3_fields.specs.Kinds.{Layout, end_mark, most_number_bits}
use Rattle.q3_entity.specs.Baselines.{Baselines, AreBaselines, most_baselines}
use Rattle.q3_config.specs.Strings.{Pending}
use Rattle.q3_rings.specs.Rings.{HeldSnapshots}
use Rattle.q3_rings.specs.Laws.{SnapshotsStay}
use Rattle.q3_profile.specs.declared.profile.Profile.{Profile}
use Rattle.q3_profile.specs.Profile.{IsCodec}
use Rattle.q3_savestate.specs.Cursor.{end_at}
use Rattle.q3_savestate.specs.Snapshots.{last_number}
use Rattle.q3_savestate.specs.State.{Saved, Start, flag_bytes, state_bytes, start_at, flag_at, whole_at, state_at}
use Rattle.q3_savestate.specs.Standing.{IsSaved, AreWellHeld}
use Rattle.q3_savestate.specs.Laws.{WrittenIsRead, ReadIsWritten}
use Rattle.q3_savestate.proofs.Rows.{ReadsBack, back_then, back_last, back_end, ReadsAllBack, all_back_then, WasRead, were_then, were_last, were_end, were_row, HasReadAll, all_were_then}
use Rattle.q3_savestate.proofs.PartsRead.{MayPend, MayBeStrings, number_read, number_was_read, text_read, text_was_read, pending_read, pending_was_read, strings_read, strings_were_read, baselines_read, baselines_were_read}
use Rattle.q3_savestate.proofs.SnapshotsBack.{snapshots_read}
use Rattle.q3_savestate.proofs.SnapshotsWere.{snapshots_were_read}
use Rattle.q3_config.specs.Laws.{SizesAddUp}
use Rattle.q3_entity.specs.Laws.{NoneAreBaselines, BaselineIsAdded}

-- ---- what stands in front

-- numbers and the last command's text
abbrev start_text : Start → List ℕ
start_text start =
    concat (little_bytes 4 start.number ∷ little_bytes 4 start.id ∷ little_bytes 4 start.slot ∷ little_bytes 4 start.feed
    ∷ little_bytes 4 start.executed.executed ∷ little_bytes 2 (length start.executed.last) ∷ start.executed.last ∷ [])

-- numbers in their ranges, and a text
record IsStart (start : Start) : Type 0 where
  number : start.number < 2 ^ 31
  id : start.id < 2 ^ 31
  slot : start.slot < 2 ^ 32
  feed : start.feed < 2 ^ 32
  executed : start.executed.executed < 2 ^ 32
  last : IsText start.executed.last

-- they are read
start_read : (start : Start) → IsStart start → ReadsBack start_at (start_text start) start
unfolding start_at
start_read start is =
    let short = is.last.short in
    let number = is.number in
    let id = is.id in
    let slot = is.slot in
    let feed = is.feed in
    let executed = is.executed in
    back_then _ (number_read 4 0 last_number start.number (omega arith) (omega arith) (omega arith))
    (back_then _ (number_read 4 0 2147483647 start.id (omega arith) (omega arith) (omega arith))
    (back_then _ (number_read 4 0 4294967295 start.slot (omega arith) (omega arith) (omega arith))
    (back_then _ (number_read 4 0 4294967295 start.feed (omega arith) (omega arith) (omega arith))
    (back_then _ (number_read 4 0 4294967295 start.executed.executed (omega arith) (omega arith) (omega arith))
    (back_then _ (number_read 2 0 most_bytes (length start.executed.last) (omega arith) (omega arith) short)
    (back_then _ (text_read start.executed.last is.last.each) (back_end start)))))))

-- and what is read is so
start_was_read : WasRead start_at start_text IsStart
unfolding start_at
start_was_read = were_row start_text IsStart
    (were_then _ (number_was_read 4 0 last_number) (λ number first.
    were_then _ (number_was_read 4 0 2147483647) (λ id second.
    were_then _ (number_was_read 4 0 4294967295) (λ slot third.
    were_then _ (number_was_read 4 0 4294967295) (λ feed fourth.
    were_then _ (number_was_read 4 0 4294967295) (λ command fifth.
    were_then _ (number_was_read 2 0 most_bytes) (λ count sixth.
    were_then _ (text_was_read count) (λ last is.
    let top = first.below in
    let below = second.below in
    let short = sixth.below in
    were_end (record { number = number; id = id; slot = slot; feed = feed; executed = record { executed = command; last = last } }) (
      record {
        number = omega arith;
        id = omega arith;
        slot = third.fits;
        feed = fourth.fits;
        executed = fifth.fits;
        last = record { short = omega (arith, is.0); each = is.1 };
      },
      ap (λ (count : ℕ).
          concat (little_bytes 4 number ∷ little_bytes 4 id ∷ little_bytes 4 slot ∷ little_bytes 4 feed ∷ little_bytes 4 command ∷ little_bytes 2 count ∷ last ∷ [])) (sym is.0),
    )))))))))

-- ---- a flag

-- a flag is read
flag_read : (flag : Bool) → ReadsBack flag_at (flag_bytes flag) flag
flag_read true = back_last (λ (number : ℕ). not (number == 0)) (number_read 1 0 1 1 (omega arith) (omega arith) (omega arith))
flag_read false = back_last (λ (number : ℕ). not (number == 0)) (number_read 1 0 1 0 (omega arith) (omega arith) (omega arith))

-- a number of 0 or 1 is that of its flag
of_flag : (number : ℕ) → number ≤ 1 → little_bytes 1 number ≡ flag_bytes (not (number == 0))
of_flag number few = elim (cases_eq number 0) [
  | inl none ↦ subst (λ number. little_bytes 1 number ≡ flag_bytes (not (number == 0))) (sym none) refl
  | inr some ↦ let one : 1 ≡ number = omega arith in subst (λ number. little_bytes 1 number ≡ flag_bytes (not (number == 0))) one refl
]

-- and what is read is one
flag_was_read : WasRead flag_at flag_bytes (λ flag. Unit {0})
flag_was_read = were_row flag_bytes (λ flag. Unit {0}) (were_last (λ (number : ℕ). not (number == 0)) (number_was_read 1 0 1) (λ number is. (tt, of_flag number is.below)))

-- ---- the end

-- nothing is left
end_read : (saved : Saved) → ReadsAllBack (λ cursor. end_at cursor >>= λ none. Ok saved) [] saved
end_read saved = record { from = λ cursor is. let none : (length cursor.bytes == 0) ≡ true = eq-eqb (length cursor.bytes) 0 (ap length is) in rw none refl }

-- where the end is there, its test passed
ends : (test : Bool) (at : ℕ) (none : Unit {0}) → (if test then Ok tt else Err at) ≡ Ok none → test ≡ true
ends true at none is = refl
ends false at none is = absurd cc

-- so what is read to its end is the whole text
end_was_read : {Q : Saved → List ℕ → Type 0} (saved : Saved) → Q saved [] → HasReadAll (λ cursor. end_at cursor >>= λ none. Ok saved) Q
end_was_read {Q = Q} saved holds = record {
  has = λ cursor all bytes is.
      let step = bind_ok (end_at cursor) (λ none. Ok saved) all is in
      let none : cursor.bytes ≡ [] = nil_from_length cursor.bytes (eqb-true (length cursor.bytes) 0 (ends (length cursor.bytes == 0) cursor.at step.0 step.1)) in
      let same : saved ≡ all = cc in
      subst (λ (all : Saved). Q all cursor.bytes) same (subst (Q saved) (sym none) holds);
}

-- ---- the whole

-- what stands in front of a state
abbrev start_of : Saved → Start
start_of saved = record { number = saved.number; id = saved.id; slot = saved.slot; feed = saved.feed; executed = saved.executed }

-- of a state that is well formed it is in range
is_start : (profile : Profile) (saved : Saved) → IsSaved profile saved → IsStart (start_of saved)
is_start profile saved is = record { number = is.number; id = is.id; slot = is.slot; feed = is.feed; executed = is.executed; last = is.last }

-- it is read
whole_read : (profile : Profile) (saved : Saved) → IsCodec profile → IsSaved profile saved → ReadsAllBack (whole_at profile) (state_bytes profile saved) saved
whole_read profile saved codec is =
    all_back_then _ (start_read (start_of saved) (is_start profile saved is))
    (all_back_then _ (pending_read saved.strings.pending (record { fits = is.strings.pending; each = is.texts.pending }))
    (all_back_then _ (flag_read saved.has_game)
    (all_back_then _ (strings_read saved.strings is.strings is.texts)
    (all_back_then _ (baselines_read profile.entity saved.baselines codec.entity is.baselines)
    (all_back_then _ (snapshots_read profile saved.held codec is.held) (end_read saved))))))

-- what was written is read
pub written_is_read : WrittenIsRead
unfolding state_at
written_is_read profile saved codec room is =
    (whole_read profile saved codec is).from (record { at = 0; bytes = state_bytes profile saved }) refl

-- the end mark of entities with so few bits
few_baselines : (table : Layout) → table.number_bits ≤ most_number_bits → end_mark table ≤ most_baselines
few_baselines table few =
    let most : 2 ^ table.number_bits ≤ 2 ^ most_number_bits = pow-le-pow_right {n = 2} (omega arith) {i = table.number_bits} {j = most_number_bits} few in
    omega arith

-- the parts make a state
is_saved : (profile : Profile) (start : Start) (pending : Option Pending) (has_game : Bool) (texts : List (List ℕ)) (baselines : Baselines) (held : HeldSnapshots) → IsStart start → MayPend pending
    → MayBeStrings texts → AreBaselines profile.entity baselines → AreWellHeld profile held → IsSaved profile (record {
      number = start.number;
      executed = start.executed;
      has_game = has_game;
      id = start.id;
      slot = start.slot;
      feed = start.feed;
      strings = record { texts = texts; pending = pending };
      baselines = baselines;
      held = held;
    })
is_saved profile start pending has_game texts baselines held first second third fourth fifth = record {
  number = first.number;
  executed = first.executed;
  last = first.last;
  id = first.id;
  slot = first.slot;
  feed = first.feed;
  strings = record { count = third.count; size = third.size; each = third.short; pending = second.fits };
  texts = record { each = third.each; pending = second.each };
  baselines = fourth;
  held = fifth;
}

-- a state and its text
abbrev IsWritten : Profile → Saved → List ℕ → Type 0
IsWritten profile saved text = IsSaved profile saved × (text ≡ state_bytes profile saved)

-- and what is read is one, and its text
whole_was_read : (adds : BaselineIsAdded) (bare : NoneAreBaselines) (sizes : SizesAddUp) (profile : Profile) → SnapshotsStay → IsCodec profile → 512 ≤ profile.parse_ring → profile.entity.number_bits ≤ most_number_bits
    → HasReadAll (whole_at profile) (IsWritten profile)
whole_was_read adds bare sizes profile stay codec room few =
    all_were_then _ start_was_read (λ start first.
    all_were_then _ pending_was_read (λ pending second.
    all_were_then _ flag_was_read (λ has_game any.
    all_were_then _ (strings_were_read sizes) (λ texts third.
    all_were_then _ (baselines_were_read adds bare profile.entity codec.entity (few_baselines profile.entity few)) (λ baselines fourth.
    all_were_then _ (snapshots_were_read profile codec stay room) (λ held fifth.
    end_was_read _ (is_saved profile start pending has_game texts baselines held first second third fourth fifth, refl)))))))

-- what is read was written so
pub read_is_written : (adds : BaselineIsAdded) (bare : NoneAreBaselines) (sizes : SizesAddUp) → SnapshotsStay → ReadIsWritten
unfolding state_at
read_is_written adds bare sizes stay profile bytes saved codec room each e =
    (whole_was_read adds bare sizes profile stay codec room codec.numbers.1).has (record { at = 0; bytes = bytes }) saved each e
