-- A list that is read is skipped to the same place.
use Rattle.std.proofs.Common.{◌≡◌, ◌==◌, ℕ, zero, suc, ◌+◌, Bool, if◌then◌else◌, List, [], length, replicate, Ok, refl, sym, ap, ◌∙◌, inl, inr}
use Rattle.q3_bits.specs.ResultBind.{left_of}
use Rattle.q3_bits.proofs.Binds.{bind_ok, left_ok, bind_alike, bind_after, if_alike, map_err_alike}
use Rattle.q3_bits.specs.Words.{field_at}
use Rattle.q3_fields.specs.declared.delta.StateKind.TheVariants.{Entity}
use Rattle.q3_fields.specs.Kinds.{Layout, IsTable, end_mark}
use Rattle.q3_fields.specs.Deltas.{words_at}
use Rattle.q3_fields.specs.Laws.{WordsEndAlike}
use Rattle.q3_entity.specs.declared.state.EntityState.{EntityState}
use Rattle.q3_entity.specs.declared.reading.Entry.TheVariants.{Removed, Changed, Same}
use Rattle.q3_entity.specs.Entities.{AreStates, with_number}
use Rattle.q3_entity.specs.Baselines.{Baselines, AreBaselines}
use Rattle.q3_entity.specs.Delta.{entity_error, bits_read, words_read, delta_at, present_at, entity_at}
use Rattle.q3_entity.specs.Lists.{number_at, words_from, numbers_at, entity_list_at, numbers_skipped, list_skipped}
use Rattle.q3_entity.specs.Laws.{ZeroIsNormal, ReadIsSkipped}
use Rattle.q3_entity.proofs.ListSpelled.{from_words}
use Rattle.q3_entity.proofs.Steps.{number_step}

-- what follows a number ends at the same place, whatever words it changed from
delta_alike : WordsEndAlike → (words : List (List Bool)) (table : Layout) (from other : List ℕ) (bits : List Bool) → length from ≡ length other
    → left_of (delta_at words table from bits) ≡ left_of (delta_at words table other bits)
delta_alike law words table from other bits long =
    bind_alike (words_read (words_at Entity words table.kinds from bits)) (words_read (words_at Entity words table.kinds other bits)) (λ read. Ok ((Changed, read.0), read.1))
    (λ read. Ok ((Changed, read.0), read.1))
    (map_err_alike entity_error (words_at Entity words table.kinds from bits) (words_at Entity words table.kinds other bits) (law Entity words table.kinds from other bits long))
    (λ p q rest. refl)

present_alike : WordsEndAlike → (words : List (List Bool)) (table : Layout) (from other : List ℕ) (bits : List Bool) → length from ≡ length other
    → left_of (present_at words table from bits) ≡ left_of (present_at words table other bits)
present_alike law words table from other bits long =
    bind_after (bits_read (field_at words 1 bits)) (λ changed. if changed.0 == 0 then Ok ((Same, from), changed.1) else delta_at words table from changed.1)
    (λ changed. if changed.0 == 0 then Ok ((Same, other), changed.1) else delta_at words table other changed.1)
    (λ changed.
    if_alike (changed.0 == 0) (Ok ((Same, from), changed.1)) (delta_at words table from changed.1) (Ok ((Same, other), changed.1)) (delta_at words table other changed.1) refl
    (delta_alike law words table from other changed.1 long))

entity_alike : WordsEndAlike → (words : List (List Bool)) (table : Layout) (from other : List ℕ) (bits : List Bool) → length from ≡ length other
    → left_of (entity_at words table from bits) ≡ left_of (entity_at words table other bits)
unfolding entity_at
entity_alike law words table from other bits long =
    bind_after (bits_read (field_at words 1 bits)) (λ removed. if removed.0 == 0 then present_at words table from removed.1 else Ok ((Removed, from), removed.1))
    (λ removed. if removed.0 == 0 then present_at words table other removed.1 else Ok ((Removed, other), removed.1))
    (λ removed.
    if_alike (removed.0 == 0) (present_at words table from removed.1) (Ok ((Removed, from), removed.1)) (present_at words table other removed.1) (Ok ((Removed, other), removed.1))
    (present_alike law words table from other removed.1 long) refl)

-- the numbers of a list that is read
numbers_end : WordsEndAlike → ZeroIsNormal → (words : List (List Bool)) (table : Layout) (baselines : Baselines) (base : List EntityState) → IsTable table → AreBaselines table baselines → AreStates base
    → (left number next : ℕ) (entities : List EntityState) (bits : List Bool) (found : List EntityState × List Bool)
    → numbers_at words table baselines base left number next entities bits ≡ Ok found → numbers_skipped words table left number next bits ≡ Ok (tt, found.1)
unfolding numbers_at numbers_skipped
numbers_end alike law words table baselines base is_table are states zero number next entities bits found e =
    let same : (entities, bits) ≡ found = cc in
    ap (λ (y : List EntityState × List Bool). Ok (tt, y.1)) same
numbers_end alike law words table baselines base is_table are states (suc left) number next entities bits found e =
    elim (number_step words table baselines base left number next entities bits found e) [
      | inl r ↦
          let from = words_from baselines number (with_number number base) in
          let same = entity_alike alike words table from (replicate 64 0) bits (from_words table baselines base number law is_table are states).are.count in
          let end = left_ok (entity_at words table (replicate 64 0) bits) r.entry.1 (sym same ∙ ap left_of r.entry_is) in
          rw (r.here, end.1, r.more_is) (numbers_end alike law words table baselines base is_table are states left (number + 1) r.more.0 r.now r.more.1 found r.others)
      | inr r ↦ rw r.there (numbers_end alike law words table baselines base is_table are states left (number + 1) next r.kept bits found r.others)
    ]

-- a list that is read is skipped to the same place
pub list_is_skipped : WordsEndAlike → ZeroIsNormal → ReadIsSkipped
unfolding entity_list_at list_skipped
list_is_skipped alike law words table baselines base now bits rest is_table are states e =
    let first = bind_ok (number_at words table 0 bits) (λ first. numbers_at words table baselines base (end_mark table) 0 first.0 [] first.1) (now, rest) e in
    rw first.1 (numbers_end alike law words table baselines base is_table are states (end_mark table) 0 first.0.0 [] first.0.1 (now, rest) first.2)
