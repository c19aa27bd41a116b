-- What is asked of a file.
use Rattle.std.proofs.Common.{◌≡◌, ℕ, ◌+◌, ◌≤◌, List, length, drop, Option, Some, None, Result, Ok, Err, refl, sym, ap, subst, ◌∙◌, inl, inr, arith}
use Rattle.std.specs.Prelude.{◌≢◌, slice_index, slice_set}
use Rattle.std.proofs.lemmas.Bool.{cases_lt, cond_both}
use Rattle.std.proofs.lemmas.List.{get_or-set_same, get_or-set_other, get_or_past, length-set, length-drop}
use Rattle.q3_io.specs.declared.sink.Failed.{Failed}
use Rattle.q3_io.specs.Told.{Told, ReadsAt, GivesAll, contents_at, can_ask, with_asked, after_asked}
use Rattle.q3_demo.specs.declared.record.Piece.TheVariants as piece
use Rattle.q3_demo.specs.Records.{head_bytes, length_of, piece_of}
use Rattle.q3_demo.specs.Running.{OnlyAsks, AsksOf, asked_of}
use Rattle.q3_demo.specs.Playing.{Stepped, Played, step}
use Rattle.q3_demo.proofs.Pieces.{was_record}
use Rattle.q3_demo.proofs.Finding.{Found}
use Rattle.q3_demo.proofs.Going.{was_played}

-- ---- of one file alone

pub only_same : (told : Option Told) (file : ℕ) → AsksOf file told told
only_same told file = λ other is. refl

pub only_then : (before mid now : Option Told) (file : ℕ) → AsksOf file before mid → AsksOf file mid now → AsksOf file before now
only_then before mid now file first second = λ other is. second other is ∙ first other is

only_kept : (before now : Option Told) (file : ℕ) → now ≡ before → AsksOf file before now
only_kept before now file same = λ other is. ap (λ (t : Option Told). asked_of t other) same

others_stay : (asked : List ℕ) (file count other : ℕ) → other ≢ file → slice_index (with_asked asked file count) other ≡ slice_index asked other
others_stay asked file count other is =
    cond_both (can_ask asked file count) (slice_set asked file (slice_index asked file + count)) asked (λ (xs : List ℕ). slice_index xs other ≡ slice_index asked other)
    (λ e. get_or-set_other asked file other (slice_index asked file + count) 0 is) (λ e. refl)

asks_only : (told : Told) (now : Option Told) (file count : ℕ) → now ≡ Some (after_asked told file count) → AsksOf file (Some told) now
asks_only told now file count e = λ other is. ap (λ (t : Option Told). asked_of t other) e ∙ others_stay told.asked file count other is

-- a read asks of its file
pub read_only : (before now : Option Told) (file at : ℕ) (part part' : List ℕ) (result : Result ℕ Failed) → ReadsAt before now file at part part' result → AsksOf file before now
read_only None now file at part part' result reads = only_kept None now file reads
read_only (Some told) now file at part part' (Ok count) reads = asks_only told now file (length part) reads.0
read_only (Some told) now file at part part' (Err e) reads = asks_only told now file (length part) reads

-- ---- how much

set_here : (asked : List ℕ) (file more : ℕ) → slice_index asked file ≤ more → slice_index (slice_set asked file more) file ≤ more
set_here asked file more least =
    elim (cases_lt file (length asked)) [
      | inl inside ↦ omega (arith, get_or-set_same asked file more 0 inside)
      | inr past ↦ omega (arith, get_or_past (slice_set asked file more) file 0 (omega (arith, length-set asked file more)))
    ]

asked_more : (asked : List ℕ) (file count : ℕ) → slice_index (with_asked asked file count) file ≤ slice_index asked file + count
asked_more asked file count =
    cond_both (can_ask asked file count) (slice_set asked file (slice_index asked file + count)) asked (λ (xs : List ℕ). slice_index xs file ≤ slice_index asked file + count)
    (λ e. set_here asked file (slice_index asked file + count) (omega arith)) (λ e. omega arith)

asks_more : (told : Told) (now : Option Told) (file count : ℕ) → now ≡ Some (after_asked told file count) → asked_of now file ≤ asked_of (Some told) file + count
asks_more told now file count e =
    subst (λ (t : Option Told). asked_of t file ≤ slice_index told.asked file + count) (sym e) (asked_more told.asked file count)

-- a read asks for as much as there is room
read_costs : (before now : Option Told) (file at : ℕ) (part part' : List ℕ) (result : Result ℕ Failed) → ReadsAt before now file at part part' result
    → asked_of now file ≤ asked_of before file + length part
read_costs None now file at part part' result reads = subst (λ (t : Option Told). asked_of t file ≤ 0 + length part) (sym reads) (omega arith)
read_costs (Some told) now file at part part' (Ok count) reads = asks_more told now file (length part) reads.0
read_costs (Some told) now file at part part' (Err e) reads = asks_more told now file (length part) reads

-- where the file is told and has so many bytes from a place on, no more than these are asked for
abbrev pub Costs : Option Told → Option Told → ℕ → ℕ → ℕ → ℕ → Type 0
Costs before now file at there count = (told : Told) → before ≡ Some told → at + there ≤ length (contents_at told file) → asked_of now file ≤ asked_of before file + count

-- as much comes then as there is room
gives_room : (start now : Option Told) (told : Told) (file at room more : ℕ) → start ≡ Some told → OnlyAsks start now → GivesAll now file at room (Ok more)
    → at + room ≤ length (contents_at told file) → more ≡ room
gives_room None now told file at room more is asks gives there = absurd cc
gives_room (Some was) now told file at room more is asks gives there =
    let all : GivesAll (Some (record was { asked = asks.0 })) file at room (Ok more) = subst (λ (t : Option Told). GivesAll t file at room (Ok more)) asks.1 gives in
    let same : was ≡ told = cc in
    let long : length (contents_at was file) ≡ length (contents_at told file) = ap (λ (t : Told). length (contents_at t file)) same in
    omega (arith, all)

-- ---- until the buffer is full

-- where a read gives all, no more is asked for than came
pub turn_gives : (start now next : Option Told) (file at count room more : ℕ) (part part' : List ℕ) → OnlyAsks start now → Costs start now file at room count
    → ReadsAt now next file (at + count) part part' (Ok more) → GivesAll now file (at + count) (length part) (Ok more) → count + length part ≡ room
    → Costs start next file at room (count + more)
turn_gives start now next file at count room more part part' asks costs reads gives left = λ told is there.
    let full : more ≡ length part = gives_room start now told file (at + count) (length part) more is asks gives (omega (arith, there, left)) in
    omega (arith, costs told is there, read_costs now next file (at + count) part part' (Ok more) reads)

-- by other names of the place and the count
pub asked_so : (before now : Option Told) (file at at' count count' : ℕ) → at ≡ at' → count ≡ count' → Costs before now file at count count → Costs before now file at' count' count'
asked_so before now file at at' count count' place same costs = λ told is there. omega (arith, place, same, costs told is (omega (arith, place, same, there)))

-- ---- a record

-- after the first bytes the others are asked for
costs_then : (before mid now : Option Told) (file at first second : ℕ) → OnlyAsks before mid → Costs before mid file at first first → Costs mid now file (at + first) second second
    → Costs before now file at (first + second) (first + second)
costs_then None mid now file at first second asks one other = λ told is there. absurd cc
costs_then (Some was) mid now file at first second asks one other = λ told is there.
    let same : was ≡ told = cc in
    let long : length (contents_at was file) ≡ length (contents_at told file) = ap (λ (t : Told). length (contents_at t file)) same in
    omega (arith, one told is (omega (arith, there)), other (record was { asked = asks.0 }) asks.1 (omega (arith, there)))

-- where a record is there, its bytes alone are asked for
abbrev pub CostsRecord : Option Told → Option Told → ℕ → ℕ → ℕ → Type 0
CostsRecord before now file at last =
    (told : Told) → before ≡ Some told → (number size next : ℕ) → piece_of (drop at (contents_at told file)) at last ≡ Ok (piece.Message number size next)
    → asked_of now file ≤ asked_of before file + head_bytes + size

-- its head may be all
pub head_alone : (before now : Option Told) (file at last : ℕ) → Costs before now file at head_bytes head_bytes → CostsRecord before now file at last
head_alone before now file at last costs = λ told is number size next found.
    let bytes : List ℕ = drop at (contents_at told file) in
    let there : head_bytes + size ≤ length bytes = (was_record bytes at last number size next found).there in
    omega (arith, costs told is (omega (arith, there, length-drop at (contents_at told file))))

-- the head that was found is the record's
size_found : (before : Option Told) (told : Told) (file at last number length number' size next : ℕ) → before ≡ Some told → Found before file at number length
    → piece_of (drop at (contents_at told file)) at last ≡ Ok (piece.Message number' size next) → length ≡ size
size_found None told file at last number length number' size next is found e = absurd cc
size_found (Some was) told file at last number length number' size next is found e =
    let same : was ≡ told = cc in
    let bytes : found.bytes ≡ drop at (contents_at told file) = found.has ∙ ap (λ (t : Told). drop at (contents_at t file)) same in
    found.head.size_is ∙ ap length_of bytes ∙ sym (was_record (drop at (contents_at told file)) at last number' size next e).head.size_is

-- or its message too
pub head_and_message : (before mid now : Option Told) (file at last number size : ℕ) → Found before file at number size → OnlyAsks before mid
    → Costs before mid file at head_bytes head_bytes → Costs mid now file (at + head_bytes) size size → CostsRecord before now file at last
head_and_message before mid now file at last number size found asks one other = λ told is number' size' next there.
    let bytes : List ℕ = drop at (contents_at told file) in
    let same : size ≡ size' = size_found before told file at last number size number' size' next is found there in
    let long : head_bytes + size' ≤ length bytes = (was_record bytes at last number' size' next there).there in
    omega (arith, costs_then before mid now file at head_bytes size asks one other told is (omega (arith, long, same, length-drop at (contents_at told file))))

-- ---- a step

-- no more bytes are asked for than a step goes on
abbrev pub CostsStep : Option Told → Option Told → ℕ → Played → Type 0
CostsStep before now file played =
    (told : Told) → before ≡ Some told → (stepped : Stepped) → step (contents_at told file) played ≡ Ok (Some stepped)
    → asked_of now file + played.at ≤ asked_of before file + stepped.played.at

-- which is a record
pub costs_step : (before now : Option Told) (file : ℕ) (played : Played) → CostsRecord before now file played.at played.last → CostsStep before now file played
costs_step before now file played costs told is stepped steps =
    let was = was_played (contents_at told file) played stepped steps in
    let had = was_record (drop played.at (contents_at told file)) played.at played.last was.number was.size was.next was.found in
    let place : was.next ≡ stepped.played.at = ap (λ (s : Stepped). s.played.at) was.stepped_is in
    omega (arith, costs told is was.number was.size was.next was.found, had.next_is, place)
