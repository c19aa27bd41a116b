-- What is asked of files grows, and nothing else changes.
use Rattle.std.proofs.Common.{◌≡◌, ◌≢◌, ℕ, ◌+◌, List, length, Option, Some, None, Result, Ok, Err, refl, ap, subst, ◌∙◌}
use Rattle.std.specs.Prelude.{slice_index, slice_set}
use Rattle.std.proofs.lemmas.Bool.{cond_both}
use Rattle.std.proofs.lemmas.List.{get_or-set_other}
use Rattle.q3_io.specs.declared.sink.Failed.{Failed}
use Rattle.q3_io.specs.Told.{Told, Measures, ReadsAt, can_ask, with_asked, after_asked}
use Rattle.q3_demo.specs.Running.{OnlyAsks, AsksOf, asked_of}
use Rattle.q3_index.specs.Running.{AsksOfTwo}

pub asks_same : (told : Option Told) → OnlyAsks told told
asks_same None = refl
asks_same (Some told) = (told.asked, refl)

pub asks_then : (before mid now : Option Told) → OnlyAsks before mid → OnlyAsks mid now → OnlyAsks before now
asks_then None mid now first second = subst (λ (told : Option Told). OnlyAsks told now) first second
asks_then (Some told) mid now first second =
    let all : OnlyAsks (Some (record told { asked = first.0 })) now = subst (λ (was : Option Told). OnlyAsks was now) first.1 second in
    (all.0, all.1)

-- a size is told
pub size_asks : (before now : Option Told) (file : ℕ) (result : Result ℕ Failed) → Measures before now file result → OnlyAsks before now
size_asks None now file result measures = measures
size_asks (Some told) now file (Ok size) measures = (told.asked, measures.0)
size_asks (Some told) now file (Err e) measures = (told.asked, measures)

-- and nothing is asked for
pub size_asked : (before now : Option Told) (file other : ℕ) (result : Result ℕ Failed) → Measures before now file result → asked_of now other ≡ asked_of before other
size_asked None now file other result measures = ap (λ (t : Option Told). asked_of t other) measures
size_asked (Some told) now file other (Ok size) measures = ap (λ (t : Option Told). asked_of t other) measures.0
size_asked (Some told) now file other (Err e) measures = ap (λ (t : Option Told). asked_of t other) measures

-- ---- of one file alone

pub only_same : (file : ℕ) (told : Option Told) → AsksOf file told told
only_same file told = λ other apart. refl

pub only_then : (file : ℕ) (before mid now : Option Told) → AsksOf file before mid → AsksOf file mid now → AsksOf file before now
only_then file before mid now first second = λ other apart. second other apart ∙ first other apart

pub size_only : (file : ℕ) (before now : Option Told) (measured : ℕ) (result : Result ℕ Failed) → Measures before now measured result → AsksOf file before now
size_only file before now measured result measures = λ other apart. size_asked before now measured other result measures

others_stay : (asked : List ℕ) (file count other : ℕ) → other ≢ file → slice_index (with_asked asked file count) other ≡ slice_index asked other
others_stay asked file count other apart =
    cond_both (can_ask asked file count) (slice_set asked file (slice_index asked file + count)) asked (λ (xs : List ℕ). slice_index xs other ≡ slice_index asked other)
    (λ e. get_or-set_other asked file other (slice_index asked file + count) 0 apart) (λ e. refl)

asks_only : (told : Told) (now : Option Told) (file count : ℕ) → now ≡ Some (after_asked told file count) → AsksOf file (Some told) now
asks_only told now file count e = λ other apart. ap (λ (t : Option Told). asked_of t other) e ∙ others_stay told.asked file count other apart

-- a read asks of its file
pub read_only : (file : ℕ) (before now : Option Told) (at : ℕ) (part after : List ℕ) (result : Result ℕ Failed) → ReadsAt before now file at part after result → AsksOf file before now
read_only file None now at part after result reads = λ other apart. ap (λ (t : Option Told). asked_of t other) reads
read_only file (Some told) now at part after (Ok count) reads = asks_only told now file (length part) reads.0
read_only file (Some told) now at part after (Err e) reads = asks_only told now file (length part) reads

-- the sizes of a demo and of an index are told, and then the index is asked for its heads
pub sizes_only : (demo index : ℕ) (before mid now : Option Told) (length end : Result ℕ Failed) → Measures before mid demo length → Measures mid now index end → AsksOf index before now
sizes_only demo index before mid now length end first second =
    only_then index before mid now (size_only index before mid demo length first) (size_only index mid now index end second)

-- ---- of two

-- of the one, and then of the other
pub two_asked : (demo index file : ℕ) (before mid now : Option Told) → file ≡ demo → AsksOf index before mid → AsksOf file mid now → AsksOfTwo demo index before now
two_asked demo index file before mid now is first second = λ other apart away. second other (λ same. apart (same ∙ is)) ∙ first other away
