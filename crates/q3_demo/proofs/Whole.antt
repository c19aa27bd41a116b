-- What a file holds from a place on, and how it is read until the buffer is full.
use Rattle.std.proofs.Common.{◌≡◌, ℕ, ◌+◌, ◌-◌, ◌<◌, ◌≤◌, List, [], ◌++◌, length, take, drop, Option, Some, None, Result, Ok, Err, refl, sym, ap, ap₂, subst, ◌∙◌, inl, inr, arith}
use Rattle.std.specs.Prelude.{◌⊎◌}
use Rattle.std.proofs.lemmas.List.{take_at, take-take, take-append-drop, take-append-le, length-take, length-take-le, length-drop, length-append, drop_at, drop-drop}
use borrow.Rule.Slice.PartMut.{put_mid, post_of}
use Rattle.std.proofs.Math.Seq.{take-add}
use Rattle.q3_io.specs.declared.sink.Failed.{Failed}
use Rattle.q3_io.specs.Told.{Told, Gives, ReadsAt, Measures, contents_at, after_asked}
use Rattle.q3_demo.specs.Running.{HasFrom, OnlyAsks}
use Rattle.q3_demo.specs.Steps.{Fills}

-- ---- what a file holds

-- some bytes are there
pub has_some : (told : Option Told) (file at : ℕ) → (bytes : List ℕ) × HasFrom told file at bytes
has_some None file at = ([], tt)
has_some (Some told) file at = (drop at (contents_at told file), refl)

-- bytes, and those after so many of them
pub has_joined : (told : Option Told) (file at count : ℕ) (bytes rest : List ℕ) → HasFrom told file at bytes → HasFrom told file (at + count) rest
    → HasFrom told file at (take count bytes ++ rest)
has_joined None file at count bytes rest has after = tt
has_joined (Some told) file at count bytes rest has after =
    let is : rest ≡ drop count bytes = after ∙ sym (drop-drop count at (contents_at told file)) ∙ ap (drop count) (sym has) in
    ap (λ (r : List ℕ). take count bytes ++ r) is ∙ take-append-drop count bytes ∙ has

-- ---- what is asked for grows

pub asks_same : (told : Option Told) → OnlyAsks told told
asks_same None = refl
asks_same (Some told) = (told.asked, refl)

pub asks_then : (before mid now : Option Told) → OnlyAsks before mid → OnlyAsks mid now → OnlyAsks before now
asks_then None mid now first second = subst (λ (told : Option Told). OnlyAsks told now) first second
asks_then (Some told) mid now first second =
    let all : OnlyAsks (Some (record told { asked = first.0 })) now = subst (λ (was : Option Told). OnlyAsks was now) first.1 second in
    (all.0, all.1)

-- and the file has the same bytes
pub has_before : (before now : Option Told) (file at : ℕ) (bytes : List ℕ) → OnlyAsks before now → HasFrom now file at bytes → HasFrom before file at bytes
has_before None now file at bytes asks has = tt
has_before (Some told) now file at bytes asks has = subst (λ (t : Option Told). HasFrom t file at bytes) asks.1 has

-- a read asks
pub read_asks : (before now : Option Told) (file at : ℕ) (part part' : List ℕ) (result : Result ℕ Failed) → ReadsAt before now file at part part' result → OnlyAsks before now
read_asks None now file at part part' result reads = reads
read_asks (Some told) now file at part part' (Ok count) reads = ((after_asked told file (length part)).asked, reads.0)
read_asks (Some told) now file at part part' (Err e) reads = ((after_asked told file (length part)).asked, reads)

-- a size is told
pub size_asks : (before now : Option Told) (file : ℕ) (result : Result ℕ Failed) → Measures before now file result → OnlyAsks before now
size_asks None now file result measures = measures
size_asks (Some told) now file (Ok size) measures = (told.asked, measures.0)
size_asks (Some told) now file (Err e) measures = (told.asked, measures)

-- no file goes so far
pub ends_before : (before now : Option Told) (file at size : ℕ) → Measures before now file (Ok size) → size < at + 8 → (bytes : List ℕ) × HasFrom before file at bytes × (length bytes < 8)
ends_before None now file at size measures short = ([], tt, omega arith)
ends_before (Some told) now file at size measures short =
    (drop at (contents_at told file), refl, omega (arith, measures.1, length-drop at (contents_at told file)))

-- ---- until the buffer is full

-- the buffer after a read into what was left of it
pub put_front : (a k n : ℕ) (xs ys : List ℕ) → a ≤ length xs → n ≤ length ys → take (a + n) (put_mid a k xs ys) ≡ take a xs ++ take n ys
put_front a k n xs ys within few =
    let post : List ℕ = post_of a k xs in
    let long : length (take a xs) ≡ a = length-take-le a xs within in
    take-add a n (take a xs ++ (ys ++ post))
    ∙ ap₂ (λ (front after : List ℕ). front ++ after) (take_at (take a xs) (ys ++ post) a long)
    (ap (take n) (drop_at (take a xs) (ys ++ post) a long) ∙ take-append-le n ys post few)

pub put_before : (a k : ℕ) (xs ys : List ℕ) → a ≤ length xs → take a (put_mid a k xs ys) ≡ take a xs
put_before a k xs ys within = take_at (take a xs) (ys ++ post_of a k xs) a (length-take-le a xs within)

pub put_length : (a : ℕ) (xs ys : List ℕ) → a ≤ length xs → length ys ≡ length xs - a → length (put_mid a (length xs - a) xs ys) ≡ length xs
put_length a xs ys within room =
    let post : List ℕ = post_of a (length xs - a) xs in
    let none : length post ≡ 0 = simp (length-drop) (omega arith) in
    omega (arith, length-append (take a xs) (ys ++ post), length-append ys post, length-take-le a xs within)

-- so many of the first bytes came
abbrev pub HasCome : Option Told → ℕ → ℕ → List ℕ → ℕ → Type 0
HasCome None file at buffer count = Unit {0}
HasCome (Some told) file at buffer count =
    (count ≤ length (drop at (contents_at told file))) × (take count buffer ≡ take count (drop at (contents_at told file)))

pub comes_none : (told : Option Told) (file at : ℕ) (buffer : List ℕ) → HasCome told file at buffer 0
comes_none None file at buffer = tt
comes_none (Some told) file at buffer = (omega arith, refl)

-- what a read gives of the bytes that follow
given : (contents part part' : List ℕ) (at more : ℕ) → Gives contents at more part part' → take more part' ≡ take more (drop at contents)
given contents part part' at more gives =
    let there : at + more ≤ length contents ⊎ (more ≡ 0) = gives.there in
    elim there [
      | inl fits ↦
          ap (take more) gives.bytes
          ∙ take_at (take more (drop at contents)) (drop more part) more (omega (arith, length-take more (drop at contents), length-drop at contents))
      | inr none ↦ ap (λ n. take n part') none ∙ ap (λ n. take n (drop at contents)) (sym none)
    ]

grown : (contents part part' buffer buffer' : List ℕ) (at count more : ℕ) → count ≤ length (drop at contents) → take count buffer ≡ take count (drop at contents)
    → Gives contents (at + count) more part part' → take (count + more) buffer' ≡ take count buffer ++ take more part'
    → (count + more ≤ length (drop at contents)) × (take (count + more) buffer' ≡ take (count + more) (drop at contents))
grown contents part part' buffer buffer' at count more fits front gives put =
    let there : at + count + more ≤ length contents ⊎ (more ≡ 0) = gives.there in
    let after : take more part' ≡ take more (drop count (drop at contents)) = given contents part part' (at + count) more gives ∙ ap (take more) (sym (drop-drop count at contents)) in (
      elim there [ inl within ↦ omega (arith, length-drop at contents) | inr none ↦ omega arith ],
      put ∙ ap (λ (xs : List ℕ). xs ++ take more part') front ∙ ap (λ (xs : List ℕ). take count (drop at contents) ++ xs) after ∙ sym (take-add count more (drop at contents)),
    )

-- more came
pub comes_more : (start now next : Option Told) (file at count more : ℕ) (part part' buffer buffer' : List ℕ) → OnlyAsks start now → HasCome start file at buffer count
    → ReadsAt now next file (at + count) part part' (Ok more) → take (count + more) buffer' ≡ take count buffer ++ take more part' → HasCome start file at buffer' (count + more)
comes_more None now next file at count more part part' buffer buffer' asks come reads put = tt
comes_more (Some told) now next file at count more part part' buffer buffer' asks come reads put =
    let here : ReadsAt (Some (record told { asked = asks.0 })) next file (at + count) part part' (Ok more) =
    subst (λ (t : Option Told). ReadsAt t next file (at + count) part part' (Ok more)) asks.1 reads in
    grown (contents_at told file) part part' buffer buffer' at count more come.0 come.1 here.1 put

-- none came: the file ends
pub comes_end : (start now next : Option Told) (file at count : ℕ) (part part' buffer buffer' : List ℕ) → OnlyAsks start now → HasCome start file at buffer count
    → ReadsAt now next file (at + count) part part' (Ok 0) → take count buffer' ≡ take count buffer → 0 < length part → count ≤ length buffer'
    → (bytes : List ℕ) × HasFrom start file at bytes × Fills bytes buffer' (Ok count)
comes_end None now next file at count part part' buffer buffer' asks come reads same some fits = (
  take count buffer',
  tt,
  (omega (arith, length-take count buffer'), sym (take-take count count buffer' (omega arith))),
)
comes_end (Some told) now next file at count part part' buffer buffer' asks come reads same some fits =
    let here : ReadsAt (Some (record told { asked = asks.0 })) next file (at + count) part part' (Ok 0) =
    subst (λ (t : Option Told). ReadsAt t next file (at + count) part part' (Ok 0)) asks.1 reads in
    let ends : (length part ≡ 0) ⊎ (length (contents_at told file) ≤ at + count) = here.1.end refl in
    let past : length (contents_at told file) ≤ at + count = elim ends [ inl e ↦ absurd (omega arith) | inr le ↦ le ] in (
      drop at (contents_at told file),
      refl,
      (omega (arith, length-drop at (contents_at told file), come.0), same ∙ come.1),
    )
