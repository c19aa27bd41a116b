-- Reading a file piece by piece.
use Rattle.std.proofs.Common.{◌≡◌, ℕ, ◌+◌, ◌<◌, ◌≤◌, List, [], ◌∷◌, ◌++◌, length, take, drop, Option, Some, None, Result, Ok, Err, refl, sym, ap, subst, ◌∙◌, inl, inr, arith}
use Rattle.std.specs.Prelude.{◌⊎◌, true, false, IsSome, unwrap_or}
use Rattle.std.proofs.lemmas.List.{take_all, take-append-drop, length-take, length-drop, length-append, take_at, append-nil}
use Rattle.std.proofs.Math.Seq.{take-add, get_or-append_seam}
use Rattle.q3_io.specs.declared.sink.Failed.{Failed}
use Rattle.q3_io.specs.Acts.{after_acts}
use Rattle.q3_io.specs.Told.{Told, Lookup, LooksUp, Gives, ReadsAt, contents_of, contents_at, after_asked, after_given, after_named}
use Rattle.q3_runs.specs.Input.{looked_up, ReadsFile, ReadsPieces, ReadsWhole, LooksUpTold, LooksUpFirst}
use Rattle.q3_runs.specs.declared.fault.Fault.{Fault}

-- what was read is the front of the file, and only what was asked for has changed
abbrev pub HasRead : Option Told → Option Told → ℕ → List ℕ → Type 0
HasRead None now file bytes = now ≡ None
HasRead (Some told) now file bytes =
    (asked : List ℕ) × (now ≡ Some (record told { asked = asked })) × (take (length bytes) (contents_at told file) ≡ bytes)

pub HasRead-none : (start : Option Told) (file : ℕ) → HasRead start start file []
HasRead-none None file = refl
HasRead-none (Some told) file = (told.asked, refl, refl)

same_told : (a b : Told) → Some a ≡ Some b → a ≡ b
same_told a b e = cc

-- the bytes with those of one more piece
grown : (contents bytes before after : List ℕ) (count : ℕ) → take (length bytes) contents ≡ bytes → Gives contents (length bytes) count before after
    → take (length (bytes ++ take count after)) contents ≡ bytes ++ take count after
grown contents bytes before after count front gives =
    let there : length bytes + count ≤ length contents ⊎ (count ≡ 0) = gives.there in
    elim there [
      | inl fits ↦
          let piece : take count after ≡ take count (drop (length bytes) contents) =
          ap (take count) gives.bytes ∙ take_at (take count (drop (length bytes) contents)) (drop count before) count
          (omega (arith, length-take count (drop (length bytes) contents), length-drop (length bytes) contents)) in
          let size : length (bytes ++ take count after) ≡ length bytes + count =
          omega (arith, length-append bytes (take count after), ap length piece, length-take count (drop (length bytes) contents), length-drop (length bytes) contents) in
          ap (λ n. take n contents) size ∙ (take-add (length bytes) count contents
          ∙ (ap (λ (xs : List ℕ). xs ++ take count (drop (length bytes) contents)) front ∙ ap (λ (xs : List ℕ). bytes ++ xs) (sym piece)))
      | inr none ↦
          let nothing : take count after ≡ [] = ap (λ n. take n after) none in
          ap (λ (xs : List ℕ). take (length (bytes ++ xs)) contents) nothing
          ∙ (ap (λ (xs : List ℕ). take (length xs) contents) (append-nil bytes) ∙ (front ∙ (sym (append-nil bytes) ∙ ap (λ (xs : List ℕ). bytes ++ xs) (sym nothing))))
    ]

pub HasRead-more : (start now next : Option Told) (file : ℕ) (bytes before after : List ℕ) (count : ℕ)
    → HasRead start now file bytes → ReadsAt now next file (length bytes) before after (Ok count)
    → HasRead start next file (bytes ++ take count after)
HasRead-more None None next file bytes before after count has reads = reads
HasRead-more None (Some now) next file bytes before after count has reads = absurd cc
HasRead-more (Some told) None next file bytes before after count has reads = absurd (let e = has.1 in cc)
HasRead-more (Some told) (Some now) next file bytes before after count has reads =
    let is : now ≡ record told { asked = has.0 } = same_told now (record told { asked = has.0 }) has.1 in
    let contents : contents_at now file ≡ contents_at told file = ap (λ (t : Told). contents_at t file) is in (
      (after_asked now file (length before)).asked,
      reads.0 ∙ ap (λ (t : Told). Some (record t { asked = (after_asked now file (length before)).asked })) is,
      grown (contents_at told file) bytes before after count has.2
          (subst (λ (xs : List ℕ). Gives xs (length bytes) count before after) contents reads.1),
    )

-- at the file's end
pub HasRead-end : (most : ℕ) (start now next : Option Told) (file : ℕ) (bytes before after : List ℕ) (count : ℕ) → 0 < length before → count ≡ 0
    → HasRead start now file bytes → ReadsAt now next file (length bytes) before after (Ok count)
    → ReadsPieces most file start next (Ok bytes)
HasRead-end most None None next file bytes before after count some none has reads = (reads, bytes, ([], append-nil bytes, λ le. refl))
HasRead-end most None (Some now) next file bytes before after count some none has reads = absurd cc
HasRead-end most (Some told) None next file bytes before after count some none has reads = absurd (let e = has.1 in cc)
HasRead-end most (Some told) (Some now) next file bytes before after count some none has reads =
    let is : now ≡ record told { asked = has.0 } = same_told now (record told { asked = has.0 }) has.1 in
    let contents : contents_at now file ≡ contents_at told file = ap (λ (t : Told). contents_at t file) is in
    let ends : (length before ≡ 0) ⊎ (length (contents_at told file) ≤ length bytes) =
    (subst (λ (xs : List ℕ). Gives xs (length bytes) count before after) contents reads.1).end none in
    let past : length (contents_at told file) ≤ length bytes = elim ends [ inl e ↦ absurd (omega arith) | inr le ↦ le ] in (
      (after_asked now file (length before)).asked,
      reads.0 ∙ ap (λ (t : Told). Some (record t { asked = (after_asked now file (length before)).asked })) is,
      ([], append-nil bytes ∙ (sym has.2 ∙ take_all (length bytes) (contents_at told file) past), λ le. refl),
    )

-- more than the limit
pub HasRead-long : (most : ℕ) (start now : Option Told) (file : ℕ) (bytes : List ℕ) → most < length bytes
    → HasRead start now file bytes → ReadsPieces most file start now (Ok bytes)
HasRead-long most None now file bytes long has = (has, bytes, ([], append-nil bytes, λ le. refl))
HasRead-long most (Some told) now file bytes long has = (
  has.0,
  has.1,
  (
    drop (length bytes) (contents_at told file),
    ap (λ (xs : List ℕ). xs ++ drop (length bytes) (contents_at told file)) (sym has.2) ∙ take-append-drop (length bytes) (contents_at told file),
    λ le. absurd (omega arith),
  ),
)

-- ---- a file by its name

-- the number that a name is given stands for it
pub given_name : (told : Told) (name : List ℕ) → contents_at (after_given (after_named told name Lookup) name) (length told.numbers) ≡ unwrap_or (contents_of told.files name) []
given_name told name = ap (λ (n : List ℕ). unwrap_or (contents_of told.files n) []) (get_or-append_seam told.numbers name [] [])

pub some_held : (found : Option (List ℕ)) → IsSome found → found ≡ Some (unwrap_or found [])
some_held None is = absurd (let e : false ≡ true = is in cc)
some_held (Some x) is = refl

read_told : (most : ℕ) (told : Told) (file : ℕ) (name : List ℕ) (result : Result (List ℕ) Fault) → IsSome (contents_of told.files name)
    → ReadsWhole most (unwrap_or (contents_of told.files name) []) result → ReadsFile most name (Some told) result
read_told most told file name (Ok bytes) is reads = (unwrap_or (contents_of told.files name) [], some_held (contents_of told.files name) is, reads)
read_told most told file name (Err e) is reads = reads

read_any : (most : ℕ) (contents : List ℕ) (name : List ℕ) (result : Result (List ℕ) Fault) → ReadsWhole most contents result → ReadsFile most name None result
read_any most contents name (Ok bytes) reads = (contents, tt, reads)
read_any most contents name (Err e) reads = reads

pub file_read : (most : ℕ) (told mid now : Option Told) (file : ℕ) (name : List ℕ) (result : Result (List ℕ) Fault) → LooksUp told mid name (Ok file)
    → ReadsPieces most file mid now result → ReadsFile most name told result
file_read most None None now file name result looks reads = read_any most reads.1 name result reads.2
file_read most None (Some mid) now file name result looks reads = absurd cc
file_read most (Some told) None now file name result looks reads = absurd (let e = looks.2 in cc)
file_read most (Some told) (Some mid) now file name result looks reads =
    let is : mid ≡ after_given (after_named told name Lookup) name = same_told mid (after_given (after_named told name Lookup) name) looks.2 in
    let contents : contents_at mid file ≡ unwrap_or (contents_of told.files name) [] =
    ap (λ (t : Told). contents_at t file) is ∙ (ap (λ (n : ℕ). contents_at (after_given (after_named told name Lookup) name) n) looks.1 ∙ given_name told name) in
    read_told most told file name result looks.0 (subst (λ (c : List ℕ). ReadsWhole most c result) contents reads.2)

pub file_given : (most : ℕ) (told mid now : Option Told) (file : ℕ) (name : List ℕ) (result : Result (List ℕ) Fault) → LooksUp told mid name (Ok file)
    → ReadsPieces most file mid now result → LooksUpTold told now (name ∷ [])
unfolding after_acts
file_given most None None now file name result looks reads = reads.0
file_given most None (Some mid) now file name result looks reads = absurd cc
file_given most (Some told) None now file name result looks reads = absurd (let e = looks.2 in cc)
file_given most (Some told) (Some mid) now file name result looks reads =
    let is : mid ≡ after_given (after_named told name Lookup) name = same_told mid (after_given (after_named told name Lookup) name) looks.2 in
    (record mid { asked = reads.0 }, reads.1, record { files = ap (λ (t : Told). t.files) is; named = ap (λ (t : Told). t.named) is })

-- a file that isn't there may have been named
pub file_missing : (told now : Option Told) (name : List ℕ) (e : Failed) → LooksUp told now name (Err e) → LooksUpFirst told now (name ∷ [])
unfolding after_acts
file_missing None now name e looks = ([], [], (looked_up name ∷ [], refl), inl ([], refl), looks)
file_missing (Some told) now name e looks =
    elim looks [
      | inl same ↦ ([], [], (looked_up name ∷ [], refl), inl ([], refl), (told, same, record { files = refl; named = sym (append-nil told.named) }))
      | inr after ↦ (looked_up name ∷ [], [], ([], refl), inl ([], refl), (after_named told name Lookup, after, record { files = refl; named = refl }))
    ]
