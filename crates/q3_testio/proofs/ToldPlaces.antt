-- The file of a name stands at the first place that has the name.
use Rattle.std.proofs.Common.{◌≡◌, ℕ, ◌<◌, ◌≤◌, List, [], ◌∷◌, ◌++◌, length, slice_index_or, slice_set, Option, Some, None, MatchOption, IsSome, unwrap_or, zero, suc, refl, ap, subst, arith}
use Rattle.std.proofs.lemmas.Slice.Eq.{bytes_eq-Decides}
use Rattle.std.specs.Str.{bytes_eq}
use Rattle.std.specs.List.{position, position_or_len}
use Rattle.q3_io.specs.Told.{File, contents_of, with_contents}
use Rattle.q3_testio.specs.FileStore.{no_file, files_of, StandsAt}

abbrev pub place_of : List ℕ → List File → ℕ
place_of name files = position_or_len (λ file. bytes_eq file.name name) files

-- what is held is what stands at the first place
held-place : (files : List File) (name : List ℕ) (d : File) → place_of name files < length files → contents_of files name ≡ Some (slice_index_or files (place_of name files) d).contents
unfolding contents_of
held-place [] name d h = absurd (omega arith)
held-place (file ∷ files) name d h = grind (arith, held-place files name d)

-- what is written is written there
put-place : (files : List File) (name : List ℕ) (d : File) (bytes : List ℕ) → place_of name files < length files → with_contents files name bytes ≡ slice_set files (place_of name files) (record (slice_index_or files (place_of name files) d) { contents = bytes })
unfolding with_contents
put-place [] name d bytes h = absurd (omega arith)
put-place (file ∷ files) name d bytes h = grind (arith, put-place files name d bytes)

-- no file of the name is there
missing : (files : List File) (name : List ℕ) → length files ≤ place_of name files → contents_of files name ≡ None
unfolding contents_of
missing [] name h = refl
missing (file ∷ files) name h = grind (arith, missing files name)

-- a new file stands after the others
pub put_new : (files : List File) (name bytes : List ℕ) → contents_of files name ≡ None → with_contents files name bytes ≡ files ++ record { name = name; contents = bytes } ∷ []
unfolding contents_of with_contents
put_new [] name bytes h = refl
put_new (file ∷ files) name bytes h = grind (arith, put_new files name bytes)

-- what is known of a place by how far the files go
stands : (files : List File) (name : List ℕ) → place_of name files < length files → StandsAt files name (place_of name files)
stands files name h = record {
  within = h;
  contents = held-place files name no_file h;
  put = λ bytes. put-place files name no_file bytes h;
}

-- the files are as many as their names, and stand at the places of these
pub length_files_of : (names texts : List (List ℕ)) → length texts ≡ length names → length (files_of names texts) ≡ length names
unfolding files_of
length_files_of [] texts e = refl
length_files_of (name ∷ names) [] e = absurd (omega arith)
length_files_of (name ∷ names) (text ∷ texts) e = ap suc (length_files_of names texts (omega arith))

place_of_files : (names texts : List (List ℕ)) (name : List ℕ) → length texts ≡ length names → place_of name (files_of names texts) ≡ position_or_len (λ one. bytes_eq one name) names
unfolding files_of
place_of_files [] texts name e = refl
place_of_files (one ∷ names) [] name e = absurd (omega arith)
place_of_files (one ∷ names) (text ∷ texts) name e = grind (arith, place_of_files names texts name (omega arith))

-- the first place that has the name, or none
pub found : (names texts : List (List ℕ)) (name : List ℕ) (place : Option ℕ) → length texts ≡ length names → place ≡ position (λ one. bytes_eq one name) names
    → MatchOption place (contents_of (files_of names texts) name ≡ None) (StandsAt (files_of names texts) name)
found names texts name None e is =
    missing (files_of names texts) name (grind (arith, place_of_files names texts name e, length_files_of names texts e))
found names texts name (Some place) e is =
    let at : (place_of name (files_of names texts) < length (files_of names texts)) × (place_of name (files_of names texts) ≡ place) = grind (arith, place_of_files names texts name e, length_files_of names texts e) in
    subst (StandsAt (files_of names texts) name) at.1 (stands (files_of names texts) name at.0)

-- what the file at a place holds
pub contents_files_of : (names texts : List (List ℕ)) (place : ℕ) → length texts ≡ length names → place < length names
    → (slice_index_or (files_of names texts) place no_file).contents ≡ slice_index_or texts place []
unfolding files_of
contents_files_of [] texts place e within = absurd (omega arith)
contents_files_of (name ∷ names) [] place e within = absurd (omega arith)
contents_files_of (name ∷ names) (text ∷ texts) zero e within = refl
contents_files_of (name ∷ names) (text ∷ texts) (suc place) e within = contents_files_of names texts place (omega arith) (omega arith)

-- other contents at a place
pub set_files_of : (names texts : List (List ℕ)) (place : ℕ) (text : List ℕ) → length texts ≡ length names → place < length names
    → files_of names (slice_set texts place text) ≡ slice_set (files_of names texts) place (record (slice_index_or (files_of names texts) place no_file) { contents = text })
unfolding files_of
set_files_of [] texts place text e within = absurd (omega arith)
set_files_of (name ∷ names) [] place text e within = absurd (omega arith)
set_files_of (name ∷ names) (one ∷ texts) zero text e within = refl
set_files_of (name ∷ names) (one ∷ texts) (suc place) text e within =
    ap (λ (files : List File). record { name = name; contents = one } ∷ files) (set_files_of names texts place text (omega arith) (omega arith))

-- one more file
pub push_files_of : (names texts : List (List ℕ)) (name text : List ℕ) → length texts ≡ length names
    → files_of (names ++ name ∷ []) (texts ++ text ∷ []) ≡ files_of names texts ++ record { name = name; contents = text } ∷ []
unfolding files_of
push_files_of [] [] name text e = refl
push_files_of [] (one ∷ texts) name text e = absurd (omega arith)
push_files_of (other ∷ names) [] name text e = absurd (omega arith)
push_files_of (other ∷ names) (one ∷ texts) name text e =
    ap (λ (files : List File). record { name = other; contents = one } ∷ files) (push_files_of names texts name text (omega arith))

-- a file that is there is there after a write
pub has_put : (files : List File) (name bytes other : List ℕ) → IsSome (contents_of files other) → IsSome (contents_of (with_contents files name bytes) other)
unfolding contents_of with_contents
has_put [] name bytes other h = cc
has_put (file ∷ files) name bytes other h = grind (arith, has_put files name bytes other)

-- the file that was written is there
pub has_new : (files : List File) (name bytes : List ℕ) → IsSome (contents_of (with_contents files name bytes) name)
unfolding contents_of with_contents
has_new [] name bytes = rw ((bytes_eq-Decides name name).1 refl) refl
has_new (file ∷ files) name bytes = grind (arith, has_new files name bytes)

-- a write of what is there changes nothing
pub put_same : (files : List File) (name : List ℕ) → IsSome (contents_of files name) → with_contents files name (unwrap_or (contents_of files name) []) ≡ files
unfolding contents_of with_contents
put_same [] name h = cc
put_same (file ∷ files) name h = grind (arith, put_same files name)
