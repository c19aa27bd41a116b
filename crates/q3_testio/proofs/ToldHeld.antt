-- The file of each number stays there, so bytes can be put after it.
use Rattle.std.proofs.Common.{◌≡◌, ℕ, ◌-◌, ◌≤◌, length, Bool, true, false, if◌then◌else◌, List, [], ◌∷◌, ◌++◌, slice_index_or, Some, IsSome, refl, sym, ap, subst, arith, ◌∙◌}
use Rattle.std.proofs.lemmas.List.{append-nil}
use Rattle.std.proofs.lemmas.List.Elements.{All-push}
use Rattle.std.specs.List.{All}
use Rattle.q3_io.specs.Told.{Told, File, contents_of, with_contents, name_of, contents_at, after_written}
use Rattle.q3_testio.specs.FileStore.{StoreState, held, has_room, after_put, can_add, after_add}
use Rattle.q3_testio.proofs.ToldPlaces.{has_put, has_new, put_same}

-- the files of all names are there after a write
pub have_put : (files : List File) (names : List (List ℕ)) (name bytes : List ℕ) → All (λ one. IsSome (contents_of files one)) names → All (λ one. IsSome (contents_of (with_contents files name bytes) one)) names
have_put files names name bytes h = λ k d l. has_put files name bytes (slice_index_or names k d) (h k d l)

-- the files of all these names are there, and no name is longer than there was room for
abbrev pub HaveFiles : ℕ → List (List ℕ) → StoreState → Type 0
HaveFiles room names store = (store.room ≤ room) × All (λ name. IsSome (contents_of store.files name)) names

-- what holds of both holds of the one that is chosen
pub chosen : {X : Type 0} (P : X → Type 0) (b : Bool) (x y z : X) → z ≡ (if b then x else y) → P x → P y → P z
chosen P true x y z e p q = subst P (sym e) p
chosen P false x y z e p q = subst P (sym e) q

-- so it stays where a file is put
pub have_files_put : (room : ℕ) (names : List (List ℕ)) (store new : StoreState) (name bytes : List ℕ) (count : ℕ) → new ≡ (if has_room store name count then after_put store name bytes count else store) → HaveFiles room names store → HaveFiles room names new
have_files_put room names store new name bytes count e h =
    chosen (HaveFiles room names) (has_room store name count) (after_put store name bytes count) store new e (omega (arith, h.0), have_put store.files names name bytes h.1) h

-- and where bytes are added
pub have_files_add : (room : ℕ) (names : List (List ℕ)) (store new : StoreState) (name bytes : List ℕ) → new ≡ (if can_add store name bytes then after_add store name bytes else store) → HaveFiles room names store → HaveFiles room names new
have_files_add room names store new name bytes e h =
    chosen (HaveFiles room names) (can_add store name bytes) (after_add store name bytes) store new e (omega (arith, h.0), have_put store.files names name (held store name ++ bytes) h.1) h

-- and where a number is given to a name
pub have_files_give : (room : ℕ) (names : List (List ℕ)) (store new : StoreState) (name bytes : List ℕ) → new ≡ (if has_room store name (length name) then after_put store name bytes (length name) else store) → true ≡ has_room store name (length name) → HaveFiles room names store → HaveFiles (room - length name) (names ++ name ∷ []) new
have_files_give room names store new name bytes e fits h =
    let put : new ≡ after_put store name bytes (length name) = e ∙ rw (← fits) refl in
    subst (HaveFiles (room - length name) (names ++ name ∷ [])) (sym put)
    (grind (arith, h.0), All-push (λ one. IsSome (contents_of (with_contents store.files name bytes) one)) names name (have_put store.files names name bytes h.1) (has_new store.files name bytes))

-- where nothing was written, a front of the bytes was: none of them
pub nothing_added : (told : Told) (file : ℕ) (bytes : List ℕ) → IsSome (contents_of told.files (name_of told file)) → (added : List ℕ) × ((rest : List ℕ) × (added ++ rest ≡ bytes)) × (Some told ≡ Some (after_written told (name_of told file) (contents_at told file ++ added)))
nothing_added told file bytes h =
    let same : with_contents told.files (name_of told file) (contents_at told file ++ []) ≡ told.files = rw append-nil (put_same told.files (name_of told file) h) in
    ([], (bytes, refl), ap (λ files. Some (record told { files = files })) (sym same))
