-- Config strings that aren't empty, by index.
use Rattle.std.proofs.Common.{◌≡◌, ◌≢◌, ℕ, ◌+◌, ◌<◌, Bool, true, false, List, [], ◌∷◌, ◌++◌, length, take, drop, get_or, refl, ap, ◌∙◌, sym, arith}
use Rattle.std.specs.Prelude.{◌==◌}
use Rattle.std.specs.List.{flat_map}
use Rattle.std.proofs.lemmas.Bool.{eqb-true, eqb-false}
use Rattle.std.proofs.lemmas.List.{take_more, take-append-drop, append-nil, length-take-le}
use Rattle.std.proofs.lemmas.List.Concat.{flat_map-append}
use Rattle.q3_savestate.specs.Texts.{set_strings}

-- what the test of a text says
pub some_bytes : (text here : List ℕ) (empty : Bool) → empty ≡ (length text == 0) → text ≡ here → empty ≡ false → 0 < length here
some_bytes text here empty is same test =
    let some : length text ≢ 0 = eqb-false (length text) 0 (sym is ∙ test) in
    omega (arith, ap length same)

pub no_bytes : (text here : List ℕ) (empty : Bool) → empty ≡ (length text == 0) → text ≡ here → empty ≡ true → length here ≡ 0
no_bytes text here empty is same test = ap length (sym same) ∙ eqb-true (length text) 0 (sym is ∙ test)

-- none is set of none
pub set_none : set_strings 0 [] ≡ []
unfolding set_strings
set_none = refl

-- those of texts and of others after them
set_strings-append : (index : ℕ) (front texts : List (List ℕ)) → set_strings index (front ++ texts) ≡ set_strings index front ++ set_strings (index + length front) texts
unfolding set_strings
set_strings-append index [] texts = ap (λ n. set_strings n texts) (omega arith)
set_strings-append index ([] ∷ front) texts = set_strings-append (index + 1) front texts ∙ ap (λ n. set_strings (index + 1) front ++ set_strings n texts) (omega arith)
set_strings-append index ((byte ∷ text) ∷ front) texts =
    ap (λ others. (index, byte ∷ text) ∷ others) (set_strings-append (index + 1) front texts ∙ ap (λ n. set_strings (index + 1) front ++ set_strings n texts) (omega arith))

one_set : (index : ℕ) (text : List ℕ) → 0 < length text → set_strings index (text ∷ []) ≡ (index, text) ∷ []
unfolding set_strings
one_set index [] some = absurd (omega arith)
one_set index (byte ∷ text) some = refl

none_set : (index : ℕ) (text : List ℕ) → length text ≡ 0 → set_strings index (text ∷ []) ≡ []
unfolding set_strings
none_set index [] none = refl
none_set index (byte ∷ text) none = absurd (omega arith)

more : (texts : List (List ℕ)) (k : ℕ) → k < length texts → set_strings 0 (take (k + 1) texts) ≡ set_strings 0 (take k texts) ++ set_strings k (get_or texts k [] ∷ [])
more texts k lt =
    ap (λ texts. set_strings 0 texts) (take_more texts k [] lt) ∙ set_strings-append 0 (take k texts) (get_or texts k [] ∷ [])
    ∙ ap (λ n. set_strings 0 (take k texts) ++ set_strings n (get_or texts k [] ∷ [])) (omega (arith, length-take-le k texts (omega arith)))

-- up to one that isn't empty, and up to one that is
pub set_more : (texts : List (List ℕ)) (k : ℕ) → k < length texts → 0 < length (get_or texts k []) → set_strings 0 (take (k + 1) texts) ≡ set_strings 0 (take k texts) ++ (k, get_or texts k []) ∷ []
set_more texts k lt some = more texts k lt ∙ ap (λ others. set_strings 0 (take k texts) ++ others) (one_set k (get_or texts k []) some)

pub unset_more : (texts : List (List ℕ)) (k : ℕ) → k < length texts → length (get_or texts k []) ≡ 0 → set_strings 0 (take (k + 1) texts) ≡ set_strings 0 (take k texts)
unset_more texts k lt none =
    more texts k lt ∙ ap (λ others. set_strings 0 (take k texts) ++ others) (none_set k (get_or texts k []) none) ∙ append-nil (set_strings 0 (take k texts))

-- what is written of them, up to an index, and from there on
pub bytes_more : (bytes : ℕ × List ℕ → List ℕ) (texts : List (List ℕ)) (k : ℕ) → k < length texts → 0 < length (get_or texts k [])
    → flat_map bytes (set_strings 0 (take (k + 1) texts)) ≡ flat_map bytes (set_strings 0 (take k texts)) ++ bytes (k, get_or texts k [])
bytes_more bytes texts k lt some =
    ap (λ strings. flat_map bytes strings) (set_more texts k lt some) ∙ flat_map-append bytes (set_strings 0 (take k texts)) ((k, get_or texts k []) ∷ [])
    ∙ ap (λ one. flat_map bytes (set_strings 0 (take k texts)) ++ one) (append-nil (bytes (k, get_or texts k [])))

pub bytes_split : (bytes : ℕ × List ℕ → List ℕ) (texts : List (List ℕ)) (k : ℕ)
    → flat_map bytes (set_strings 0 texts) ≡ flat_map bytes (set_strings 0 (take k texts)) ++ flat_map bytes (set_strings (length (take k texts)) (drop k texts))
bytes_split bytes texts k =
    ap (λ texts. flat_map bytes (set_strings 0 texts)) (sym (take-append-drop k texts))
    ∙ ap (λ strings. flat_map bytes strings) (set_strings-append 0 (take k texts) (drop k texts) ∙ ap (λ n. set_strings 0 (take k texts) ++ set_strings n (drop k texts)) (omega arith))
    ∙ flat_map-append bytes (set_strings 0 (take k texts)) (set_strings (length (take k texts)) (drop k texts))
