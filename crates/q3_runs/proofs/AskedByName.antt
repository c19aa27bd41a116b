-- What is asked of the file of a name.
use Rattle.std.proofs.Common.{◌≡◌, ◌≢◌, ℕ, zero, suc, ◌+◌, ◌<◌, ◌≤◌, List, [], ◌∷◌, ◌++◌, length, Option, Some, None, Result, Ok, Err, refl, sym, ap, ap₂, subst, ◌∙◌, inl, inr, arith}
use Rattle.std.specs.Prelude.{if◌then◌else◌, slice_index, slice_index_or}
use Rattle.std.specs.Str.{bytes_eq}
use Rattle.std.proofs.lemmas.Bool.{cases_Bool, cases_eq}
use Rattle.std.proofs.lemmas.List.{length-append}
use Rattle.std.proofs.lemmas.Slice.Eq.{bytes_eq-Decides}
use Rattle.q3_io.specs.declared.sink.Failed.{Failed}
use Rattle.q3_io.specs.Told.{Told, Lookup, name_of, after_named, after_given, LooksUp}
use Rattle.q3_demo.specs.Running.{OnlyAsks, AsksOf, asked_of}
use Rattle.q3_index.specs.Running.{AsksOfTwo}
use Rattle.q3_runs.specs.declared.fault.Fault.{Fault}
use Rattle.q3_runs.specs.Input.{ReadsPieces, asked_from, asked_by_name, IsCounted, AsksOfName}
use Rattle.q3_runs.proofs.Numbered.{last_number}

-- ---- by each number that stands for it

abbrev part : List ℕ → List ℕ → List ℕ → ℕ → ℕ
part number name asked file = if bytes_eq number name then slice_index asked file else 0

part_same : (number name before now : List ℕ) (file : ℕ) → (number ≡ name → slice_index now file ≡ slice_index before file) → part number name now file ≡ part number name before file
part_same number name before now file same = elim (cases_Bool (bytes_eq number name)) [
  | inl is ↦ rw is (same ((bytes_eq-Decides number name).0 is))
  | inr not ↦ rw not refl
]

part_within : (number name before now : List ℕ) (file most : ℕ) → slice_index now file ≤ slice_index before file + most → part number name now file ≤ part number name before file + most
part_within number name before now file most cost = elim (cases_Bool (bytes_eq number name)) [
  | inl is ↦ rw is cost
  | inr not ↦ rw not (omega arith)
]

part_none : (number name asked : List ℕ) (file : ℕ) → slice_index asked file ≡ 0 → part number name asked file ≡ 0
part_none number name asked file none = elim (cases_Bool (bytes_eq number name)) [
  | inl is ↦ rw is none
  | inr not ↦ rw not refl
]

-- no more was asked for by those of the name
abbrev pub AskedAlike : ℕ → List (List ℕ) → List ℕ → List ℕ → List ℕ → Type 0
AskedAlike file numbers before now name = (k at : ℕ) → at ≡ file + k → k < length numbers → slice_index_or numbers k [] ≡ name → slice_index now at ≡ slice_index before at

pub asked_same : (file : ℕ) (numbers : List (List ℕ)) (before now name : List ℕ) → AskedAlike file numbers before now name → asked_from file numbers now name ≡ asked_from file numbers before name
unfolding asked_from
asked_same file [] before now name same = refl
asked_same file (number ∷ numbers) before now name same =
    ap₂ (λ (one others : ℕ). one + others)
    (part_same number name before now file (λ is. same 0 file (omega arith) (omega arith) is))
    (asked_same (file + 1) numbers before now name (λ k at e lt is. same (suc k) at (omega (arith, e)) (omega (arith, lt)) is))

-- only by one of them, and by that so many at most
abbrev pub AskedBut : ℕ → ℕ → List (List ℕ) → List ℕ → List ℕ → List ℕ → Type 0
AskedBut here file numbers before now name =
    (k at : ℕ) → at ≡ file + k → k < length numbers → slice_index_or numbers k [] ≡ name → at ≢ here → slice_index now at ≡ slice_index before at

pub asked_within : (file : ℕ) (numbers : List (List ℕ)) (before now name : List ℕ) (here most : ℕ) → AskedBut here file numbers before now name
    → slice_index now here ≤ slice_index before here + most → asked_from file numbers now name ≤ asked_from file numbers before name + most
unfolding asked_from
asked_within file [] before now name here most others cost = omega arith
asked_within file (number ∷ numbers) before now name here most others cost =
    elim (cases_eq file here) [
      | inl is ↦
          let first : part number name now file ≤ part number name before file + most =
          part_within number name before now file most (subst (λ (h : ℕ). slice_index now h ≤ slice_index before h + most) (sym is) cost) in
          let rest : asked_from (file + 1) numbers now name ≡ asked_from (file + 1) numbers before name =
          asked_same (file + 1) numbers before now name (λ k at e lt so. others (suc k) at (omega (arith, e)) (omega (arith, lt)) so (λ same. absurd (omega (arith, e, same, is)))) in
          omega (arith, first, rest)
      | inr apart ↦
          let first : part number name now file ≡ part number name before file = part_same number name before now file (λ is. others 0 file (omega arith) (omega arith) is apart) in
          let rest : asked_from (file + 1) numbers now name ≤ asked_from (file + 1) numbers before name + most =
          asked_within (file + 1) numbers before now name here most (λ k at e lt so away. others (suc k) at (omega (arith, e)) (omega (arith, lt)) so away) cost in
          omega (arith, first, rest)
    ]

-- ---- a number is given

asked_last : (file at : ℕ) (numbers : List (List ℕ)) (number asked name : List ℕ) → at ≡ file + length numbers → slice_index asked at ≡ 0
    → asked_from file (numbers ++ number ∷ []) asked name ≡ asked_from file numbers asked name
unfolding asked_from
asked_last file at [] number asked name e none =
    let here : slice_index asked file ≡ 0 = ap (λ (n : ℕ). slice_index asked n) (let same : file ≡ at = omega (arith, e) in same) ∙ none in
    omega (arith, part_none number name asked file here)
asked_last file at (first ∷ numbers) number asked name e none =
    ap (λ (others : ℕ). part first name asked file + others) (asked_last (file + 1) at numbers number asked name (omega (arith, e)) none)

-- and nothing was asked for by it
given_alike : (asked : List ℕ) (k : ℕ) → slice_index (asked ++ 0 ∷ []) k ≡ slice_index asked k
given_alike [] zero = refl
given_alike [] (suc k) = refl
given_alike (count ∷ asked) zero = refl
given_alike (count ∷ asked) (suc k) = given_alike asked k

abbrev found_in : Told → List ℕ → Told
found_in told name = after_given (after_named told name Lookup) name

-- nothing more is asked for
abbrev pub AsksNothing : Option Told → Option Told → Type 0
AsksNothing told now = IsCounted told → IsCounted now × ((other : List ℕ) → asked_by_name now other ≡ asked_by_name told other)

nothing_same : (told : Option Told) → AsksNothing told told
nothing_same told counted = (counted, λ other. refl)

one_found : (told : Told) (name : List ℕ) → AsksNothing (Some told) (Some (found_in told name))
one_found told name counted = (
  λ file past. given_alike told.asked file ∙ counted file (omega (arith, past, length-append told.numbers (name ∷ []))),
  λ other. asked_same 0 (told.numbers ++ name ∷ []) told.asked (told.asked ++ 0 ∷ []) other (λ k at e lt is. given_alike told.asked at)
      ∙ asked_last 0 (length told.numbers) told.numbers name told.asked other (omega arith) (counted (length told.numbers) (omega arith)),
)

pub looks_up : (told now : Option Told) (name : List ℕ) (result : Result ℕ Failed) → LooksUp told now name result → AsksNothing told now
looks_up None now name result looks = subst (λ (t : Option Told). AsksNothing None t) (sym looks) (nothing_same None)
looks_up (Some told) now name (Ok file) looks = subst (λ (t : Option Told). AsksNothing (Some told) t) (sym looks.2) (one_found told name)
looks_up (Some told) now name (Err e) looks =
    elim looks [
      | inl same ↦ subst (λ (t : Option Told). AsksNothing (Some told) t) (sym same) (nothing_same (Some told))
      | inr named ↦ subst (λ (t : Option Told). AsksNothing (Some told) t) (sym named) (λ counted. (counted, λ other. refl))
    ]

-- ---- of one number more is asked for

others_asked : (told : Told) (asked : List ℕ) (file : ℕ) (name : List ℕ) → AsksOf file (Some told) (Some (record told { asked = asked })) → name_of told file ≢ name
    → asked_from 0 told.numbers asked name ≡ asked_from 0 told.numbers told.asked name
others_asked told asked file name of apart =
    asked_same 0 told.numbers told.asked asked name
    (λ k at e lt is. of at (λ same. apart (ap (λ (n : ℕ). slice_index_or told.numbers n []) (let here : file ≡ k = omega (arith, e, same) in here) ∙ is)))

-- so not of a file of another name
pub others_named : (t3 t4 : Option Told) (now : Told) (file : ℕ) (name : List ℕ) → t3 ≡ Some now → OnlyAsks t3 t4 → AsksOf file t3 t4 → name_of now file ≢ name
    → asked_by_name t4 name ≡ asked_by_name t3 name
others_named t3 t4 now file name is asks of apart =
    let only : OnlyAsks (Some now) t4 = subst (λ (t : Option Told). OnlyAsks t t4) is asks in
    let there : AsksOf file (Some now) (Some (record now { asked = only.0 })) = subst (λ (t : Option Told). AsksOf file (Some now) t) only.1 (subst (λ (t : Option Told). AsksOf file t t4) is of) in
    ap (λ (t : Option Told). asked_by_name t name) only.1
    ∙ (others_asked now only.0 file name there apart ∙ ap (λ (t : Option Told). asked_by_name t name) (sym is))

-- a file that was looked up is read
pub name_read : (told mid now : Option Told) (name : List ℕ) (file : ℕ) → LooksUp told mid name (Ok file) → OnlyAsks mid now → AsksOf file mid now → AsksOfName name told now
name_read None mid now name file looks asks of counted =
    let only : now ≡ None = subst (λ (t : Option Told). OnlyAsks t now) looks asks in
    subst (λ (t : Option Told). IsCounted t × ((other : List ℕ) → other ≢ name → asked_by_name t other ≡ 0)) (sym only) (tt, λ other apart. refl)
name_read (Some told) mid now name file looks asks of counted =
    let found = found_in told name in
    let only : OnlyAsks (Some found) now = subst (λ (t : Option Told). OnlyAsks t now) looks.2 asks in
    let there : AsksOf file (Some found) (Some (record found { asked = only.0 })) = subst (λ (t : Option Told). AsksOf file (Some found) t) only.1 (subst (λ (t : Option Told). AsksOf file t now) looks.2 of) in
    let given = one_found told name counted in
    let is : name_of found file ≡ name = ap (λ (n : ℕ). slice_index_or (told.numbers ++ name ∷ []) n []) looks.1 ∙ last_number told.numbers name in
    let last : file ≡ length told.numbers = looks.1 in
    subst (λ (t : Option Told). IsCounted t × ((other : List ℕ) → other ≢ name → asked_by_name t other ≡ asked_by_name (Some told) other)) (sym only.1) (
      λ number past. there number (λ same. absurd (omega (arith, past, same, last, length-append told.numbers (name ∷ [])))) ∙ given.0 number past,
      λ other apart. others_asked found only.0 file other there (λ same. apart (sym same ∙ is)) ∙ given.1 other,
    )

pub nothing_named : (told now : Option Told) (name : List ℕ) → AsksNothing told now → AsksOfName name told now
nothing_named told now name nothing counted = let all = nothing counted in (all.0, λ other apart. all.1 other)

pub pieces_ask : (most file : ℕ) (told now : Option Told) (result : Result (List ℕ) Fault) → ReadsPieces most file told now result → OnlyAsks told now
pieces_ask most file None now result reads = reads.0
pieces_ask most file (Some told) now result reads = (reads.0, reads.1)

-- ---- of two numbers

pub within_named : (t4 t5 : Option Told) (now : Told) (first second most : ℕ) (name : List ℕ) → t4 ≡ Some now → OnlyAsks t4 t5 → AsksOfTwo first second t4 t5 → name_of now second ≢ name
    → asked_of t5 first ≤ asked_of t4 first + most → asked_by_name t5 name ≤ asked_by_name t4 name + most
within_named None t5 now first second most name is asks of apart cost = absurd cc
within_named (Some told) t5 now first second most name is asks of apart cost =
    let same : told ≡ now = cc in
    let away : name_of told second ≢ name = subst (λ (t : Told). name_of t second ≢ name) (sym same) apart in
    let there : AsksOfTwo first second (Some told) (Some (record told { asked = asks.0 })) = subst (λ (t : Option Told). AsksOfTwo first second (Some told) t) asks.1 of in
    let costs : slice_index asks.0 first ≤ slice_index told.asked first + most = subst (λ (t : Option Told). asked_of t first ≤ slice_index told.asked first + most) asks.1 cost in
    subst (λ (t : Option Told). asked_by_name t name ≤ asked_from 0 told.numbers told.asked name + most) (sym asks.1)
    (asked_within 0 told.numbers told.asked asks.0 name first most
    (λ k at e lt so elsewhere. there at elsewhere (λ here. away (ap (λ (n : ℕ). slice_index_or told.numbers n []) (let at_second : second ≡ k = omega (arith, e, here) in at_second) ∙ so)))
    costs)
