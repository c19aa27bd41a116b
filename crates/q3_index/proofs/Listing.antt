-- The heads of checkpoints are read one by one.
use Rattle.std.proofs.Common.{◌≡◌, ℕ, suc, ◌+◌, ◌-◌, ◌*◌, ◌<◌, ◌≤◌, true, false, List, [], ◌∷◌, ◌++◌, length, drop, Option, Some, None, Result, Ok, Err, refl, sym, ap, ◌∙◌, append_assoc, arith, eq-eqb, ne_eqb}
use Rattle.std.specs.Prelude.{◌==◌, ◌^◌, SomeIff}
use Rattle.std.proofs.lemmas.List.{append-nil, length-drop}
use Rattle.q3_bits.specs.ResultBind.{◌>>=◌}
use Rattle.q3_bits.proofs.Binds.{bind_assoc, bind_is}
use Rattle.q3_io.specs.Told.{Told, contents_at}
use Rattle.q3_demo.specs.Running.{OnlyAsks}
use Rattle.q3_savestate.specs.Cursor.{Cursor, Field, field_at, number_at, end_at}
use Rattle.q3_index.specs.declared.error.IndexError.{IndexError}
use Rattle.q3_index.specs.declared.error.IndexError.TheVariants.{ReadFault, NotIndex, OtherDemo, OtherWidth, NoMemory}
use Rattle.q3_index.specs.declared.index.Checkpoint.{Checkpoint}
use Rattle.q3_index.specs.declared.opening.Head.{Head}
use Rattle.q3_index.specs.Text.{spacing}
use Rattle.q3_index.specs.Opening.{checkpoints_at, checkpoints_of}
use Rattle.q3_index.specs.Steps.{from_place, head_size, numbers_at, checkpoint_at, least_of, Reads, read_to}
use Rattle.q3_index.proofs.Seeking.{told_later}

-- an answer that is a refusal stays one where the definitions refuse alike
pub reads_so : {X Y X' Y' : Type 0} (value : Y → X) (value' : Y' → X') (whole : Result X ℕ) (whole' : Result X' ℕ) (e : IndexError) → ((place : ℕ) → whole ≡ Err place → whole' ≡ Err place)
    → Reads value whole (Err e) → Reads value' whole' (Err e)
reads_so value value' whole whole' ReadFault alike reads = tt
reads_so value value' whole whole' (NotIndex place) alike reads = alike place reads
reads_so value value' whole whole' (OtherDemo kept found) alike reads = absurd reads
reads_so value value' whole whole' (OtherWidth kept found) alike reads = absurd reads
reads_so value value' whole whole' NoMemory alike reads = tt

-- ---- one checkpoint, and then the others

before_others : {X Y Z W : Type 0} (r : Field X) (f : X × Cursor → Field Y) (g : Y × Cursor → Field Z) (h : Z × Cursor → Field W) (whole : X × Cursor → Field W)
    → ((x : X × Cursor) → ((f x >>= g) >>= h) ≡ whole x) → (((r >>= f) >>= g) >>= h) ≡ (r >>= whole)
before_others (Ok x) f g h whole same = same x
before_others (Err at) f g h whole same = refl

-- those after others
abbrev after_others : List Checkpoint → Field (List Checkpoint) → Field (List Checkpoint)
after_others front (Ok x) = Ok (front ++ x.0, x.1)
after_others front (Err at) = Err at

others_after : ℕ → ℕ → ℕ → Checkpoint × Cursor → Field (List Checkpoint)
others_after left number most found = checkpoints_at left (number + spacing) (found.0.place + 1) most found.1 >>= λ others. Ok (found.0 ∷ others.0, others.1)

one_then : (left number least most : ℕ) (cursor : Cursor) → checkpoints_at (suc left) number least most cursor ≡ (checkpoint_at number least most cursor >>= others_after left number most)
unfolding checkpoints_at checkpoint_at numbers_at others_after
one_then left number least most cursor =
    let ended : Checkpoint → Cursor → Field (List Checkpoint) =
    λ found next. checkpoints_at left (number + spacing) (found.place + 1) most next >>= λ others. Ok (found ∷ others.0, others.1) in
    let after_state : Checkpoint → Cursor → Field (List Checkpoint) = λ found next. field_at found.length (λ (bytes : List ℕ). bytes) (λ bytes. true) next >>= λ state. ended found state.1 in
    let with_state : Checkpoint × Cursor → Field Checkpoint = λ found. field_at found.0.length (λ (bytes : List ℕ). bytes) (λ bytes. true) found.1 >>= λ state. Ok (found.0, state.1) in
    let last : ℕ → ℕ × Cursor → Field Checkpoint = λ place length. Ok (record { place = place; state = length.1.at; length = length.0 }, length.1) in
    let all_last : ℕ → ℕ × Cursor → Field (List Checkpoint) = λ place length. after_state (record { place = place; state = length.1.at; length = length.0 }) length.1 in
    let second : ℕ × Cursor → Field Checkpoint = λ place. number_at 4 0 4294967295 place.1 >>= last place.0 in
    let all_second : ℕ × Cursor → Field (List Checkpoint) = λ place. number_at 4 0 4294967295 place.1 >>= all_last place.0 in
    let first : ℕ × Cursor → Field Checkpoint = λ record_number. number_at 8 least most record_number.1 >>= second in
    let all_first : ℕ × Cursor → Field (List Checkpoint) = λ record_number. number_at 8 least most record_number.1 >>= all_second in
    sym (before_others (number_at 4 number number cursor) first with_state (others_after left number most) all_first
    (λ record_number. before_others (number_at 8 least most record_number.1) second with_state (others_after left number most) all_second
    (λ place. before_others (number_at 4 0 4294967295 place.1) (last place.0) with_state (others_after left number most) (all_last place.0)
    (λ length. bind_assoc (field_at length.0 (λ (bytes : List ℕ). bytes) (λ bytes. true) length.1) (λ state. Ok (record { place = place.0; state = length.1.at; length = length.0 }, state.1))
    (others_after left number most)))))

one_further : (found : Checkpoint) (r : Field (List Checkpoint)) → (r >>= λ others. Ok (found ∷ others.0, others.1)) ≡ after_others (found ∷ []) r
one_further found (Ok x) = refl
one_further found (Err at) = refl

both_after : (front : List Checkpoint) (found : Checkpoint) (r : Field (List Checkpoint)) → after_others front (after_others (found ∷ []) r) ≡ after_others (front ++ found ∷ []) r
both_after front found (Ok x) = ap (λ (xs : List Checkpoint). Ok (xs, x.1)) (sym (append_assoc front (found ∷ []) x.0))
both_after front found (Err at) = refl

after_none : (r : Field (List Checkpoint)) → after_others [] r ≡ r
after_none (Ok x) = refl
after_none (Err at) = refl

-- ---- as far as they were read

-- so many were found, and the others are there where the bytes from this place on have them
pub record FoundSo (bytes : List ℕ) (head : Head) (count : ℕ) (found : List Checkpoint) (least at : ℕ) : Type 0 where
  pub all : checkpoints_at head.count spacing 0 head.length (from_place bytes (head_size head.version))
      ≡ after_others found (checkpoints_at (head.count - count) ((count + 1) * spacing) least head.length (from_place bytes at))

pub found_none : (bytes : List ℕ) (head : Head) → FoundSo bytes head 0 [] 0 (head_size head.version)
found_none bytes head =
    let same : head.count - 0 ≡ head.count = omega arith in
    record { all = rw same (sym (after_none (checkpoints_at head.count spacing 0 head.length (from_place bytes (head_size head.version))))) }

more_found : (bytes : List ℕ) (left number least most at : ℕ) (found : Checkpoint) → checkpoint_at number least most (from_place bytes at) ≡ Ok (read_to bytes found)
    → checkpoints_at (suc left) number least most (from_place bytes at)
    ≡ after_others (found ∷ []) (checkpoints_at left (number + spacing) (found.place + 1) most (from_place bytes (found.state + found.length)))
unfolding others_after
more_found bytes left number least most at found is =
    one_then left number least most (from_place bytes at)
    ∙ bind_is (checkpoint_at number least most (from_place bytes at)) (others_after left number most) (read_to bytes found)
    (after_others (found ∷ []) (checkpoints_at left (number + spacing) (found.place + 1) most (from_place bytes (found.state + found.length)))) is
    (one_further found (checkpoints_at left (number + spacing) (found.place + 1) most (from_place bytes (found.state + found.length))))

pub found_more : (bytes : List ℕ) (head : Head) (count : ℕ) (found : List Checkpoint) (least at : ℕ) (one : Checkpoint) (number next : ℕ) → FoundSo bytes head count found least at → count < head.count
    → number ≡ (count + 1) * spacing → next ≡ one.place + 1 → checkpoint_at number least head.length (from_place bytes at) ≡ Ok (read_to bytes one)
    → FoundSo bytes head (count + 1) (found ++ one ∷ []) next (one.state + one.length)
found_more bytes head count found least at one number next so less number_is next_is is =
    let left : ℕ = head.count - (count + 1) in
    let more : head.count - count ≡ suc left = omega arith in
    let last : ℕ = one.state + one.length in
    let after : (count + 1) * spacing + spacing ≡ (count + 1 + 1) * spacing = omega arith in
    let here : checkpoint_at ((count + 1) * spacing) least head.length (from_place bytes at) ≡ Ok (read_to bytes one) =
    ap (λ (n : ℕ). checkpoint_at n least head.length (from_place bytes at)) (sym number_is) ∙ is in
    record {
      all = so.all ∙ ap (λ (n : ℕ). after_others found (checkpoints_at n ((count + 1) * spacing) least head.length (from_place bytes at))) more
          ∙ ap (after_others found) (more_found bytes left ((count + 1) * spacing) least head.length at one here)
          ∙ both_after found one (checkpoints_at left ((count + 1) * spacing + spacing) (one.place + 1) head.length (from_place bytes last))
          ∙ ap (λ (n : ℕ). after_others (found ++ one ∷ []) (checkpoints_at left n (one.place + 1) head.length (from_place bytes last))) after
          ∙ ap (λ (n : ℕ). after_others (found ++ one ∷ []) (checkpoints_at left ((count + 1 + 1) * spacing) n head.length (from_place bytes last))) (sym next_is);
    }

-- what follows them
ended : Field (List Checkpoint) → Result (List Checkpoint) ℕ
ended r = r >>= λ checkpoints. end_at checkpoints.1 >>= λ none. Ok checkpoints.0

of_is : (head : Head) (cursor : Cursor) → checkpoints_of head cursor ≡ ended (checkpoints_at head.count spacing 0 head.length cursor)
unfolding checkpoints_of ended
of_is head cursor = refl

pub found_wrong : (bytes : List ℕ) (head : Head) (count : ℕ) (found : List Checkpoint) (least at number place : ℕ) → FoundSo bytes head count found least at → count < head.count
    → number ≡ (count + 1) * spacing → checkpoint_at number least head.length (from_place bytes at) ≡ Err place → checkpoints_of head (from_place bytes (head_size head.version)) ≡ Err place
unfolding ended
found_wrong bytes head count found least at number place so less number_is is =
    let left : ℕ = head.count - (count + 1) in
    let more : head.count - count ≡ suc left = omega arith in
    let here : checkpoint_at ((count + 1) * spacing) least head.length (from_place bytes at) ≡ Err place =
    ap (λ (n : ℕ). checkpoint_at n least head.length (from_place bytes at)) (sym number_is) ∙ is in
    of_is head (from_place bytes (head_size head.version)) ∙ ap ended so.all
    ∙ ap (λ (n : ℕ). ended (after_others found (checkpoints_at n ((count + 1) * spacing) least head.length (from_place bytes at)))) more
    ∙ ap (λ (r : Field (List Checkpoint)). ended (after_others found r)) (one_then left ((count + 1) * spacing) least head.length (from_place bytes at))
    ∙ ap (λ (r : Field Checkpoint). ended (after_others found (r >>= others_after left ((count + 1) * spacing) head.length))) here

-- all of them
none_left : (number least most : ℕ) (cursor : Cursor) → checkpoints_at 0 number least most cursor ≡ Ok ([], cursor)
unfolding checkpoints_at
none_left number least most cursor = refl

all_found : (bytes : List ℕ) (head : Head) (count : ℕ) (found : List Checkpoint) (least at : ℕ) → FoundSo bytes head count found least at → head.count ≤ count
    → checkpoints_of head (from_place bytes (head_size head.version)) ≡ ended (Ok (found, from_place bytes at))
all_found bytes head count found least at so all =
    let none : head.count - count ≡ 0 = omega arith in
    of_is head (from_place bytes (head_size head.version)) ∙ ap ended so.all
    ∙ ap (λ (n : ℕ). ended (after_others found (checkpoints_at n ((count + 1) * spacing) least head.length (from_place bytes at)))) none
    ∙ ap (λ (r : Field (List Checkpoint)). ended (after_others found r)) (none_left ((count + 1) * spacing) least head.length (from_place bytes at))
    ∙ ap (λ (xs : List Checkpoint). ended (Ok (xs, from_place bytes at))) (append-nil found)

pub found_all : (bytes : List ℕ) (head : Head) (count : ℕ) (found : List Checkpoint) (least at : ℕ) → FoundSo bytes head count found least at → head.count ≤ count → length bytes ≤ at
    → checkpoints_of head (from_place bytes (head_size head.version)) ≡ Ok found
unfolding ended
found_all bytes head count found least at so all within =
    let none : (length (drop at bytes) == 0) ≡ true = eq-eqb (length (drop at bytes)) 0 (omega (arith, length-drop at bytes)) in
    all_found bytes head count found least at so all ∙ rw none refl

pub found_beyond : (bytes : List ℕ) (head : Head) (count : ℕ) (found : List Checkpoint) (least at : ℕ) → FoundSo bytes head count found least at → head.count ≤ count → at < length bytes
    → checkpoints_of head (from_place bytes (head_size head.version)) ≡ Err at
unfolding ended
found_beyond bytes head count found least at so all less =
    let some : (length (drop at bytes) == 0) ≡ false = ne_eqb (length (drop at bytes)) 0 (λ none. omega (arith, length-drop at bytes)) in
    all_found bytes head count found least at so all ∙ rw some refl

-- the least place of the next record
next_least : (place : ℕ) (next : Option ℕ) → SomeIff next (place + 1 < 2 ^ 64) (place + 1) → place < 2 ^ 64 → least_of next ≡ place + 1
next_least place None some within = grind arith
next_least place (Some least) some within = some.1

-- ---- where the file is told

-- so many were found in the file as it was told at first
abbrev pub AreFound : Option Told → ℕ → ℕ → Head → ℕ → List Checkpoint → ℕ → ℕ → Type 0
AreFound before index end head count found least at =
    (told : Told) → before ≡ Some told → end ≡ length (contents_at told index) → FoundSo (contents_at told index) head count found least at

-- one more was read as it is told then
abbrev pub ReadsOne : Option Told → ℕ → ℕ → ℕ → ℕ → ℕ → ℕ → Result Checkpoint IndexError → Type 0
ReadsOne mid index end number least most at result =
    (told : Told) → mid ≡ Some told → end ≡ length (contents_at told index)
    → Reads (read_to (contents_at told index)) (checkpoint_at number least most (from_place (contents_at told index) at)) result

pub reads_found : (before mid : Option Told) (index end : ℕ) (head : Head) (count : ℕ) (found : List Checkpoint) (least at : ℕ) (one : Checkpoint) (number : ℕ) (next : Option ℕ) (after : ℕ) → OnlyAsks before mid
    → AreFound before index end head count found least at → count < head.count → number ≡ (count + 1) * spacing → SomeIff next (one.place + 1 < 2 ^ 64) (one.place + 1) → one.place < 2 ^ 64 → after ≡ one.state + one.length
    → ReadsOne mid index end number least head.length at (Ok one) → AreFound before index end head (count + 1) (found ++ one ∷ []) (least_of next) after
reads_found before mid index end head count found least at one number next after asks so less number_is some placed rest_is reads told is whole =
    let later = told_later before mid told asks is in
    rw rest_is
    (found_more (contents_at told index) head count found least at one number (least_of next) (so told is whole) less number_is (next_least one.place next some placed)
    (reads (record told { asked = later.0 }) later.1 whole))

pub reads_wrong : {Y : Type 0} (value : Y → List Checkpoint) (before mid : Option Told) (index end : ℕ) (head : Head) (count : ℕ) (found : List Checkpoint) (least at number : ℕ) (e : IndexError) → OnlyAsks before mid
    → AreFound before index end head count found least at → count < head.count → number ≡ (count + 1) * spacing → ReadsOne mid index end number least head.length at (Err e)
    → (told : Told) → before ≡ Some told → end ≡ length (contents_at told index) → Reads value (checkpoints_of head (from_place (contents_at told index) (head_size head.version))) (Err e)
reads_wrong value before mid index end head count found least at number e asks so less number_is reads told is whole =
    let later = told_later before mid told asks is in
    let bytes : List ℕ = contents_at told index in
    reads_so (read_to bytes) value (checkpoint_at number least head.length (from_place bytes at)) (checkpoints_of head (from_place bytes (head_size head.version))) e
    (λ place stops. found_wrong bytes head count found least at number place (so told is whole) less number_is stops) (reads (record told { asked = later.0 }) later.1 whole)
