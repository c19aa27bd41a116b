-- Reading values one after the other over a list, as a loop does.
use Rattle.std.proofs.Common.{◌≡◌, ℕ, ◌+◌, ◌<◌, ◌≤◌, List, [], ◌∷◌, ◌++◌, length, take, drop, get_or, set, Ok, Err, refl, sym, ap, ◌∙◌, append_assoc, arith}
use Rattle.std.proofs.lemmas.List.{drop-drop, drop-set-lt, get_or-drop, take-append-drop, take_more_set, length-set}
use Rattle.std.proofs.Math.Seq.{take-add}
use Rattle.q3_bits.specs.Streams.{Reading}
use Rattle.q3_bits.specs.InPlace.{ListRead, with_front, with_first, HasRead}
use Rattle.q3_bits.specs.declared.reader.ReadError.{ReadError}

-- the first of what is still read goes to what was read before
regroup : (front : List ℕ) (y : ℕ) (read : ListRead) → with_front front (with_first y read) ≡ with_front (front ++ y ∷ []) read
regroup front y (Ok x) = ap (λ (ys : List ℕ). Ok (ys, x.1)) (simp append_assoc)
regroup front y (Err e) = refl

-- nothing in front changes nothing
with_front-none : (read : ListRead) → with_front [] read ≡ read
with_front-none (Ok x) = refl
with_front-none (Err e) = refl

-- at the start
pub HasRead-none : (start : Reading) (from : List ℕ) (whole : ListRead) → HasRead start start 0 from from whole whole
HasRead-none start from whole = record {
  words = refl;
  place = refl;
  after = refl;
  long = refl;
  reads = with_front-none whole;
}

-- the next value is as it was
pub HasRead-here : (start now : Reading) (k : ℕ) (from into : List ℕ) (left whole : ListRead) → HasRead start now k from into left whole → get_or into k 0 ≡ get_or from k 0
HasRead-here start now k from into left whole h =
    let here : k + 0 ≡ k = omega arith in
    ap (λ (n : ℕ). get_or into n 0) (sym here) ∙ sym (get_or-drop k into 0 0) ∙ ap (λ (xs : List ℕ). get_or xs 0 0) h.after ∙ get_or-drop k from 0 0 ∙ ap (λ (n : ℕ). get_or from n 0) here

-- one value more
pub HasRead-more : (start now next : Reading) (k : ℕ) (from into : List ℕ) (left whole others : ListRead) (y : ℕ) → HasRead start now k from into left whole → k < length from
    → next.words ≡ now.words → next.place + length next.left ≡ now.place + length now.left → left ≡ with_first y others
    → HasRead start next (k + 1) from (set into k y) others whole
HasRead-more start now next k from into left whole others y h within words place read =
    let within' : k < length into = omega (arith, h.long) in
    let one : with_front (take k into) left ≡ with_front (take k into ++ y ∷ []) others = rw read (regroup (take k into) y others) in
    record {
      words = words ∙ h.words;
      place = place ∙ h.place;
      after = drop-set-lt (k + 1) into k y (omega arith) ∙ sym (drop-drop 1 k into) ∙ ap (drop 1) h.after ∙ drop-drop 1 k from;
      long = length-set into k y ∙ h.long;
      reads = rw take_more_set (sym one ∙ h.reads);
    }

-- a front after a front is one
regroup-front : (first second : List ℕ) (read : ListRead) → with_front first (with_front second read) ≡ with_front (first ++ second) read
regroup-front first second (Ok x) = ap (λ (ys : List ℕ). Ok (ys, x.1)) (simp append_assoc)
regroup-front first second (Err e) = refl

-- more of them stay
pub HasRead-keep : (start now next : Reading) (k n : ℕ) (from into : List ℕ) (left whole others : ListRead) → HasRead start now k from into left whole → k + n ≤ length from
    → next.words ≡ now.words → next.place + length next.left ≡ now.place + length now.left → left ≡ with_front (take n (drop k from)) others
    → HasRead start next (k + n) from into others whole
HasRead-keep start now next k n from into left whole others h within words place read =
    let parts : take (k + n) into ≡ take k into ++ take n (drop k from) =
    take-add k n into ∙ ap (λ (ys : List ℕ). take k into ++ take n ys) h.after in
    record {
      words = words ∙ h.words;
      place = place ∙ h.place;
      after = sym (drop-drop n k into) ∙ ap (drop n) h.after ∙ drop-drop n k from;
      long = h.long;
      reads = ap (λ (ys : List ℕ). with_front ys others) parts ∙ sym (regroup-front (take k into) (take n (drop k from)) others) ∙ ap (with_front (take k into)) (sym read) ∙ h.reads;
    }

-- a fault ends it
pub HasRead-ends : (start now : Reading) (k : ℕ) (from into : List ℕ) (left whole : ListRead) (e : ReadError) → HasRead start now k from into left whole → left ≡ Err e → whole ≡ Err e
HasRead-ends start now k from into left whole e h bad = sym h.reads ∙ rw bad refl

-- all were read
pub HasRead-all : (start now : Reading) (k : ℕ) (from into : List ℕ) (left whole : ListRead) → HasRead start now k from into left whole → left ≡ Ok (drop k from, now.left)
    → whole ≡ Ok (into, now.left)
HasRead-all start now k from into left whole h none =
    let all : take k into ++ drop k from ≡ into = ap (λ (ys : List ℕ). take k into ++ ys) (sym h.after) ∙ take-append-drop k into in
    sym h.reads ∙ rw (none, all) refl
