-- Values that are read one after the other.
use Rattle.std.proofs.Common.{◌≡◌, ◌+◌, Bool, List, [], ◌∷◌, ◌++◌, length, Result, Ok, Err, refl, sym, ap, ◌∙◌, append_assoc}
use Rattle.q3_bits.specs.ResultBind.{◌>>=◌}
use Rattle.q3_bits.specs.Streams.{Reading}

-- with values that were read before
abbrev pub with_front : {X E : Type 0} → List X → Result (List X × List Bool) E → Result (List X × List Bool) E
with_front front read = read >>= λ x. Ok (front ++ x.0, x.1)

-- with these values in front, what is left reads as all did at the start
pub record HasFront {X E : Type 0} (start now : Reading) (front : List X) (left whole : Result (List X × List Bool) E) : Type 0 where
  pub words : now.words ≡ start.words
  pub place : now.place + length now.left ≡ start.place + length start.left
  pub reads : with_front front left ≡ whole

module _ {X E : Type 0} where
  with_none : (read : Result (List X × List Bool) E) → with_front [] read ≡ read
  with_none (Ok x) = refl
  with_none (Err e) = refl

  with_one : (front : List X) (y : X) (read : Result (List X × List Bool) E) → with_front front (with_front (y ∷ []) read) ≡ with_front (front ++ y ∷ []) read
  with_one front y (Ok x) = ap (λ (values : List X). Ok (values, x.1)) (sym (append_assoc front (y ∷ []) x.0))
  with_one front y (Err e) = refl

  pub front_begins : (start : Reading) (whole : Result (List X × List Bool) E) → HasFront start start [] whole whole
  front_begins start whole = record { words = refl; place = refl; reads = with_none whole }

  pub front_more : (start now next : Reading) (front : List X) (left whole others : Result (List X × List Bool) E) (y : X) → HasFront start now front left whole
      → next.words ≡ now.words → next.place + length next.left ≡ now.place + length now.left → left ≡ with_front (y ∷ []) others
      → HasFront start next (front ++ y ∷ []) others whole
  front_more start now next front left whole others y h words place is = record {
    words = words ∙ h.words;
    place = place ∙ h.place;
    reads = sym (with_one front y others) ∙ ap (λ (read : Result (List X × List Bool) E). with_front front read) (sym is) ∙ h.reads;
  }

  pub front_stops : (start now : Reading) (front : List X) (left whole : Result (List X × List Bool) E) (e : E) → HasFront start now front left whole → left ≡ Err e → Err e ≡ whole
  front_stops start now front left whole e h is = ap (λ (read : Result (List X × List Bool) E). with_front front read) (sym is) ∙ h.reads

  pub front_ends : (start now : Reading) (front : List X) (left whole : Result (List X × List Bool) E) (after : List Bool) → HasFront start now front left whole → left ≡ Ok ([], after)
      → Ok (front ++ [], after) ≡ whole
  front_ends start now front left whole after h is = ap (λ (read : Result (List X × List Bool) E). with_front front read) (sym is) ∙ h.reads
