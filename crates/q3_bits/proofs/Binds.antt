-- What is known of a row of steps, each of which may fail, by what is known of one of them.
use Rattle.std.specs.Prelude.{◌≡◌, ◌⊎◌, if◌then◌else◌, Bool, true, false, List, Result, Ok, Err, refl}
use Rattle.std.specs.Result.{result_map_both}
use Rattle.std.proofs.Common.{inl, inr, ap, subst}
use Rattle.q3_bits.specs.ResultBind.{◌>>=◌, left_of}

-- where a row of steps answers, its first step answered, and the others from there on
pub bind_ok : {A B E : Type 0} (r : Result A E) (f : A → Result B E) (y : B) → (r >>= f) ≡ Ok y → (x : A) × (r ≡ Ok x) × (f x ≡ Ok y)
bind_ok (Ok x) f y e = (x, refl, e)
bind_ok (Err d) f y e = absurd cc

-- where it refuses, its first step did, or a later one
pub bind_err : {A B E : Type 0} (r : Result A E) (f : A → Result B E) (e : E) → (r >>= f) ≡ Err e → (r ≡ Err e) ⊎ ((x : A) × (r ≡ Ok x) × (f x ≡ Err e))
bind_err (Ok x) f e is = inr (x, refl, is)
bind_err (Err d) f e is = inl cc

-- where an answer with its fault made another one is Ok, the answer is
pub map_err_ok : {A E D : Type 0} (f : E → D) (r : Result A E) (x : A) → result_map_both (λ (y : A). y) f r ≡ Ok x → r ≡ Ok x
map_err_ok f (Ok y) x e = cc
map_err_ok f (Err d) x e = absurd cc

-- where the steps after an answer agree, so do the rows
pub bind_same : {A B E : Type 0} (r : Result A E) (f g : A → Result B E) → ((x : A) → r ≡ Ok x → f x ≡ g x) → (r >>= f) ≡ (r >>= g)
bind_same (Ok x) f g same = same x refl
bind_same (Err e) f g same = refl

-- a row after a row is one row
pub bind_assoc : {A B C E : Type 0} (r : Result A E) (f : A → Result B E) (g : B → Result C E) → ((r >>= f) >>= g) ≡ (r >>= λ x. f x >>= g)
bind_assoc (Ok x) f g = refl
bind_assoc (Err e) f g = refl

-- a row whose first step answers goes on from there
pub bind_is : {A B E : Type 0} (r : Result A E) (f : A → Result B E) (x : A) (y : Result B E) → r ≡ Ok x → f x ≡ y → (r >>= f) ≡ y
bind_is r f x y is e = rw is e

-- where nothing but the value differs, an answer ends at the same place
pub left_ok : {A E : Type 0} (r : Result (A × List Bool) E) (rest : List Bool) → left_of r ≡ Ok rest → (x : A) × (r ≡ Ok (x, rest))
left_ok (Ok x) rest e =
    let is : x.1 ≡ rest = cc in
    (x.0, ap (λ (left : List Bool). Ok (x.0, left)) is)
left_ok (Err d) rest e = absurd cc

-- rows that go on at the same place end at the same place
pub bind_alike : {A B C D E : Type 0} (r : Result (A × List Bool) E) (s : Result (B × List Bool) E) (f : A × List Bool → Result (C × List Bool) E) (g : B × List Bool → Result (D × List Bool) E)
    → left_of r ≡ left_of s → ((x : A) (y : B) (rest : List Bool) → left_of (f (x, rest)) ≡ left_of (g (y, rest))) → left_of (r >>= f) ≡ left_of (s >>= g)
bind_alike (Ok x) (Ok y) f g e alike =
    let is : x.1 ≡ y.1 = cc in
    subst (λ (rest : List Bool). left_of (f x) ≡ left_of (g (y.0, rest))) is (alike x.0 y.0 x.1)
bind_alike (Ok x) (Err d) f g e alike = absurd cc
bind_alike (Err d) (Ok y) f g e alike = absurd cc
bind_alike (Err d) (Err d') f g e alike =
    let is : d ≡ d' = cc in
    ap (λ d. Err d) is

-- and so do rows after one answer
pub bind_after : {A C D E : Type 0} (r : Result A E) (f : A → Result (C × List Bool) E) (g : A → Result (D × List Bool) E) → ((x : A) → left_of (f x) ≡ left_of (g x))
    → left_of (r >>= f) ≡ left_of (r >>= g)
bind_after (Ok x) f g alike = alike x
bind_after (Err e) f g alike = refl

-- and so do two of which a test picks one
pub if_alike : {C D E : Type 0} (b : Bool) (r r' : Result (C × List Bool) E) (s s' : Result (D × List Bool) E) → left_of r ≡ left_of s → left_of r' ≡ left_of s'
    → left_of (if b then r else r') ≡ left_of (if b then s else s')
if_alike true r r' s s' first second = first
if_alike false r r' s s' first second = second

-- and those whose faults were made others
pub map_err_alike : {A B D E : Type 0} (f : D → E) (r : Result (A × List Bool) D) (s : Result (B × List Bool) D) → left_of r ≡ left_of s
    → left_of (result_map_both (λ x. x) f r) ≡ left_of (result_map_both (λ x. x) f s)
map_err_alike f (Ok x) (Ok y) e =
    let is : x.1 ≡ y.1 = cc in
    ap (λ (rest : List Bool). Ok rest) is
map_err_alike f (Ok x) (Err d) e = absurd cc
map_err_alike f (Err d) (Ok y) e = absurd cc
map_err_alike f (Err d) (Err d') e =
    let is : d ≡ d' = cc in
    ap (λ d. Err (f d)) is
