-- Fields that are read of a front of bytes, and where they are.
use Rattle.std.proofs.Common.{◌≡◌, ℕ, ◌+◌, ◌≤◌, Bool, true, false, List, length, take, drop, Ok, Err, refl, sym, ap, ◌∙◌, ltb-true, lt-ltb, arith}
use Rattle.std.specs.Prelude.{nat_lt, if◌then◌else◌}
use Rattle.std.proofs.lemmas.Bool.{cond_both, ltb_from_iff}
use Rattle.std.proofs.lemmas.List.{length-take, take-take, drop-take, drop-drop}
use Rattle.q3_bits.specs.ResultBind.{◌>>=◌}
use Rattle.q3_savestate.specs.Cursor.{Cursor, Field, cursor_after, field_at}
use Rattle.q3_index.specs.Steps.{from_place, value_of}

-- ---- a front of bytes

-- what is left begins so
abbrev pub fronted : {X : Type 0} → ℕ → Field X → Field X
fronted k (Ok x) = Ok (x.0, record { at = x.1.at; bytes = take k x.1.bytes })
fronted k (Err at) = Err at

-- what is read of a front is what is read of the whole, with so many bytes left
pub record IsFront {X : Type 0} (k : ℕ) (part whole : Field X) : Type 0 where
  pub same : part ≡ fronted k whole

pub ok_front : {X : Type 0} (k : ℕ) (x : X) (at : ℕ) (bytes : List ℕ) → IsFront k (Ok (x, record { at = at; bytes = take k bytes })) (Ok (x, record { at = at; bytes = bytes }))
ok_front k x at bytes = record { same = refl }

cases_front : {X : Type 0} (left : ℕ) (short right : Bool) (x : X) (next : ℕ) (bytes : List ℕ) (at : ℕ)
    → IsFront left (if short then Err at else if right then Ok (x, record { at = next; bytes = take left bytes }) else Err at)
    (if short then Err at else if right then Ok (x, record { at = next; bytes = bytes }) else Err at)
cases_front left true right x next bytes at = record { same = refl }
cases_front left false true x next bytes at = record { same = refl }
cases_front left false false x next bytes at = record { same = refl }

short_front : (k count : ℕ) (bytes : List ℕ) → count ≤ k → nat_lt (length (take k bytes)) count ≡ nat_lt (length bytes) count
short_front k count bytes within =
    ltb_from_iff ((λ short. omega (arith, ltb-true (length (take k bytes)) count short, length-take k bytes)), (λ less. lt-ltb (length (take k bytes)) count (omega (arith, length-take k bytes))))

pub field_front : {X : Type 0} (count k left : ℕ) → count + left ≡ k → (value : List ℕ → X) (rule : X → Bool) (at : ℕ) (bytes : List ℕ)
    → IsFront left (field_at count value rule (record { at = at; bytes = take k bytes })) (field_at count value rule (record { at = at; bytes = bytes }))
field_front count k left is value rule at bytes =
    let short : nat_lt (length (take k bytes)) count ≡ nat_lt (length bytes) count = short_front k count bytes (omega arith) in
    let first : take count (take k bytes) ≡ take count bytes = take-take count k bytes (omega arith) in
    let rest : drop count (take k bytes) ≡ take left (drop count bytes) = ap (λ (n : ℕ). drop count (take n bytes)) (sym is) ∙ drop-take count left bytes in
    rw (short, first, rest) (cases_front left (nat_lt (length bytes) count) (rule (value (take count bytes))) (value (take count bytes)) (at + count) (drop count bytes) at)

pub then_front : {X Y : Type 0} (j k : ℕ) (part whole : Field X) (f g : X × Cursor → Field Y) → IsFront j part whole
    → ((x : X) (at : ℕ) (bytes : List ℕ) → IsFront k (f (x, record { at = at; bytes = take j bytes })) (g (x, record { at = at; bytes = bytes }))) → IsFront k (part >>= f) (whole >>= g)
then_front j k part (Ok x) f g first next = rw first.same (next x.0 x.1.at x.1.bytes)
then_front j k part (Err at) f g first next = rw first.same (record { same = refl })

-- and the value is the same
value_fronted : {X : Type 0} (k : ℕ) (whole : Field X) → value_of (fronted k whole) ≡ value_of whole
value_fronted k (Ok x) = refl
value_fronted k (Err at) = refl

pub front_value : {X : Type 0} (k : ℕ) (part whole : Field X) → IsFront k part whole → value_of part ≡ value_of whole
front_value k part whole is = ap value_of is.same ∙ value_fronted k whole

pub then_value : {X Y : Type 0} (j : ℕ) (part whole : Field X) (f : X × Cursor → Field Y) → IsFront j part whole
    → ((x : X) (at : ℕ) (bytes : List ℕ) → value_of (f (x, record { at = at; bytes = take j bytes })) ≡ value_of (f (x, record { at = at; bytes = bytes }))) → value_of (part >>= f) ≡ value_of (whole >>= f)
then_value j part (Ok x) f first next = rw first.same (next x.0 x.1.at x.1.bytes)
then_value j part (Err at) f first next = rw first.same refl

-- ---- places

-- what follows what was read stands at this place
pub record LeadsTo {X : Type 0} (bytes : List ℕ) (at : ℕ) (r : Field X) : Type 0 where
  pub found : (x : X) (cursor : Cursor) → r ≡ Ok (x, cursor) → cursor ≡ from_place bytes at

pub ok_leads : {X : Type 0} (bytes : List ℕ) (at : ℕ) (x : X) → LeadsTo bytes at (Ok (x, from_place bytes at))
ok_leads {X = X} bytes at x = record {
  found = λ y cursor same.
      let pairs : ◌≡◌ {A = X × Cursor} (x, from_place bytes at) (y, cursor) = cc in
      sym (ap (λ (p : X × Cursor). p.1) pairs);
}

pub field_leads : {X : Type 0} (bytes : List ℕ) (at count next : ℕ) → at + count ≡ next → (value : List ℕ → X) (rule : X → Bool) → LeadsTo bytes next (field_at count value rule (from_place bytes at))
field_leads {X = X} bytes at count next is value rule =
    let left : List ℕ = drop at bytes in
    let none : LeadsTo {X = X} bytes next (Err at) = record { found = λ y cursor same. absurd cc } in
    let there : cursor_after count (from_place bytes at) ≡ from_place bytes next =
    ap (λ (rest : List ℕ). record { at = at + count; bytes = rest }) (drop-drop count at bytes) ∙ ap (from_place bytes) is in
    cond_both (nat_lt (length left) count) (Err at) (if rule (value (take count left)) then Ok (value (take count left), cursor_after count (from_place bytes at)) else Err at) (LeadsTo bytes next) (λ short. none)
    (λ long. cond_both (rule (value (take count left))) (Ok (value (take count left), cursor_after count (from_place bytes at))) (Err at) (LeadsTo bytes next)
    (λ right. rw there (ok_leads bytes next (value (take count left)))) (λ wrong. none))

pub then_leads : {X Y : Type 0} (bytes : List ℕ) (at next : ℕ) (r : Field X) (f : X × Cursor → Field Y) → LeadsTo bytes at r → ((x : X) → LeadsTo bytes next (f (x, from_place bytes at)))
    → LeadsTo bytes next (r >>= f)
then_leads bytes at next (Ok x) f first others = rw (sym (first.found x.0 x.1 refl)) at (others x.0)
then_leads bytes at next (Err place) f first others = record { found = λ y cursor same. absurd cc }

-- a refusal that was told
pub refused_on : {X : Type 0} (r : Field X) (place : ℕ) → value_of r ≡ Err place → r ≡ Err place
refused_on (Ok y) place is = absurd cc
refused_on {X = X} (Err at) place is =
    let one : at ≡ place = cc in
    let stop : ℕ → Field X = λ n. Err n in
    ap stop one
