-- What a list has at one number, before the entities of larger ones.
use Rattle.std.proofs.Common.{◌≡◌, ◌≢◌, ◌==◌, ℕ, ◌+◌, ◌<◌, ◌≤◌, Bool, true, false, List, [], ◌∷◌, ◌++◌, length, Option, Some, None, Ok, refl, sym, subst, append_assoc, ◌∙◌, inl, inr, arith, eqb, ltb, length-append, IfSome}
use Rattle.std.specs.List.{All, find}
use Rattle.std.proofs.lemmas.Bool.{cases_eq, cases_Bool, ne_eqb, eq-eqb, lt-ltb}
use Rattle.std.proofs.lemmas.List.Elements.{All-cons}
use Rattle.q3_entity.specs.declared.state.EntityState.{EntityState}
use Rattle.q3_entity.specs.declared.reading.Entry.{Entry}
use Rattle.q3_entity.specs.declared.reading.Entry.TheVariants.{Removed, Changed, Same}
use Rattle.q3_entity.specs.Entities.{RiseFrom, most_entities, with_number}
use Rattle.q3_entity.specs.Lists.{one_more, stays, entered}
use Rattle.q3_entity.specs.Spelling.{Entered, EntriesRise, state_after, words_there}
use Rattle.q3_entity.proofs.Risen.{rise-lower, with_number-after, with_number-below}
use Rattle.q3_entity.proofs.Numbers.{with_number-named}
use Rattle.q3_entity.proofs.ListWritten.{found-all}

-- the entity of a number, if there is one, and those after it
abbrev pub with_first : Option EntityState → List EntityState → List EntityState
with_first None others = others
with_first (Some x) others = x ∷ others

-- an entity has the number
abbrev pub IsNamed : ℕ → Option EntityState → Type 0
IsNamed number None = Unit {0}
IsNamed number (Some x) = x.number ≡ number

pub first-rises : (limit number : ℕ) (o : Option EntityState) (others : List EntityState) → IsNamed number o → number < limit → RiseFrom limit (number + 1) others
    → RiseFrom limit number (with_first o others)
first-rises limit number None others named below rise = rise-lower limit (number + 1) number others (omega arith) rise
first-rises limit number (Some x) others named below rise = (omega (arith, named), omega (arith, named), rw named rise)

pub first-found : (limit number : ℕ) (o : Option EntityState) (others : List EntityState) → IsNamed number o → RiseFrom limit (number + 1) others → with_number number (with_first o others) ≡ o
first-found limit number None others named rise = with_number-below limit (number + 1) number others rise (omega arith)
first-found limit number (Some x) others named rise = with_number-named x others number named

pub first-others : (number n : ℕ) (o : Option EntityState) (others : List EntityState) → IsNamed number o → n ≢ number → with_number n (with_first o others) ≡ with_number n others
first-others number n None others named other = refl
first-others number n (Some x) others named other = with_number-after n x others (λ same. other (sym same ∙ named))

pub first-all : (P : EntityState → Type 0) (o : Option EntityState) (others : List EntityState) → ((x : EntityState) → o ≡ Some x → P x) → All P others → All P (with_first o others)
first-all P None others one all = all
first-all P (Some x) others one all = All-cons P x others (one x refl) all

-- the entities of a list, cut after one number
pub record IsCut (limit number : ℕ) (xs : List EntityState) : Type 0 where
  pub others : List EntityState
  pub whole : xs ≡ with_first (with_number number xs) others
  pub rise : RiseFrom limit (number + 1) others
  pub same : (n : ℕ) → number + 1 ≤ n → with_number n others ≡ with_number n xs

pub cut : (limit number : ℕ) (xs : List EntityState) → RiseFrom limit number xs → IsCut limit number xs
cut limit number [] rise = record { others = []; whole = refl; rise = tt; same = λ n more. refl }
cut limit number (x ∷ xs) rise =
    elim (cases_eq x.number number) [
      | inl here ↦ record {
        others = xs;
        whole = rw (with_number-named x xs number here) refl;
        rise = rw (← here) rise.2;
        same = λ n more. sym (with_number-after n x xs (λ is. omega arith));
      }
      | inr later ↦
          let risen : RiseFrom limit (number + 1) (x ∷ xs) = (omega (arith, rise.0, later), rise.1, rise.2) in
          record {
            others = x ∷ xs;
            whole = rw (with_number-below limit (number + 1) number (x ∷ xs) risen (omega arith)) refl;
            rise = risen;
            same = λ n more. refl;
          }
    ]

-- what is true of each entity is true of the one under a number
some_holds : (P : EntityState → Type 0) (o : Option EntityState) (x : EntityState) → IfSome o P → o ≡ Some x → P x
some_holds P None x holds e = absurd cc
some_holds P (Some y) x holds e =
    let is : y ≡ x = cc in
    subst P is holds

pub with_number-all : (P : EntityState → Type 0) (number : ℕ) (xs : List EntityState) (x : EntityState) → All P xs → with_number number xs ≡ Some x → P x
with_number-all P number xs x all e = some_holds P (with_number number xs) x (found-all P number xs all) e

-- the entry of a number
abbrev pub entry_of : ℕ → List Entered → Option Entered
entry_of number entries = find (λ entry. entry.number == number) entries

pub entry_of-below : (limit least number : ℕ) (entries : List Entered) → EntriesRise limit least entries → number < least → entry_of number entries ≡ None
entry_of-below limit least number [] rise below = refl
entry_of-below limit least number (entry ∷ entries) rise below =
    let other : eqb entry.number number ≡ false = ne_eqb entry.number number (λ same. omega (arith, rise.0)) in
    rw other (entry_of-below limit (entry.number + 1) number entries rise.2 (omega (arith, rise.0)))

pub entry_of-first : (entry : Entered) (entries : List Entered) (number : ℕ) → entry.number ≡ number → entry_of number (entry ∷ entries) ≡ Some entry
entry_of-first entry entries number same = rw (eq-eqb entry.number number same) refl

pub entry_of-others : (entry : Entered) (entries : List Entered) (number : ℕ) → entry.number ≢ number → entry_of number (entry ∷ entries) ≡ entry_of number entries
entry_of-others entry entries number other = rw (ne_eqb entry.number number other) refl

-- the state that an entry's words say
abbrev pub state_there : ℕ → Option (List ℕ) → Option EntityState
state_there number None = None
state_there number (Some words) = Some (record { number = number; words = words })

pub state_of_entry : (from : Option EntityState) (number : ℕ) (entry : Entered) → state_after from number (Some entry) ≡ state_there number entry.words
state_of_entry from number entry = refl

-- one more, or none
abbrev pub pushed : List EntityState → Option EntityState → List EntityState
pushed entities None = entities
pushed entities (Some x) = entities ++ x ∷ []

pub pushed-first : (entities : List EntityState) (o : Option EntityState) (others : List EntityState) → pushed entities o ++ others ≡ entities ++ with_first o others
pushed-first entities None others = refl
pushed-first entities (Some x) others = append_assoc entities (x ∷ []) others

one_more-was : (entities : List EntityState) (x : EntityState) (now : List EntityState) → one_more entities x ≡ Ok now → now ≡ entities ++ x ∷ []
one_more-was entities x now e =
    elim (cases_Bool (ltb (length entities) 256)) [
      | inl room ↦ let made = rw room at e in cc
      | inr full ↦ absurd (let wrong = rw full at e in cc)
    ]

-- what stayed
pub stays-was : (entities : List EntityState) (from : Option EntityState) (now : List EntityState) → stays entities from ≡ Ok now → now ≡ pushed entities from
stays-was entities None now e = cc
stays-was entities (Some x) now e = one_more-was entities x now e

-- what entered
pub entered-was : (entities : List EntityState) (in_base : Bool) (number : ℕ) (kind : Entry) (words : List ℕ) (now : List EntityState) → entered entities in_base number kind words ≡ Ok now
    → (now ≡ pushed entities (state_there number (words_there kind words))) × ((words_there kind words ≡ None) → in_base ≡ true)
entered-was entities true number Removed words now e = (cc, λ _. refl)
entered-was entities false number Removed words now e = absurd cc
entered-was entities in_base number Changed words now e = (one_more-was entities _ now e, λ none. absurd cc)
entered-was entities in_base number Same words now e = (one_more-was entities _ now e, λ none. absurd cc)

-- there is room for one, where it and more are few
one_more-is : (entities : List EntityState) (x : EntityState) → length entities < 256 → one_more entities x ≡ Ok (entities ++ x ∷ [])
one_more-is entities x room = rw (lt-ltb (length entities) 256 room) refl

pub stays-is : (entities : List EntityState) (from : Option EntityState) (others : List EntityState) → length (entities ++ with_first from others) ≤ most_entities
    → stays entities from ≡ Ok (pushed entities from)
stays-is entities None others few = refl
stays-is entities (Some x) others few =
    let sum : length (entities ++ x ∷ others) ≡ length entities + length (x ∷ others) = length-append entities (x ∷ others) in
    one_more-is entities x (omega arith)

pub entered-is : (entities : List EntityState) (in_base : Bool) (number : ℕ) (kind : Entry) (words : List ℕ) (others : List EntityState)
    → length (entities ++ with_first (state_there number (words_there kind words)) others) ≤ most_entities → ((words_there kind words ≡ None) → in_base ≡ true)
    → entered entities in_base number kind words ≡ Ok (pushed entities (state_there number (words_there kind words)))
entered-is entities in_base number Removed words others few held = rw (held refl) refl
entered-is entities in_base number Changed words others few held =
    let x : EntityState = record { number = number; words = words } in
    let sum : length (entities ++ x ∷ others) ≡ length entities + length (x ∷ others) = length-append entities (x ∷ others) in
    one_more-is entities x (omega arith)
entered-is entities in_base number Same words others few held =
    let x : EntityState = record { number = number; words = words } in
    let sum : length (entities ++ x ∷ others) ≡ length entities + length (x ∷ others) = length-append entities (x ∷ others) in
    one_more-is entities x (omega arith)
