-- Strings stay within their limits, whatever a change does.
use Rattle.std.proofs.Common.{◌≡◌, ℕ, ◌<◌, ◌≤◌, Bool, List, [], length, replicate, map, Option, Some, None, inl, inr, refl, sym, ap, subst, ◌∙◌, arith}
use Rattle.std.specs.Str.{bytes_eq}
use Rattle.std.proofs.lemmas.Bool.{cases_Bool}
use Rattle.std.proofs.lemmas.List.{length-replicate}
use Rattle.std.proofs.lemmas.List.Elements.{All-replicate}
use Rattle.q3_text.specs.Texts.{translated}
use Rattle.q3_config.specs.declared.error.ConfigError.{ConfigError}
use Rattle.q3_config.specs.Strings.{Strings, Pending, AreStrings, places, longest_string, no_strings, string_at, set_fault}
use Rattle.q3_config.specs.Changes.{Applied, without_pending, change_or, make_change}
use Rattle.q3_config.specs.Parts.{strings_with, attempted}
use Rattle.q3_config.proofs.Sizes.{config_size-empty}
use Rattle.q3_config.proofs.Faults.{settable, with_string-stays}

-- so many empty strings, and nothing pending
empty : (n : ℕ) → n ≡ places → AreStrings (strings_with None (replicate n []))
empty n is = record {
  count = length-replicate n [] ∙ is;
  size = let size = config_size-empty n in omega arith;
  each = All-replicate (λ (text : List ℕ). length text ≤ longest_string) n [] (omega arith);
  pending = tt;
}

pub none-are : AreStrings no_strings
none-are = empty places refl

pub no_strings-are : (texts : List (List ℕ)) (pending : Option Pending) → texts ≡ replicate places [] → pending ≡ None → AreStrings (strings_with pending texts)
no_strings-are texts pending texts_are none = subst (λ (p : Option Pending). AreStrings (strings_with p texts)) (sym none) (subst (λ (ts : List (List ℕ)). AreStrings (strings_with None ts)) (sym texts_are) (empty places refl))

pub no_strings-is : (texts : List (List ℕ)) (pending : Option Pending) → texts ≡ replicate places [] → pending ≡ None → strings_with pending texts ≡ no_strings
no_strings-is texts pending texts_are none = ap (λ (p : Option Pending). strings_with p texts) none ∙ ap (λ (ts : List (List ℕ)). strings_with None ts) texts_are

-- nothing is pending any more
pub without_pending-stays : (strings : Strings) → AreStrings strings → AreStrings (without_pending strings)
without_pending-stays strings are = record { count = are.count; size = are.size; each = are.each; pending = tt }

-- another text is pending
pub pending-stays : (strings : Strings) (index : ℕ) (text : List ℕ) → AreStrings strings → index < places → length text ≤ longest_string → AreStrings (strings_with (Some (record { index = index; text = text })) strings.texts)
pending-stays strings index text are within short = record { count = are.count; size = are.size; each = are.each; pending = (within, short) }

change_or-stays : (strings : Strings) (index : ℕ) (text : List ℕ) (fault : Option ConfigError) → set_fault strings index text ≡ fault → AreStrings strings → AreStrings (change_or strings index text fault).strings
change_or-stays strings index text None none are = with_string-stays strings index text are (settable strings index text none).fits
change_or-stays strings index text (Some fault) some are = without_pending-stays strings are

-- a change leaves strings
pub make_change-stays : (strings : Strings) (index : ℕ) (text : List ℕ) → AreStrings strings → AreStrings (make_change strings index text).strings
make_change-stays strings index text are =
    elim (cases_Bool (bytes_eq (string_at strings index) (map translated text))) [
      | inl same ↦ rw same are
      | inr other ↦ rw other (change_or-stays strings index text (set_fault strings index text) refl are)
    ]

-- where a string was changed or the same, the strings are those of the change
pub attempted-some : (pending : Option Pending) (old new : List (List ℕ)) (result : Option Bool) (changed : Bool) (index : ℕ) (text : List ℕ) → AreStrings (strings_with pending old)
    → attempted pending new result ≡ make_change (strings_with pending old) index text → result ≡ Some changed → AreStrings (strings_with pending new)
attempted-some pending old new result changed index text are is some =
    subst (λ (a : Applied). AreStrings a.strings) (sym is ∙ ap (λ (r : Option Bool). attempted pending new r) some) (make_change-stays (strings_with pending old) index text are)

-- where it couldn't be, nothing is pending
pub attempted-none : (pending : Option Pending) (old new : List (List ℕ)) (result : Option Bool) (index : ℕ) (text : List ℕ) → AreStrings (strings_with pending old)
    → attempted pending new result ≡ make_change (strings_with pending old) index text → result ≡ None → AreStrings (strings_with None new)
attempted-none pending old new result index text are is none =
    subst (λ (a : Applied). AreStrings a.strings) (sym is ∙ ap (λ (r : Option Bool). attempted pending new r) none) (make_change-stays (strings_with pending old) index text are)

-- and where nothing was pending before, nothing is
attempted-either : (new : List (List ℕ)) (result : Option Bool) → (attempted None new result).strings ≡ strings_with None new
attempted-either new (Some changed) = refl
attempted-either new None = refl

pub attempted-last : (pending : Option Pending) (old new : List (List ℕ)) (result : Option Bool) (index : ℕ) (text : List ℕ) → AreStrings (strings_with pending old)
    → attempted None new result ≡ make_change (strings_with None old) index text → AreStrings (strings_with None new)
attempted-last pending old new result index text are is =
    subst (λ (s : Strings). AreStrings s) (ap (λ (a : Applied). a.strings) (sym is) ∙ attempted-either new result) (make_change-stays (strings_with None old) index text (without_pending-stays (strings_with pending old) are))
