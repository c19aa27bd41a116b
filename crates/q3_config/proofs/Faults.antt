-- What is known where nothing is wrong with a text, and that strings stay within their limits then.
use Rattle.std.proofs.Common.{◌≡◌, ℕ, ◌<◌, ◌≤◌, Bool, false, ltb, List, [], ◌∷◌, length, map, Option, Some, None, inl, inr, refl, sym, ◌∙◌, arith, Ok, Result, Err}
use Rattle.std.specs.List.{All}
use Rattle.std.specs.Result.{OnOk}
use Rattle.std.specs.Prelude.{not, find, IsTrue}
use Rattle.std.proofs.lemmas.Bool.{cases_Bool, ltb-true, ltb-false, leb-true, lt-ltb, le-ltb, not-false}
use Rattle.std.proofs.lemmas.List.{length-set, length-map}
use Rattle.std.proofs.lemmas.List.Elements.{All-set, All-nil, All-cons, All-weaker}
use Rattle.q3_text.specs.Texts.{translated}
use Rattle.q3_config.specs.declared.error.ConfigError.{ConfigError}
use Rattle.q3_config.specs.declared.error.ConfigError.TheVariants.{Index, Long, Full}
use Rattle.q3_config.specs.Laws.{HasRoom, Admitted}
use Rattle.q3_config.specs.Strings.{Strings, AreStrings, places, longest_string, with_string, is_config_byte, chars_fault, fits, room_fault, set_fault, admit_fault, refused, after_set}

abbrev pub no_fault : Option ConfigError
no_fault = None

abbrev some_fault : ConfigError → Option ConfigError
some_fault fault = Some fault

abbrev some_byte : ℕ → Option ℕ
some_byte byte = Some byte

abbrev no_byte : Option ℕ
no_byte = None

-- an index among the places leaves what is wrong with the room
pub set_fault-within : (strings : Strings) (index : ℕ) (text : List ℕ) → index < places → set_fault strings index text ≡ room_fault strings index text
unfolding set_fault
set_fault-within strings index text lt = rw (lt-ltb index places lt) refl

-- another has no string
pub set_fault-past : (strings : Strings) (index : ℕ) (text : List ℕ) → places ≤ index → set_fault strings index text ≡ Some Index
unfolding set_fault
set_fault-past strings index text le = rw (le-ltb index places le) refl

-- where all bytes may be carried, only the room can be wrong
pub admit_fault-carried : (strings : Strings) (index : ℕ) (text : List ℕ) → index < places → find (λ byte. not (is_config_byte byte)) text ≡ None → admit_fault strings index text ≡ room_fault strings index text
unfolding admit_fault
admit_fault-carried strings index text lt none = rw (lt-ltb index places lt, none) refl

-- where nothing is wrong with the room, a text has it
pub fits_room : (strings : Strings) (index : ℕ) (text : List ℕ) → room_fault strings index text ≡ None → HasRoom strings index text
fits_room strings index text none =
    elim (cases_Bool (ltb longest_string (length text))) [
      | inl long ↦ let e : some_fault Long ≡ no_fault = rw long at none in absurd cc
      | inr short ↦ elim (cases_Bool (fits strings index text)) [
        | inl within ↦ record { short = ltb-false _ _ short; room = leb-true _ _ within }
        | inr full ↦ let e : some_fault Full ≡ no_fault = rw (short, full) at none in absurd cc
      ]
    ]

-- a text that may be set
pub record Settable (strings : Strings) (index : ℕ) (text : List ℕ) : Type 0 where
  pub within : index < places
  pub fits : HasRoom strings index text

pub settable : (strings : Strings) (index : ℕ) (text : List ℕ) → set_fault strings index text ≡ None → Settable strings index text
settable strings index text none =
    elim (cases_Bool (ltb index places)) [
      | inl within ↦ let lt = ltb-true _ _ within in record { within = lt; fits = fits_room strings index text (sym (set_fault-within strings index text lt) ∙ none) }
      | inr past ↦ let e : some_fault Index ≡ no_fault = sym (set_fault-past strings index text (ltb-false _ _ past)) ∙ none in absurd cc
    ]

-- where no byte is found, each of them fails the test
find-none : (p : ℕ → Bool) (text : List ℕ) → find p text ≡ None → All (λ x. p x ≡ false) text
find-none p [] none = All-nil (λ x. p x ≡ false)
find-none p (x ∷ text) none = elim (cases_Bool (p x)) [
  | inl passes ↦ let e : some_byte x ≡ no_byte = rw passes at none in absurd cc
  | inr fails ↦ All-cons (λ x. p x ≡ false) x text fails (find-none p text (rw fails at none))
]

-- and each of them may be carried
pub all-carried : (text : List ℕ) → find (λ byte. not (is_config_byte byte)) text ≡ None → All (λ byte. IsTrue (is_config_byte byte)) text
all-carried text none = All-weaker (λ x. not (is_config_byte x) ≡ false) (λ x. IsTrue (is_config_byte x)) (λ x e. not-false (is_config_byte x) e) text (find-none (λ x. not (is_config_byte x)) text none)

-- what holds in any case holds where nothing is refused
pub on_ok : (result : Result (Unit {0}) ConfigError) (P : Type 0) → P → OnOk result P
on_ok (Ok x) P p = p
on_ok (Err fault) P p = tt

-- nor with its bytes, by the first that may not be carried
admitted-chars : (strings : Strings) (index : ℕ) (text : List ℕ) (byte : Option ℕ) → index < places → find (λ byte. not (is_config_byte byte)) text ≡ byte → chars_fault strings index text byte ≡ None → Admitted strings index text
admitted-chars strings index text None within found none = record {
  within = within;
  carried = all-carried text found;
  fits = fits_room strings index text none;
}
admitted-chars strings index text (Some byte) within found none = absurd cc

pub admitted : (strings : Strings) (index : ℕ) (text : List ℕ) → admit_fault strings index text ≡ None → Admitted strings index text
unfolding admit_fault
admitted strings index text none = elim (cases_Bool (ltb index places)) [
  | inl within ↦ admitted-chars strings index text (find (λ byte. not (is_config_byte byte)) text) (ltb-true _ _ within) refl (rw within at none)
  | inr past ↦ let e : some_fault Index ≡ no_fault = rw past at none in absurd cc
]

-- nothing is refused
pub none_refused : (fault : Option ConfigError) → Ok tt ≡ refused fault → fault ≡ None
none_refused None e = refl
none_refused (Some fault) e = absurd cc

-- strings with another are strings
pub with_string-stays : (strings : Strings) (index : ℕ) (text : List ℕ) → AreStrings strings → HasRoom strings index text → AreStrings (with_string strings index text)
with_string-stays strings index text are fit = record {
  count = length-set strings.texts index (map translated text) ∙ are.count;
  size = fit.room;
  each = All-set (λ (text : List ℕ). length text ≤ longest_string) strings.texts index (map translated text) (let short = fit.short in omega (arith, length-map text translated)) are.each;
  pending = are.pending;
}

pub after_set-stays : (strings : Strings) (index : ℕ) (text : List ℕ) → AreStrings strings → AreStrings (after_set strings index text (set_fault strings index text))
after_set-stays strings index text are = stays (set_fault strings index text) refl
  where
    stays : (fault : Option ConfigError) → set_fault strings index text ≡ fault → AreStrings (after_set strings index text fault)
    stays None none = with_string-stays strings index text are (settable strings index text none).fits
    stays (Some fault) some = are
