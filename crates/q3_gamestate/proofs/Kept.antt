-- What settings leave: strings within their limits, and baselines in normal form.
use Rattle.std.proofs.Common.{◌≡◌, ◌<◌, ◌+◌, ◌≤◌, ◌==◌, ℕ, zero, suc, false, nat_lt, List, [], ◌∷◌, length, map, replicate, None, refl, sym, ap, subst, ◌∙◌, arith}
use Rattle.std.specs.List.{All, sum_by}
use Rattle.std.proofs.lemmas.Bool.Decides.{nat_tests}
use Rattle.std.proofs.lemmas.List.{length-set, length-map, length-replicate}
use Rattle.std.proofs.lemmas.List.Elements.{All-head, All-tail, All-set, All-nil, All-replicate}
use Rattle.std.proofs.lemmas.List.Sums.{sum_by-cons, sum-map}
use Rattle.q3_text.specs.Texts.{translated, IsTextByte}
use Rattle.q3_fields.specs.Kinds.{Layout, end_mark}
use Rattle.q3_fields.specs.States.{AreWords}
use Rattle.q3_entity.specs.declared.state.EntityState.{EntityState}
use Rattle.q3_entity.specs.Entities.{IsNormal}
use Rattle.q3_entity.specs.Baselines.{Baselines, AreBaselines, no_baselines, with_baseline}
use Rattle.q3_entity.specs.Laws.{NoneAreBaselines, BaselineIsAdded}
use Rattle.q3_config.specs.Strings.{Strings, AreStrings, places, longest_string, most_size, size_of, config_size, no_strings, with_string}

-- ---- bytes of texts

-- a byte of a text is translated to itself
text_byte : (byte : ℕ) → IsTextByte byte → translated byte ≡ byte
text_byte byte is =
    let seven : nat_lt 127 byte ≡ false = grind (arith, nat_tests, is.seven_bits) in
    let no_percent : (byte == 37) ≡ false = grind (arith, nat_tests, is.no_percent) in
    rw (seven, no_percent) refl

-- and so are all of them
pub text_bytes : (text : List ℕ) → All IsTextByte text → map translated text ≡ text
text_bytes [] each = refl
text_bytes (byte ∷ text) each =
    ap (λ (others : List ℕ). translated byte ∷ others) (text_bytes text (All-tail IsTextByte byte text each))
    ∙ ap (λ (b : ℕ). b ∷ text) (text_byte byte (All-head IsTextByte byte text each))

-- ---- sizes

-- empty strings add nothing
pub sizes-none : (n : ℕ) → sum_by size_of (replicate n []) ≡ 0
sizes-none zero = refl
sizes-none (suc n) = omega (arith, sum_by-cons size_of [] (replicate n []), sizes-none n)

pub size_is : (texts : List (List ℕ)) → config_size texts ≡ 1 + sum_by size_of texts
unfolding config_size
size_is texts = ap (λ (n : ℕ). 1 + n) (sum-map size_of texts)

-- ---- strings and baselines

-- as an end may send them, but for a server id
pub record AreSettings (table : Layout) (strings : Strings) (baselines : Baselines) : Type 0 where
  pub are : AreStrings strings
  pub texts : All (All IsTextByte) strings.texts
  pub pending : strings.pending ≡ None
  pub baselines_are : AreBaselines table baselines

-- no string is set
empty : (table : Layout) (baselines : Baselines) → AreBaselines table baselines → (n : ℕ) → n ≡ places → AreSettings table (record { texts = replicate n []; pending = None }) baselines
empty table baselines are n is = record {
  are = record {
    count = length-replicate n [] ∙ is;
    size = omega (arith, size_is (replicate n []), sizes-none n);
    each = All-replicate (λ (text : List ℕ). length text ≤ longest_string) n [] (omega arith);
    pending = tt;
  };
  texts = All-replicate (All IsTextByte) n [] (All-nil IsTextByte);
  pending = refl;
  baselines_are = are;
}

pub none_are : (table : Layout) → NoneAreBaselines → AreSettings table no_strings no_baselines
none_are table law = empty table no_baselines (law table) places refl

-- another string
pub with_string_are : (table : Layout) (strings : Strings) (baselines : Baselines) (index : ℕ) (text : List ℕ) → AreSettings table strings baselines → All IsTextByte text → length text ≤ longest_string
    → config_size (with_string strings index text).texts ≤ most_size → AreSettings table (with_string strings index text) baselines
with_string_are table strings baselines index text so_far bytes short small = record {
  are = record {
    count = length-set strings.texts index (map translated text) ∙ so_far.are.count;
    size = small;
    each = All-set (λ (text : List ℕ). length text ≤ longest_string) strings.texts index (map translated text) (omega (arith, short, length-map text translated)) so_far.are.each;
    pending = so_far.are.pending;
  };
  texts = All-set (All IsTextByte) strings.texts index (map translated text) (subst (All IsTextByte) (sym (text_bytes text bytes)) bytes) so_far.texts;
  pending = so_far.pending;
  baselines_are = so_far.baselines_are;
}

-- another baseline
pub with_baseline_are : BaselineIsAdded → (table : Layout) (strings : Strings) (baselines : Baselines) (state : EntityState) → AreSettings table strings baselines → state.number < end_mark table
    → AreWords 64 state.words → IsNormal table state → AreSettings table strings (with_baseline baselines state)
with_baseline_are law table strings baselines state so_far below words normal = record {
  are = so_far.are;
  texts = so_far.texts;
  pending = so_far.pending;
  baselines_are = law table baselines state so_far.baselines_are below words normal;
}
