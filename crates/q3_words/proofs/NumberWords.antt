-- Numbers in a line: what is read was spelled so, and what is spelled so is read.
use Rattle.std.proofs.Common.{◌≡◌, ℕ, ◌^◌, ◌<◌, ◌≤◌, List, Option, Some, None, Result, Ok, refl, ap}
use Rattle.std.specs.Fmt.{decimal}
use Rattle.std.specs.Option.{ok_or}
use Rattle.q3_words.specs.declared.cause.LineCause.{LineCause}
use Rattle.q3_words.specs.declared.cause.LineCause.TheVariants as causes
use Rattle.q3_text.specs.Decimals.{number_at}
use Rattle.q3_words.specs.Numbers.{number_word}
use Rattle.q3_text.specs.Laws.{TextLaws}

-- an answer
abbrev pub done : {A E : Type 0} → A → Result A E
done x = Ok x

-- answers that are the same have the same value
pub ok_is : {A E : Type 0} (x y : A) → done {E = E} x ≡ done y → x ≡ y
ok_is x y e = cc

-- what a cause was not needed for
pub ok_or-ok : {A : Type 0} (o : Option A) (cause : LineCause) (x : A) → ok_or o cause ≡ Ok x → o ≡ Some x
ok_or-ok (Some y) cause x e = ap (λ z. Some z) (ok_is y x e)
ok_or-ok None cause x e = absurd cc

-- a word that is read as a number was spelled so
pub number_word-spelled : (laws : TextLaws) (low high : ℕ) (word : List ℕ) (n : ℕ) → high < 2 ^ 64 → number_word low high word ≡ Ok n → (low ≤ n) × (n ≤ high) × (word ≡ decimal n)
number_word-spelled laws low high word n small e = laws.numbers.spelled low high word n small (ok_or-ok (number_at low high word) causes.Number n e)

-- and what is spelled so is read
pub number_word-again : (laws : TextLaws) (low high n : ℕ) → high < 2 ^ 64 → low ≤ n → n ≤ high → number_word low high (decimal n) ≡ Ok n
number_word-again laws low high n small lower upper = rw (laws.numbers.read low high n small lower upper) refl
