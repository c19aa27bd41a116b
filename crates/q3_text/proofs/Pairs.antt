-- The pairs of an info string, one after the other.
use Rattle.std.proofs.Common.{◌≡◌, ℕ, ◌+◌, ◌<◌, ◌≤◌, cond, List, [], ◌∷◌, length, Option, Some, None, IfSome, option_map, arith, refl, sym, ap, ◌∙◌}
use Rattle.std.specs.Str.{bytes_eq}
use Rattle.q3_text.specs.Info.{parts_of, paired, value_in}

abbrev no_value : Option (List ℕ)
no_value = None

-- the first pair decides, or those after it
value-next : (name value key : List ℕ) (others : List (List ℕ)) → value_in (paired (name ∷ value ∷ others)) key ≡ cond (bytes_eq name key) (Some value) (value_in (paired others) key)
unfolding paired value_in
value-next name value key others = refl

-- a last key has no value
pub value-last : (name key : List ℕ) → value_in (paired (name ∷ [])) key ≡ no_value
unfolding paired value_in
value-last name key = refl

-- and after the last pair there is none
pub value-none : (key : List ℕ) → value_in (paired []) key ≡ no_value
unfolding paired value_in
value-none key = refl

-- the first pair of a text decides, or those after it
pub found-next : (text name middle value key : List ℕ) (others : List (List ℕ)) (said : Option (List ℕ)) → value_in (paired (parts_of text)) key ≡ said
    → parts_of text ≡ name ∷ parts_of middle → parts_of middle ≡ value ∷ others → cond (bytes_eq name key) (Some value) (value_in (paired others) key) ≡ said
found-next text name middle value key others said is cut next =
    let whole : parts_of text ≡ name ∷ value ∷ others = cut ∙ ap (λ (parts : List (List ℕ)). name ∷ parts) next in
    sym (value-next name value key others) ∙ rw whole at is

-- a text with no backslash has no pair
pub found-last : (text name key : List ℕ) (said : Option (List ℕ)) → value_in (paired (parts_of text)) key ≡ said → parts_of text ≡ name ∷ [] → no_value ≡ said
found-last text name key said is cut = sym (value-last name key) ∙ rw cut at is

-- how much is left
abbrev pub size : Option (List ℕ) → ℕ
size None = 0
size (Some text) = length text + 1

pub size-le : {T : Type 0} (text : T → List ℕ) (left : Option T) (most : ℕ) → IfSome left (λ rest. length (text rest) < most) → size (option_map text left) ≤ most
size-le text None most fewer = omega arith
size-le text (Some rest) most fewer = omega arith
