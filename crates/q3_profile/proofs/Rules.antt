-- What is refused names a rule.
use Rattle.std.proofs.Common.{◌≡◌, ℕ, ℤ, ◌+◌, Bool, true, false, cond, List, [], ◌∷◌, length, eqb, ltb, map, Option, Some, None, Result, Ok, Err, inl, inr, ◌⊎◌, subst}
use Rattle.std.specs.Prelude.{IfSome, IfErr, pos, negsuc}
use Rattle.std.specs.List.{list_all}
use Rattle.std.specs.Option.{ok_or, option_or, option_map, option_map_or, is_some}
use Rattle.std.specs.Result.{result_map_both}
use Rattle.toml.specs.Data.{Data, Members, get_member, as_integer, as_str, as_array}
use Rattle.q3_bits.specs.declared.words.CodeError.{CodeError}
use Rattle.q3_bits.specs.declared.words.CodeError.TheVariants as codes
use Rattle.q3_bits.specs.CodeWords.{is_bit, bits_of_text, word_fault, words_fault, first_clash, clash_at, code_fault}
use Rattle.q3_fields.specs.declared.table.TableError.{TableError}
use Rattle.q3_fields.specs.declared.table.TableError.TheVariants as table
use Rattle.q3_fields.specs.Kinds.{numbered_table, least_number_bits}
use Rattle.q3_bits.specs.ResultBind.{◌>>=◌}
use Rattle.q3_profile.specs.declared.error.Key.{Key}
use Rattle.q3_profile.specs.declared.error.Key.TheVariants as keys
use Rattle.q3_profile.specs.declared.error.ProfileError.{ProfileError}
use Rattle.q3_profile.specs.declared.error.ProfileError.TheVariants as errors
use Rattle.q3_profile.specs.Items.{items_as}
use Rattle.q3_profile.specs.Document.{key_name, document_of, value_at, integer_at, array_at}
use Rattle.q3_profile.specs.Mark.{mark_of}
use Rattle.q3_profile.specs.Profile.{longest_profile, is_protocol, is_server_ring, is_parse_ring, is_entity_bits, ruled, number_at, number_or, table_error, table_at, code_of, profile_at, checked}
use Rattle.q3_profile.specs.Seen.{Gives}
use Rattle.q3_profile.specs.Laws.{NamesRule}

-- an answer that is refused by a rule, if it is refused
abbrev pub Names : {A : Type 0} → Result A ProfileError → Type 0
Names r = IfErr r NamesRule

-- one step after another
in_turn : {A B : Type 0} (r : Result A ProfileError) (f : A → Result B ProfileError) → Names r → ((x : A) → Names (f x)) → Names (r >>= f)
in_turn (Ok x) f one others = others x
in_turn (Err e) f one others = one

unless_found : {A : Type 0} (o : Option A) (e : ProfileError) → NamesRule e → Names (ok_or o e)
unless_found (Some x) e names = tt
unless_found None e names = names

-- ---- the texts of a code

-- a fault of the texts
abbrev IsOfTexts : CodeError → Type 0
IsOfTexts e = NamesRule (errors.Code e)

by_test : (b : Bool) (x y : Option CodeError) → IfSome x IsOfTexts → IfSome y IsOfTexts → IfSome (cond b x y) IsOfTexts
by_test true x y one other = one
by_test false x y one other = other

first_of_two : (x y : Option CodeError) → IfSome x IsOfTexts → IfSome y IsOfTexts → IfSome (option_or x y) IsOfTexts
first_of_two (Some e) y one other = one
first_of_two None y one other = other

word_faults : (i : ℕ) (text : List ℕ) → IfSome (word_fault i text) IsOfTexts
unfolding word_fault
word_faults i text =
    let letters : Option CodeError = cond (list_all is_bit text) None (Some (codes.NotBits i)) in
    let short : Option CodeError = cond (ltb 24 (length text)) (Some (codes.Long i)) letters in
    by_test (eqb (length text) 0) (Some (codes.Empty i)) short tt (by_test (ltb 24 (length text)) (Some (codes.Long i)) letters tt (by_test (list_all is_bit text) None (Some (codes.NotBits i)) tt tt))

words_faults : (i : ℕ) (texts : List (List ℕ)) → IfSome (words_fault i texts) IsOfTexts
unfolding words_fault
words_faults i [] = tt
words_faults i (text ∷ texts) = first_of_two (word_fault i text) (words_fault (i + 1) texts) (word_faults i text) (words_faults (i + 1) texts)

clashes : (pair : Option (ℕ × ℕ)) → IfSome (option_map clash_at pair) IsOfTexts
clashes (Some pair) = tt
clashes None = tt

code_faults : (texts : List (List ℕ)) → IfSome (code_fault texts) IsOfTexts
unfolding code_fault
code_faults texts =
    let clash = option_map clash_at (first_clash (map bits_of_text texts)) in
    by_test (eqb (length texts) 256) (option_or (words_fault 0 texts) clash) (Some codes.Count) (first_of_two (words_fault 0 texts) clash (words_faults 0 texts) (clashes (first_clash (map bits_of_text texts)))) tt

unless_fault : (fault : Option CodeError) (words : List (List Bool)) → IfSome fault IsOfTexts → Names {A = List (List Bool)} (option_map_or (λ e. Err (errors.Code e)) fault (Ok words))
unless_fault (Some e) words names = names
unless_fault None words names = tt

-- ---- the keys

integers : (key : Key) (document : Members) → Names (integer_at key document)
unfolding integer_at
integers key document = in_turn (value_at key document) (λ value. ok_or (as_integer value) (errors.Kind key)) (unless_found (get_member (key_name key) document) (errors.Missing key) tt) (λ value. unless_found (as_integer value) (errors.Kind key) tt)

arrays : {A : Type 0} (type : Data → Option A) (key : Key) (document : Members) → Names (array_at type key document)
unfolding array_at
arrays type key document =
    in_turn (value_at key document) (λ value. ok_or (as_array value) (errors.Kind key) >>= λ items. ok_or (items_as type items) (errors.Kind key)) (unless_found (get_member (key_name key) document) (errors.Missing key) tt)
    (λ value. in_turn (ok_or (as_array value) (errors.Kind key)) (λ items. ok_or (items_as type items) (errors.Kind key)) (unless_found (as_array value) (errors.Kind key) tt) (λ items. unless_found (items_as type items) (errors.Kind key) tt))

if_ruled : (key : Key) (b : Bool) (n : ℕ) → Names (cond b (Ok n) (Err (errors.Limit key)))
if_ruled key true n = tt
if_ruled key false n = tt

are_ruled : (key : Key) (rule : ℕ → Bool) (number : ℤ) → Names (ruled key rule number)
are_ruled key rule (pos n) = if_ruled key (rule n) n
are_ruled key rule (negsuc n) = tt

numbers : (key : Key) (rule : ℕ → Bool) (document : Members) → Names (number_at key rule document)
numbers key rule document = in_turn (integer_at key document) (ruled key rule) (integers key document) (are_ruled key rule)

if_there : (there : Bool) (number : ℕ) (r : Result ℕ ProfileError) → Names r → Names (cond there r (Ok number))
if_there true number r names = names
if_there false number r names = tt

numbers_or : (missing : ℕ) (key : Key) (rule : ℕ → Bool) (document : Members) → Names (number_or missing key rule document)
numbers_or missing key rule document = if_there (is_some (get_member (key_name key) document)) missing (number_at key rule document) (numbers key rule document)

tables_of : {A : Type 0} (key : Key) (r : Result A TableError) → Names (result_map_both (λ x. x) (table_error key) r)
tables_of key (Ok x) = tt
tables_of key (Err table.Fields) = tt
tables_of key (Err (table.Width i)) = tt

tables : (key : Key) (bits : ℕ) (document : Members) → Names (table_at key bits document)
tables key bits document = in_turn (array_at as_integer key document) _ (arrays as_integer key document) (λ widths. tables_of key (numbered_table widths bits))

codes_of : (texts : List (List ℕ)) → Names (code_of texts)
codes_of texts = unless_fault (code_fault texts) (map bits_of_text texts) (code_faults texts)

pub profiles : (mark : ℕ) (document : Members) → Names (profile_at mark document)
unfolding profile_at
profiles mark document =
    in_turn (number_at keys.Protocol is_protocol document) _ (numbers keys.Protocol is_protocol document) (λ protocol.
    in_turn (number_at keys.ServerRing is_server_ring document) _ (numbers keys.ServerRing is_server_ring document) (λ server_ring.
    in_turn (number_at keys.ParseRing is_parse_ring document) _ (numbers keys.ParseRing is_parse_ring document) (λ parse_ring.
    in_turn (number_or least_number_bits keys.EntityBits is_entity_bits document) _ (numbers_or least_number_bits keys.EntityBits is_entity_bits document) (λ bits.
    in_turn (table_at keys.Entity bits document) _ (tables keys.Entity bits document) (λ entity.
    in_turn (table_at keys.Player least_number_bits document) _ (tables keys.Player least_number_bits document) (λ player.
    in_turn (array_at as_str keys.Code document) _ (arrays as_str keys.Code document) (λ texts.
    in_turn (code_of texts) _ (codes_of texts) (λ code. tt))))))))

if_small : (b : Bool) (document : Option Members) → Names (cond b (Err (errors.Limit keys.File)) (ok_or document errors.NotToml))
if_small true document = tt
if_small false document = unless_found document errors.NotToml tt

files : (bytes : List ℕ) → Names (checked bytes)
unfolding checked
files bytes = in_turn _ (profile_at (mark_of bytes)) (if_small (ltb longest_profile (length bytes)) (document_of bytes)) (profiles (mark_of bytes))

-- an error that an answer has
pub error_names : {A : Type 0} (r : Result A ProfileError) (e : ProfileError) → Names r → r ≡ Err e → NamesRule e
error_names (Ok x) e names is = absurd cc
error_names (Err other) e names is = let same : other ≡ e = cc in subst NamesRule same names

pub file_names : (bytes : List ℕ) (e : ProfileError) → checked bytes ≡ Err e → NamesRule e
file_names bytes e is = error_names (checked bytes) e (files bytes) is

-- an answer of such a whole is refused by a rule, or for want of memory
pub gives_rule : {A B : Type 0} (of : A → B) (r : Result A ProfileError) (whole : Result B ProfileError) → Names whole → Gives of r whole → IfErr r (λ e. (e ≡ errors.NoMemory) ⊎ NamesRule e)
gives_rule of (Ok x) whole names gives = tt
gives_rule of (Err e) whole names (inl memory) = inl memory
gives_rule of (Err e) whole names (inr is) = inr (error_names whole e names is)
