-- The words of fields, entities and players against their grammar: what is read was spelled so, and what is spelled so is read.
use Rattle.std.proofs.Common.{◌≡◌, ℕ, ◌+◌, ◌-◌, ◌^◌, ◌<◌, ◌≤◌, true, false, cond, eqb, List, [], ◌∷◌, ◌++◌, length, Option, Some, None, Result, Ok, Err, inl, inr, ◌⊎◌, refl, sym, ap, subst, ◌∙◌, arith, add-one, append_assoc, append-nil}
use Rattle.std.specs.Prelude.{codes}
use Rattle.std.specs.Fmt.{decimal}
use Rattle.std.specs.List.{list_all}
use Rattle.std.proofs.lemmas.Bool.{and_parts, ne_eqb, false≢true}
use Rattle.std.proofs.lemmas.List.Elements.{All-nil, All-cons, All-head, All-tail}
use Rattle.std.proofs.lemmas.Option.{same_Some}
use Rattle.std.proofs.lemmas.Fmt.{decimal_nonempty}
use Rattle.q3_io.specs.Print.{indexed_text}
use Rattle.q3_fields.specs.Places.{Change}
use Rattle.q3_entity.specs.declared.state.EntityState.{EntityState}
use Rattle.q3_player.specs.declared.state.PlayerState.{PlayerState}
use Rattle.q3_words.specs.declared.cause.LineCause.{LineCause}
use Rattle.q3_words.specs.declared.cause.LineCause.TheVariants as causes
use Rattle.q3_bits.specs.OptionBind.{◌>>=◌}
use Rattle.q3_words.specs.Words.{after_prefix}
use Rattle.q3_text.specs.Cuts.{cut_at}
use Rattle.q3_text.specs.Decimals.{is_digit, number_at}
use Rattle.q3_words.specs.Fields.{field_at, Fields, fields_at, entity_of, entity_at, player_of, player_at, field_words, AreFields, SpellsEntity, SpellsPlayer}
use Rattle.q3_words.proofs.Prefixes.{after_prefix-spelled, after_prefix-again}
use Rattle.q3_words.proofs.Addresses.{bind_some}
use Rattle.q3_text.specs.Laws.{TextLaws}
use Rattle.q3_words.specs.Laws.{WasEntity}

-- ---- one field

-- a field that is read
record WasField (letter : List ℕ) (limit least : ℕ) (word : List ℕ) (field : Change) : Type 0 where
  lower : least ≤ field.0
  upper : field.0 < limit
  small : field.1 < 2 ^ 32
  whole : word ≡ indexed_text letter field.0 field.1

regroup : (letter : List ℕ) (index value : ℕ) → indexed_text letter index value ≡ letter ++ (decimal index ++ 58 ∷ decimal value)
regroup letter index value = ap (λ (text : List ℕ). letter ++ (decimal index ++ 58 ∷ text)) (append-nil (decimal value))

together : (letter word text : List ℕ) (parts : List ℕ × List ℕ) (index value : ℕ) → word ≡ letter ++ text → text ≡ parts.0 ++ 58 ∷ parts.1 → parts.0 ≡ decimal index → parts.1 ≡ decimal value → word ≡ indexed_text letter index value
together letter word text parts index value at_letter at_colon index_is value_is = rw (at_letter, at_colon, index_is, value_is) (sym (regroup letter index value))

was_field : (letter : List ℕ) (limit least : ℕ) (word : List ℕ) (field : Change) (text : List ℕ) (parts : List ℕ × List ℕ) (index value : ℕ) → word ≡ letter ++ text → text ≡ parts.0 ++ 58 ∷ parts.1 → parts.0 ≡ decimal index → parts.1 ≡ decimal value
    → least ≤ index → index < limit → value < 2 ^ 32 → Some (index, value) ≡ Some field → WasField letter limit least word field
was_field letter limit least word field text parts index value at_letter at_colon index_is value_is lower upper small same =
    let was : WasField letter limit least word (index, value) = record { lower = lower; upper = upper; small = small; whole = together letter word text parts index value at_letter at_colon index_is value_is } in
    subst (λ (x : Change). WasField letter limit least word x) (same_Some (index, value) field same) was

-- was spelled so
field_at-spelled : (laws : TextLaws) (letter : List ℕ) (limit least : ℕ) (word : List ℕ) (field : Change) → 1 ≤ limit → limit < 2 ^ 32 → field_at letter limit least word ≡ Some field → WasField letter limit least word field
unfolding field_at
field_at-spelled laws letter limit least word field some few e =
    let text = bind_some (after_prefix letter word) (λ text. cut_at 58 text >>= λ parts. number_at least (limit - 1) parts.0 >>= λ index. number_at 0 4294967295 parts.1 >>= λ value. Some (index, value)) field e in
    let parts = bind_some (cut_at 58 text.0) (λ parts. number_at least (limit - 1) parts.0 >>= λ index. number_at 0 4294967295 parts.1 >>= λ value. Some (index, value)) field text.2 in
    let index = bind_some (number_at least (limit - 1) parts.0.0) (λ index. number_at 0 4294967295 parts.0.1 >>= λ value. Some (index, value)) field parts.2 in
    let value = bind_some (number_at 0 4294967295 parts.0.1) (λ value. Some (index.0, value)) field index.2 in
    let index_is = laws.numbers.spelled least (limit - 1) parts.0.0 index.0 (omega arith) index.1 in
    let value_is = laws.numbers.spelled 0 4294967295 parts.0.1 value.0 (omega arith) value.1 in
    was_field letter limit least word field text.0 parts.0 index.0 value.0 (after_prefix-spelled letter word text.0 text.1) (laws.cuts.parts 58 text.0 parts.0 parts.1) index_is.2 value_is.2 index_is.0 (omega arith) (omega arith) value.2

-- and what is spelled so is read
field_at-again : (laws : TextLaws) (letter : List ℕ) (limit least : ℕ) (field : Change) → limit < 2 ^ 32 → least ≤ field.0 → field.0 < limit → field.1 < 2 ^ 32 → field_at letter limit least (indexed_text letter field.0 field.1) ≡ Some field
unfolding field_at
field_at-again laws letter limit least field few lower upper small =
    let text : after_prefix letter (letter ++ (decimal field.0 ++ 58 ∷ decimal field.1)) ≡ Some (decimal field.0 ++ 58 ∷ decimal field.1) = after_prefix-again letter (decimal field.0 ++ 58 ∷ decimal field.1) in
    let parts : cut_at 58 (decimal field.0 ++ 58 ∷ decimal field.1) ≡ Some (decimal field.0, decimal field.1) = laws.cuts.again 58 (decimal field.0) (decimal field.1) (laws.numbers.others 58 field.0 refl (omega arith)) in
    let index : number_at least (limit - 1) (decimal field.0) ≡ Some field.0 = laws.numbers.read least (limit - 1) field.0 (omega arith) lower (omega arith) in
    let value : number_at 0 4294967295 (decimal field.1) ≡ Some field.1 = laws.numbers.read 0 4294967295 field.1 (omega arith) (omega arith) (omega arith) in
    ap (field_at letter limit least) (regroup letter field.0 field.1) ∙ rw (text, parts, index, value) refl

-- a word that begins with no digit is no field without a letter
no_digit : (laws : TextLaws) (n : ℕ) (rest : List ℕ) (x : ℕ) (text : List ℕ) → n < 2 ^ 64 → is_digit x ≡ false → x ∷ text ≡ decimal n ++ rest → ⊥
no_digit laws n rest x text small other e = from_digits (decimal n) (decimal_nonempty n small) (laws.numbers.digits n small) e
  where
    from_digits : (digits : List ℕ) → 0 < length digits → list_all is_digit digits ≡ true → x ∷ text ≡ digits ++ rest → ⊥
    from_digits [] some all e = absurd (omega arith)
    from_digits (y ∷ digits) some all e =
        let digit = (and_parts (is_digit y) (list_all is_digit digits) all).0 in
        let same : x ≡ y = cc in
        false≢true (sym other ∙ ap is_digit same ∙ digit)

option_cases : {A : Type 0} (o : Option A) → (o ≡ None) ⊎ ((x : A) × (o ≡ Some x))
option_cases None = inl refl
option_cases (Some x) = inr (x, refl)

-- a word of another letter
abbrev IsOther : List ℕ → ℕ → List ℕ → Type 0
IsOther letter limit word = (least : ℕ) → field_at letter limit least word ≡ None

other_than_digits : (laws : TextLaws) (limit x : ℕ) (text : List ℕ) → 1 ≤ limit → limit < 2 ^ 32 → is_digit x ≡ false → IsOther [] limit (x ∷ text)
other_than_digits laws limit x text some few other least =
    elim (option_cases (field_at [] limit least (x ∷ text))) [
      | inl none ↦ none
      | inr (field, read) ↦
          let was = field_at-spelled laws [] limit least (x ∷ text) field some few read in
          absurd (no_digit laws field.0 (58 ∷ decimal field.1) x text (let upper = was.upper in omega arith) other (was.whole ∙ regroup [] field.0 field.1))
    ]

-- ---- fields

-- fields that are read
record WereFields (letter : List ℕ) (limit least : ℕ) (words : List (List ℕ)) (read : Fields) : Type 0 where
  are : AreFields limit least read.fields
  whole : words ≡ field_words letter read.fields ++ read.left

-- were spelled so
fields_at-spelled : (laws : TextLaws) (letter : List ℕ) (limit least : ℕ) (words : List (List ℕ)) → 1 ≤ limit → limit < 2 ^ 32 → WereFields letter limit least words (fields_at letter limit least words)
unfolding fields_at
fields_at-spelled laws letter limit least [] some few = record { are = (tt, All-nil (λ (field : Change). field.1 < 2 ^ 32)); whole = refl }
fields_at-spelled laws letter limit least (word ∷ words) some few =
    elim (option_cases (field_at letter limit least word)) [
      | inl none ↦ rw none (record { are = (tt, All-nil (λ (field : Change). field.1 < 2 ^ 32)); whole = refl })
      | inr (field, read) ↦
          let was = field_at-spelled laws letter limit least word field some few read in
          let others = fields_at-spelled laws letter limit (field.0 + 1) words some few in
          rw read (record {
            are = ((was.lower, was.upper, others.are.0), All-cons (λ (field : Change). field.1 < 2 ^ 32) field (fields_at letter limit (field.0 + 1) words).fields was.small others.are.1);
            whole = ap (λ (w : List ℕ). w ∷ words) was.whole ∙ ap (λ (ws : List (List ℕ)). indexed_text letter field.0 field.1 ∷ ws) others.whole;
          })
    ]

-- no field of a letter is in front of the words
abbrev HasNone : List ℕ → ℕ → List (List ℕ) → Type 0
HasNone letter limit words = (least : ℕ) → fields_at letter limit least words ≡ record { fields = []; left = words }

-- and what is spelled so is read, with whatever follows it
fields_at-again : (laws : TextLaws) (letter : List ℕ) (limit least : ℕ) (fields : List Change) (rest : List (List ℕ)) → limit < 2 ^ 32 → AreFields limit least fields → HasNone letter limit rest
    → fields_at letter limit least (field_words letter fields ++ rest) ≡ record { fields = fields; left = rest }
unfolding fields_at
fields_at-again laws letter limit least [] rest few are none = none least
fields_at-again laws letter limit least (field ∷ fields) rest few are none =
    rw (
      field_at-again laws letter limit least field few are.0.0 are.0.1 (All-head (λ (field : Change). field.1 < 2 ^ 32) field fields are.1),
      fields_at-again laws letter limit (field.0 + 1) fields rest few (are.0.2, All-tail (λ (field : Change). field.1 < 2 ^ 32) field fields are.1) none,
    ) refl

-- there is none where the words have other letters
none_of_other : (letter other : List ℕ) (limit : ℕ) (fields : List Change) (rest : List (List ℕ)) → ((field : Change) → IsOther letter limit (indexed_text other field.0 field.1)) → HasNone letter limit rest → HasNone letter limit (field_words other fields ++ rest)
unfolding fields_at
none_of_other letter other limit [] rest differs none least = none least
none_of_other letter other limit (field ∷ fields) rest differs none least = rw (differs field least) refl

-- words of another letter
other_letter : (x y limit : ℕ) (field : Change) → eqb y x ≡ false → IsOther (x ∷ []) limit (indexed_text (y ∷ []) field.0 field.1)
unfolding field_at after_prefix
other_letter x y limit field differs least = rw differs refl

letter_other_than_digits : (laws : TextLaws) (limit x : ℕ) (field : Change) → 1 ≤ limit → limit < 2 ^ 32 → is_digit x ≡ false → IsOther [] limit (indexed_text (x ∷ []) field.0 field.1)
letter_other_than_digits laws limit x field some few other = other_than_digits laws limit x (indexed_text [] field.0 field.1) some few other

none_of_nothing : (letter : List ℕ) (limit : ℕ) → HasNone letter limit []
unfolding fields_at
none_of_nothing letter limit least = refl

-- ---- entities

abbrev accept : {A : Type 0} → A → Result A LineCause
accept x = Ok x

abbrev refuse : {A : Type 0} → Result A LineCause
refuse = Err causes.Fields

-- what is left is nothing
all_read : {A : Type 0} (words : List (List ℕ)) (x y : A) → cond (eqb (length words) 0) (accept x) refuse ≡ accept y → (words ≡ []) × (x ≡ y)
all_read [] x y e = (refl, cc)
all_read {A} (word ∷ words) x y e =
    let some : eqb (length words + 1) 0 ≡ false = ne_eqb (length words + 1) 0 (λ z. absurd (omega arith)) in
    let nothing : refuse {A = A} ≡ accept y = rw some at (rw (← add-one) at e) in
    absurd cc

-- an entity that is read was spelled so
pub entity_at-spelled : (laws : TextLaws) (number : ℕ) (words : List (List ℕ)) (entity : EntityState) → entity_at number words ≡ Ok entity → WasEntity number words entity
unfolding entity_at
entity_at-spelled laws number words entity e =
    let read = fields_at [] 64 0 words in
    let ends = all_read read.left (entity_of number read.fields) entity e in
    let were = fields_at-spelled laws [] 64 0 words (omega arith) (omega arith) in
    record {
      is = ap (λ (state : EntityState). state.number) (sym ends.1);
      spelled = record {
        fields = read.fields;
        are_fields = were.are;
        whole = were.whole ∙ ap (λ (ws : List (List ℕ)). field_words [] read.fields ++ ws) ends.0 ∙ append-nil (field_words [] read.fields);
        state = ap (λ (state : EntityState). state.words) (sym ends.1);
      };
    }

-- and what is spelled so is read
pub entity_at-again : (laws : TextLaws) (words : List (List ℕ)) (entity : EntityState) → SpellsEntity words entity → entity_at entity.number words ≡ Ok entity
unfolding entity_at
entity_at-again laws words entity spelled =
    let read = fields_at-again laws [] 64 0 spelled.fields [] (omega arith) spelled.are_fields (none_of_nothing [] 64) in
    ap (entity_at entity.number) (spelled.whole ∙ sym (append-nil (field_words [] spelled.fields))) ∙ rw read (ap (λ (words : List ℕ). accept (record { number = entity.number; words = words })) (sym spelled.state))

-- ---- players

-- the parts of a player, one after the other
grouped : (a b c d e : List (List ℕ)) → a ++ b ++ c ++ d ++ e ≡ a ++ (b ++ (c ++ (d ++ (e ++ []))))
grouped a b c d e = simp (append_assoc, append-nil)

-- words that are read in five parts
after_each : {words : List (List ℕ)} {after_a after_b after_c after_d : List (List ℕ)} (a b c d e : List (List ℕ)) → words ≡ a ++ after_a → after_a ≡ b ++ after_b → after_b ≡ c ++ after_c → after_c ≡ d ++ after_d → after_d ≡ e ++ [] → words ≡ a ++ b ++ c ++ d ++ e
after_each a b c d e at_a at_b at_c at_d at_e = rw (at_a, at_b, at_c, at_d, at_e) (sym (grouped a b c d e))

-- a player that is read was spelled so
pub player_at-spelled : (laws : TextLaws) (words : List (List ℕ)) (player : PlayerState) → player_at words ≡ Ok player → SpellsPlayer words player
unfolding player_at
player_at-spelled laws words player e =
    let fields = fields_at [] 64 0 words in
    let stats = fields_at (codes "s") 16 0 fields.left in
    let persistant = fields_at (codes "p") 16 0 stats.left in
    let ammo = fields_at (codes "a") 16 0 persistant.left in
    let powerups = fields_at (codes "u") 16 0 ammo.left in
    let ends = all_read powerups.left (player_of fields.fields stats.fields persistant.fields ammo.fields powerups.fields) player e in
    let one = fields_at-spelled laws [] 64 0 words (omega arith) (omega arith) in
    let two = fields_at-spelled laws (codes "s") 16 0 fields.left (omega arith) (omega arith) in
    let three = fields_at-spelled laws (codes "p") 16 0 stats.left (omega arith) (omega arith) in
    let four = fields_at-spelled laws (codes "a") 16 0 persistant.left (omega arith) (omega arith) in
    let five = fields_at-spelled laws (codes "u") 16 0 ammo.left (omega arith) (omega arith) in
    record {
      fields = fields.fields;
      stats = stats.fields;
      persistant = persistant.fields;
      ammo = ammo.fields;
      powerups = powerups.fields;
      are_fields = one.are;
      are_stats = two.are;
      are_persistant = three.are;
      are_ammo = four.are;
      are_powerups = five.are;
      whole = after_each _ _ _ _ _ one.whole two.whole three.whole four.whole (five.whole ∙ ap (λ (ws : List (List ℕ)). field_words (codes "u") powerups.fields ++ ws) ends.0);
      state = sym ends.1;
    }

-- and what is spelled so is read
pub player_at-again : (laws : TextLaws) (words : List (List ℕ)) (player : PlayerState) → SpellsPlayer words player → player_at words ≡ Ok player
unfolding player_at
player_at-again laws words player spelled =
    let stats = field_words (codes "s") spelled.stats in
    let persistant = field_words (codes "p") spelled.persistant in
    let ammo = field_words (codes "a") spelled.ammo in
    let powerups = field_words (codes "u") spelled.powerups in
    let fifth = powerups ++ [] in
    let fourth = ammo ++ fifth in
    let third = persistant ++ fourth in
    let second = stats ++ third in
    let no_s : HasNone [] 64 second =
    none_of_other [] (codes "s") 64 spelled.stats third (λ f. letter_other_than_digits laws 64 115 f (omega arith) (omega arith) refl) (none_of_other [] (codes "p") 64 spelled.persistant fourth (λ f. letter_other_than_digits laws 64 112 f (omega arith) (omega arith) refl)
    (none_of_other [] (codes "a") 64 spelled.ammo fifth (λ f. letter_other_than_digits laws 64 97 f (omega arith) (omega arith) refl) (none_of_other [] (codes "u") 64 spelled.powerups [] (λ f. letter_other_than_digits laws 64 117 f (omega arith) (omega arith) refl) (none_of_nothing [] 64)))) in
    let no_p : HasNone (codes "s") 16 third =
    none_of_other (codes "s") (codes "p") 16 spelled.persistant fourth (λ f. other_letter 115 112 16 f refl) (none_of_other (codes "s") (codes "a") 16 spelled.ammo fifth (λ f. other_letter 115 97 16 f refl)
    (none_of_other (codes "s") (codes "u") 16 spelled.powerups [] (λ f. other_letter 115 117 16 f refl) (none_of_nothing (codes "s") 16))) in
    let no_a : HasNone (codes "p") 16 fourth =
    none_of_other (codes "p") (codes "a") 16 spelled.ammo fifth (λ f. other_letter 112 97 16 f refl) (none_of_other (codes "p") (codes "u") 16 spelled.powerups [] (λ f. other_letter 112 117 16 f refl) (none_of_nothing (codes "p") 16)) in
    let no_u : HasNone (codes "a") 16 fifth = none_of_other (codes "a") (codes "u") 16 spelled.powerups [] (λ f. other_letter 97 117 16 f refl) (none_of_nothing (codes "a") 16) in
    let one = fields_at-again laws [] 64 0 spelled.fields second (omega arith) spelled.are_fields no_s in
    let two = fields_at-again laws (codes "s") 16 0 spelled.stats third (omega arith) spelled.are_stats no_p in
    let three = fields_at-again laws (codes "p") 16 0 spelled.persistant fourth (omega arith) spelled.are_persistant no_a in
    let four = fields_at-again laws (codes "a") 16 0 spelled.ammo fifth (omega arith) spelled.are_ammo no_u in
    let five = fields_at-again laws (codes "u") 16 0 spelled.powerups [] (omega arith) spelled.are_powerups (none_of_nothing (codes "u") 16) in
    ap player_at (spelled.whole ∙ grouped _ stats persistant ammo powerups) ∙ rw (one, two, three, four, five) (ap (λ (p : PlayerState). accept p) (sym spelled.state))
