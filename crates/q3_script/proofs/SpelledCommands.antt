-- Commands and config strings in a line against the grammar of events: what is read was spelled so, and what is spelled so is read.
use Rattle.std.proofs.Common.{◌≡◌, ℕ, ◌^◌, ◌<◌, ◌≤◌, List, [], ◌∷◌, length, Ok, refl, sym, ap, subst, ◌∙◌, arith}
use Rattle.std.specs.Prelude.{codes}
use Rattle.std.specs.Fmt.{decimal}
use Rattle.std.specs.List.{join_with_byte}
use Rattle.std.proofs.lemmas.List.Splits.{join_with_byte-slice_split}
use Rattle.q3_io.specs.Quoted.{quoted}
use Rattle.q3_text.specs.Texts.{IsText}
use Rattle.q3_script.specs.declared.event.Event.{Event}
use Rattle.q3_script.specs.declared.event.Event.TheVariants.{Config, Say, TypeText}
use Rattle.q3_bits.specs.ResultBind.{◌>>=◌}
use Rattle.q3_bits.proofs.Binds.{bind_ok}
use Rattle.q3_words.specs.Quotes.{bytes_word, text_word, most_config, SpellsBytes, SpellsText}
use Rattle.q3_words.specs.Numbers.{last_client, number_word, client_word}
use Rattle.q3_script.specs.Lines.{config_at, config_line, command_at, say_line, type_line}
use Rattle.q3_script.proofs.SpelledLines.{IsLine}
use Rattle.q3_words.specs.Laws.{AreLeft, IsOfLine, WordLaws}
use Rattle.q3_script.proofs.Values.{ok_is}

-- a command's text, and whose it is
record WasCommand (words : List (List ℕ)) (c : ℕ) (text : List ℕ) : Type 0 where
  small : c ≤ last_client
  is_text : IsText text
  last : List (List ℕ)
  spelled : SpellsText last text
  whole : words ≡ decimal c ∷ last

-- are spelled so, in a line
command_from : (laws : WordLaws) (word : List ℕ) (others : List (List ℕ)) (c : ℕ) (text : List ℕ) → IsOfLine others → client_word word ≡ Ok c → text_word (join_with_byte 32 others) ≡ Ok text → WasCommand (word ∷ others) c text
command_from laws word others c text of_line c_read text_read =
    let is = laws.numbers.spelled 0 last_client word c (omega arith) c_read in
    let joined : join_with_byte 32 others ≡ of_line.0 = ap (join_with_byte 32) of_line.1 ∙ join_with_byte-slice_split 32 of_line.0 in
    let spelled = laws.texts.spelled of_line.0 text (ap text_word (sym joined) ∙ text_read) in
    record { small = omega arith; is_text = laws.below.texts spelled.bytes text spelled.becomes; last = others; spelled = subst (λ (x : List (List ℕ)). SpellsText x text) (sym of_line.1) spelled; whole = ap (λ (w : List ℕ). w ∷ others) is.2 }

command_at-spelled : (laws : WordLaws) (words : List (List ℕ)) (command : ℕ × List ℕ) → AreLeft words → command_at words ≡ Ok command → WasCommand words command.0 command.1
unfolding command_at
command_at-spelled laws [] command left e = absurd cc
command_at-spelled laws (word ∷ []) command left e = absurd cc
command_at-spelled laws (word ∷ first ∷ rest) command left e =
    let c = bind_ok (client_word word) (λ c. text_word (join_with_byte 32 (first ∷ rest)) >>= λ text. Ok (c, text)) command e in
    let text = bind_ok (text_word (join_with_byte 32 (first ∷ rest))) (λ text. Ok (c.0, text)) command c.2 in
    let was = command_from laws word (first ∷ rest) c.0 text.0 (laws.lines.others word first rest left) c.1 text.1 in
    subst (λ (x : ℕ × List ℕ). WasCommand (word ∷ first ∷ rest) x.0 x.1) (ok_is (c.0, text.0) command text.2) was

-- what is read of each line was spelled so
pub say_line-spelled : (laws : WordLaws) (words : List (List ℕ)) (event : Event) → AreLeft words → say_line words ≡ Ok event → IsLine (codes "say" ∷ words) event
unfolding say_line
say_line-spelled laws words event left e =
    let command = bind_ok (command_at words) (λ command. Ok (Say command.0 command.1)) event e in
    let was = command_at-spelled laws words command.0 left command.1 in
    subst (λ (x : Event). IsLine (codes "say" ∷ words) x) (ok_is (Say command.0.0 command.0.1) event command.2)
    (record { in_range = (was.small, was.is_text); whole = (was.last, was.spelled, ap (λ (others : List (List ℕ)). codes "say" ∷ others) was.whole) })

pub type_line-spelled : (laws : WordLaws) (words : List (List ℕ)) (event : Event) → AreLeft words → type_line words ≡ Ok event → IsLine (codes "type" ∷ words) event
unfolding type_line
type_line-spelled laws words event left e =
    let command = bind_ok (command_at words) (λ command. Ok (TypeText command.0 command.1)) event e in
    let was = command_at-spelled laws words command.0 left command.1 in
    subst (λ (x : Event). IsLine (codes "type" ∷ words) x) (ok_is (TypeText command.0.0 command.0.1) event command.2)
    (record { in_range = (was.small, was.is_text); whole = (was.last, was.spelled, ap (λ (others : List (List ℕ)). codes "type" ∷ others) was.whole) })

-- a command that is spelled so is read
pub command_at-again : (laws : WordLaws) (c : ℕ) (text : List ℕ) (last : List (List ℕ)) → c ≤ last_client → SpellsText last text → command_at (decimal c ∷ last) ≡ Ok (c, text)
unfolding command_at
command_at-again laws c text [] small spelled = let nothing = spelled.whole ∙ laws.lines.first (quoted spelled.bytes) in absurd cc
command_at-again laws c text (first ∷ rest) small spelled = rw (laws.numbers.read 0 last_client c (omega arith) (omega arith) (omega arith), laws.texts.read (first ∷ rest) text spelled) refl

-- ---- config strings

-- a config string's index and its text
record WasConfig (words : List (List ℕ)) (index : ℕ) (text : List ℕ) : Type 0 where
  small : index < 2 ^ 32
  short : length text ≤ most_config
  last : List (List ℕ)
  spelled : SpellsBytes last text
  whole : words ≡ decimal index ∷ last

-- are spelled so, in a line
config_from : (laws : WordLaws) (word : List ℕ) (others : List (List ℕ)) (index : ℕ) (text : List ℕ) → IsOfLine others → number_word 0 4294967295 word ≡ Ok index → bytes_word most_config (join_with_byte 32 others) ≡ Ok text → WasConfig (word ∷ others) index text
config_from laws word others index text of_line index_read text_read =
    let is = laws.numbers.spelled 0 4294967295 word index (omega arith) index_read in
    let joined : join_with_byte 32 others ≡ of_line.0 = ap (join_with_byte 32) of_line.1 ∙ join_with_byte-slice_split 32 of_line.0 in
    let was = laws.bytes.spelled most_config of_line.0 text (ap (bytes_word most_config) (sym joined) ∙ text_read) in
    record { small = omega arith; short = was.0; last = others; spelled = subst (λ (x : List (List ℕ)). SpellsBytes x text) (sym of_line.1) was.1; whole = ap (λ (w : List ℕ). w ∷ others) is.2 }

config_at-spelled : (laws : WordLaws) (words : List (List ℕ)) (config : ℕ × List ℕ) → AreLeft words → config_at words ≡ Ok config → WasConfig words config.0 config.1
unfolding config_at
config_at-spelled laws [] config left e = absurd cc
config_at-spelled laws (word ∷ []) config left e = absurd cc
config_at-spelled laws (word ∷ first ∷ rest) config left e =
    let index = bind_ok (number_word 0 4294967295 word) (λ index. bytes_word most_config (join_with_byte 32 (first ∷ rest)) >>= λ text. Ok (index, text)) config e in
    let text = bind_ok (bytes_word most_config (join_with_byte 32 (first ∷ rest))) (λ text. Ok (index.0, text)) config index.2 in
    let was = config_from laws word (first ∷ rest) index.0 text.0 (laws.lines.others word first rest left) index.1 text.1 in
    subst (λ (x : ℕ × List ℕ). WasConfig (word ∷ first ∷ rest) x.0 x.1) (ok_is (index.0, text.0) config text.2) was

-- what is read of the line was spelled so
pub config_line-spelled : (laws : WordLaws) (words : List (List ℕ)) (event : Event) → AreLeft words → config_line words ≡ Ok event → IsLine (codes "config" ∷ words) event
unfolding config_line
config_line-spelled laws words event left e =
    let config = bind_ok (config_at words) (λ config. Ok (Config config.0 config.1)) event e in
    let was = config_at-spelled laws words config.0 left config.1 in
    subst (λ (x : Event). IsLine (codes "config" ∷ words) x) (ok_is (Config config.0.0 config.0.1) event config.2)
    (record { in_range = (was.small, was.short, was.spelled.are_bytes); whole = (was.last, was.spelled, ap (λ (others : List (List ℕ)). codes "config" ∷ others) was.whole) })

-- a config string that is spelled so is read
pub config_at-again : (laws : WordLaws) (index : ℕ) (text : List ℕ) (last : List (List ℕ)) → index < 2 ^ 32 → length text ≤ most_config → SpellsBytes last text → config_at (decimal index ∷ last) ≡ Ok (index, text)
unfolding config_at
config_at-again laws index text [] small short spelled = let nothing = spelled.whole ∙ laws.lines.first (quoted text) in absurd cc
config_at-again laws index text (first ∷ rest) small short spelled = rw (laws.numbers.read 0 4294967295 index (omega arith) (omega arith) (omega arith), laws.bytes.read most_config (first ∷ rest) text short spelled) refl
