-- An entity's words as scripts and reports spell them.
use Rattle.std.specs.Prelude.{ℕ, List, []}
use Rattle.q3_io.specs.Print.{words_text}

-- each word that isn't 0, after its index
abbrev pub fields_text : List ℕ → List ℕ
fields_text words = words_text [] 0 words
