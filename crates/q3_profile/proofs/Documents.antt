-- Documents: UTF-8, and what stands under a key.
use Rattle.std.proofs.Common.{◌≡◌, ℕ, true, false, Bool, cond, List, None, refl}
use Rattle.std.specs.Str.{IsUtf8, is_utf8}
use Rattle.std.proofs.lemmas.Str.{IsUtf8-from_is_utf8, is_utf8-from_IsUtf8}
use Rattle.toml.specs.Parse.{parse_document}
use Rattle.q3_profile.specs.Document.{document_of}

-- bytes in UTF-8 are the document that is parsed
pub document_of-utf8 : (bytes : List ℕ) → IsUtf8 bytes → document_of bytes ≡ parse_document bytes
unfolding document_of
document_of-utf8 bytes u = rw (is_utf8-from_IsUtf8 bytes u) refl

unless_utf8 : (bytes : List ℕ) (b : Bool) → is_utf8 bytes ≡ b → (IsUtf8 bytes → parse_document bytes ≡ None) → cond b (parse_document bytes) None ≡ None
unless_utf8 bytes true e h = h (IsUtf8-from_is_utf8 bytes e)
unless_utf8 bytes false e h = refl

-- there is no document where the bytes in UTF-8 have none
pub document_of-none : (bytes : List ℕ) → (IsUtf8 bytes → parse_document bytes ≡ None) → document_of bytes ≡ None
unfolding document_of
document_of-none bytes h = unless_utf8 bytes (is_utf8 bytes) refl h
