-- What a receiver sees in the datagrams that an end sends.
use Rattle.std.proofs.Common.{is_some, ◌≡◌, ◌+◌, ◌%◌, ◌<◌, ◌≤◌, ◌∙◌, ℕ, Bool, true, false, not, Option, Some, None, eqb, leb, List, [], ◌∷◌, ◌++◌, length, take, drop, append_assoc, refl, sym, ap, subst, arith}
use Rattle.std.proofs.lemmas.Bool.{false_from_ne_true, not_from_true, eq-eqb, le-leb, lt-leb}
use Rattle.std.proofs.lemmas.Slice.Eq.{bytes_eq-Decides}
use Rattle.byteorder.specs.Endian.{little_bytes, little_number}
use Rattle.byteorder.specs.Numbers.{little_number-reads_back, little_from-take}
use Rattle.q3_chan.specs.declared.side.Side.{Side}
use Rattle.q3_chan.specs.declared.side.Side.TheVariants.{Server, Client}
use Rattle.q3_chan.specs.declared.form.Form.{Form}
use Rattle.q3_chan.specs.Checks.{check_of}
use Rattle.q3_chan.specs.Datagrams.{Header, fragment_mark, sequence_end, qport_bytes, check_bytes, header_bytes, fragment, is_fragment, number_in, short_header, short_of, length_of, has_bad_check, start_in, count_in, after_header}
use Rattle.q3_chan.specs.Gathering.{is_connectionless}

-- what a header has, by its parts, with any number first
abbrev parts : Side → Option ℕ → ℕ → ℕ → ℕ → List ℕ
parts side check qport first number = little_bytes 4 first ++ qport_bytes side qport ++ check_bytes check number

abbrev begins : Header → ℕ → ℕ → List ℕ
begins header first number = parts header.form.side header.form.check header.qport first number

-- the first number in a header
number-header : (header : Header) (first number : ℕ) (rest : List ℕ) → first < 4294967296 → little_number 4 (begins header first number ++ rest) ≡ first
number-header header first number rest fits =
    little_number-reads_back 4 first (qport_bytes header.form.side header.qport ++ check_bytes header.form.check number ++ rest) fits

-- how long it is
long-parts : (side : Side) (check : Option ℕ) (qport first number : ℕ) (rest : List ℕ)
    → length (parts side check qport first number ++ rest) ≡ short_header side (is_some check) + length rest
long-parts Server None qport first number rest = omega arith
long-parts Server (Some challenge) qport first number rest = omega arith
long-parts Client None qport first number rest = omega arith
long-parts Client (Some challenge) qport first number rest = omega arith

long-header : (header : Header) (first number : ℕ) (rest : List ℕ) → length (begins header first number ++ rest) ≡ short_of header.form + length rest
long-header header first number rest = long-parts header.form.side header.form.check header.qport first number rest

four_at_least : (side : Side) (checked : Bool) → 4 ≤ short_header side checked
four_at_least Server true = omega arith
four_at_least Server false = omega arith
four_at_least Client true = omega arith
four_at_least Client false = omega arith

at_least_four : (form : Form) → 4 ≤ short_of form
at_least_four form = four_at_least form.side (is_some form.check)

-- and what follows it
drop-parts : (side : Side) (check : Option ℕ) (qport first number : ℕ) (rest : List ℕ)
    → drop (short_header side (is_some check)) (parts side check qport first number ++ rest) ≡ rest
drop-parts Server None qport first number rest = refl
drop-parts Server (Some challenge) qport first number rest = refl
drop-parts Client None qport first number rest = refl
drop-parts Client (Some challenge) qport first number rest = refl

drop-header : (header : Header) (first number : ℕ) (rest : List ℕ) → drop (short_of header.form) (begins header first number ++ rest) ≡ rest
drop-header header first number rest = drop-parts header.form.side header.form.check header.qport first number rest

-- its check is that of the number
right : (challenge number : ℕ) (bytes rest : List ℕ) → number_in bytes ≡ number
    → not (eqb (little_number 4 (little_bytes 4 (check_of challenge number) ++ rest)) (check_of challenge (number_in bytes))) ≡ false
right challenge number bytes rest is =
    let read : little_number 4 (little_bytes 4 (check_of challenge number) ++ rest) ≡ check_of challenge number =
    little_number-reads_back 4 (check_of challenge number) rest (omega arith) in
    not_from_true _ (eq-eqb _ _ (read ∙ ap (check_of challenge) (sym is)))

right-parts : (side : Side) (check : Option ℕ) (qport first number : ℕ) (rest : List ℕ) → number_in (parts side check qport first number ++ rest) ≡ number
    → has_bad_check side check (parts side check qport first number ++ rest) ≡ false
right-parts Server None qport first number rest is = refl
right-parts Client None qport first number rest is = refl
right-parts Server (Some challenge) qport first number rest is = right challenge number (parts Server (Some challenge) qport first number ++ rest) rest is
right-parts Client (Some challenge) qport first number rest is = right challenge number (parts Client (Some challenge) qport first number ++ rest) rest is

right-header : (header : Header) (first number : ℕ) (rest : List ℕ) → number_in (begins header first number ++ rest) ≡ number
    → has_bad_check header.form.side header.form.check (begins header first number ++ rest) ≡ false
right-header header first number rest is = right-parts header.form.side header.form.check header.qport first number rest is

-- it has no four bytes of 255
connected-header : (header : Header) (n number : ℕ) (rest : List ℕ) → n < 4294967295 → is_connectionless (begins header n number ++ rest) ≡ false
connected-header header n number rest small =
    let bytes : List ℕ = begins header n number ++ rest in
    false_from_ne_true (is_connectionless bytes) (λ e.
    let is : take 4 bytes ≡ 255 ∷ 255 ∷ 255 ∷ 255 ∷ [] = (bytes_eq-Decides (take 4 bytes) (255 ∷ 255 ∷ 255 ∷ 255 ∷ [])).0 e in
    let all : little_number 4 bytes ≡ 4294967295 = sym (little_from-take 0 4 4 bytes (omega arith)) ∙ ap (little_number 4) is in
    let n-is : n ≡ 4294967295 = sym (number-header header n number rest (omega arith)) ∙ all in
    omega arith)

-- a datagram that has its header, belongs to a connection, and has this number
pub record IsHeaded (form : Form) (bytes : List ℕ) (number : ℕ) : Type 0 where
  pub long : 4 ≤ length bytes
  pub connected : is_connectionless bytes ≡ false
  pub head : length_of form (is_fragment bytes) ≤ length bytes
  pub checked : has_bad_check form.side form.check bytes ≡ false
  pub number-is : number_in bytes ≡ number

-- a message that goes whole
pub record IsWhole (form : Form) (bytes : List ℕ) (number : ℕ) (message : List ℕ) : Type 0 where
  pub headed : IsHeaded form bytes number
  pub no-fragment : is_fragment bytes ≡ false
  pub after : after_header form bytes ≡ message

pub whole_is : (header : Header) (number : ℕ) (message : List ℕ) → number < sequence_end → IsWhole header.form (header_bytes header false number ++ message) number message
whole_is header number message fits =
    let form = header.form in
    let bytes : List ℕ = header_bytes header false number ++ message in
    let is : little_number 4 bytes ≡ number = number-header header number number message (omega arith) in
    let same : number_in bytes ≡ number = ap (λ (n : ℕ). n % fragment_mark) is ∙ omega arith in
    let whole : is_fragment bytes ≡ false = ap (leb fragment_mark) is ∙ lt-leb fragment_mark number (omega arith) in
    let long : length bytes ≡ short_of form + length message = long-header header number number message in
    record {
      headed = record {
        long = omega (arith, long, at_least_four form);
        connected = connected-header header number number message (omega arith);
        head = rw whole (omega arith);
        checked = right-header header number number message same;
        number-is = same;
      };
      no-fragment = whole;
      after = ap (λ (b : Bool). drop (length_of form b) bytes) whole ∙ drop-header header number number message;
    }

-- a fragment of a message
pub record IsFragment (form : Form) (bytes : List ℕ) (number start : ℕ) (piece : List ℕ) : Type 0 where
  pub headed : IsHeaded form bytes number
  pub is-fragment : is_fragment bytes ≡ true
  pub start-is : start_in form bytes ≡ start
  pub count-is : count_in form bytes ≡ length piece
  pub after : after_header form bytes ≡ piece

-- the two numbers after the header, and the piece
abbrev pub after_number : ℕ → List ℕ → List ℕ
after_number start piece = little_bytes 2 start ++ (little_bytes 2 (length piece) ++ piece)

pub fragment-parts : (header : Header) (number start : ℕ) (piece : List ℕ)
    → fragment header number start piece ≡ header_bytes header true number ++ after_number start piece
fragment-parts header number start piece =
    let front : List ℕ = header_bytes header true number in
    append_assoc (front ++ little_bytes 2 start) (little_bytes 2 (length piece)) piece
    ∙ append_assoc front (little_bytes 2 start) (little_bytes 2 (length piece) ++ piece)

-- two bytes more, and four
two-parts : (side : Side) (check : Option ℕ) (qport n number start : ℕ) (piece : List ℕ)
    → drop (short_header side (is_some check) + 2) (parts side check qport n number ++ after_number start piece) ≡ little_bytes 2 (length piece) ++ piece
two-parts Server None qport n number start piece = refl
two-parts Server (Some challenge) qport n number start piece = refl
two-parts Client None qport n number start piece = refl
two-parts Client (Some challenge) qport n number start piece = refl

four-parts : (side : Side) (check : Option ℕ) (qport n number start : ℕ) (piece : List ℕ)
    → drop (short_header side (is_some check) + 4) (parts side check qport n number ++ after_number start piece) ≡ piece
four-parts Server None qport n number start piece = refl
four-parts Server (Some challenge) qport n number start piece = refl
four-parts Client None qport n number start piece = refl
four-parts Client (Some challenge) qport n number start piece = refl

parts_are : (header : Header) (number start : ℕ) (piece : List ℕ) → number < sequence_end → start < 65536 → length piece < 65536
    → IsFragment header.form (header_bytes header true number ++ after_number start piece) number start piece
parts_are header number start piece fits low short =
    let form = header.form in
    let n = number + fragment_mark in
    let rest : List ℕ = after_number start piece in
    let bytes : List ℕ = begins header n number ++ rest in
    let is : little_number 4 bytes ≡ n = number-header header n number rest (omega arith) in
    let same : number_in bytes ≡ number = ap (λ (k : ℕ). k % fragment_mark) is ∙ omega arith in
    let fragment : is_fragment bytes ≡ true = ap (leb fragment_mark) is ∙ le-leb fragment_mark n (omega arith) in
    let long : length bytes ≡ short_of form + (4 + length piece) = long-header header n number rest ∙ ap (λ (k : ℕ). short_of form + k) (omega arith) in
    record {
      headed = record {
        long = omega (arith, long, at_least_four form);
        connected = connected-header header n number rest (omega arith);
        head = rw fragment (omega (arith, long));
        checked = right-header header n number rest same;
        number-is = same;
      };
      is-fragment = fragment;
      start-is = ap (little_number 2) (drop-header header n number rest) ∙ little_number-reads_back 2 start (little_bytes 2 (length piece) ++ piece) low;
      count-is = ap (little_number 2) (two-parts form.side form.check header.qport n number start piece) ∙ little_number-reads_back 2 (length piece) piece short;
      after = ap (λ (b : Bool). drop (length_of form b) bytes) fragment ∙ four-parts form.side form.check header.qport n number start piece;
    }

pub fragment_is : (header : Header) (number start : ℕ) (piece : List ℕ) → number < sequence_end → start < 65536 → length piece < 65536
    → IsFragment header.form (fragment header number start piece) number start piece
fragment_is header number start piece fits low short =
    let P : List ℕ → Type 0 = λ bytes. IsFragment header.form bytes number start piece in
    subst P (sym (fragment-parts header number start piece)) (parts_are header number start piece fits low short)
