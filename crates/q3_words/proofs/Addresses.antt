-- Addresses against their grammar.
use Rattle.std.proofs.Common.{◌≡◌, ℕ, ◌^◌, ◌<◌, ◌≤◌, true, false, eqb, List, ◌∷◌, ◌++◌, Option, Some, None, refl, sym, ap, subst, ◌∙◌, arith, append_assoc}
use Rattle.std.specs.Prelude.{not, codes}
use Rattle.std.specs.Fmt.{decimal}
use Rattle.std.proofs.lemmas.Option.{same_Some}
use Rattle.std.proofs.lemmas.List.Folds.{list_all-append}
use Rattle.q3_io.specs.declared.address.Address.{Address}
use Rattle.q3_bits.specs.OptionBind.{◌>>=◌}
use Rattle.q3_text.specs.Cuts.{cut_at}
use Rattle.q3_text.specs.Decimals.{number_at}
use Rattle.q3_text.specs.Cuts.{lacks}
use Rattle.q3_words.specs.Addresses.{host_of, address_at, SpellsAddress}
use Rattle.q3_text.specs.Laws.{TextLaws}
use Rattle.q3_words.specs.Laws.{WasAddress}

-- the value of a step that found something
pub bind_some : {A B : Type 0} (o : Option A) (f : A → Option B) (y : B) → (o >>= f) ≡ Some y → (x : A) × (o ≡ Some x) × (f x ≡ Some y)
bind_some (Some x) f y e = (x, refl, e)
bind_some None f y e = absurd cc

-- what was found, with its type
abbrev some : {A : Type 0} → A → Option A
some x = Some x

-- the steps of reading an address, from the last on
abbrev address_of : ℕ → ℕ → ℕ → ℕ → ℕ → Address
address_of a b c d port = record { host = host_of a b c d; port = port }

abbrev in_port : ℕ → ℕ → ℕ → ℕ → List ℕ → Option Address
in_port a b c d port = number_at 1 65535 port >>= λ port. Some (address_of a b c d port)

abbrev in_d : ℕ → ℕ → ℕ → List ℕ → List ℕ → Option Address
in_d a b c d port = number_at 0 255 d >>= λ d. in_port a b c d port

abbrev in_c : ℕ → ℕ → List ℕ → List ℕ → List ℕ → Option Address
in_c a b c d port = number_at 0 255 c >>= λ c. in_d a b c d port

abbrev in_b : ℕ → List ℕ → List ℕ → List ℕ → List ℕ → Option Address
in_b a b c d port = number_at 0 255 b >>= λ b. in_c a b c d port

abbrev in_a : List ℕ → List ℕ → List ℕ → List ℕ → List ℕ → Option Address
in_a a b c d port = number_at 0 255 a >>= λ a. in_b a b c d port

abbrev in_third : List ℕ → List ℕ → List ℕ → List ℕ → Option Address
in_third a b rest port = cut_at 46 rest >>= λ third. in_a a b third.0 third.1 port

abbrev in_second : List ℕ → List ℕ → List ℕ → Option Address
in_second a rest port = cut_at 46 rest >>= λ second. in_third a second.0 second.1 port

abbrev in_first : List ℕ → List ℕ → Option Address
in_first host port = cut_at 46 host >>= λ first. in_second first.0 first.1 port

-- the text of an address, grouped as it is cut
regroup : (a b c d port : List ℕ) → a ++ codes "." ++ b ++ codes "." ++ c ++ codes "." ++ d ++ codes ":" ++ port ≡ (a ++ 46 ∷ (b ++ 46 ∷ (c ++ 46 ∷ d))) ++ 58 ∷ port
regroup a b c d port = simp append_assoc

-- the parts of an address, put together again
joined : (word : List ℕ) (ends first second third : List ℕ × List ℕ) (a b c d port : List ℕ) → word ≡ ends.0 ++ 58 ∷ ends.1 → ends.0 ≡ first.0 ++ 46 ∷ first.1 → first.1 ≡ second.0 ++ 46 ∷ second.1 → second.1 ≡ third.0 ++ 46 ∷ third.1
    → first.0 ≡ a → second.0 ≡ b → third.0 ≡ c → third.1 ≡ d → ends.1 ≡ port → word ≡ a ++ codes "." ++ b ++ codes "." ++ c ++ codes "." ++ d ++ codes ":" ++ port
joined word ends first second third a b c d port at_colon at_first at_second at_third a_is b_is c_is d_is port_is = rw (at_colon, at_first, at_second, at_third, a_is, b_is, c_is, d_is, port_is) (sym (regroup a b c d port))

-- a text whose two parts lack a byte lacks it
lacks-append : (byte x : ℕ) (front rest : List ℕ) → lacks byte front ≡ true → eqb x byte ≡ false → lacks byte rest ≡ true → lacks byte (front ++ x ∷ rest) ≡ true
lacks-append byte x front rest first other second = list_all-append (λ y. not (eqb y byte)) front (x ∷ rest) ∙ rw (first, other, second) refl

-- the parts that an address is cut into, and their numbers
record Parts (word : List ℕ) (address : Address) : Type 0 where
  ends : List ℕ × List ℕ
  first : List ℕ × List ℕ
  second : List ℕ × List ℕ
  third : List ℕ × List ℕ
  a : ℕ
  b : ℕ
  c : ℕ
  d : ℕ
  port : ℕ
  at_colon : cut_at 58 word ≡ Some ends
  at_first : cut_at 46 ends.0 ≡ Some first
  at_second : cut_at 46 first.1 ≡ Some second
  at_third : cut_at 46 second.1 ≡ Some third
  a_read : number_at 0 255 first.0 ≡ Some a
  b_read : number_at 0 255 second.0 ≡ Some b
  c_read : number_at 0 255 third.0 ≡ Some c
  d_read : number_at 0 255 third.1 ≡ Some d
  port_read : number_at 1 65535 ends.1 ≡ Some port
  whole : some (address_of a b c d port) ≡ some address

-- an address that is read has such parts
parts_of : (word : List ℕ) (address : Address) → address_at word ≡ Some address → Parts word address
unfolding address_at
parts_of word address e =
    let ends = bind_some (cut_at 58 word) (λ ends. in_first ends.0 ends.1) address e in
    let first = bind_some (cut_at 46 ends.0.0) (λ first. in_second first.0 first.1 ends.0.1) address ends.2 in
    let second = bind_some (cut_at 46 first.0.1) (λ second. in_third first.0.0 second.0 second.1 ends.0.1) address first.2 in
    let third = bind_some (cut_at 46 second.0.1) (λ third. in_a first.0.0 second.0.0 third.0 third.1 ends.0.1) address second.2 in
    let a = bind_some (number_at 0 255 first.0.0) (λ a. in_b a second.0.0 third.0.0 third.0.1 ends.0.1) address third.2 in
    let b = bind_some (number_at 0 255 second.0.0) (λ b. in_c a.0 b third.0.0 third.0.1 ends.0.1) address a.2 in
    let c = bind_some (number_at 0 255 third.0.0) (λ c. in_d a.0 b.0 c third.0.1 ends.0.1) address b.2 in
    let d = bind_some (number_at 0 255 third.0.1) (λ d. in_port a.0 b.0 c.0 d ends.0.1) address c.2 in
    let port = bind_some (number_at 1 65535 ends.0.1) (λ port. Some (address_of a.0 b.0 c.0 d.0 port)) address d.2 in
    record {
      ends = ends.0;
      first = first.0;
      second = second.0;
      third = third.0;
      a = a.0;
      b = b.0;
      c = c.0;
      d = d.0;
      port = port.0;
      at_colon = ends.1;
      at_first = first.1;
      at_second = second.1;
      at_third = third.1;
      a_read = a.1;
      b_read = b.1;
      c_read = c.1;
      d_read = d.1;
      port_read = port.1;
      whole = port.2;
    }

-- those parts spell it
spelled_from : (laws : TextLaws) (word : List ℕ) (address : Address) (p : Parts word address) → WasAddress word (address_of p.a p.b p.c p.d p.port)
spelled_from laws word address p =
    let a_is = laws.numbers.spelled 0 255 p.first.0 p.a (omega arith) p.a_read in
    let b_is = laws.numbers.spelled 0 255 p.second.0 p.b (omega arith) p.b_read in
    let c_is = laws.numbers.spelled 0 255 p.third.0 p.c (omega arith) p.c_read in
    let d_is = laws.numbers.spelled 0 255 p.third.1 p.d (omega arith) p.d_read in
    let port_is = laws.numbers.spelled 1 65535 p.ends.1 p.port (omega arith) p.port_read in
    record {
      spelled = record {
        a = p.a;
        b = p.b;
        c = p.c;
        d = p.d;
        bytes = (omega arith, omega arith, omega arith, omega arith);
        host = refl;
        whole = joined word p.ends p.first p.second p.third (decimal p.a) (decimal p.b) (decimal p.c) (decimal p.d) (decimal p.port)
            (laws.cuts.parts 58 word p.ends p.at_colon) (laws.cuts.parts 46 p.ends.0 p.first p.at_first) (laws.cuts.parts 46 p.first.1 p.second p.at_second) (laws.cuts.parts 46 p.second.1 p.third p.at_third)
            a_is.2 b_is.2 c_is.2 d_is.2 port_is.2;
      };
      least = omega arith;
      most = omega arith;
    }

-- what is read as an address was spelled so
pub address_at-spelled : (laws : TextLaws) (word : List ℕ) (address : Address) → address_at word ≡ Some address → WasAddress word address
address_at-spelled laws word address e =
    let p = parts_of word address e in
    subst (λ (x : Address). WasAddress word x) (same_Some (address_of p.a p.b p.c p.d p.port) address p.whole) (spelled_from laws word address p)

-- and what is spelled so is read
pub address_at-again : (laws : TextLaws) (word : List ℕ) (address : Address) → SpellsAddress word address → 1 ≤ address.port → address.port < 2 ^ 16 → address_at word ≡ Some address
unfolding address_at
address_at-again laws word address spelled least most =
    let a = decimal spelled.a in
    let b = decimal spelled.b in
    let c = decimal spelled.c in
    let d = decimal spelled.d in
    let port = decimal address.port in
    let bytes = spelled.bytes in
    let no_colon_d : lacks 58 d ≡ true = laws.numbers.others 58 spelled.d refl (omega arith) in
    let no_colon_c : lacks 58 (c ++ 46 ∷ d) ≡ true = lacks-append 58 46 c d (laws.numbers.others 58 spelled.c refl (omega arith)) refl no_colon_d in
    let no_colon_b : lacks 58 (b ++ 46 ∷ (c ++ 46 ∷ d)) ≡ true = lacks-append 58 46 b (c ++ 46 ∷ d) (laws.numbers.others 58 spelled.b refl (omega arith)) refl no_colon_c in
    let no_colon : lacks 58 (a ++ 46 ∷ (b ++ 46 ∷ (c ++ 46 ∷ d))) ≡ true = lacks-append 58 46 a (b ++ 46 ∷ (c ++ 46 ∷ d)) (laws.numbers.others 58 spelled.a refl (omega arith)) refl no_colon_b in
    let is : address ≡ address_of spelled.a spelled.b spelled.c spelled.d address.port = ap (λ (host : ℕ). record { host = host; port = address.port }) spelled.host in
    let ends = laws.cuts.again 58 (a ++ 46 ∷ (b ++ 46 ∷ (c ++ 46 ∷ d))) port no_colon in
    let first = laws.cuts.again 46 a (b ++ 46 ∷ (c ++ 46 ∷ d)) (laws.numbers.others 46 spelled.a refl (omega arith)) in
    let second = laws.cuts.again 46 b (c ++ 46 ∷ d) (laws.numbers.others 46 spelled.b refl (omega arith)) in
    let third = laws.cuts.again 46 c d (laws.numbers.others 46 spelled.c refl (omega arith)) in
    let a_is = laws.numbers.read 0 255 spelled.a (omega arith) (omega arith) (omega arith) in
    let b_is = laws.numbers.read 0 255 spelled.b (omega arith) (omega arith) (omega arith) in
    let c_is = laws.numbers.read 0 255 spelled.c (omega arith) (omega arith) (omega arith) in
    let d_is = laws.numbers.read 0 255 spelled.d (omega arith) (omega arith) (omega arith) in
    let port_is = laws.numbers.read 1 65535 address.port (omega arith) (omega arith) (omega arith) in
    ap address_at (spelled.whole ∙ regroup a b c d port) ∙ rw (ends, first, second, third, a_is, b_is, c_is, d_is, port_is) (ap (λ (x : Address). Some x) (sym is))
