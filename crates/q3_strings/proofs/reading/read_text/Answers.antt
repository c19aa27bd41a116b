use Rattle.std.proofs.Common.{◌≡◌, ◌+◌, ◌-◌, ◌<◌, ◌∙◌, ℕ, suc, Bool, List, [], ◌∷◌, ◌++◌, length, Ok, Err, ap, eq-eqb, arith}
use Rattle.std.proofs.lemmas.Result.{err_from_is_err_and}
use Rattle.std.proofs.lemmas.List.{append-nil, length-append, length-set, take_more_set}
use Rattle.q3_bits.specs.Words.{field_at}
use Rattle.q3_bits.specs.Streams.{Reading, Reads}
use Rattle.q3_bits.specs.declared.reader.ReadError.{ReadError}
use Rattle.q3_text.specs.Texts.{most_bytes, translated}
use Rattle.q3_strings.specs.declared.error.StringError.{StringError}
use Rattle.q3_strings.specs.declared.error.StringError.TheVariants.{Bits, Long}
use Rattle.q3_strings.specs.Reading.{bounded_string_at}
use Rattle.q3_strings.proofs.Fronts.{HasFront, Read, isnt_zero, front_more, front_stops, front_ends, string_end, string_more, string_fault, string_long}
use Rattle.q3_strings.proofs.reading.read_text.Goals as goal

-- the bits of the next byte don't read
refused : (start own : Reading) (text : List ℕ) (most : ℕ) (whole : Read StringError) (e : ReadError) → HasFront start own text (bounded_string_at start.words most own.left) whole
    → Err e ≡ field_at own.words 8 own.left → Err (Bits e) ≡ whole
refused start own text most whole e h read = front_stops _ _ _ _ _ _ h (string_fault start.words own.words most own.left e h.words read)

-- it is the 0 at the end
ended : (start own next : Reading) (text : List ℕ) (most byte : ℕ) (whole : Read StringError) → HasFront start own text (bounded_string_at start.words most own.left) whole
    → Reads own next (field_at own.words 8 own.left) (Ok byte) → byte ≡ 0 → Reads start next whole (Ok text)
ended start own next text most byte whole h read zero = record {
  value = rw append-nil at (front_ends _ _ _ _ _ _ h (string_end start.words own.words most own.left byte next.left h.words read.value (eq-eqb byte 0 zero)));
  words = read.words ∙ h.words;
  place = read.place ∙ h.place;
}

-- it is one more of the text
more : (start own next : Reading) (text : List ℕ) (most fewer byte : ℕ) (whole : Read StringError) → HasFront start own text (bounded_string_at start.words most own.left) whole
    → Reads own next (field_at own.words 8 own.left) (Ok byte) → 0 < byte → most ≡ suc fewer
    → HasFront start next (text ++ translated byte ∷ []) (bounded_string_at start.words fewer next.left) whole
more start own next text most fewer byte whole h read some one = front_more _ _ _ _ _ _ _ _ h read.words read.place
    (ap (λ (n : ℕ). bounded_string_at start.words n own.left) one ∙ string_more start.words own.words fewer own.left byte next.left h.words read.value (isnt_zero byte some))

-- it is one too many
long : (start own : Reading) (text : List ℕ) (most byte : ℕ) (rest : List Bool) (whole : Read StringError) → HasFront start own text (bounded_string_at start.words most own.left) whole
    → Ok (byte, rest) ≡ field_at own.words 8 own.left → 0 < byte → most ≡ 0 → Err Long ≡ whole
long start own text most byte rest whole h read some none = front_stops _ _ _ _ _ _ h
    (ap (λ (n : ℕ). bounded_string_at start.words n own.left) none ∙ string_long start.words own.words own.left byte rest h.words read (isnt_zero byte some))

pub returns-in_err-byte : goal.returns-in_err-byte
returns-in_err-byte c =
    let p = err_from_is_err_and c.from_residual.result c.from_residual.ensures.1 in
    let same = c.loop-place.invariant.same in
    rw (p.1, p.2) (record {
      value = refused _ _ _ _ _ _ c.loop-place.invariant.reads c.in_err-byte.ensures.reads.value;
      words = ap (λ (reader : Reading). reader.words) same;
      place = ap (λ (reader : Reading). reader.place + length reader.left) same;
    })

pub returns-then-byte-eq0 : goal.returns-then-byte-eq0
returns-then-byte-eq0 c = rw c.truncate.ensures (ended _ _ _ _ _ _ _ c.loop-place.invariant.reads c.in_ok-byte.ensures.reads c.if-byte-eq0.true)

pub loop-place-preserved : goal.loop-place-preserved
loop-place-preserved c =
    let h = c.loop-place.invariant in
    let place = c.loop-place.place in
    let byte = translated c.in_ok-byte.byte in
    record {
      same = h.same;
      count = ap length c.set.ensures ∙ length-set c.loop-place.into place byte ∙ h.count;
      reads = rw (c.set.ensures, take_more_set c.loop-place.into place byte (omega (arith, h.count)))
          (more _ _ _ _ (most_bytes - place) (most_bytes - (place + 1)) c.in_ok-byte.byte _ h.reads c.in_ok-byte.ensures.reads (omega (arith, c.if-byte-eq0.false)) (omega (arith, c.len-place-end.ensures.few)));
    }

pub returns-in_err-byte-2 : goal.returns-in_err-byte-2
returns-in_err-byte-2 c =
    let p = err_from_is_err_and c.from_residual-in_err-byte-2.result c.from_residual-in_err-byte-2.ensures.1 in
    let same = c.loop.invariant.same in
    rw (p.1, p.2) (record {
      value = refused _ _ _ _ _ _ c.loop.invariant.reads c.in_err-byte-2.ensures.reads.value;
      words = ap (λ (reader : Reading). reader.words) same;
      place = ap (λ (reader : Reading). reader.place + length reader.left) same;
    })

pub returns-then-byte-eq0-2 : goal.returns-then-byte-eq0-2
returns-then-byte-eq0-2 c = ended _ _ _ _ _ _ _ c.loop.invariant.reads c.in_ok-byte-2.ensures.reads c.if-byte-eq0-2.true

pub loop-preserved : goal.loop-preserved
loop-preserved c =
    let h = c.loop.invariant in
    let count = c.loop.counter in
    let byte = translated c.in_ok-byte-2.byte in
    record {
      same = h.same;
      count = ap length c.push.ensures ∙ length-append c.loop.into (byte ∷ []) ∙ ap (λ (n : ℕ). n + 1) h.count;
      reads = rw c.push.ensures
          (more _ _ _ _ (most_bytes - count) (most_bytes - (count + 1)) c.in_ok-byte-2.byte _ h.reads c.in_ok-byte-2.ensures.reads (omega (arith, c.if-byte-eq0-2.false)) (omega arith));
    }

pub returns-in_err-get_byte : goal.returns-in_err-get_byte
returns-in_err-get_byte c =
    let p = err_from_is_err_and c.from_residual-in_err-get_byte.result c.from_residual-in_err-get_byte.ensures.1 in
    let same = c.loop.invariant.same in
    rw (p.1, p.2) (record {
      value = refused _ _ _ _ _ _ c.loop.invariant.reads c.in_err-get_byte.ensures.reads.value;
      words = ap (λ (reader : Reading). reader.words) same;
      place = ap (λ (reader : Reading). reader.place + length reader.left) same;
    })

pub returns-then-branch-ne0 : goal.returns-then-branch-ne0
returns-then-branch-ne0 c =
    let same = c.loop.invariant.same in
    record {
      value = long _ _ _ (most_bytes - c.loop.counter) _ _ _ c.loop.invariant.reads c.in_ok-get_byte.ensures.reads.value (omega (arith, c.if-branch-ne0.true)) (omega arith);
      words = ap (λ (reader : Reading). reader.words) same;
      place = ap (λ (reader : Reading). reader.place + length reader.left) same;
    }

pub returns : goal.returns
returns c = ended _ _ _ _ _ _ _ c.loop.invariant.reads c.in_ok-get_byte.ensures.reads (omega (arith, c.if-branch-ne0.false))
